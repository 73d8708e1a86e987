-- Demand 2 for the string: what is written is read back, and what was read is written again as the same bytes.
-- Assumes nothing.
use Prim.Native.Nat.{ℕ, ◌+◌, ◌-◌, ◌*◌, ◌/◌, ◌%◌, ◌≤◌, ◌<◌}
use mathlib.Core.Path.{◌≡◌, refl, sym, ap, ◌∙◌}
use mathlib.Core.List.{List, [], ◌∷◌, ◌++◌}
use mathlib.Core.Bool.{true}
use native.Mathlib.Omega.{arith}
use lib.ListN.{length, take, drop, length-append, length-drop, take-append-drop}
use lib.Seq.{take_all, take-append_seam, drop-append_seam, length-take-le, take-add}
use Rattle.limits.specs.Limits.{string_most}
use Rattle.buffers.specs.Bytes.{Bytes}
use Rattle.wire.specs.Parts.{part, bytes_at}
use Rattle.wire.specs.Strings.{number32, bytes32, string, whole, read_string}
use Rattle.wire.specs.Strings.{StringRead}
use Rattle.buffers.proofs.ByteLaws.{tail_part}
use Rattle.wire.proofs.StringLaws.{length_string, whole_within, whole_is, read_found, read_zero}

-- the four bytes give the number back
pub number32_bytes32 : (n : ℕ) (t : List ℕ) → n ≤ string_most → number32 (bytes32 n ++ t) ≡ n
number32_bytes32 n t h =
    let q : n / 16777216 < 256 = omega arith in
    let p : n / 16777216 % 256 ≡ n / 16777216 = omega arith in
    let r : number32 (bytes32 n ++ t) ≡ n / 16777216 * 16777216 + n / 65536 % 256 * 65536 + n / 256 % 256 * 256 + n % 256 =
    ap (λ (k : ℕ). k * 16777216 + n / 65536 % 256 * 65536 + n / 256 % 256 * 256 + n % 256) p in
    r ∙ omega arith

-- ---- what is written is read back, with anything after it
module _ (b t : List ℕ) (h : length b ≤ string_most) where
  pub number32_string : number32 (string b ++ t) ≡ length b
  unfolding string
  number32_string = number32_bytes32 (length b) (b ++ t) (omega arith)

  pub whole_string : whole (string b ++ t) ≡ true
  whole_string =
      let n = number32_string in
      let l : length (string b ++ t) ≡ 4 + (length b + length t) = omega (arith, length-append (string b) t, length_string b) in
      whole_is (string b ++ t) (omega arith) (omega arith)

  -- the reader accepts it, with its body and what follows it as parts
  pub string_complete : read_string (string b ++ t) ≡ record { number = 0; body = part 4 (length b); rest = part (4 + length b) (length t) }
  string_complete =
      let n = number32_string in
      let l : length (string b ++ t) - (4 + length b) ≡ length t = omega (arith, length-append (string b) t, length_string b) in
      sym (read_found (string b ++ t) whole_string)
      ∙ (λ i. record { number = 0; body = part 4 (n i); rest = part (4 + n i) (length (string b ++ t) - (4 + n i)) })
      ∙ ap (λ (k : ℕ). record { number = 0; body = part 4 (length b); rest = part (4 + length b) k }) l

  pub body_string : bytes_at (string b ++ t) (read_string (string b ++ t)).body ≡ b
  unfolding string
  body_string = ap (λ (r : StringRead). bytes_at (string b ++ t) r.body) string_complete ∙ take-append_seam b t

  pub rest_string : bytes_at (string b ++ t) (read_string (string b ++ t)).rest ≡ t
  rest_string =
      ap (λ (r : StringRead). bytes_at (string b ++ t) r.rest) string_complete
      ∙ ap (λ (k : ℕ). take (length t) (drop k (string b ++ t))) (sym (length_string b))
      ∙ ap (take (length t)) (drop-append_seam (string b) t)
      ∙ take_all (length t) t (omega arith)

-- ---- what was read is written again

-- four bytes are the bytes of their number
four : (a b c d : ℕ) (t : List ℕ) → a < 256 → b < 256 → c < 256 → d < 256 → bytes32 (number32 (a ∷ b ∷ c ∷ d ∷ t)) ≡ a ∷ b ∷ c ∷ d ∷ []
four a b c d t ha hb hc hd =
    let n : ℕ = number32 (a ∷ b ∷ c ∷ d ∷ t) in
    let p : n / 16777216 % 256 ≡ a = omega arith in
    let q : n / 65536 % 256 ≡ b = omega arith in
    let r : n / 256 % 256 ≡ c = omega arith in
    let s : n % 256 ≡ d = omega arith in
    λ i. p i ∷ q i ∷ r i ∷ s i ∷ []

pub bytes32_number32 : (s : List ℕ) → 4 ≤ length s → Bytes s → bytes32 (number32 s) ≡ take 4 s
bytes32_number32 [] h y = let w : ⊥ = omega arith in absurd w
bytes32_number32 (a ∷ []) h y = let w : ⊥ = omega arith in absurd w
bytes32_number32 (a ∷ b ∷ []) h y = let w : ⊥ = omega arith in absurd w
bytes32_number32 (a ∷ b ∷ c ∷ []) h y = let w : ⊥ = omega arith in absurd w
bytes32_number32 (a ∷ b ∷ c ∷ d ∷ t) h y = four a b c d t (y 0) (y 1) (y 2) (y 3)

-- the body that is read, as a list
pub body_found : (s : List ℕ) → whole s ≡ true → bytes_at s (read_string s).body ≡ take (number32 s) (drop 4 s)
body_found s w = ap (λ (r : StringRead). bytes_at s r.body) (sym (read_found s w))

pub length_body : (s : List ℕ) → whole s ≡ true → length (bytes_at s (read_string s).body) ≡ number32 s
length_body s w =
    let k = whole_within s w in
    ap length (body_found s w) ∙ length-take-le (number32 s) (drop 4 s) (omega (arith, length-drop 4 s))

-- an input that the reader answers with 0 is the string of its body, and then its rest
pub string_sound : (s : List ℕ) → Bytes s → (read_string s).number ≡ 0
    → s ≡ string (bytes_at s (read_string s).body) ++ bytes_at s (read_string s).rest
unfolding string
string_sound s y z =
    let w = read_zero s (read_string s) refl z in
    let k = whole_within s w in
    let n = number32 s in
    let e = body_found s w in
    let f : bytes32 (length (bytes_at s (read_string s).body)) ≡ take 4 s = ap bytes32 (length_body s w) ∙ bytes32_number32 s (omega arith) y in
    let r : bytes_at s (read_string s).rest ≡ drop (4 + n) s = ap (λ (x : StringRead). bytes_at s x.rest) (sym (read_found s w)) ∙ tail_part s (4 + n) in
    sym
    ((λ i. f i ++ e i ++ r i)
    ∙ ap (λ (x : List ℕ). x ++ drop (4 + n) s) (sym (take-add 4 n s))
    ∙ take-append-drop (4 + n) s)
