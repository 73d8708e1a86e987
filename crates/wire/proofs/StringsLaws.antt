-- Runs of strings: what `walk` and `field_at` find where strings stand, and that a run that was walked is strings. Assumes nothing.
use Prim.Native.Nat.{ℕ, zero, suc, ◌+◌, ◌≤◌, ◌<◌}
use mathlib.Core.Path.{◌≡◌, refl, sym, ap, ◌∙◌}
use mathlib.Core.List.{List, [], ◌∷◌, ◌++◌, append_assoc}
use mathlib.Core.Bool.{Bool, true, false, cond}
use native.Mathlib.Omega.{arith}
use native.Mathlib.Nat.{add_assoc}
use lib.ListN.{length, get_or, take, drop, length-append, length-drop, take-append-drop}
use lib.Seq.{take-append_seam, drop-append_seam, drop-drop, get_or-drop, length-take-le, take-add}
use Rattle.limits.specs.Limits.{string_most}
use Rattle.buffers.specs.Bytes.{Bytes}
use Rattle.wire.specs.Parts.{part, bytes_at}
use Rattle.wire.specs.Strings.{bytes32, number32, string, strings, whole, field_at, walk, string_part}
use Rattle.wire.specs.Strings.{Field}
use Rattle.wire.specs.Strings.{Walk}
use Rattle.wire.proofs.StringLaws.{length_string, whole_within, field_within}
use Rattle.wire.proofs.WalkLaws.{field_whole}
use Rattle.wire.proofs.RoundTrip.{number32_string, whole_string, bytes32_number32}

pub length_strings : (b : List ℕ) (bs : List (List ℕ)) → length (strings (b ∷ bs)) ≡ 4 + length b + length (strings bs)
length_strings b bs = length-append (string b) (strings bs) ∙ ap (λ (n : ℕ). n + length (strings bs)) (length_string b)

pub strings_append : (a b : List (List ℕ)) → strings (a ++ b) ≡ strings a ++ strings b
strings_append [] b = refl
strings_append (l ∷ a) b = ap (λ (x : List ℕ). string l ++ x) (strings_append a b) ∙ sym (append_assoc (string l) (strings a) (strings b))

-- a string's place lies within the list, wherever it is sought
pub part_within : (s : List ℕ) (at i : ℕ) → (string_part s at i).start + (string_part s at i).len ≤ length s
unfolding string_part
part_within s at i = field_within s (walk s at i).place

-- ---- where strings stand

module _ (s : List ℕ) where
  -- a string stands at `at`
  module _ (at : ℕ) (b t : List ℕ) (h : length b ≤ string_most) (e : drop at s ≡ string b ++ t) where
    whole_there : whole (drop at s) ≡ true
    whole_there = ap whole e ∙ whole_string b t h

    number_there : number32 (drop at s) ≡ length b
    number_there = ap number32 e ∙ number32_string b t h

    drop_there : drop (at + length (string b)) s ≡ t
    drop_there = sym (drop-drop (length (string b)) at s) ∙ ap (drop (length (string b))) e ∙ drop-append_seam (string b) t

    walk_there : (k : ℕ) → walk s at (suc k) ≡ walk s (at + length (string b)) k
    walk_there k =
        let n : at + 4 + number32 (drop at s) ≡ at + length (string b) = omega (arith, number_there, length_string b) in
        ap (λ (w : Bool). cond w (walk s (at + 4 + number32 (drop at s)) k) (record { number = 12; place = at })) whole_there
        ∙ ap (λ (m : ℕ). walk s m k) n

    field_there : field_at s at ≡ record { number = 0; start = at + 4; len = length b }
    unfolding field_at
    field_there =
        ap (λ (w : Bool). cond w (record { number = 0; start = at + 4; len = number32 (drop at s) }) (record { number = 12; start = 0; len = 0 })) whole_there
        ∙ ap (λ (m : ℕ). record { number = 0; start = at + 4; len = m }) number_there

    body_there : bytes_at s (part (field_at s at).start (field_at s at).len) ≡ b
    unfolding string
    body_there =
        ap (λ (f : Field). bytes_at s (part f.start f.len)) field_there
        ∙ ap (take (length b)) (sym (drop-drop 4 at s) ∙ ap (drop 4) e)
        ∙ take-append_seam b t

  -- a walk over a run of strings ends behind them
  pub walk_strings : (at : ℕ) (bs : List (List ℕ)) (t : List ℕ) → length (strings bs) ≤ string_most → drop at s ≡ strings bs ++ t
      → walk s at (length bs) ≡ record { number = 0; place = at + length (strings bs) }
  walk_strings at [] t h e = let n : at ≡ at + 0 = omega arith in ap (λ (m : ℕ). record { number = 0; place = m }) n
  walk_strings at (b ∷ bs) t h e =
      let n = length_strings b bs in
      let f = e ∙ append_assoc (string b) (strings bs) t in
      let m : at + length (string b) + length (strings bs) ≡ at + length (strings (b ∷ bs)) = omega (arith, length_string b) in
      walk_there at b (strings bs ++ t) (omega arith) f (length bs)
      ∙ walk_strings (at + length (string b)) bs t (omega arith) (drop_there at b (strings bs ++ t) (omega arith) f)
      ∙ ap (λ (m : ℕ). record { number = 0; place = m }) m

  -- and each of them is found by its number
  pub body_strings : (at : ℕ) (bs : List (List ℕ)) (t : List ℕ) (k : ℕ) → length (strings bs) ≤ string_most → drop at s ≡ strings bs ++ t → k < length bs
      → bytes_at s (string_part s at k) ≡ get_or bs k []
  unfolding string_part
  body_strings at [] t k h e i = let w : ⊥ = omega arith in absurd w
  body_strings at (b ∷ bs) t zero h e i =
      let n = length_strings b bs in
      body_there at b (strings bs ++ t) (omega arith) (e ∙ append_assoc (string b) (strings bs) t)
  body_strings at (b ∷ bs) t (suc k) h e i =
      let n = length_strings b bs in
      let f = e ∙ append_assoc (string b) (strings bs) t in
      ap (λ (w : Walk). bytes_at s (part (field_at s w.place).start (field_at s w.place).len)) (walk_there at b (strings bs ++ t) (omega arith) f k)
      ∙ body_strings (at + length (string b)) bs t k (omega arith) (drop_there at b (strings bs ++ t) (omega arith) f) (omega arith)

-- ---- what was walked

-- the bodies of k strings from `at` on
abbrev pub bodies : List ℕ → ℕ → ℕ → List (List ℕ)
bodies s at zero = []
bodies s at (suc k) = take (number32 (drop at s)) (drop (at + 4) s) ∷ bodies s (at + 4 + number32 (drop at s)) k

pub length_bodies : (s : List ℕ) (at k : ℕ) → length (bodies s at k) ≡ k
length_bodies s at zero = refl
length_bodies s at (suc k) = ap suc (length_bodies s (at + 4 + number32 (drop at s)) k)

-- a whole string is the string of its body, and then the rest
string_front : (s : List ℕ) → Bytes s → whole s ≡ true → string (take (number32 s) (drop 4 s)) ++ drop (4 + number32 s) s ≡ s
unfolding string
string_front s y w =
    let k = whole_within s w in
    let n = number32 s in
    let l : length (take n (drop 4 s)) ≡ n = length-take-le n (drop 4 s) (omega (arith, length-drop 4 s)) in
    ap (λ (x : List ℕ). x ++ take n (drop 4 s) ++ drop (4 + n) s) (ap bytes32 l ∙ bytes32_number32 s (omega arith) y)
    ∙ ap (λ (x : List ℕ). x ++ drop (4 + n) s) (sym (take-add 4 n s))
    ∙ take-append-drop (4 + n) s

pub bytes_drop : (s : List ℕ) (at : ℕ) → Bytes s → Bytes (drop at s)
bytes_drop s at y i = omega (arith, get_or-drop at s i 0, y (at + i))

module _ (s : List ℕ) where
  walk_step : (at k : ℕ) → whole (drop at s) ≡ true → walk s at (suc k) ≡ walk s (at + 4 + number32 (drop at s)) k
  walk_step at k w = rw w

  -- the first string of a walk that ended well is whole, and the others end well
  passed : (at k : ℕ) → (walk s at (suc k)).number ≡ 0 → (whole (drop at s) ≡ true) × ((walk s (at + 4 + number32 (drop at s)) k).number ≡ 0)
  passed at k e = by_test (whole (drop at s)) e
    where
      next : Walk
      next = walk s (at + 4 + number32 (drop at s)) k

      by_test : (t : Bool) → (cond t next (record { number = 12; place = at })).number ≡ 0 → (t ≡ true) × (next.number ≡ 0)
      by_test true e = (refl, e)
      by_test false e = let v : ⊥ = omega arith in absurd v

  -- what was walked is the strings of the bodies
  pub strings_walked : (at k : ℕ) → Bytes s → (walk s at k).number ≡ 0 → strings (bodies s at k) ++ drop (walk s at k).place s ≡ drop at s
  strings_walked at zero y e = refl
  strings_walked at (suc k) y e =
      let n = number32 (drop at s) in
      let q = passed at k e in
      let b = take n (drop (at + 4) s) in
      let bs = bodies s (at + 4 + n) k in
      let f : b ≡ take n (drop 4 (drop at s)) = ap (take n) (sym (drop-drop 4 at s)) in
      let d : drop (at + 4 + n) s ≡ drop (4 + n) (drop at s) = ap (λ (m : ℕ). drop m s) (add_assoc at 4 n) ∙ sym (drop-drop (4 + n) at s) in
      ap (λ (v : Walk). string b ++ strings bs ++ drop v.place s) (walk_step at k q.0)
      ∙ append_assoc (string b) (strings bs) (drop (walk s (at + 4 + n) k).place s)
      ∙ ap (λ (x : List ℕ). string b ++ x) (strings_walked (at + 4 + n) k y q.1)
      ∙ (λ i. string (f i) ++ d i)
      ∙ string_front (drop at s) (bytes_drop s at y) q.0

  -- and each of the bodies is found by its number
  pub body_walked : (at k j : ℕ) → (walk s at k).number ≡ 0 → j < k → get_or (bodies s at k) j [] ≡ bytes_at s (string_part s at j)
  unfolding string_part
  body_walked at zero j e h = let v : ⊥ = omega arith in absurd v
  body_walked at (suc k) zero e h =
      sym (ap (λ (f : Field). bytes_at s (part f.start f.len)) (field_whole s at (passed at k e).0))
  body_walked at (suc k) (suc j) e h =
      let q = passed at k e in
      body_walked (at + 4 + number32 (drop at s)) k j q.1 (omega arith)
      ∙ sym (ap (λ (w : Walk). bytes_at s (part (field_at s w.place).start (field_at s w.place).len)) (walk_step at j q.0))
