-- Laws of padding, over the width: the message's end as the code lays it, in one block or in two. Assumes nothing.
use Prim.Native.Nat.{ℕ, zero, suc, ◌+◌, ◌-◌, ◌*◌, ◌/◌, ◌%◌, ◌≤◌, ◌<◌, ◌^◌}
use mathlib.Core.Path.{◌≡◌, refl, sym, ap, ◌∙◌}
use mathlib.Core.List.{List, [], ◌∷◌, ◌++◌, append_assoc}
use mathlib.Core.Bool.{Bool, true, false, cond}
use lib.Dec.{ltb, eqb}
use borrow.Author.Tests.{ltb-true, ltb-false}
use native.Mathlib.Omega.{arith}
use native.Mathlib.Numerals.{add-one}
use native.Mathlib.Nat.{mod-add-mod, mod-eq_of_lt, mod_self, add-mod-mod, mod-eq-sub-mod, mod-lt, mod-le, mul-mod_right, add-mul-mod_self_left, div-add-mod, add_assoc}
use lib.ListN.{length, take, length-append, length-replicate, replicate-append-replicate}
use Rattle.limits.specs.Limits.{hash_most, block_most, h_size}
use Rattle.buffers.specs.Bytes.{zeros, laid}
use Rattle.sha_words.specs.Words.{Width}
use Rattle.sha_words.specs.Constants.{bits32, bits64, width_of}
use Rattle.sha_words.specs.Message.{bytes_of, Pads, zero_bytes, padding, padded, sized}
use Rattle.sha_words.proofs.SizedLaws.{take_laid}

-- ---- what both widths have

pub record Sizes (p : Width) : Type 0 where
  pub positive : 0 < p.block
  pub most : p.block ≤ block_most
  pub room : 2 * p.bytes + 1 ≤ p.block
  pub three : 3 ≤ 2 * p.bytes
  pub words : p.block ≡ 16 * p.bytes
  pub bits : p.w ≡ 8 * p.bytes
  pub eight : p.bytes * 8 ≤ h_size
  pub power : 2 ^ p.w ≡ 256 ^ p.bytes

pub sizes32 : Sizes bits32
sizes32 = record { positive = omega arith; most = omega arith; room = omega arith; three = omega arith; words = refl; bits = refl; eight = omega arith; power = refl }

pub sizes64 : Sizes bits64
sizes64 = record { positive = omega arith; most = omega arith; room = omega arith; three = omega arith; words = refl; bits = refl; eight = omega arith; power = refl }

pub sizes_of_lem : (kind : ℕ) → Sizes (width_of kind)
sizes_of_lem kind = by_test (eqb kind 32)
  where
    by_test : (t : Bool) → Sizes (cond t bits32 bits64)
    by_test true = sizes32
    by_test false = sizes64

-- ---- bytes_of

pub length_bytes_of : (k v : ℕ) → length (bytes_of k v) ≡ k
length_bytes_of zero v = refl
length_bytes_of (suc k) v = length-append (bytes_of k (v / 256)) (v % 256 ∷ []) ∙ ap (λ (n : ℕ). n + 1) (length_bytes_of k (v / 256)) ∙ add-one k

bytes_of_zero : (k : ℕ) → bytes_of k 0 ≡ zeros k
bytes_of_zero zero = refl
bytes_of_zero (suc k) =
    ap (λ (l : List ℕ). l ++ (0 ∷ [])) (bytes_of_zero k) ∙ replicate-append-replicate k 1 0 ∙ ap zeros (add-one k)

-- a number of three bytes
bytes_of_short : (k v : ℕ) → v < 16777216 → bytes_of (suc (suc (suc k))) v ≡ zeros k ++ bytes_of 3 v
bytes_of_short k v h =
    let z : v / 256 / 256 / 256 ≡ 0 = omega arith in
    rw (z, bytes_of_zero k, append_assoc, append_assoc)

-- ---- padding

fill_one : (b x : ℕ) → 0 < x → x ≤ b → (b - x % b) % b ≡ b - x
fill_one b x p h = by_test (ltb x b) refl
  where
    by_test : (t : Bool) → ltb x b ≡ t → (b - x % b) % b ≡ b - x
    by_test true e =
        let l : x < b = ltb-true x b e in
        ap (λ (n : ℕ). (b - n) % b) (mod-eq_of_lt l) ∙ mod-eq_of_lt (omega arith)
    by_test false e =
        let l : b ≤ x = ltb-false x b e in
        let q : x ≡ b = omega arith in
        let z : b - 0 ≡ b = omega arith in
        let y : 0 ≡ b - b = omega arith in
        rw (q, mod_self b, z, mod_self b) y

fill_two : (b x : ℕ) → b < x → x < b + b → (b - x % b) % b ≡ b + b - x
fill_two b x h l =
    let m : x % b ≡ x - b = mod-eq-sub-mod {n = x} {m = b} (omega arith) ∙ mod-eq_of_lt (omega arith) in
    let e : b - (x - b) ≡ b + b - x = omega arith in
    ap (λ (n : ℕ). (b - n) % b) m ∙ ap (λ (n : ℕ). n % b) e ∙ mod-eq_of_lt (omega arith)

fill_whole : (b x : ℕ) → 0 < b → (x + (b - x % b) % b) % b ≡ 0
fill_whole b x p =
    let e : x % b + (b - x % b) ≡ b = omega (arith, mod-lt x p) in
    add-mod-mod x (b - x % b) b ∙ sym (mod-add-mod x b (b - x % b)) ∙ ap (λ (n : ℕ). n % b) e ∙ mod_self b

fill_least : (b x k : ℕ) → (x + k) % b ≡ 0 → (b - x % b) % b ≤ k
fill_least b x k h = by_test (ltb (x % b + k) b) refl
  where
    by_test : (t : Bool) → ltb (x % b + k) b ≡ t → (b - x % b) % b ≤ k
    by_test true e =
        let s : (x % b + k) % b ≡ x % b + k = mod-eq_of_lt (ltb-true (x % b + k) b e) in
        let z : x % b ≡ 0 = omega (arith, mod-add-mod x b k) in
        let y : b - 0 ≡ b = omega arith in
        rw (z, y, mod_self b) (omega arith)
    by_test false e = omega (arith, ltb-false (x % b + k) b e, mod-le (b - x % b) b)

-- 5.1: the zeros pad the message; the byte that begins with the bit 1 has seven of them
pub zero_bytes_pad : (p : Width) (n : ℕ) → Sizes p → Pads p (8 * n) (7 + 8 * zero_bytes p n)
unfolding zero_bytes
zero_bytes_pad p n sizes =
    let b : ℕ = p.block in
    let x : ℕ = n + 1 + 2 * p.bytes in
    let z : ℕ = zero_bytes p n in
    by_blocks ((x + z) / b) (omega (arith, div-add-mod (x + z) b, fill_whole b x sizes.positive))
  where
    by_blocks : (q : ℕ) → p.block * q ≡ n + 1 + 2 * p.bytes + zero_bytes p n → Pads p (8 * n) (7 + 8 * zero_bytes p n)
    by_blocks zero e = absurd (omega arith)
    by_blocks (suc q) e =
        let m : ℕ = 8 * p.block in
        let r : ℕ = m - 2 * p.w in
        let l : 8 * n + 1 + (7 + 8 * zero_bytes p n) ≡ r + m * q = omega (arith, sizes.bits, sizes.words) in
        ap (λ (k : ℕ). k % m) l ∙ add-mul-mod_self_left r m q ∙ mod-eq_of_lt (omega (arith, sizes.bits, sizes.positive))

-- and no fewer do
pub zero_bytes_least : (p : Width) (n k : ℕ) → Sizes p → Pads p (8 * n) k → 7 + 8 * zero_bytes p n ≤ k
unfolding zero_bytes
zero_bytes_least p n k sizes h =
    let b : ℕ = p.block in
    let x : ℕ = n + 1 + 2 * p.bytes in
    let m : ℕ = 8 * b in
    let q : ℕ = (8 * n + 1 + k) / m in
    let e : m * q + (8 * b - 2 * p.w) ≡ 8 * n + 1 + k = ap (λ (r : ℕ). m * q + r) (sym h) ∙ div-add-mod (8 * n + 1 + k) m in
    let s : k ≡ 7 + 8 * (k / 8) = omega (arith, sizes.bits, sizes.words) in
    let t : x + k / 8 ≡ b * (q + 1) = omega (arith, sizes.bits, sizes.words) in
    omega (arith, fill_least b x (k / 8) (ap (λ (r : ℕ). r % b) t ∙ mul-mod_right b (q + 1)))

-- 5.2: a padded message is whole blocks
pub padded_whole : (p : Width) (m : List ℕ) → 0 < p.block → length (padded p m) % p.block ≡ 0
unfolding padding zero_bytes
padded_whole p m h =
    let x : ℕ = length m + 1 + 2 * p.bytes in
    let z : ℕ = (p.block - x % p.block) % p.block in
    let e : length (padded p m) ≡ x + z =
    length-append m (padding p (length m)) ∙ omega (
      arith,
      length-append ((128 ∷ []) ++ zeros z) (bytes_of (2 * p.bytes) (8 * length m)),
      length-replicate {A = ℕ} z 0,
      length_bytes_of (2 * p.bytes) (8 * length m),
    ) in
    ap (λ (n : ℕ). n % p.block) e ∙ fill_whole p.block x h

-- what waits and the bit 1
abbrev pub begun : List ℕ → List ℕ
begun before = before ++ (128 ∷ [])

pub length_begun : (before : List ℕ) → length (begun before) ≡ length before + 1
length_begun before = length-append before (128 ∷ [])

-- the end of a message of `total` bytes, of which `before` stand behind the last whole block
module _ (p : Width) (before : List ℕ) (total : ℕ) (sizes : Sizes p) (waits : length before ≡ total % p.block) (most : total ≤ hash_most) where
  abbrev filler : ℕ
  filler = length before + 1 + 2 * p.bytes

  less : length before < p.block
  less = omega (arith, waits, mod-lt total sizes.positive)

  reduced : (total + 1 + 2 * p.bytes) % p.block ≡ filler % p.block
  reduced =
      ap (λ (n : ℕ). n % p.block) (add_assoc total 1 (2 * p.bytes)) ∙ sym (mod-add-mod total p.block (1 + 2 * p.bytes))
      ∙ ap (λ (n : ℕ). (n + (1 + 2 * p.bytes)) % p.block) (sym waits)
      ∙ ap (λ (n : ℕ). n % p.block) (sym (add_assoc (length before) 1 (2 * p.bytes)))

  zeros_one : filler ≤ p.block → zero_bytes p total ≡ p.block - filler
  unfolding zero_bytes
  zeros_one h = rw reduced (fill_one p.block filler (omega arith) h)

  zeros_two : p.block < filler → zero_bytes p total ≡ p.block + p.block - filler
  unfolding zero_bytes
  zeros_two h = rw reduced (fill_two p.block filler h (omega (arith, less, sizes.room)))

  -- the message's end with the zeros of the count among the others
  ends : (n : ℕ) → zero_bytes p total + (2 * p.bytes - 3) ≡ n → before ++ padding p total ≡ begun before ++ zeros n ++ bytes_of 3 (8 * total)
  unfolding padding
  ends n e =
      let k : ℕ = 2 * p.bytes - 3 in
      let z : ℕ = zero_bytes p total in
      let c : List ℕ = bytes_of 3 (8 * total) in
      let s : suc (suc (suc k)) ≡ 2 * p.bytes = omega (arith, sizes.three) in
      let v : bytes_of (2 * p.bytes) (8 * total) ≡ zeros k ++ c =
      ap (λ (m : ℕ). bytes_of m (8 * total)) (sym s) ∙ bytes_of_short k (8 * total) (omega (arith, most)) in
      ap (λ (l : List ℕ). before ++ ((128 ∷ []) ++ zeros z ++ l)) v
      ∙ ap (λ (l : List ℕ). before ++ l) (sym (append_assoc ((128 ∷ []) ++ zeros z) (zeros k) c))
      ∙ ap (λ (l : List ℕ). before ++ (l ++ c)) (append_assoc (128 ∷ []) (zeros z) (zeros k) ∙ ap (λ (l : List ℕ). (128 ∷ []) ++ l) (replicate-append-replicate z k 0 ∙ ap zeros e))
      ∙ sym (append_assoc before ((128 ∷ []) ++ zeros n) c)
      ∙ ap (λ (l : List ℕ). l ++ c) (sym (append_assoc before (128 ∷ []) (zeros n)))

  -- in one block
  pub ends_one : filler ≤ p.block → before ++ padding p total ≡ sized (p.block - 3) (begun before) ++ bytes_of 3 (8 * total)
  unfolding sized
  ends_one h = ends (p.block - 3 - length (begun before)) (omega (arith, zeros_one h, length_begun before, sizes.three))

  -- in two
  pub ends_two : p.block < filler → before ++ padding p total ≡ sized p.block (begun before) ++ (sized (p.block - 3) [] ++ bytes_of 3 (8 * total))
  unfolding sized
  ends_two h =
      let b : ℕ = p.block in
      let n : ℕ = b - length (begun before) in
      let c : List ℕ = bytes_of 3 (8 * total) in
      let d : b - 3 - 0 ≡ b - 3 = omega arith in
      ends (n + (b - 3)) (omega (arith, zeros_two h, length_begun before, sizes.three, sizes.room, less))
      ∙ ap (λ (l : List ℕ). begun before ++ l ++ c) (sym (replicate-append-replicate n (b - 3) 0))
      ∙ ap (λ (l : List ℕ). l ++ c) (sym (append_assoc (begun before) (zeros n) (zeros (b - 3))))
      ∙ append_assoc (begun before ++ zeros n) (zeros (b - 3)) c
      ∙ ap (λ (m : ℕ). begun before ++ zeros n ++ (zeros m ++ c)) (sym d)

  -- the block that the code lays the count in
  pub counted : (l : List ℕ) → length l ≤ p.block - 3
      → take p.block (laid (sized block_most l) (p.block - 3) (bytes_of 3 (8 * total))) ≡ sized (p.block - 3) l ++ bytes_of 3 (8 * total)
  counted l h =
      let c : List ℕ = bytes_of 3 (8 * total) in
      let e : p.block - 3 + length c ≡ p.block = omega (arith, length_bytes_of 3 (8 * total), sizes.three, sizes.room) in
      ap (λ (n : ℕ). take n (laid (sized block_most l) (p.block - 3) c)) (sym e)
      ∙ take_laid block_most (p.block - 3) l c h (omega (arith, sizes.most))
