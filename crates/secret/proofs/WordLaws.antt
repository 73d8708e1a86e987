-- Bytes looked at as one number, the first the lowest: the zero bits below its lowest set bit tell the zero bytes in front. Assumes nothing.
use Prim.Native.Nat.{ℕ, zero, suc, ◌+◌, ◌*◌, ◌/◌, ◌%◌, ◌^◌, ◌≤◌, ◌<◌}
use mathlib.Core.Path.{◌≡◌, refl, sym, ap, ◌∙◌}
use mathlib.Core.List.{List, [], ◌∷◌}
use mathlib.Core.Logic.{◌⊎◌, inl, inr}
use native.Mathlib.Omega.{arith}
use native.Mathlib.Nat.{add-zero, zero-add, mul-one, mul_assoc, pow-suc, eq-zero-or-pos, lt_irrefl}
use native.Mathlib.Numerals.{add-one}
use lib.ListN.{length, get_or, take, drop}
use lib.Seq.{get_or-take}
use Rattle.std.specs.Int.{w64, from_le_bytes}
use Rattle.std.specs.List.{position_or_len}
use Rattle.std.specs.Option.{unwrap_or}
use Rattle.std.specs.Prelude.{Option, Some, None}
use lib.Dec.{eqb, ltb, eqb-suc-zero}
use borrow.Author.Tests.{ltb-false}
use mathlib.Core.Bool.{Bool, true, false, cond, not}
use lib.Pow.{mod-pow-add}
use lib.Count.{count_trailing_zeros, under}
use Rattle.buffers.specs.Bytes.{Bytes}
use Rattle.secret.specs.Secret.{leading_zeros}
use Rattle.secret.proofs.SecretLaws.{zeros_more, zeros_stop, zeros_within}

-- ---- zero bits

-- twice a number has one more of them
doubled : (k m : ℕ) → count_trailing_zeros (suc k) (m * 2) ≡ suc (count_trailing_zeros k m)
unfolding count_trailing_zeros
doubled k m =
    let r : (m * 2) % 2 ≡ 0 = omega arith in
    let h : (m * 2) / 2 ≡ m = omega arith in
    (λ i. under (r i) (count_trailing_zeros k (h i)))

-- 2 ^ j times it has j more
shifted : (j k m : ℕ) → count_trailing_zeros (j + k) (m * 2 ^ j) ≡ j + count_trailing_zeros k m
shifted zero k m = (λ i. count_trailing_zeros (zero-add k i) (mul-one m i)) ∙ sym (zero-add (count_trailing_zeros k m))
shifted (suc j) k m =
    let a : suc j + k ≡ suc (j + k) = omega arith in
    let b : m * 2 ^ suc j ≡ m * 2 ^ j * 2 = ap (λ (q : ℕ). m * q) (pow-suc 2 j) ∙ sym (mul_assoc m (2 ^ j) 2) in
    let r = shifted j k m in
    (λ i. count_trailing_zeros (a i) (b i)) ∙ doubled (j + k) (m * 2 ^ j) ∙ omega arith

-- where one of the lowest j bits is set, there are fewer than j
set_below : (j k n : ℕ) → 0 < n % 2 ^ j → count_trailing_zeros k n < j
unfolding count_trailing_zeros
set_below zero k n p = omega (arith, p)
set_below (suc j) zero n p = omega arith
set_below (suc j) (suc k) n p = by_lowest (n % 2) refl (λ q. set_below j k (n / 2) q)
  where
    by_lowest : (d : ℕ) → n % 2 ≡ d → (0 < n / 2 % 2 ^ j → count_trailing_zeros k (n / 2) < j) → under d (count_trailing_zeros k (n / 2)) < suc j
    by_lowest zero e rest =
        let m = ap (λ (q : ℕ). n % 2 ^ q) (sym (add-one j)) ∙ mod-pow-add n j 1 in
        let r = rest (omega (arith, m)) in
        omega arith
    by_lowest (suc d) e rest = omega arith

-- ---- the number of bytes of x

module _ (x : List ℕ) (i : ℕ) where
  -- that of the n from i + k on
  abbrev low : ℕ → ℕ → ℕ
  low k zero = 0
  low k (suc n) = low (suc k) n * 256 + get_or x (i + k) 0

  -- one place further on
  next : (k : ℕ) → leading_zeros (drop (i + k + 1) x) ≡ leading_zeros (drop (i + suc k) x)
  next k = let e : i + k + 1 ≡ i + suc k = omega arith in ap (λ (m : ℕ). leading_zeros (drop m x)) e

  zero_word : (k n : ℕ) → i + (k + n) ≤ length x → low k n ≡ 0 → leading_zeros (drop (i + k) x) ≡ n + leading_zeros (drop (i + (k + n)) x)
  zero_word k zero h e = let r = ap (λ (m : ℕ). leading_zeros (drop (i + m) x)) (add-zero k) in omega (arith, r)
  zero_word k (suc n) h e =
      let q : suc k + n ≡ k + suc n = omega arith in
      let t = ap (λ (m : ℕ). leading_zeros (drop (i + m) x)) q in
      omega (arith, zeros_more x (i + k) (omega arith) (omega (arith, e)), next k, zero_word (suc k) n (omega arith) (omega (arith, e)), t)

  some_word : (k n : ℕ) → Bytes x → i + (k + n) ≤ length x → 0 < low k n → leading_zeros (drop (i + k) x) ≡ count_trailing_zeros (n * 8) (low k n) / 8
  some_word k zero s h p = absurd (lt_irrefl zero p)
  some_word k (suc n) s h p = by_first (λ q. some_word (suc k) n s (omega arith) q) (eq-zero-or-pos (get_or x (i + k) 0))
    where
      by_first : (0 < low (suc k) n → leading_zeros (drop (i + suc k) x) ≡ count_trailing_zeros (n * 8) (low (suc k) n) / 8)
          → (get_or x (i + k) 0 ≡ 0) ⊎ (0 < get_or x (i + k) 0) → leading_zeros (drop (i + k) x) ≡ count_trailing_zeros (suc n * 8) (low k (suc n)) / 8
      by_first rest (inl e) =
          let w : suc n * 8 ≡ 8 + n * 8 = omega arith in
          let v : low k (suc n) ≡ low (suc k) n * 256 = omega (arith, e) in
          let t = (λ j. count_trailing_zeros (w j) (v j)) ∙ shifted 8 (n * 8) (low (suc k) n) in
          omega (arith, zeros_more x (i + k) (omega arith) e, next k, rest (omega (arith, p, e)), t)
      by_first rest (inr q) =
          let z = zeros_stop x (i + k) (omega arith) (λ o. omega (arith, o, q)) in
          let t = set_below 8 (suc n * 8) (low k (suc n)) (omega (arith, q, s (i + k))) in
          omega (arith, z, t)

  -- the number w of the eight from i on
  module _ (w : ℕ) (h : i + 8 ≤ length x) (e : w ≡ low 1 7 * 256 + get_or x i 0) where
    here : leading_zeros (drop (i + 0) x) ≡ leading_zeros (drop i x)
    here = ap (λ (m : ℕ). leading_zeros (drop m x)) (add-zero i)

    is_low : w ≡ low 0 8
    is_low = e ∙ ap (λ (m : ℕ). low 1 7 * 256 + get_or x m 0) (sym (add-zero i))

    -- where it is zero, all of them are
    pub zero_eight : w ≡ 0 → leading_zeros (drop i x) ≡ 8 + leading_zeros (drop (i + 8) x)
    zero_eight z = sym here ∙ zero_word 0 8 h (sym is_low ∙ z)

    -- else every eight zero bits below its lowest set bit are one of the zero bytes in front
    pub some_eight : Bytes x → (w ≡ 0 → ⊥) → leading_zeros (drop i x) ≡ count_trailing_zeros 64 w / 8
    some_eight s n = sym here ∙ some_word 0 8 s h (omega (arith, n, is_low)) ∙ ap (λ (v : ℕ). count_trailing_zeros 64 v / 8) (sym is_low)

-- ---- the first eight bytes as std reads them

module _ (s : List ℕ) (w : ℕ) (h : 8 ≤ length s) (e : w ≡ from_le_bytes w64 (take 8 s)) where
  byte : (i : ℕ) → i < 8 → get_or (take 8 s) i 0 ≡ get_or s i 0
  byte i k = get_or-take 8 s i 0 k

  is_word : w ≡ low s 0 1 7 * 256 + get_or s 0 0
  is_word =
      omega
      (arith, e, byte 0 (omega arith), byte 1 (omega arith), byte 2 (omega arith), byte 3 (omega arith), byte 4 (omega arith), byte 5 (omega arith), byte 6 (omega arith), byte 7 (omega arith))

  pub zero_word_first : w ≡ 0 → leading_zeros s ≡ 8 + leading_zeros (drop 8 s)
  zero_word_first z = zero_eight s 0 w h is_word z

  pub some_word_first : Bytes s → (w ≡ 0 → ⊥) → leading_zeros s ≡ count_trailing_zeros 64 w / 8
  some_word_first b n = some_eight s 0 w h is_word b n

-- ---- a search for the first that is no zero

zeros_counted : (s : List ℕ) → position_or_len (λ b. not (eqb b 0)) s ≡ leading_zeros s
zeros_counted [] = refl
zeros_counted (zero ∷ r) = let h = zeros_counted r in omega arith
zeros_counted (suc a ∷ r) = rw (eqb-suc-zero a)

-- found, or none: all of s
pub zeros_found : (s : List ℕ) (r : Option ℕ) → r ≡ cond (ltb (position_or_len (λ b. not (eqb b 0)) s) (length s)) (Some (position_or_len (λ b. not (eqb b 0)) s)) None
    → unwrap_or r (length s) ≡ leading_zeros s
zeros_found s r e = let n = zeros_counted s in ap (λ (o : Option ℕ). unwrap_or o (length s)) e ∙ by_test (ltb _ (length s)) refl ∙ n
  where
    by_test : (t : Bool) → ltb (position_or_len (λ b. not (eqb b 0)) s) (length s) ≡ t → unwrap_or (cond t (Some (position_or_len (λ b. not (eqb b 0)) s)) None) (length s) ≡ position_or_len (λ b. not (eqb b 0)) s
    by_test true q = refl
    by_test false q = let a = ltb-false _ _ q in let b = zeros_within s in let c = zeros_counted s in omega arith
