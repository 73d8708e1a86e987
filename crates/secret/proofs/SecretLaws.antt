-- Laws of `specs/Secret.antt`. Assumes nothing.
use Prim.Native.Nat.{ℕ, zero, suc, ◌+◌, ◌-◌, ◌≤◌, ◌<◌}
use mathlib.Core.Path.{◌≡◌, refl, sym, ap, ◌∙◌}
use mathlib.Core.List.{List, [], ◌∷◌, ◌++◌, append_assoc}
use mathlib.Core.Bool.{Bool, true, false, cond}
use native.Mathlib.Omega.{arith}
use native.Mathlib.Nat.{zero-add}
use native.Mathlib.Numerals.{add-one}
use lib.ListN.{length, get_or, drop, length-drop, length-replicate, length-append, replicate-append-replicate, drop_of_length-le}
use lib.Seq.{drop-cons}
use lib.Dec.{ltb, eqb, eqb-suc-zero}
use lib.IntN.{pos}
use borrow.Author.Tests.{le-leb, lt-leb, ltb-true, ltb-false, eqb-false, lt-ltb, le-ltb, ne_eqb}
use Rattle.limits.specs.Limits.{string_most, k_size}
use Rattle.buffers.specs.Bytes.{zeros, over, laid}
use Rattle.wire.specs.Strings.{bytes32, string}
use Rattle.buffers.proofs.ByteLaws.{drop_zeros, over_over, laid_fits, length_over}
use Rattle.wire.specs.Strings.{StringRead}
use Rattle.wire.proofs.StringLaws.{length_string}
use Rattle.wire.proofs.RoundTrip.{string_complete, body_string}
use Rattle.mpint.specs.Mpint.{shortest}
use Rattle.mpint.specs.Value.{value, unsigned}
use Rattle.mpint.proofs.MpintLaws.{shortest_done}
use Rattle.mpint.specs.Mpint.{MpintRead}
use Rattle.mpint.proofs.RoundTrip.{mpint_complete, value_mpint}
use Rattle.mpint.proofs.ValueLaws.{value_shortest, value_unsigned}
use Rattle.methods.specs.declared.KForm.{KForm}
use Rattle.methods.specs.declared.KForm.TheVariants.{Mpint, Digest}
use Rattle.secret.specs.Secret.{Secret, ReadsAs, k_bytes, kept, leading_zeros}

-- ---- leading_zeros

pub zeros_within : (x : List ℕ) → leading_zeros x ≤ length x
zeros_within [] = omega arith
zeros_within (zero ∷ r) = let h = zeros_within r in omega arith
zeros_within (suc a ∷ r) = omega arith

-- one place further on
pub zeros_more : (l : List ℕ) (i : ℕ) → i < length l → get_or l i 0 ≡ 0 → leading_zeros (drop i l) ≡ suc (leading_zeros (drop (i + 1) l))
zeros_more l i h e = rw (drop-cons l i 0 h, e, add-one)

pub zeros_stop : (l : List ℕ) (i : ℕ) → i < length l → (get_or l i 0 ≡ 0 → ⊥) → leading_zeros (drop i l) ≡ 0
zeros_stop l i h e = ap leading_zeros (drop-cons l i 0 h) ∙ at (get_or l i 0) e
  where
    at : (a : ℕ) → (a ≡ 0 → ⊥) → leading_zeros (a ∷ drop (suc i) l) ≡ 0
    at zero n = absurd (n refl)
    at (suc a) n = refl

-- ---- the body of K from X

-- digits with no zeros in front, as two's complement: a zero byte where the top bit is set
abbrev positive : List ℕ → List ℕ
positive [] = []
positive (a ∷ r) = cond (ltb a 128) (a ∷ r) (0 ∷ a ∷ r)

-- a byte from 1 to 127 in front is needed
low_first : (a : ℕ) (r : List ℕ) → suc a < 128 → shortest (suc a ∷ r) ≡ suc a ∷ r
low_first a [] h = shortest_done (suc a ∷ []) (eqb-suc-zero a)
low_first a (b ∷ r) h = shortest_done (suc a ∷ b ∷ r) (rw (eqb-suc-zero a, ne_eqb (suc a) 255 (λ e. omega arith)))

shortest_positive : (x : List ℕ) → shortest (0 ∷ x) ≡ positive (drop (leading_zeros x) x)
unfolding shortest
shortest_positive [] = refl
shortest_positive (zero ∷ r) = shortest_positive r
shortest_positive (suc a ∷ r) = by_test (ltb (suc a) 128) refl
  where
    by_test : (t : Bool) → ltb (suc a) 128 ≡ t → cond t (shortest (suc a ∷ r)) (0 ∷ suc a ∷ r) ≡ cond t (suc a ∷ r) (0 ∷ suc a ∷ r)
    by_test true e = low_first a r (ltb-true (suc a) 128 e)
    by_test false e = refl

module _ (x : List ℕ) (k : ℕ) (z : k ≡ leading_zeros x) where
  body_is : shortest (0 ∷ x) ≡ positive (drop k x)
  body_is = shortest_positive x ∙ ap (λ (n : ℕ). positive (drop n x)) (sym z)

  -- X of zeros alone is the number zero, which has an empty body
  pub k_zero : k ≡ length x → shortest (0 ∷ x) ≡ drop k x
  k_zero e = let d = drop_of_length-le x {i = k} (omega arith) in body_is ∙ ap positive d ∙ sym d

  -- a first digit below 128 stands as it is
  pub k_low : k < length x → get_or x k 0 < 128 → shortest (0 ∷ x) ≡ drop k x
  k_low h t = let d = drop-cons x k 0 h in body_is ∙ ap positive d ∙ rw (lt-ltb (get_or x k 0) 128 t) (sym d)

  -- one from 128 on gets a zero byte
  pub k_high : k < length x → 128 ≤ get_or x k 0 → shortest (0 ∷ x) ≡ 0 ∷ drop k x
  k_high h t = let d = drop-cons x k 0 h in body_is ∙ ap positive d ∙ rw (le-ltb (get_or x k 0) 128 t) (ap (λ (y : List ℕ). 0 ∷ y) (sym d))

differ : (a b : ℕ) → a ≤ b → (a ≡ b → ⊥) → a < b
differ a b h n = by_test (ltb a b) refl
  where
    by_test : (t : Bool) → ltb a b ≡ t → a < b
    by_test true e = ltb-true a b e
    by_test false e = let q = ltb-false a b e in let z : a ≡ b = omega arith in absurd (n z)

-- an X that is not all zero has a body
pub k_some : (x : List ℕ) → eqb (leading_zeros x) (length x) ≡ false → 1 ≤ length (shortest (0 ∷ x))
k_some x e = by_test (ltb (get_or x k 0) 128) refl
  where
    k : ℕ
    k = leading_zeros x

    less : k < length x
    less = differ (leading_zeros x) (length x) (zeros_within x) (eqb-false (leading_zeros x) (length x) e)

    by_test : (t : Bool) → ltb (get_or x k 0) 128 ≡ t → 1 ≤ length (shortest (0 ∷ x))
    by_test true p = omega (arith, ap length (k_low x k refl less (ltb-true (get_or x k 0) 128 p)), length-drop k x, less)
    by_test false p = omega (arith, ap length (k_high x k refl less (ltb-false (get_or x k 0) 128 p)))

-- K's number is X read as an unsigned number, the highest byte first
pub k_number : (x : List ℕ) → value (shortest (0 ∷ x)) ≡ pos (unsigned x)
k_number x = value_shortest (0 ∷ x) ∙ value_unsigned x

-- demand 2 for K: its bytes, with anything after them, are read with 0, and as X's number or as the digest
pub k_read : (f : KForm) (x d t : List ℕ) → length (k_bytes f x d) ≤ string_most → ReadsAs f (k_bytes f x d ++ t) x d
k_read Mpint x d t h =
    let n : length (shortest (0 ∷ x)) ≤ string_most = omega (arith, length_string (shortest (0 ∷ x))) in
    (ap (λ (r : MpintRead). r.number) (mpint_complete (0 ∷ x) t n), value_mpint (0 ∷ x) t n ∙ value_unsigned x)
k_read Digest x d t h =
    let n : length d ≤ string_most = omega (arith, length_string d) in
    (ap (λ (r : StringRead). r.number) (string_complete d t n), body_string d t n)

-- ---- kept

-- what is laid over a record of zeros
over_zeros : (k : List ℕ) → length k ≤ k_size → over (zeros k_size) 0 k ≡ k ++ zeros (k_size - length k)
unfolding over
over_zeros k h = ap (λ (n : ℕ). k ++ drop n (zeros k_size)) (zero-add (length k)) ∙ ap (λ (l : List ℕ). k ++ l) (drop_zeros (length k) k_size h)

pub kept_long : (k : List ℕ) → k_size < length k → ◌≡◌ {A = Secret} (record { number = 4; len = 0; bytes = zeros k_size }) (kept k)
unfolding kept
kept_long k h = rw (lt-leb (length k) k_size h)

pub kept_fits : (k : List ℕ) → length k ≤ k_size
    → ◌≡◌ {A = Secret} (record { number = 0; len = length k; bytes = k ++ zeros (k_size - length k) }) (kept k)
unfolding kept
kept_fits k h = rw (le-leb (length k) k_size h)

-- the record's own zeros may be counted among what was laid over it
over_pad : (b : List ℕ) (p : ℕ) → length b + p ≤ k_size → over (zeros k_size) 0 b ≡ over (zeros k_size) 0 (b ++ zeros p)
over_pad b p h =
    let l : length (b ++ zeros p) ≡ length b + p = length-append b (zeros p) ∙ ap (λ (n : ℕ). length b + n) (length-replicate p 0) in
    let n : p + (k_size - length (b ++ zeros p)) ≡ k_size - length b = omega arith in
    over_zeros b (omega arith)
    ∙ ap (λ (m : ℕ). b ++ zeros m) (sym n)
    ∙ ap (λ (z : List ℕ). b ++ z) (sym (replicate-append-replicate p (k_size - length (b ++ zeros p)) 0))
    ∙ sym (append_assoc b (zeros p) (zeros (k_size - length (b ++ zeros p))))
    ∙ sym (over_zeros (b ++ zeros p) (omega arith))

-- length bytes, and digits behind some of the record's own zeros
module _ (pad : ℕ) (d : List ℕ) (h : pad + length d ≤ k_size - 4) where
  n : ℕ
  n = pad + length d

  head : List ℕ
  head = bytes32 n ++ zeros pad

  head_length : length head ≡ 4 + pad
  unfolding head
  head_length = length-append (bytes32 n) (zeros pad) ∙ ap (λ (k : ℕ). 4 + k) (length-replicate pad 0)

  body_length : length (zeros pad ++ d) ≡ n
  unfolding n
  body_length = length-append (zeros pad) d ∙ ap (λ (k : ℕ). k + length d) (length-replicate pad 0)

  laid_digits : laid (laid (zeros k_size) 0 (bytes32 n)) (4 + pad) d ≡ over (zeros k_size) 0 (string (zeros pad ++ d))
  unfolding string head n
  laid_digits =
      let l = head_length in
      let m : length (over (zeros k_size) 0 head) ≡ k_size = length_over (zeros k_size) 0 head (omega arith) in
      ap (λ (z : List ℕ). laid z (4 + pad) d) (laid_fits (zeros k_size) 0 (bytes32 n) (omega arith) ∙ over_pad (bytes32 n) pad (omega arith))
      ∙ laid_fits (over (zeros k_size) 0 head) (4 + pad) d (omega arith)
      ∙ ap (λ (k : ℕ). over (over (zeros k_size) 0 head) k d) (sym (zero-add (length head) ∙ l))
      ∙ over_over (zeros k_size) 0 head d (omega arith)
      ∙ ap (over (zeros k_size) 0) (append_assoc (bytes32 n) (zeros pad) d)
      ∙ ap (λ (k : ℕ). over (zeros k_size) 0 (bytes32 k ++ (zeros pad ++ d))) (sym body_length)

  pub kept_digits : (out : List ℕ) → out ≡ laid (laid (zeros k_size) 0 (bytes32 (pad + length d))) (4 + pad) d
      → ◌≡◌ {A = Secret} (record { number = 0; len = 4 + (pad + length d); bytes = out }) (kept (string (zeros pad ++ d)))
  unfolding n
  kept_digits out e =
      let k : List ℕ = string (zeros pad ++ d) in
      let m : length (string (zeros pad ++ d)) ≡ 4 + (pad + length d) = length_string (zeros pad ++ d) ∙ ap (λ (j : ℕ). 4 + j) body_length in
      let o : out ≡ string (zeros pad ++ d) ++ zeros (k_size - length (string (zeros pad ++ d))) = e ∙ laid_digits ∙ over_zeros (string (zeros pad ++ d)) (omega arith) in
      let q = sym m in
      (λ i. record { number = 0; len = q i; bytes = o i }) ∙ kept_fits (string (zeros pad ++ d)) (omega arith)

pub kept_no_digits : (pad : ℕ) (d : List ℕ) → k_size - 4 < pad + length d
    → ◌≡◌ {A = Secret} (record { number = 4; len = 0; bytes = zeros k_size }) (kept (string (zeros pad ++ d)))
kept_no_digits pad d h =
    let m = length_string (zeros pad ++ d) in
    let l : length (zeros pad ++ d) ≡ pad + length d = length-append (zeros pad) d ∙ ap (λ (k : ℕ). k + length d) (length-replicate pad 0) in
    kept_long (string (zeros pad ++ d)) (omega arith)
