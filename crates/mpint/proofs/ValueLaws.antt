-- Laws of `specs/Value.antt`: shortening does not change the number, and the sign that is read is its sign. Assumes nothing.
use Prim.Native.Nat.{ℕ, zero, suc, ◌+◌, ◌-◌, ◌*◌, ◌≤◌, ◌<◌}
use mathlib.Core.Path.{◌≡◌, refl, sym, ap, ◌∙◌}
use mathlib.Core.List.{List, [], ◌∷◌, map}
use mathlib.Core.Bool.{Bool, true, false, cond, false≢true}
use native.Mathlib.Omega.{arith}
use native.Mathlib.Nat.{zero-add}
use lib.IntN.{ℤ, pos, negsuc, neg_ℤ, ◌+ℤ◌, ◌*ℤ◌}
use lib.Dec.{ltb, leb, eqb}
use borrow.Author.Tests.{eqb-true, ltb-false, leb-true, lt-ltb, le-ltb}
use Rattle.buffers.specs.Bytes.{Bytes}
use Rattle.buffers.proofs.ByteLaws.{bytes_tail}
use Rattle.mpint.specs.Mpint.{excess, sign_of, shortest}
use Rattle.mpint.specs.Value.{go_on, value, go_on_ℕ, unsigned, sgn}

-- ---- value

-- a first byte that is in excess adds nothing
pub value_excess : (a : ℕ) (r : List ℕ) → excess (a ∷ r) ≡ true → value (a ∷ r) ≡ value r
value_excess a [] e = let z = eqb-true a 0 e in rw z
value_excess a (b ∷ r) e = by_test (eqb a 0) refl (eqb a 255) refl e
  where
    by_test : (t : Bool) → eqb a 0 ≡ t → (u : Bool) → eqb a 255 ≡ u → cond t (ltb b 128) (cond u (leb 128 b) false) ≡ true
        → value (a ∷ b ∷ r) ≡ value (b ∷ r)
    by_test true p u q h = let z = eqb-true a 0 p in rw (z, h)
    by_test false p true q h = let z = eqb-true a 255 q in let k : ltb b 128 ≡ false = le-ltb b 128 (leb-true 128 b h) in rw (z, k)
    by_test false p false q h = absurd (false≢true h)

-- shortening keeps the number
pub value_shortest : (l : List ℕ) → value (shortest l) ≡ value l
unfolding shortest
value_shortest [] = refl
value_shortest (a ∷ r) = by_test (excess (a ∷ r)) refl (value_shortest r)
  where
    by_test : (t : Bool) → excess (a ∷ r) ≡ t → value (shortest r) ≡ value r → value (cond t (shortest r) (a ∷ r)) ≡ value (a ∷ r)
    by_test true e h = h ∙ sym (value_excess a r e)
    by_test false e h = refl

-- from a natural number on, it is the unsigned number
pub go_on_pos : (v : ℕ) (l : List ℕ) → go_on (pos v) l ≡ pos (go_on_ℕ v l)
go_on_pos v [] = refl
go_on_pos v (b ∷ r) = go_on_pos (v * 256 + b) r

-- a zero byte in front makes unsigned bytes two's complement
pub value_unsigned : (x : List ℕ) → value (0 ∷ x) ≡ pos (unsigned x)
value_unsigned x = go_on_pos 0 x

pub negsuc_byte : (v b : ℕ) → b < 256 → negsuc v *ℤ pos 256 +ℤ pos b ≡ negsuc (v * 256 + (255 - b))
negsuc_byte v b h =
    let e : suc v * 256 ≡ suc (v * 256 + 255) = omega arith in
    let k : suc (v * 256 + 255) - suc b ≡ v * 256 + (255 - b) = omega arith in
    let t : ltb b (suc (v * 256 + 255)) ≡ true = lt-ltb b (suc (v * 256 + 255)) (omega arith) in
    ap (λ (n : ℕ). neg_ℤ (pos n) +ℤ pos b) e ∙ rw (t, k)

-- from a negative number on, it is the negative of the complement
pub go_on_negsuc : (v : ℕ) (l : List ℕ) → Bytes l → go_on (negsuc v) l ≡ negsuc (go_on_ℕ v (map (λ (b : ℕ). 255 - b) l))
go_on_negsuc v [] h = refl
go_on_negsuc v (b ∷ r) h = ap (λ (k : ℤ). go_on k r) (negsuc_byte v b (h 0)) ∙ go_on_negsuc (v * 256 + (255 - b)) r (bytes_tail b r h)

-- two's complement, as the textbook has it: with the top bit clear the bytes are the number, with it set the complement of every
-- bit is what is missing to -1
pub value_clear : (a : ℕ) (r : List ℕ) → a < 128 → value (a ∷ r) ≡ pos (unsigned (a ∷ r))
value_clear a r h = ap (λ (t : Bool). go_on (cond t (pos 0) (negsuc 0)) (a ∷ r)) (lt-ltb a 128 h) ∙ go_on_pos 0 (a ∷ r)

pub value_set : (a : ℕ) (r : List ℕ) → 128 ≤ a → Bytes (a ∷ r) → value (a ∷ r) ≡ negsuc (unsigned (map (λ (b : ℕ). 255 - b) (a ∷ r)))
value_set a r h y = ap (λ (t : Bool). go_on (cond t (pos 0) (negsuc 0)) (a ∷ r)) (le-ltb a 128 h) ∙ go_on_negsuc 0 (a ∷ r) y

go_on_ℕ_grows : (v : ℕ) (l : List ℕ) → v ≤ go_on_ℕ v l
go_on_ℕ_grows v [] = omega arith
go_on_ℕ_grows v (b ∷ r) = let h = go_on_ℕ_grows (v * 256 + b) r in omega arith

-- ---- sgn

sgn_pos : (n : ℕ) → 0 < n → sgn (pos n) ≡ pos 1
sgn_pos zero h = let w : ⊥ = omega arith in absurd w
sgn_pos (suc n) h = refl

-- the sign of shortest bytes is the sign of their number
pub sgn_value : (l : List ℕ) → Bytes l → excess l ≡ false → sgn (value l) ≡ sign_of l
sgn_value [] h e = refl
sgn_value (a ∷ r) h e = by_test (ltb a 128) refl
  where
    above : (n : ℕ) (r : List ℕ) → a ≡ n → excess (a ∷ r) ≡ false → 0 < go_on_ℕ a r
    above zero [] z x = let q : excess (a ∷ []) ≡ true = rw z in absurd (false≢true (sym x ∙ q))
    above zero (b ∷ s) z x =
        let q : excess (a ∷ b ∷ s) ≡ ltb b 128 = rw z in
        let k : 128 ≤ b = ltb-false b 128 (sym q ∙ x) in
        let g = go_on_ℕ_grows (a * 256 + b) s in
        omega arith
    above (suc n) s z x = let g = go_on_ℕ_grows a s in omega arith

    by_test : (t : Bool) → ltb a 128 ≡ t → sgn (go_on (cond t (pos 0) (negsuc 0)) (a ∷ r)) ≡ cond t (pos 1) (negsuc 0)
    by_test true p = ap sgn (go_on_pos 0 (a ∷ r)) ∙ ap (λ (n : ℕ). sgn (pos (go_on_ℕ n r))) (zero-add a) ∙ sgn_pos _ (above a r refl e)
    by_test false p = ap sgn (go_on_negsuc 0 (a ∷ r) h)
