-- Laws of `specs/Form.antt`: the form rule, once over the shape and so over every row. Assumes nothing.
use Prim.Native.Nat.{ℕ, ◌≤◌}
use mathlib.Core.Path.{◌≡◌, refl, sym, ap, ◌∙◌}
use mathlib.Core.List.{List}
use mathlib.Core.Bool.{Bool, true, false, cond}
use native.Mathlib.Omega.{arith}
use lib.ListN.{length, get_or}
use lib.Dec.{eqb}
use borrow.Author.Tests.{eqb-true, eq-eqb, le-leb}
use Rattle.limits.proofs.BoolLaws.{and_true}
use Rattle.limits.specs.Limits.{method_last}
use Rattle.methods.specs.Rows.{row_of}
use Rattle.methods.specs.Form.{length_fits, lead_fits, formed}
use Rattle.methods.specs.declared.Shape.{Shape}
use Rattle.methods.proofs.MethodLaws.{sound, row_number}

module _ (h : Shape) (v : List ℕ) where
  -- a value of the right form has the shape's length, and byte 4 first in its classical part where that is a NIST point
  pub formed_sound : formed h v ≡ true → (length v ≡ h.len) × (h.point ≡ true → get_or v h.classical 0 ≡ 4)
  unfolding formed length_fits lead_fits
  formed_sound e =
      let a = and_true (eqb (length v) h.len) (cond h.point (eqb (get_or v h.classical 0) 4) true) e in
      (eqb-true (length v) h.len a.0, λ p. eqb-true (get_or v h.classical 0) 4 (sym (ap (λ (t : Bool). cond t (eqb (get_or v h.classical 0) 4) true) p) ∙ a.1))

  pub formed_complete : length v ≡ h.len → (h.point ≡ true → get_or v h.classical 0 ≡ 4) → formed h v ≡ true
  unfolding formed length_fits lead_fits
  formed_complete l p = rw (eq-eqb (length v) h.len l) (by_test h.point p)
    where
      by_test : (t : Bool) → (t ≡ true → get_or v h.classical 0 ≡ 4) → cond t (eqb (get_or v h.classical 0) 4) true ≡ true
      by_test true q = eq-eqb (get_or v h.classical 0) 4 (q refl)
      by_test false q = refl

-- in methods 4 to 8, on either side, the lead byte is 4
module _ (n : ℕ) (v : List ℕ) (a : 4 ≤ n) (b : n ≤ 8) (one : 1 ≤ n) (nine : n ≤ method_last) where
  point : (row_of n).c.point ≡ true
  point =
      let e = row_number n one nine in
      (sound n one nine).c_point ∙ rw (le-leb 4 (row_of n).number (rw e a), le-leb (row_of n).number 8 (rw e b))

  pub c_lead : formed (row_of n).c v ≡ true → get_or v (row_of n).c.classical 0 ≡ 4
  c_lead f = (formed_sound (row_of n).c v f).1 point

  pub s_lead : formed (row_of n).s v ≡ true → get_or v (row_of n).s.classical 0 ≡ 4
  s_lead f = (formed_sound (row_of n).s v f).1 ((sound n one nine).s_point ∙ point)

-- a length that fits is at most the shape's own
pub length_most_lem : (h : Shape) (n : ℕ) → length_fits h n ≡ true → n ≤ h.len
unfolding length_fits
length_most_lem h n e = let q = eqb-true n h.len e in omega arith

-- and a formed value has such a length
pub formed_length : (h : Shape) (v : List ℕ) → formed h v ≡ true → length_fits h (length v) ≡ true
unfolding formed
formed_length h v e = (and_true (length_fits h (length v)) (lead_fits h v) e).0

-- a method's values are never empty
pub c_least : (n m : ℕ) → 1 ≤ n → n ≤ method_last → length_fits (row_of n).c m ≡ true → 1 ≤ m
unfolding length_fits
c_least n m a b e = let q = eqb-true m (row_of n).c.len e in omega (arith, (sound n a b).c_least)

pub s_least : (n m : ℕ) → 1 ≤ n → n ≤ method_last → length_fits (row_of n).s m ≡ true → 1 ≤ m
unfolding length_fits
s_least n m a b e = let q = eqb-true m (row_of n).s.len e in omega (arith, (sound n a b).s_least)
