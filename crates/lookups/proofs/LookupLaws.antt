-- What is told of a method: a law for each `return`. Assumes nothing.
use Prim.Native.Nat.{ℕ, ◌≤◌, ◌<◌}
use mathlib.Core.Path.{◌≡◌, refl, sym, ap, ◌∙◌}
use mathlib.Core.List.{[], ◌∷◌}
use mathlib.Core.Bool.{true, false, cond}
use mathlib.Core.Logic.{⊎_elim}
use native.Mathlib.Omega.{arith}
use lib.ListN.{length}
use lib.Dec.{eqb}
use borrow.Author.Tests.{ne_eqb, lt-ltb, le-ltb}
use Rattle.limits.specs.Limits.{method_last}
use Rattle.wire.proofs.CauseLaws.{if_holds, if_fails}
use Rattle.methods.specs.Rows.{hybrid, no_row, row_of, name_of}
use Rattle.methods.specs.declared.Method.{Method}
use Rattle.methods.specs.declared.Shape.{Shape}
use Rattle.methods.proofs.MethodLaws.{row_known, row_number, sound}
use Rattle.method_names.proofs.NameLaws.{name_size}
use Rattle.lookups.specs.Lookups.{method_cause, sizes_of, name_cause}

-- a column that is 0 in the empty row alone tells whether a number is a method
module _ (m : ℕ) (f : Method → ℕ) (none : f no_row ≡ 0) (least : 1 ≤ m → m ≤ method_last → 1 ≤ f (row_of m)) where
  zero_told : f (row_of m) ≡ 0 → eqb (row_of m).number 0 ≡ true
  zero_told h =
      ⊎_elim
      (λ k. let w : ⊥ = omega (arith, least k.0 k.1) in absurd w)
      (λ e. ap (λ (r : Method). eqb r.number 0) (sym e))
      (row_known m)

  other_told : ¬ (f (row_of m) ≡ 0) → eqb (row_of m).number 0 ≡ false
  other_told h =
      ⊎_elim
      (λ k. ne_eqb (row_of m).number 0 (λ q. omega (arith, row_number m k.0 k.1)))
      (λ e. absurd (h (ap f (sym e) ∙ none)))
      (row_known m)

module _ (m : ℕ) (r : Method) (e : r ≡ row_of m) where
  -- the sizes, as the code builds them from the columns
  pub sizes_told : (c s : Shape) (x d h z : ℕ) → c ≡ r.c → s ≡ r.s → x ≡ r.x_len → d ≡ r.digest_len
      → h ≡ cond (hybrid r.k_form) 1 0 → z ≡ cond r.zero_check 1 0
      → c.len ∷ c.classical ∷ s.len ∷ s.classical ∷ x ∷ d ∷ h ∷ z ∷ [] ≡ sizes_of m
  unfolding sizes_of
  sizes_told c s x d h z p q f g k l = rw (p, q, f, g, k, l, e)

  module _ (x : ℕ) (f : x ≡ r.x_len) where
    x_of : x ≡ (row_of m).x_len
    x_of = f ∙ ap (λ (w : Method). w.x_len) e

    pub no_method : x ≡ 0 → 2 ≡ method_cause m
    unfolding method_cause
    no_method h = sym (if_holds _ 2 0 (zero_told m (λ w. w.x_len) refl (λ a b. (sound m a b).x_least) (sym x_of ∙ h)))

    pub is_method : ¬ (x ≡ 0) → 0 ≡ method_cause m
    unfolding method_cause
    is_method h = sym (if_fails _ 2 0 (other_told m (λ w. w.x_len) refl (λ a b. (sound m a b).x_least) (λ q. h (x_of ∙ q))))

  -- a name that is not written, and one that is
  module _ (n : ℕ) (f : n ≡ r.name_len) (size : ℕ) where
    n_of : n ≡ (row_of m).name_len
    n_of = f ∙ ap (λ (w : Method). w.name_len) e

    pub name_none : n ≡ 0 → name_cause size m ≡ 2
    unfolding name_cause
    name_none h = if_holds _ 2 _ (zero_told m (λ w. w.name_len) refl (λ a b. (sound m a b).name_least) (sym n_of ∙ h))

    named : ¬ (n ≡ 0) → eqb (row_of m).number 0 ≡ false
    named h = other_told m (λ w. w.name_len) refl (λ a b. (sound m a b).name_least) (λ q. h (n_of ∙ q))

    pub name_short : ¬ (n ≡ 0) → size < n → name_cause size m ≡ 5
    unfolding name_cause
    name_short h k = if_fails _ 2 _ (named h) ∙ if_holds _ 5 0 (lt-ltb size (length (name_of (row_of m))) (omega (arith, n_of, name_size m)))

    pub name_written : ¬ (n ≡ 0) → n ≤ size → (name_cause size m ≡ 0) × (n ≡ length (name_of (row_of m)))
    unfolding name_cause
    name_written h k = (
      if_fails _ 2 _ (named h) ∙ if_fails _ 5 0 (le-ltb size (length (name_of (row_of m))) (omega (arith, n_of, name_size m))),
      n_of ∙ sym (name_size m),
    )
