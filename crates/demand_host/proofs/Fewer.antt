-- Fewer bytes are a beginning of what more give. Assumes nothing.
use Prim.Native.Nat.{ℕ}
use mathlib.Core.Path.{◌≡◌, refl, sym, ap, ◌∙◌}
use mathlib.Core.List.{List}
use mathlib.Core.Bool.{Bool, true, false, cond}
use native.Mathlib.Omega.{arith}
use lib.ListN.{length, take}
use Rattle.exchange.specs.Steps.{output_after}
use Rattle.stored.specs.Stored.{fits, decoded, by_fit}
use Rattle.stored.proofs.StoredLaws.{fit_taken}
use Rattle.keys.specs.Derived.{derive_cause, key_in}
use Rattle.keys.proofs.OutputLaws.{output_beginning, fewer_accepted}
use Rattle.demand_host.specs.FewerBytes.{FewerBytes}

-- an accepted call had bytes that an exchange has
fit_known : (b : List ℕ) (x : ℕ) → by_fit b x 1 ≡ 0 → (fits b ≡ true) × (x ≡ 0)
unfolding by_fit
fit_known b x z = by_fit_lem (fits b) refl z
  where
    by_fit_lem : (t : Bool) → fits b ≡ t → cond t x 1 ≡ 0 → (t ≡ true) × (x ≡ 0)
    by_fit_lem true f h = (refl, h)
    by_fit_lem false f h = let w : ⊥ = omega arith in absurd w

pub fewer_bytes : FewerBytes
fewer_bytes κs κs' a a' r r' s s' t t' e l h k o z =
    let b = a.0.now in
    let out = a.1.1.1.0.now in
    let out' = a'.1.1.1.0.now in
    let n = a.1.1.0 in
    let m = a'.1.1.0 in
    let f = fit_known b (derive_cause (decoded b) a.1.0 m (length out')) ((λ i. by_fit (e i) (derive_cause (decoded (e i)) (l i) m (length out')) 1) ∙ sym t'.0 ∙ z) in
    let x = fewer_accepted (decoded b) a.1.0 n m (length out) (length out') h k o f.1 in
    let c = fit_taken b (derive_cause (decoded b) a.1.0 n (length out)) 1 f.0 in
    let d = fit_taken b (derive_cause (decoded b) a.1.0 m (length out')) 1 f.0 in (
      t.0 ∙ sym c ∙ x,
      ap (take n) t'.1
          ∙ (λ i. take n (output_after (by_fit (sym e i) (derive_cause (decoded (sym e i)) (sym l i) m (length out')) 1) out' (key_in (decoded (sym e i)) (sym l i) m)))
          ∙ ap (λ (v : ℕ). take n (output_after v out' (key_in (decoded b) a.1.0 m))) (sym d)
          ∙ output_beginning (decoded b) a.1.0 n m out out' k x f.1
          ∙ ap (λ (v : ℕ). take n (output_after v out (key_in (decoded b) a.1.0 n))) c
          ∙ ap (take n) (sym t.1),
    )
