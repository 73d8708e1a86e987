-- What a key by value is, from the key on bytes. Assumes nothing.
use Prim.Native.Nat.{ℕ}
use mathlib.Core.Path.{◌≡◌, sym, ap, ◌∙◌}
use mathlib.Core.List.{List}
use native.Mathlib.Omega.{arith}
use Rattle.std.specs.Prelude.{None, Some}
use lib.ListN.{length}
use Rattle.wire.proofs.CauseLaws.{unless_fails}
use Rattle.exchange.specs.Record.{completed}
use Rattle.exchange.specs.Steps.{output_after}
use Rattle.exchange.specs.declared.Exchange.{Exchange}
use Rattle.exchange.proofs.StepLaws.{output_refused}
use Rattle.stored.specs.Stored.{decoded, by_fit}
use Rattle.stored.proofs.RoundTrip.{decoded_encoded}
use Rattle.lent.proofs.Kept.{lent_is_step, long_not_complete}
use Rattle.by_value.specs.ByValue.{some_bytes}
use Rattle.by_value.proofs.ValueLaws.{Sized, laid_long, laid_short}
use Rattle.keys.specs.Derived.{derive_cause, key_in}

module _ (e : Exchange) (letter len : ℕ) (out : List ℕ) where
  -- one that the bytes cannot hold
  pub derive_long : None ≡ some_bytes e → (1 ≡ derive_cause e letter len (length out)) × (out ≡ output_after (derive_cause e letter len (length out)) out (key_in e letter len))
  unfolding derive_cause
  derive_long l =
      let n : derive_cause e letter len (length out) ≡ 1 = unless_fails (completed e) 1 _ (long_not_complete e (laid_long e l)) in
      (sym n, output_refused _ out (key_in e letter len) (λ z. let w : ⊥ = omega (arith, n, z) in w))

  -- others
  pub derive_value : (b : List ℕ) → Some b ≡ some_bytes e → Sized e → (r : ℕ) (out' : List ℕ) → r ≡ by_fit b (derive_cause (decoded b) letter len (length out)) 1
      → out' ≡ output_after (by_fit b (derive_cause (decoded b) letter len (length out)) 1) out (key_in (decoded b) letter len)
      → (r ≡ derive_cause e letter len (length out)) × (out' ≡ output_after (derive_cause e letter len (length out)) out (key_in e letter len))
  derive_value b l k r out' f g =
      let s = laid_short e b l k in
      let n = ap (λ (y : List ℕ). by_fit y (derive_cause (decoded y) letter len (length out)) 1) s.1 ∙ lent_is_step (λ (x : Exchange). derive_cause x letter len (length out)) 1 e s.0 in
      let d = ap decoded s.1 ∙ decoded_encoded e s.0.short s.0.session s.0.k_size_is s.0.h_size_is in
      (f ∙ n, g ∙ (λ i. output_after (n i) out (key_in (d i) letter len)))
