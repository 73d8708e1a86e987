-- Fewer bytes are a beginning of what more give. Assumes nothing.
use mathlib.Core.Path.{sym, ap, ◌∙◌}
use lib.ListN.{length, take}
use Rattle.exchange.specs.Steps.{output_after}
use Rattle.keys.specs.Derived.{derive_cause, key_in}
use Rattle.keys.proofs.OutputLaws.{output_beginning, fewer_accepted}
use Rattle.demand.specs.FewerBytes.{FewerBytes}

pub fewer_bytes : FewerBytes
fewer_bytes κs κs' a a' r r' s s' t t' e l h k o z =
    let out = a.1.1.1.0.now in
    let out' = a'.1.1.1.0.now in
    let n = a.1.1.0 in
    let m = a'.1.1.0 in
    let y = (λ i. derive_cause (e i) (l i) m (length out')) ∙ sym t'.0 ∙ z in
    let x = fewer_accepted a.0 a.1.0 n m (length out) (length out') h k o y in (
      t.0 ∙ x,
      ap (take n) t'.1
          ∙ (λ i. take n (output_after (derive_cause (sym e i) (sym l i) m (length out')) out' (key_in (sym e i) (sym l i) m)))
          ∙ output_beginning a.0 a.1.0 n m out out' k x y
          ∙ ap (take n) (sym t.1),
    )
