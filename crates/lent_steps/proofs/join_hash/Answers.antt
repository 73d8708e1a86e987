-- `lent_steps::join_hash` meets its contract. Assumes nothing.
use Prim.Native.Nat.{ℕ}
use mathlib.Core.Path.{ap, ◌∙◌}
use mathlib.Core.List.{List, ◌∷◌}
use Rattle.buffers.specs.Bytes.{laid}
use Rattle.stored.specs.Stored.{by_size}
use Rattle.lent_steps.proofs.join_hash.Goals as goal

pub returns : goal.returns
returns c =
    let b = c.args.ex.now in
    let e = c.h_of.ensures in
    (ap (λ (d : List ℕ). c.args.n ∷ d) e, c.put_h.ensures ∙ ap (λ (d : List ℕ). by_size b (laid b 90 d) b) e)
