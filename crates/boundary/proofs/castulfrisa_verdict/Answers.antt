-- `boundary::castulfrisa_verdict` meets its contract. Assumes nothing.
use mathlib.Core.Path.{◌∙◌}
use mathlib.Core.List.{[], ◌∷◌}
use lib.ListN.{length}
use Rattle.exchange.specs.Steps.{verdict}
use Rattle.lent.specs.Lent.{lent_call}
use Rattle.boundary.proofs.castulfrisa_verdict.Goals as goal

pub returns : goal.returns
returns c =
    let a = c.args in
    c.verdict.ensures ∙ (λ i. lent_call a.ex.now a.room.now (verdict (c.is_yes-a.ensures i) (c.is_yes-b.ensures i) (length a.k_out.now)) (a.k_out.now ∷ []))
