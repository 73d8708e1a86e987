-- `steps::start` meets its contract. Assumes nothing.
use mathlib.Core.Path.{◌∙◌}
use Rattle.by_value.proofs.ValueLaws.{start_value}
use Rattle.steps.proofs.start.Goals as goal

pub returns : goal.returns
returns c =
    let a = c.args in
    let v = start_value a.role a.method a.vc.now a.vs.now a.ic.now a.is.now a.room.now _ _ _ c.start-n.ensures in
    (c.answer.ensures ∙ v.0, v.1)
