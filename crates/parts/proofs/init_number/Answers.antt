-- `parts::init_number` meets its contract. Assumes nothing.
use mathlib.Core.Path.{◌∙◌}
use Rattle.exchange.proofs.StepLaws.{init_number}
use Rattle.parts.proofs.init_number.Goals as goal

pub returns : goal.returns
returns c =
    let a = c.args in
    init_number a.e a.room.now a.payload.now _ _ c.step_number.ensures (c.number_told-fed.ensures ∙ c.init_cause.ensures)
