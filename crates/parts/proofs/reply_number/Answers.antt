-- `parts::reply_number` meets its contract. Assumes nothing.
use mathlib.Core.Path.{◌∙◌}
use Rattle.exchange.proofs.StepLaws.{reply_number}
use Rattle.parts.proofs.reply_number.Goals as goal

pub returns : goal.returns
returns c =
    let a = c.args in
    reply_number a.e a.room.now a.payload.now _ _ c.step_number.ensures (c.number_told-fed.ensures ∙ c.reply_cause.ensures)
