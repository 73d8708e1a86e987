-- `parts::reply_string` meets its contract. Assumes nothing.
use lib.ListN.{length}
use Rattle.wire.proofs.PartLaws.{part_read}
use Rattle.parts.proofs.StepPartLaws.{step_part_within}
use Rattle.exchange.specs.Steps.{reply, step_part}
use Rattle.parts.proofs.reply_string.Goals as goal

pub returns : goal.returns
returns c =
    let a = c.args in
    let p = a.payload.now in
    part_read (length p) p a.payload c.part_of.result c.reply_part.result (step_part a.e a.room.now (reply p) p a.i) c.reply_part.ensures (step_part_within a.e a.room.now (reply p) p a.i) c.part_of.ensures
