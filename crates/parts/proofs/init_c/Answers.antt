-- `parts::init_c` meets its contract. Assumes nothing.
use lib.ListN.{length}
use Rattle.wire.proofs.PartLaws.{part_read}
use Rattle.parts.proofs.StepPartLaws.{step_part_within}
use Rattle.exchange.specs.Steps.{init, step_part}
use Rattle.parts.proofs.init_c.Goals as goal

pub returns : goal.returns
returns c =
    let a = c.args in
    let p = a.payload.now in
    part_read (length p) p a.payload c.part_of.result c.init_part.result (step_part a.e a.room.now (init p) p 0) c.init_part.ensures (step_part_within a.e a.room.now (init p) p 0) c.part_of.ensures
