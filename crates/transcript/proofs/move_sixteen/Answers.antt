-- `transcript::move_sixteen` meets its contract. Assumes nothing.
use Rattle.transcript.proofs.FieldLaws.{moved_sixteen}
use Rattle.transcript.proofs.move_sixteen.Goals as goal

pub returns : goal.returns
returns c =
    let a = c.args in
    moved_sixteen a.room.now _ _ a.from a.to c.requires.0 c.requires.1 c.put_eight.ensures c.put_eight-2.ensures
