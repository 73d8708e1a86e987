-- `mpint::mpint_rest` meets its contract. Assumes nothing.
use Rattle.wire.proofs.PartLaws.{part_read}
use Rattle.mpint.proofs.MpintLaws.{mpint_within, parts_found}
use Rattle.mpint.proofs.mpint_rest.Goals as goal

pub returns : goal.returns
returns c =
    let s = c.args.s in
    let f = parts_found s.now _ _ c.unwrap_or_default.ensures c.read_mpint.ensures in
    part_read _ s.now s c.part_of.result _ _ f.1 (mpint_within s.now).1 c.part_of.ensures
