-- `wire::string_body` meets its contract. Assumes nothing.
use Rattle.wire.proofs.PartLaws.{part_read}
use Rattle.wire.proofs.StringLaws.{read_within, parts_found}
use Rattle.wire.proofs.string_body.Goals as goal

pub returns : goal.returns
returns c =
    let s = c.args.s in
    let f = parts_found s.now _ _ c.unwrap_or_default.ensures c.read_string.ensures in
    part_read _ s.now s c.part_of.result _ _ f.0 (read_within s.now).0 c.part_of.ensures
