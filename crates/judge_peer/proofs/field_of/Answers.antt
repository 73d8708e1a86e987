-- `judge_peer::field_of` meets its contract. Assumes nothing.
use Rattle.judge_peer.proofs.PeerLaws.{field_read}
use Rattle.judge_peer.proofs.field_of.Goals as goal

pub returns : goal.returns
returns c = field_read c.args.payload.now c.args.i _ _ c.string_part.ensures c.part_of.ensures.0
