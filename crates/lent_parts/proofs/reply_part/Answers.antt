-- `lent_parts::reply_part` meets its contract. Assumes nothing.
use mathlib.Core.Path.{refl}
use mathlib.Core.List.{[]}
use Rattle.exchange.specs.Steps.{reply, fed_cause}
use Rattle.lent.proofs.LentLaws.{number_lent}
use Rattle.lent_parts.proofs.PartLaws.{part_told}
use Rattle.lent_parts.proofs.reply_part.Goals as goal

pub returns : goal.returns
unfolding fed_cause
returns c =
    let a = c.args in
    let b = a.ex.now in
    let r = a.room.now in
    let p = a.payload.now in
    let q = reply p in
    let m = number_lent b r q [] _ _ _ _ c.told_part.ensures.0 refl c.byte_in.ensures c.reply_cause-cause.ensures in
    (m, part_told b r q p a.i _ m _ c.told_part.ensures.1)
