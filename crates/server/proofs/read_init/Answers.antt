-- `server::read_init` meets its contract. Assumes nothing.
use borrow.Author.Rules.{rules}
use mathlib.Core.Path.{refl, ◌∙◌}
use Rattle.exchange.specs.Steps.{init, count_of, second_of, position_of}
use Rattle.lent.proofs.AsStep.{init_size}
use Rattle.by_value.proofs.ValueLaws.{Sized, value_long, value_read}
use Rattle.server.proofs.read_init.Goals.{Start}
use Rattle.server.proofs.read_init.Goals as goal

sizes : (c : Start) → Sized c.args.e
sizes c = (search rules, search rules, search rules)

pub returns-in_default : goal.returns-in_default
returns-in_default c =
    let a = c.args in
    let e = a.e in
    let r = a.room.now in
    let q = init a.payload.now in
    let v = value_long e r q c.in_default.ensures in
    (c.not_due.ensures ∙ v.0, v.1)

pub returns : goal.returns
unfolding count_of second_of position_of
returns c =
    let a = c.args in
    let e = a.e in
    let r = a.room.now in
    let q = init a.payload.now in
    let v = value_read e r q _ c.in-Some.ensures (sizes (goal.at.returns c).Start) _ _ _ _ _ _ c.read_init-n.ensures (init_size e r a.payload.now) refl refl refl in
    (c.answer.ensures ∙ v.0, v.1)
