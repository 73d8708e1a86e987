-- `steps::again` meets its contract. Assumes nothing.
use borrow.Author.Rules.{rules}
use mathlib.Core.Path.{◌∙◌}
use Rattle.by_value.proofs.ValueLaws.{Sized, again_long, again_value}
use Rattle.steps.proofs.again.Goals.{Start}
use Rattle.steps.proofs.again.Goals as goal

sizes : (c : Start) → Sized c.args.e
sizes c = (search rules, search rules, search rules)

pub returns-in_default : goal.returns-in_default
returns-in_default c =
    let v = again_long c.args.e c.args.room.now c.args.method c.args.ic.now c.args.is.now c.in_default.ensures in
    (c.not_due.ensures ∙ v.0, v.1)

pub returns : goal.returns
returns c =
    let v = again_value c.args.e c.args.room.now c.args.method c.args.ic.now c.args.is.now _ c.in-Some.ensures (sizes (goal.at.returns c).Start) _ _ _ c.again-n.ensures in
    (c.answer.ensures ∙ v.0, v.1)
