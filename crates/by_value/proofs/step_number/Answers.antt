-- `by_value::step_number` meets its contract. Assumes nothing.
use borrow.Author.Rules.{rules}
use mathlib.Core.Path.{◌∙◌}
use Rattle.by_value.proofs.ValueLaws.{Sized, number_long, number_value}
use Rattle.by_value.proofs.step_number.Goals.{Start}
use Rattle.by_value.proofs.step_number.Goals as goal

sizes : (c : Start) → Sized c.args.e
sizes c = (search rules, search rules, search rules)

pub returns-in_default : goal.returns-in_default
returns-in_default c =
    let a = c.args in
    c.number.ensures ∙ number_long a.n a.e a.room a.fed c.in_default.ensures

pub returns : goal.returns
returns c =
    let a = c.args in
    number_value a.n a.e a.room a.fed _ c.in-Some.ensures (sizes (goal.at.returns c).Start) _ c.step_number.ensures.0
