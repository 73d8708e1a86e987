-- `derive::derive` meets its contract. Assumes nothing.
use borrow.Author.Rules.{rules}
use Rattle.by_value.proofs.ValueLaws.{Sized}
use Rattle.derive.proofs.ValueLaws.{derive_long, derive_value}
use Rattle.derive.proofs.derive.Goals.{Start}
use Rattle.derive.proofs.derive.Goals as goal

sizes : (c : Start) → Sized c.args.e
sizes c = (search rules, search rules, search rules)

pub returns-in_default : goal.returns-in_default
returns-in_default c = let a = c.args in rw c.number.ensures (derive_long a.e a.letter a.len a.out.now c.in_default.ensures)

pub returns : goal.returns
returns c =
    let a = c.args in
    derive_value a.e a.letter a.len a.out.now _ c.in-Some.ensures (sizes (goal.at.returns c).Start) _ _ c.derive.ensures.0 c.derive.ensures.1
