-- `lists::good_at` meets its contract. Assumes nothing.
use Rattle.std.proofs.Common.{◌∙◌}
use Rattle.lists.proofs.ListsLaws.{good_none, good_some}
use Rattle.lists.proofs.good_at.Goals as goal

pub returns-in-Some : goal.returns-in-Some
returns-in-Some c =
    let l = c.in-Some.ensures.lookup.0 in
    c.good_list.ensures ∙ good_some c.args.lists.now c.args.from c.args.to l.0 l.1 c.in-Some.list.now l.2

pub returns-in-None : goal.returns-in-None
returns-in-None c = good_none c.args.lists.now c.args.from c.args.to c.in-None.ensures.lookup.0
