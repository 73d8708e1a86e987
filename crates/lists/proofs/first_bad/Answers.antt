-- `lists::first_bad` meets its contract. Assumes nothing.
use mathlib.Core.Path.{sym, ◌∙◌}
use native.Mathlib.Omega.{arith}
use Rattle.lists.proofs.ListsLaws.{bad_here, bad_on, bad_none}
use Rattle.lists.proofs.first_bad.Goals as goal

pub returns-then-not-good_at : goal.returns-then-not-good_at
returns-then-not-good_at c =
    let l = c.args.lists.now in
    let e = c.args.ends.now in
    sym (bad_here l e c.loop-i.at c.loop-i.i (omega arith) (sym c.good_at.ensures ∙ c.if-not-good_at.true)) ∙ c.loop-i.invariant

pub loop-i-preserved : goal.loop-i-preserved
loop-i-preserved c =
    let l = c.args.lists.now in
    let e = c.args.ends.now in
    sym (bad_on l e c.loop-i.at c.loop-i.i (omega arith) (sym c.good_at.ensures ∙ c.if-not-good_at.false)) ∙ c.loop-i.invariant

pub returns : goal.returns
returns c =
    let l = c.args.lists.now in
    let e = c.args.ends.now in
    sym (bad_none l e c.loop-i.at c.loop-i.i (omega arith)) ∙ c.loop-i.invariant
