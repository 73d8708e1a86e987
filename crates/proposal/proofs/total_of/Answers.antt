-- `proposal::total_of` meets its contract. Assumes nothing.
use Rattle.std.proofs.Common.{ℕ, ◌+◌, ◌∙◌, drop, sym, ap, arith}
use Rattle.proposal.specs.Total.{bodies, total, some_total}
use Rattle.proposal.proofs.WriterLaws.{bodies_left, bodies_done, total_past, total_none, total_some, total_above, total_within}
use Rattle.proposal.proofs.total_of.Goals as goal

pub returns-in_err-total : goal.returns-in_err-total
returns-in_err-total c =
    let s = c.args.lists.now in
    let l = c.loop-list in
    let b = bodies_left s l.list-index (omega arith) in
    let p = total_past _ (bodies (drop (l.list-index + 1) s)) (total_none _ c.in_err-total.ensures) in
    c.from_residual.ensures ∙ total_above _ (omega (arith, p, ap (total l.total) b, l.invariant.1))

pub loop-list-preserved : goal.loop-list-preserved
loop-list-preserved c =
    let s = c.args.lists.now in
    let l = c.loop-list in
    let b = bodies_left s l.list-index (omega arith) in
    let w = total_some _ _ c.in_ok-total.ensures in
    (omega (arith, w.0, w.1), ap (λ (t : ℕ). total t (bodies (drop (l.list-index + 1) s))) w.0 ∙ sym (ap (total l.total) b) ∙ l.invariant.1)

pub returns : goal.returns
returns c =
    let s = c.args.lists.now in
    let l = c.loop-list in
    total_within l.total l.invariant.0 ∙ ap some_total (sym (ap (total l.total) (bodies_done s l.list-index (omega arith))) ∙ l.invariant.1)
