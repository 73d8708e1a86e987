-- `names::judge_names` meets its contract. Assumes nothing.
use Rattle.std.proofs.Common.{◌∙◌, Ok, Err, length, sym, ap, refl, arith}
use Rattle.std.proofs.lemmas.Result.{err_from_is_err_and}
use Rattle.limits.specs.Refusals.{told}
use Rattle.names.specs.Next.{next_told}
use Rattle.names.proofs.CursorLaws.{found, stopped, judge_next}
use Rattle.names.proofs.judge_names.Goals as goal

pub returns-in_err-n : goal.returns-in_err-n
returns-in_err-n c =
    let p = err_from_is_err_and c.from_residual.result c.from_residual.ensures.1 in
    ap told (p.1 ∙ ap Err p.2) ∙ (stopped c.args.s.now c.loop-n.at _ c.in_err-n.ensures refl).0 ∙ c.loop-n.invariant

pub loop-n-smaller : goal.loop-n-smaller
loop-n-smaller c =
    let f = found c.args.s.now c.loop-n.at _ (ap (next_told c.loop-n.at) (sym (c.in_ok-n.was ∙ ap Ok c.in-Some.is)) ∙ c.next_name.ensures) refl in
    omega (arith, ap length f.was, ap length f.left)

pub loop-n-preserved : goal.loop-n-preserved
loop-n-preserved c =
    let f = found c.args.s.now c.loop-n.at _ (ap (next_told c.loop-n.at) (sym (c.in_ok-n.was ∙ ap Ok c.in-Some.is)) ∙ c.next_name.ensures) refl in
    judge_next c.args.s.now c.loop-n.at _ f ∙ c.loop-n.invariant

pub returns : goal.returns
returns c =
    let e = ap (next_told c.loop-n.at) (sym (c.in_ok-n.was ∙ ap Ok c.in_default.is)) ∙ c.next_name.ensures in
    (stopped c.args.s.now c.loop-n.at _ e refl).0 ∙ c.loop-n.invariant
