-- `choice::judge_payload` meets its contract. Assumes nothing.
use Prim.Native.Nat.{ℕ, suc, ◌-◌}
use mathlib.Core.Path.{◌≡◌, sym, ap, ◌∙◌}
use native.Mathlib.Omega.{arith}
use borrow.Author.Rules.{rules}
use Rattle.std.specs.Prelude.{Ok, Err}
use Rattle.std.proofs.lemmas.Result.{err_from_is_err_and}
use Rattle.limits.specs.Refusals.{number_of, told}
use Rattle.wire.specs.Strings.{string_part}
use Rattle.names.specs.Cursor.{cursor_of, names_cause}
use Rattle.limits.proofs.RefusalLaws.{number_some}
use Rattle.kexinit.specs.Reader.{Head, kexinit_cause, head_refused, head_told}
use Rattle.kexinit.proofs.ReaderLaws.{head_number}
use Rattle.choice.proofs.ChoiceLaws.{lists_bad, lists_good, lists_end, list_bad, list_fine, list_number, head_kept, head_bad, head_good}
use Rattle.choice.proofs.judge_payload.Goals.{After-judge_names}
use Rattle.choice.proofs.judge_payload.Goals as goal

-- what the names of the loop's list are judged
judged : (c : After-judge_names) → told c.judge_names.result ≡ names_cause c.args.payload.now (cursor_of (string_part c.args.payload.now 17 (suc c.loop-i.i - 1)))
judged c =
    let p = c.args.payload.now in
    let m : c.loop-i.i ≡ suc c.loop-i.i - 1 = omega arith in
    c.judge_names.ensures ∙ ap (names_cause p) (c.list_cursor-c.ensures ∙ ap (λ (k : ℕ). cursor_of (string_part p 17 k)) m)

pub returns-in_err-fixed : goal.returns-in_err-fixed
returns-in_err-fixed c =
    let p = c.args.payload.now in
    let r = err_from_is_err_and c.from_residual.result c.from_residual.ensures.1 in
    ap head_told (r.1 ∙ ap Err r.2) ∙ head_kept p _ c.in_err-fixed.ensures (number_some c.in_err-fixed.field-0.0.cause)

pub returns-in_err-map_err : goal.returns-in_err-map_err
returns-in_err-map_err c =
    let p = c.args.payload.now in
    let o = c.in_ok-fixed.ensures in
    let r = c.in_err-map_err.field-0.0 in
    let n = ap (λ (x : Head). x.number) o ∙ head_number (kexinit_cause p) p in
    let e : number_of r.cause ≡ told c.judge_names.result = search rules in
    let f = e ∙ judged (goal.at.returns-in_err-map_err c).After-judge_names in
    let b = list_bad p (suc c.loop-i.i) (λ z. number_some r.cause (f ∙ z)) in
    let k : number_of r.cause ≡ 19 = f ∙ list_number p (suc c.loop-i.i) b in
    let q : r.position ≡ 0 = search rules in
    let h = (λ i. head_refused (k i) (q i)) ∙ head_bad p (sym n) (sym c.loop-i.invariant ∙ lists_bad p c.loop-i.i (omega arith) b) in
    search (rules, h)

pub loop-i-preserved : goal.loop-i-preserved
loop-i-preserved c =
    let p = c.args.payload.now in
    let e : told c.judge_names.result ≡ 0 = search rules in
    lists_good p c.loop-i.i (omega arith) (list_fine p (suc c.loop-i.i) (sym (judged (goal.at.loop-i-preserved c).After-judge_names) ∙ e)) ∙ c.loop-i.invariant

pub returns : goal.returns
returns c =
    let p = c.args.payload.now in
    let o = c.in_ok-fixed.ensures in
    let n = ap (λ (x : Head). x.number) o ∙ head_number (kexinit_cause p) p in
    head_good p (head_told (Ok c.in_ok-fixed.fixed)) o (sym n) (sym c.loop-i.invariant ∙ lists_end p c.loop-i.i (omega arith))
