-- `kexinit::open_list` meets its contract. Assumes nothing.
use mathlib.Core.Path.{refl, sym, ap, ◌∙◌}
use native.Mathlib.Omega.{arith}
use Rattle.std.specs.Prelude.{Err}
use Rattle.std.proofs.lemmas.Result.{err_from_is_err_and}
use Rattle.limits.specs.Limits.{list_count}
use Rattle.limits.proofs.RangeLaws.{within_least}
use Rattle.limits.proofs.RefusalLaws.{number_some}
use Rattle.kexinit.specs.Reader.{Head, kexinit_cause, opened_told}
use Rattle.kexinit.proofs.ReaderLaws.{head_other, head_number, open_other, open_good, open_refused, open_found}
use Rattle.kexinit.proofs.open_list.Goals as goal

pub returns-then-not-in_range : goal.returns-then-not-in_range
returns-then-not-in_range c =
    let p = c.args.payload.now in
    open_refused p c.args.n _ 4 (open_other p c.args.n (sym c.in_range.ensures ∙ c.if-not-in_range.true)) (λ e. omega arith) (head_other 4 p (λ e. omega arith) refl)

pub returns-in_err-fixed : goal.returns-in_err-fixed
returns-in_err-fixed c =
    let p = c.args.payload.now in
    let r = err_from_is_err_and c.from_residual.result c.from_residual.ensures.1 in
    let g = open_good p c.args.n (sym c.in_range.ensures ∙ c.if-not-in_range.false) in
    let q = c.in_err-fixed.ensures in
    let m = ap (λ (x : Head). x.number) q ∙ head_number (kexinit_cause p) p in
    ap opened_told (r.1 ∙ ap Err r.2)
    ∙ open_refused p c.args.n _ (kexinit_cause p) g (λ e. number_some c.in_err-fixed.field-0.0.cause (m ∙ e)) q

pub overflow_sub-n : goal.overflow_sub-n
overflow_sub-n c =
    let l = within_least 1 list_count c.args.n (sym c.in_range.ensures ∙ c.if-not-in_range.false) in
    omega arith

pub returns : goal.returns
returns c =
    let p = c.args.payload.now in
    let g = open_good p c.args.n (sym c.in_range.ensures ∙ c.if-not-in_range.false) in
    let q = c.in_ok-fixed.ensures in
    let m = ap (λ (x : Head). x.number) q ∙ head_number (kexinit_cause p) p in
    open_found p c.args.n _ _ (g ∙ sym m) q c.list_cursor-cursor.ensures
