-- `proposal::with_list` meets its contract. Assumes nothing.
use Rattle.std.proofs.Common.{◌+◌, ◌≡◌, ◌∙◌, length, ap, arith}
use Rattle.proposal.specs.Total.{some_total}
use Rattle.proposal.proofs.WriterLaws.{with_past, with_good, with_bad, total_within}
use Rattle.proposal.proofs.with_list.Goals.{else-next-le-KEXINIT_MOST-via-then-next-le-KEXINIT_MOST+else-good_list, else-next-le-KEXINIT_MOST-via-else-next-le-KEXINIT_MOST}
use Rattle.proposal.proofs.with_list.Goals as goal

pub returns-in_err-checked_add : goal.returns-in_err-checked_add
returns-in_err-checked_add c =
    let e = c.in_err-checked_add.ensures in
    c.from_residual.ensures ∙ ap some_total (with_past c.args.total c.args.list.now (omega arith))

pub returns-in_err-next : goal.returns-in_err-next
returns-in_err-next c =
    let e = c.in_err-next.ensures in
    let f = c.in_ok-checked_add.ensures in
    c.from_residual-in_err-next.ensures ∙ ap some_total (with_past c.args.total c.args.list.now (omega arith))

pub returns-then-good_list : goal.returns-then-good_list
returns-then-good_list c =
    let f = c.in_ok-checked_add.ensures in
    let n : c.in_ok-next.next ≡ c.args.total + 4 + length c.args.list.now = omega arith in
    total_within c.in_ok-next.next c.if-next-le-KEXINIT_MOST.true ∙ ap some_total (n ∙ with_good c.args.total c.args.list.now _ c.good_list.ensures c.if-good_list.true (omega arith))

pub returns-else-next-le-KEXINIT_MOST : goal.returns-else-next-le-KEXINIT_MOST
returns-else-next-le-KEXINIT_MOST c =
    let f = c.in_ok-checked_add.ensures in
    elim c.else-next-le-KEXINIT_MOST.branch [
      | else-next-le-KEXINIT_MOST-via-then-next-le-KEXINIT_MOST+else-good_list w ↦ ap some_total (with_bad c.args.total c.args.list.now _ w.good_list.ensures w.if-good_list.false)
      | else-next-le-KEXINIT_MOST-via-else-next-le-KEXINIT_MOST w ↦ ap some_total (with_past c.args.total c.args.list.now (omega arith))
    ]
