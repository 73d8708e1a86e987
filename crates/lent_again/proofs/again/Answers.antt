-- `lent_again::again` meets its contract. Assumes nothing.
use mathlib.Core.Path.{sym}
use mathlib.Core.Path.{◌∙◌, ap, refl}
use Rattle.limits.proofs.RefusalLaws.{number_some}
use Rattle.exchange.specs.Causes.{again_cause}
use lib.ListN.{length}
use Rattle.lent_again.proofs.AgainLaws.{again_unripe, again_refused, ripe, proposals_laid, bytes_begun, again_accepted}
use Rattle.lent_again.proofs.again.Goals as goal

pub returns-then-not-is_complete : goal.returns-then-not-is_complete
returns-then-not-is_complete c = rw c.number.ensures (again_unripe c.args.ex.now c.args.room.now c.args.method c.args.ic.now c.args.is.now (sym c.is_complete.ensures.0 ∙ c.if-not-is_complete.true))

pub returns-in-Err : goal.returns-in-Err
returns-in-Err c =
    let a = c.args in
    let n = c.in-Err.ensures ∙ ap (again_cause a.method a.ic.now a.is.now (length a.room.now)) c.count_in.ensures.0 in
    rw c.number-in-Err.ensures (again_refused a.ex.now a.room.now a.method a.ic.now a.is.now (sym c.is_complete.ensures.0 ∙ c.if-not-is_complete.false) _ n (number_some c.in-Err.e))

pub returns : goal.returns
returns c =
    let a = c.args in
    let n = c.in_default.ensures ∙ ap (again_cause a.method a.ic.now a.is.now (length a.room.now)) c.count_in.ensures.0 in
    let h = sym c.is_complete.ensures.0 ∙ c.if-not-is_complete.false in
    let o = ripe c.args.ex.now c.args.room.now c.args.method c.args.ic.now c.args.is.now h _ n (c.is_complete.ensures.1 (sym refl ∙ c.if-not-is_complete.false)) refl in
    again_accepted c.args.ex.now c.args.room.now c.args.method c.args.ic.now c.args.is.now o _ _
    (bytes_begun c.args.ex.now c.args.room.now c.args.method c.args.ic.now c.args.is.now o _ _ _ c.lengths_in-l.ensures.0 c.byte_in-role.ensures c.make.ensures)
    (proposals_laid c.args.ex.now c.args.room.now c.args.method c.args.ic.now c.args.is.now o _ _ _ _ _ c.lengths_in-l.ensures.0 c.field_size.ensures c.field_size-2.ensures c.add_sizes-at.ensures c.put_proposals.ensures)
