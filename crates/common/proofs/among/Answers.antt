-- `common::among` meets its contract. Assumes nothing.
use Rattle.std.proofs.Common.{◌∙◌, sym, ap}
use Rattle.buffers.specs.Bytes.{same}
use Rattle.common.specs.Common.{has}
use Rattle.common.proofs.CommonLaws.{name_read, name_less, good_found, good_none, has_here, has_later}
use Rattle.common.proofs.among.Goals as goal

pub returns-then-equal : goal.returns-then-equal
returns-then-equal c =
    let s = c.args.server.now in
    let n = c.args.name.now in
    let f = good_found s c.loop-m.to _ c.in-Some.ensures in
    let e = sym (c.equal.ensures ∙ ap (same n) (c.part_of.ensures.0 ∙ name_read s c.loop-m.to _ f)) in
    sym (has_here n s c.loop-m.to _ f (e ∙ c.if-equal.true)) ∙ c.loop-m.invariant

pub loop-m-smaller : goal.loop-m-smaller
loop-m-smaller c =
    let s = c.args.server.now in
    name_less s c.loop-m.to _ (good_found s c.loop-m.to _ c.in-Some.ensures)

pub loop-m-preserved : goal.loop-m-preserved
loop-m-preserved c =
    let s = c.args.server.now in
    let n = c.args.name.now in
    let f = good_found s c.loop-m.to _ c.in-Some.ensures in
    let e = sym (c.equal.ensures ∙ ap (same n) (c.part_of.ensures.0 ∙ name_read s c.loop-m.to _ f)) in
    has_later n s c.loop-m.to _ f (e ∙ c.if-equal.false) ∙ c.loop-m.invariant

pub returns : goal.returns
returns c = sym (ap (has c.args.name.now) (good_none c.args.server.now c.loop-m.to c.in_default.ensures)) ∙ c.loop-m.invariant
