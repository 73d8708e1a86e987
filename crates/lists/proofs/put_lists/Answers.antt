-- `lists::put_lists` meets its contract. Assumes nothing.
use mathlib.Core.Path.{sym, ap, ◌∙◌}
use native.Mathlib.Omega.{arith}
use Prim.Native.Nat.{◌+◌}
use lib.ListN.{length, get_or}
use Rattle.buffers.specs.Bytes.{laid}
use Rattle.lists.proofs.PutLaws.{left, left_length, left_laid, left_none, left_done}
use Rattle.lists.proofs.put_lists.Goals as goal

pub put_list-at-requires : goal.put_list-at-requires
put_list-at-requires c =
    let l = c.loop-to in
    let n = left_length c.args.lists.now c.args.ends.now l.from l.to-index _ (omega arith) c.list_at.ensures in
    omega arith

pub loop-to-preserved : goal.loop-to-preserved
loop-to-preserved c =
    let l = c.loop-to in
    let s = c.args.lists.now in
    let e = c.args.ends.now in
    let n = left_length s e l.from l.to-index _ (omega arith) c.list_at.ensures in
    let q = c.put_list-at.ensures in
    let m = ap length q.1 in (
      omega arith,
      ap (λ a. laid c.put_list-at.new.out a (left s e (get_or e l.to-index 0) (l.to-index + 1))) q.0 ∙ left_laid s e l.from l.to-index _ l.out _ l.at (omega arith) c.list_at.ensures q.1 (omega arith) ∙ l.invariant.1,
      omega arith,
    )

pub returns : goal.returns
returns c =
    let l = c.loop-to in
    let e = ap length (left_none c.args.lists.now c.args.ends.now l.from l.to-index (omega arith)) in
    sym (left_done l.out l.at (left c.args.lists.now c.args.ends.now l.from l.to-index) e (omega arith)) ∙ l.invariant.1
