-- `buffers::put_array` meets its contract. Assumes nothing.
use mathlib.Core.Path.{sym, ◌∙◌}
use native.Mathlib.Omega.{arith}
use Rattle.buffers.proofs.ByteLaws.{laid_fits, laid_kept, over_set}
use Rattle.buffers.proofs.put_array.Goals.{else-at-out-via-then-at-out+else-out-at, else-at-out-via-else-at-out}
use Rattle.buffers.proofs.put_array.Goals as goal

pub returns-then-out-at : goal.returns-then-out-at
returns-then-out-at g c =
    let a = c.args in
    over_set a.out.now a.at _ _ a.bytes _ (omega arith) (omega arith) (omega arith) c.set_array.ensures
    ∙ sym (laid_fits a.out.now a.at a.bytes (omega arith))

pub returns-else-at-out : goal.returns-else-at-out
returns-else-at-out g c =
    let a = c.args in
    sym (laid_kept a.out.now a.at a.bytes (elim c.else-at-out.branch [ else-at-out-via-then-at-out+else-out-at w ↦ omega arith | else-at-out-via-else-at-out w ↦ omega arith ]))
