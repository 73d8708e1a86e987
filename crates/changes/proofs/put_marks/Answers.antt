-- `changes::put_marks` meets its contract. Assumes nothing.
use native.Mathlib.Omega.{arith}
use mathlib.Core.List.{[], ◌∷◌}
use lib.Seq.{sets-eq}
use Rattle.limits.specs.Limits.{exchange_mark}
use Rattle.buffers.specs.Bytes.{over}
use Rattle.changes.proofs.put_marks.Goals as goal

pub returns : goal.returns
unfolding over
returns c = sets-eq (exchange_mark ∷ c.args.h.stage ∷ c.args.h.fail ∷ c.args.h.role ∷ c.args.h.method ∷ []) c.args.b.now 0 (omega (arith, c.requires))
