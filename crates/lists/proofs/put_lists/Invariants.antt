use Prim.Native.Nat.{◌+◌, ◌≤◌}
use mathlib.Core.Path.{◌≡◌}
use lib.ListN.{length}
use Rattle.buffers.specs.Bytes.{laid}
use Rattle.lists.proofs.PutLaws.{left}
use Rattle.lists.proofs.put_lists.Given as goal

abbrev pub invariant-loop-to : goal.invariant-loop-to
invariant-loop-to l =
    (l.at + length (left l.lists l.ends l.from l.to-index) ≤ length l.out)
    × (laid l.out l.at (left l.lists l.ends l.from l.to-index) ≡ laid l.initial.out 17 (left l.lists l.ends 0 0))
    × (length l.out ≡ length l.initial.out)
