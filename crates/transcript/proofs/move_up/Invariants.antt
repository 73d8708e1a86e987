use Prim.Native.Nat.{◌≤◌}
use mathlib.Core.Path.{◌≡◌}
use lib.ListN.{length}
use Rattle.transcript.proofs.FieldLaws.{shifted}
use Rattle.transcript.proofs.move_up.Given as goal

abbrev pub invariant-loop-left : goal.invariant-loop-left
invariant-loop-left l = (l.left ≤ l.len) × (l.room ≡ shifted l.initial.room l.at l.len l.by l.left) × (length l.room ≡ length l.initial.room)

abbrev pub decreases-loop-left : goal.decreases-loop-left
decreases-loop-left l = l.left
