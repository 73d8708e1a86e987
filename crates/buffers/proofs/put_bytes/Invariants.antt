use Prim.Native.Nat.{ℕ, ◌+◌, ◌-◌, ◌≤◌}
use mathlib.Core.Path.{◌≡◌}
use mathlib.Core.List.{List}
use lib.ListN.{length}
use lib.Seq.{paste}
use Rattle.buffers.proofs.put_bytes.Given as goal

abbrev pub invariant-loop-i : goal.invariant-loop-i
invariant-loop-i l = (l.i ≤ length l.src) × (l.at + length l.src ≤ length l.initial.out) × (l.out ≡ paste l.initial.out l.at l.src l.i) × (length l.out ≡ length l.initial.out)

abbrev pub decreases-loop-i : goal.decreases-loop-i
decreases-loop-i l = length l.src - l.i

abbrev pub invariant-loop-i-2 : goal.invariant-loop-i-2
invariant-loop-i-2 l =
    (l.i ≤ length l.src)
    × (l.at + length l.src ≤ length l.initial.out)
    × ((d : List ℕ) → l.at + length l.src ≤ length d → l.initial.out ≡ paste d l.at l.src l.initial.i → l.out ≡ paste d l.at l.src l.i)
    × (length l.out ≡ length l.initial.out)

abbrev pub decreases-loop-i-2 : goal.decreases-loop-i-2
decreases-loop-i-2 l = length l.src - l.i
