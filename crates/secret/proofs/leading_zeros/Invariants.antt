use Prim.Native.Nat.{◌+◌, ◌≤◌}
use mathlib.Core.Path.{◌≡◌}
use lib.ListN.{length}
use Rattle.buffers.specs.Bytes.{Bytes}
use Rattle.secret.specs.Secret.{leading_zeros}
use Rattle.secret.proofs.leading_zeros.Given as goal

abbrev pub invariant-loop-word : goal.invariant-loop-word
invariant-loop-word l = (length l.rest ≤ length l.x) × (leading_zeros l.x + length l.rest ≡ leading_zeros l.rest + length l.x) × Bytes l.rest

abbrev pub decreases-loop-word : goal.decreases-loop-word
decreases-loop-word l = length l.rest
