use Prim.Native.Nat.{◌≤◌, ◌<◌}
use mathlib.Core.Path.{◌≡◌}
use lib.ListN.{length}
use Rattle.limits.specs.Limits.{h_size}
use Rattle.keys.proofs.CodeLaws.{Laid}
use Rattle.keys.proofs.lay_key.Given as goal

abbrev pub invariant-loop-at : goal.invariant-loop-at
invariant-loop-at l = Laid l.kind l.kh l.rest l.out l.at × (length l.out ≡ length l.fn.out) × (0 < l.kind) × (l.kind ≤ h_size)
