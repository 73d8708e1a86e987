use mathlib.Core.Path.{◌≡◌}
use lib.ListN.{length}
use Rattle.mpint.specs.Mpint.{shortest}
use Rattle.mpint.proofs.shortened.Given as goal

abbrev pub invariant-loop-rest : goal.invariant-loop-rest
invariant-loop-rest l = shortest l.rest ≡ shortest l.bytes

abbrev pub decreases-loop-rest : goal.decreases-loop-rest
decreases-loop-rest l = length l.rest
