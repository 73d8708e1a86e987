use mathlib.Core.Path.{◌≡◌}
use lib.ListN.{length}
use Rattle.names.specs.Cursor.{ahead}
use Rattle.common.specs.Common.{common_part}
use Rattle.common.proofs.CommonLaws.{names_from}
use Rattle.common.proofs.common_name.Given as goal

abbrev pub invariant-loop-n : goal.invariant-loop-n
invariant-loop-n l =
    common_part l.at.at (names_from l.client l.at) (names_from l.server l.s) ≡ common_part l.initial.at.at (names_from l.client l.initial.at) (names_from l.server l.s)

abbrev pub decreases-loop-n : goal.decreases-loop-n
decreases-loop-n l = length (ahead l.client l.at)
