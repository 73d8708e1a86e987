use mathlib.Core.Path.{◌≡◌}
use lib.ListN.{length}
use Rattle.names.specs.Cursor.{ahead}
use Rattle.common.specs.Common.{has}
use Rattle.common.proofs.CommonLaws.{names_from}
use Rattle.common.proofs.among.Given as goal

abbrev pub invariant-loop-m : goal.invariant-loop-m
invariant-loop-m l = has l.name (names_from l.server l.to) ≡ has l.name (names_from l.server l.initial.to)

abbrev pub decreases-loop-m : goal.decreases-loop-m
decreases-loop-m l = length (ahead l.server l.to)
