use mathlib.Core.Path.{◌≡◌}
use lib.ListN.{length}
use Rattle.names.specs.Cursor.{ahead}
use Rattle.common.specs.Common.{any, has, method_in}
use Rattle.common.proofs.CommonLaws.{names_from}
use Rattle.common.proofs.common_method.Given as goal

abbrev pub invariant-loop-m : goal.invariant-loop-m
invariant-loop-m l = has l.name (names_from l.server l.to) ≡ has l.name (names_from l.server l.s)

abbrev pub decreases-loop-m : goal.decreases-loop-m
decreases-loop-m l = length (ahead l.server l.to)

abbrev pub invariant-search : goal.invariant-search
invariant-search l =
    method_in any (names_from l.client l.at) (names_from l.server l.s) ≡ method_in any (names_from l.client l.initial.at) (names_from l.server l.s)

abbrev pub decreases-search : goal.decreases-search
decreases-search l = length (ahead l.client l.at)
