use mathlib.Core.Path.{◌≡◌}
use lib.ListN.{length}
use Rattle.names.specs.Cursor.{ahead, names_cause}
use Rattle.names.proofs.judge_names.Given as goal

abbrev pub invariant-loop-n : goal.invariant-loop-n
invariant-loop-n l = names_cause l.s l.at ≡ names_cause l.s l.initial.at

abbrev pub decreases-loop-n : goal.decreases-loop-n
decreases-loop-n l = length (ahead l.s l.at)
