use Rattle.limits.specs.Limits.{list_count}
use Prim.Native.Nat.{◌-◌}
use mathlib.Core.Path.{◌≡◌}
use Rattle.lists.specs.Lists.{bad_at, first_bad}
use Rattle.lists.proofs.first_bad.Given as goal

abbrev pub invariant-loop-i : goal.invariant-loop-i
invariant-loop-i l = bad_at l.lists l.ends l.at l.i (list_count - l.i) ≡ first_bad l.lists l.ends
