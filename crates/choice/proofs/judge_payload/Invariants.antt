use mathlib.Core.Path.{◌≡◌}
use Rattle.limits.specs.Every.{every}
use Rattle.choice.specs.Choice.{all_lists}
use Rattle.choice.proofs.ChoiceLaws.{list_good, lists_left}
use Rattle.choice.proofs.judge_payload.Given as goal

abbrev pub invariant-loop-i : goal.invariant-loop-i
invariant-loop-i l = every (list_good l.payload) (lists_left l.i) ≡ every (list_good l.payload) all_lists
