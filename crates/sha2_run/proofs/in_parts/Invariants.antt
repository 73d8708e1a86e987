-- Every part takes one byte or more.
use Rattle.std.proofs.Common.{length, ◌≤◌, ◌+◌}
use Rattle.sha2_run.proofs.in_parts.Given as goal

abbrev pub invariant-loop-rest : goal.invariant-loop-rest
invariant-loop-rest g l = (1 ≤ l.k) × (l.k + length l.rest ≤ length l.m + 1)

abbrev pub decreases-loop-rest : goal.decreases-loop-rest
decreases-loop-rest g l = length l.rest
