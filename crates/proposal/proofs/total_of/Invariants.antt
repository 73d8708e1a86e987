use Rattle.std.proofs.Common.{◌≡◌, ◌≤◌, drop}
use Rattle.limits.specs.Limits.{kexinit_most}
use Rattle.proposal.specs.Total.{bodies, total}
use Rattle.proposal.proofs.total_of.Given as goal

abbrev pub invariant-loop-list : goal.invariant-loop-list
invariant-loop-list l = (l.total ≤ kexinit_most) × (total l.total (bodies (drop l.list-index l.lists)) ≡ total 22 (bodies l.lists))
