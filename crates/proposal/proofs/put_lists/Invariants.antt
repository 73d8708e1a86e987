use Rattle.std.proofs.Common.{◌≡◌, ◌+◌, length, drop}
use Rattle.wire.specs.Strings.{strings}
use Rattle.proposal.specs.Total.{bodies}
use Rattle.proposal.proofs.WriterLaws.{put}
use Rattle.proposal.proofs.put_lists.Given as goal

abbrev pub invariant-loop-list : goal.invariant-loop-list
invariant-loop-list l =
    (l.place + length (strings (bodies (drop l.list-index l.lists))) ≡ l.at + length (strings (bodies l.lists)))
    × (put l.out l.place (bodies (drop l.list-index l.lists)) ≡ put l.initial.out l.at (bodies l.lists))
    × (length l.out ≡ length l.initial.out)
