use Rattle.std.proofs.Common.{◌≡◌, take, map}
use Rattle.sha_words.specs.Blocks.{schedule}
use Rattle.sha_blocks.proofs.schedule.Given as goal

abbrev pub invariant-loop-i : goal.invariant-loop-i
invariant-loop-i g l = take l.i (map g.W.Word.number l.m) ≡ schedule g.W.Word.width l.b l.i

abbrev pub invariant-loop-t : goal.invariant-loop-t
invariant-loop-t g l = take l.t (map g.W.Word.number l.m) ≡ schedule g.W.Word.width l.b l.t
