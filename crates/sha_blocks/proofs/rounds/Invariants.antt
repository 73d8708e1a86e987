use Rattle.std.proofs.Common.{◌≡◌, map}
use Rattle.sha_words.specs.Blocks.{rounds_of}
use Rattle.sha_blocks.specs.Variables.{working}
use Rattle.sha_blocks.proofs.rounds.Given as goal

abbrev pub invariant-loop-t : goal.invariant-loop-t
invariant-loop-t g l =
    let n = g.W.Word.number in working n l.x ≡ rounds_of g.W.Word.width (map n l.words) (working n l.initial.x) l.t
