-- `sha_blocks::rounds` meets its contract. Assumes nothing.
use Rattle.std.proofs.Common.{◌∙◌, arith}
use Rattle.sha_words.specs.Blocks.{round}
use Rattle.sha_words.proofs.BlockLaws.{rounds_none, round_done}
use Rattle.sha_blocks.specs.Variables.{working}
use Rattle.sha_blocks.proofs.WordLaws.{number_at}
use Rattle.sha_blocks.proofs.rounds.Goals as goal

pub loop-t-init : goal.loop-t-init
loop-t-init g c = rounds_none _ _ _

pub loop-t-preserved : goal.loop-t-preserved
loop-t-preserved g c =
    let n = g.W.Word.number in
    let w = number_at n c.args.words.now c.loop-t.t _ (omega arith) c.index-words-t.is in
    round_done g.W.Word.width _ _ _ _ c.loop-t.t c.loop-t.invariant
    (c.round-x.ensures ∙ (λ i. round g.W.Word.width (c.constant.ensures i) (w i) (working n c.loop-t.x)))
