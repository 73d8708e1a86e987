-- `sha_blocks::next` meets its contract. Assumes nothing.
use Rattle.std.proofs.Common.{sym, ap, ◌∙◌}
use Rattle.sha_words.specs.Blocks.{schedule, rounds_of}
use Rattle.sha_words.proofs.BlockLaws.{next_of}
use Rattle.sha_blocks.specs.Variables.{working, listed}
use Rattle.sha_blocks.proofs.next.Goals as goal

pub returns : goal.returns
returns g c =
    let p = g.W.Word.width in
    let n = g.W.Word.number in
    let s = listed n c.args.h in
    let r = sym g.met.W.Word.rounds in
    next_of p s c.args.b.now _ _ (working n c.rounds-v.result) (c.schedule.ensures ∙ ap (schedule p c.args.b.now) r)
    (c.rounds-v.ensures ∙ ap (rounds_of p _ (working n c.args.h)) r) c.sums.ensures
