-- `sha_blocks::blocks` meets its contract. Assumes nothing.
use Rattle.std.proofs.Common.{ℕ, List, sym, ap, ◌∙◌, arith}
use Rattle.sha_words.specs.Blocks.{after}
use Rattle.sha_words.specs.Message.{value_of}
use Rattle.sha_words.proofs.ValueLaws.{value_after_short, value_after_whole}
use Rattle.sha_blocks.proofs.blocks.Goals as goal

pub returns : goal.returns
returns g c =
    let p = g.W.Word.width in
    let m = c.args.m.now in
    c.value_of.ensures ∙ ap (value_of p) (c.chain.ensures ∙ ap (λ (t : List ℕ). after p t m) c.words_in.ensures)
    ∙ sym (value_after_whole p _ m (omega (arith, g.met.W.Word.block)))

pub returns-then-m-BYTES : goal.returns-then-m-BYTES
returns-then-m-BYTES g c = sym (value_after_short g.W.Word.width _ _ (omega (arith, g.met.W.Word.block)))
