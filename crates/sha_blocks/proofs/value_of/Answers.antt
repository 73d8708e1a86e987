-- `sha_blocks::value_of` meets its contract. Assumes nothing.
use Rattle.std.proofs.Common.{◌∙◌, sym, arith}
use Rattle.sha_words.specs.Message.{value_of}
use Rattle.sha_blocks.proofs.WordLaws.{eight_laid}
use Rattle.sha_blocks.proofs.value_of.Goals as goal

pub returns : goal.returns
unfolding value_of
returns g c =
    let w = g.met.W.Word in
    eight_laid c.BYTES-n.result _ _ _ _ _ _ _ _ _ _ _ _ _ _ _ _ _ (w.bytes ∙ sym c.BYTES-n.ensures) (omega arith) c.put.ensures c.put-2.ensures c.put-3.ensures c.put-4.ensures c.put-5.ensures c.put-6.ensures c.put-7.ensures c.put-8.ensures
