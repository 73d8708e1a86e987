use Rattle.std.proofs.Common.{◌≡◌}
use Rattle.std.specs.Slice.Iter.{chunks_exact_rest, chunks_exact_size}
use Rattle.sha_words.specs.Blocks.{after}
use Rattle.sha_blocks.specs.Variables.{listed}
use Rattle.sha_blocks.proofs.chain.Given as goal

-- the blocks that are left, from the value so far on, are all from the first on
abbrev pub invariant-loop-block : goal.invariant-loop-block
invariant-loop-block g l =
    let p = g.W.Word.width in
    let n = g.W.Word.number in record {
      size : chunks_exact_size l.block-iterator ≡ p.block;
      rest : after p (listed n l.x) (chunks_exact_rest l.block-iterator) ≡ after p (listed n l.fn.h) l.m;
    }
