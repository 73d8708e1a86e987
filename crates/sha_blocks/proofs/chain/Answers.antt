-- `sha_blocks::chain` meets its contract. Assumes nothing.
use Rattle.std.proofs.Common.{◌≡◌, ◌*◌, ◌<◌, ℕ, List, sym, ap, ◌∙◌, arith}
use Rattle.std.specs.Slice.Iter.{chunks_exact_rest, chunks_exact_size}
use Rattle.std.specs.declared.slice.ChunksExact.{ChunksExact}
use Rattle.sha_words.specs.Blocks.{after}
use Rattle.sha_words.proofs.ChainLaws.{after_short}
use Rattle.sha_blocks.specs.Variables.{listed}
use Rattle.sha_blocks.proofs.WordLaws.{one_more}
use Rattle.sha_blocks.proofs.chain.Goals as goal

pub loop-block-init : goal.loop-block-init
loop-block-init g c =
    let p = g.W.Word.width in
    let s = listed g.W.Word.number c.args.h in
    let e = c.into_iter-block-iterator.ensures.into_iter_gives in
    let k : 16 * c.BYTES.result ≡ p.block = omega (arith, c.BYTES.ensures, g.met.W.Word.block) in
    record {
      size = ap (λ (t : ChunksExact ℕ). chunks_exact_size t) e ∙ c.chunks_exact-block-items.ensures.size ∙ k;
      rest = ap (λ (t : ChunksExact ℕ). after p s (chunks_exact_rest t)) e ∙ ap (after p s) c.chunks_exact-block-items.ensures.rest;
    }

pub loop-block-preserved : goal.loop-block-preserved
loop-block-preserved g c =
    let p = g.W.Word.width in
    let i = c.loop-block.invariant in
    let t = c.in-Some.ensures.steps in
    let pos : 0 < p.block = omega (arith, g.met.W.Word.block, g.met.W.Word.block_least) in
    record {
      size = t.0 ∙ i.size;
      rest = ap (λ (s : List ℕ). after p s (chunks_exact_rest c.next.new.self)) c.next-x.ensures
          ∙ sym (one_more p (listed g.W.Word.number c.loop-block.x) c.in-Some.block.now _ _ pos (t.1.1 ∙ i.size) t.1.0) ∙ i.rest;
    }

pub returns : goal.returns
returns g c =
    let i = c.loop-block.invariant in
    let t = c.in-None.ensures.steps in
    sym (after_short g.W.Word.width (listed g.W.Word.number c.loop-block.x) (chunks_exact_rest c.loop-block.block-iterator) (omega (arith, t.1.0, i.size))) ∙ i.rest
