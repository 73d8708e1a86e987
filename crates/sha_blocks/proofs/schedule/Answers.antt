-- `sha_blocks::schedule` meets its contract. Assumes nothing.
use Rattle.std.proofs.Common.{◌≡◌, ◌*◌, ℕ, sym, ap, ◌∙◌, arith, map, take}
use Rattle.std.proofs.lemmas.List.{map-set, length-map}
use Rattle.sha_words.specs.Blocks.{word_at}
use Rattle.sha_words.proofs.BlockLaws.{schedule_none, word_first, word_mixed}
use Rattle.sha_blocks.proofs.schedule.Goals as goal

pub loop-i-init : goal.loop-i-init
loop-i-init g c = schedule_none _ _

pub loop-i-preserved : goal.loop-i-preserved
loop-i-preserved g c =
    let n = g.W.Word.number in
    let p = g.W.Word.width in
    let m = c.loop-i.m in
    let k : c.BYTES.result ≡ p.bytes = c.BYTES.ensures ∙ sym g.met.W.Word.bytes in
    ap (take _) (map-set n m c.loop-i.i c.read.result)
    ∙ word_first p c.args.b.now (map n m) c.loop-i.i _ (omega (arith, length-map m n, g.met.W.Word.rounds_least)) (omega arith) c.loop-i.invariant
    (c.read.ensures ∙ ap (λ (k : ℕ). word_at c.args.b.now (k * c.loop-i.i) p.bytes) k)

pub loop-t-preserved : goal.loop-t-preserved
loop-t-preserved g c =
    let n = g.W.Word.number in
    let m = c.loop-t.m in
    ap (take _) (map-set n m c.loop-t.t c.mixed.result)
    ∙ word_mixed g.W.Word.width c.args.b.now (map n m) c.loop-t.t _ (omega (arith, length-map m n)) (omega arith) c.loop-t.invariant c.mixed.ensures
