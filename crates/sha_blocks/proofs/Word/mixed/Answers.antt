-- `sha_blocks::Word::mixed` meets its contract. Assumes nothing.
use Rattle.std.proofs.Common.{◌-◌, arith}
use Rattle.sha_words.specs.Blocks.{mixed}
use Rattle.sha_blocks.proofs.WordLaws.{number_at}
use Rattle.sha_blocks.proofs.Word.mixed.Goals as goal

pub returns : goal.returns
unfolding mixed
returns g c =
    let n = g.Self.Word.number in
    let m = c.args.m.now in
    let t = c.args.t in
    let w2 = number_at n m (t - 2) _ (omega arith) c.index-m-t.is in
    let w7 = number_at n m (t - 7) _ (omega arith) c.index-m-t-2.is in
    let w15 = number_at n m (t - 15) _ (omega arith) c.index-m-t-3.is in
    let w16 = number_at n m (t - 16) _ (omega arith) c.index-m-t-4.is in
    cc
