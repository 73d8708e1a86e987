-- `sha_2::absorb` meets its contract. Assumes nothing.
use Prim.Native.Nat.{◌-◌}
use mathlib.Core.Path.{sym}
use native.Mathlib.Omega.{arith}
use mathlib.Core.List.{◌++◌}
use lib.ListN.{length, length-append}
use Rattle.sha_words.specs.Constants.{width_of}
use Rattle.sha_words.proofs.PaddingLaws.{sizes_of_lem}
use Rattle.sha_words.proofs.ValueLaws.{value_after_short}
use Rattle.sha_2.proofs.CodeLaws.{absorbed}
use Rattle.sha_2.proofs.absorb.Goals as goal

pub returns-then-part-cut : goal.returns-then-part-cut
returns-then-part-cut c =
    let a = c.args in
    sym (value_after_short (width_of a.kind) _ (a.before.now ++ a.part.now) (omega (arith, c.block_of-size.ensures, length-append a.before.now a.part.now)))

pub returns : goal.returns
returns c =
    let a = c.args in
    absorbed (width_of a.kind) a.value a.before.now a.part.now c.joined-first.result c.blocks-x.result _
    c.block_of-size.result (c.block_of-size.result - length a.before.now) (sizes_of_lem a.kind) c.block_of-size.ensures
    (omega (arith, c.block_of-size.ensures)) (omega arith) c.joined-first.ensures c.blocks-x.ensures c.blocks-2.ensures
