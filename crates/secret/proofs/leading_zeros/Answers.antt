-- `secret::leading_zeros` meets its contract. Assumes nothing.
use Prim.Native.Nat.{◌+◌}
use mathlib.Core.Path.{ap}
use native.Mathlib.Omega.{arith}
use lib.ListN.{length, get_or, length-drop}
use lib.Seq.{get_or-drop}
use Rattle.std.proofs.lemmas.Iterator.{YieldsList-from_slice}
use Rattle.std.proofs.lemmas.Iterator.Search.{position_from_yields_List}
use Rattle.std.proofs.Common.{rules}
use lib.Dec.{eqb}
use mathlib.Core.Bool.{not}
use Rattle.secret.specs.Secret.{leading_zeros}
use Rattle.secret.proofs.WordLaws.{some_word_first, zero_word_first, zeros_found}
use Rattle.secret.proofs.leading_zeros.Goals as goal

pub returns-then-word-ne0 : goal.returns-then-word-ne0
returns-then-word-ne0 c =
    let s = c.loop-word.rest.now in
    let e = c.in-Some.ensures in
    let z = some_word_first s c.in-Some.word e.0 e.1 c.loop-word.invariant.2 c.if-word-ne0.true in
    let r = c.loop-word.invariant.1 in
    let l = c.loop-word.invariant.0 in
    omega arith

pub loop-word-preserved : goal.loop-word-preserved
loop-word-preserved c =
    let s = c.loop-word.rest.now in
    let t = c.in-Some.behind.now in
    let e = c.in-Some.ensures in
    let z = zero_word_first s c.in-Some.word e.0 e.1 c.if-word-ne0.false in
    let d = ap length e.2 in
    let r = length-drop 8 s in
    let k = ap leading_zeros e.2 in
    let l = c.loop-word.invariant.0 in
    let i = c.loop-word.invariant.1 in (
      omega arith,
      omega arith,
      λ j. let b = ap (λ m. get_or m j 0) e.2 in let g = get_or-drop 8 s j 0 in let n = c.loop-word.invariant.2 (8 + j) in omega arith,
    )

pub returns : goal.returns
returns c =
    let s = c.loop-word.rest.now in
    let p = position_from_yields_List (λ b. not (eqb b 0)) _ _ c.position.result c.position.ensures.ran (YieldsList-from_slice s c.iter.ensures.rest) (λ x b q k. search rules) in
    let z = zeros_found s c.position.result p in
    let u = c.unwrap_or.ensures in
    let l = c.loop-word.invariant.0 in
    let i = c.loop-word.invariant.1 in
    omega arith
