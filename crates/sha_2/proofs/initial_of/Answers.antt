-- `sha_2::initial_of` meets its contract. Assumes nothing.
use native.Mathlib.Omega.{arith}
use Rattle.std.proofs.Common.{◌≢◌}
use borrow.Author.Tests.{ne_eqb}
use Rattle.sha_words.specs.Constants.{H256, H384, H512}
use Rattle.sha_words.specs.Message.{sized, value_of}
use Rattle.sha_2.specs.Hash.{initial_value}
use Rattle.sha_2.proofs.initial_of.Goals as goal

pub returns-in-32 : goal.returns-in-32
unfolding initial_value value_of sized H256
returns-in-32 c = rw c.in-32.is

pub returns-in-48 : goal.returns-in-48
unfolding initial_value value_of sized H384
returns-in-48 c = rw c.in-48.is

pub returns-in-64 : goal.returns-in-64
unfolding initial_value value_of sized H512
returns-in-64 c = rw c.in-64.is

pub returns-in_default : goal.returns-in_default
unfolding initial_value
returns-in_default c =
    let k = c.args.kind in
    let a : k ≢ 32 = omega arith in
    let b : k ≢ 48 = omega arith in
    let d : k ≢ 64 = omega arith in
    rw (ne_eqb k 32 a, ne_eqb k 48 b, ne_eqb k 64 d)
