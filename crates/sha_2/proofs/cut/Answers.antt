-- `sha_2::cut` meets its contract. Assumes nothing.
use mathlib.Core.Path.{◌≡◌, ◌∙◌}
use native.Mathlib.Omega.{arith}
use lib.ListN.{length, take}
use lib.Seq.{length-take-le}
use Rattle.limits.specs.Limits.{h_size}
use Rattle.sha_words.proofs.SizedLaws.{laid_sized}
use borrow.Author.Rules.{rules}
use Rattle.sha_2.proofs.cut.Goals as goal

pub returns : goal.returns
returns c =
    let v = c.args.value in
    let n = c.args.n in
    let l : length v ≡ h_size = search rules in
    c.in_zeros.ensures ∙ laid_sized h_size (take n v) (omega (arith, c.requires, length-take-le n v (omega (arith, c.requires))))
