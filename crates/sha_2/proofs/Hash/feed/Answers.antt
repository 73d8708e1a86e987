-- `sha_2::Hash::feed` meets its contract. Assumes nothing.
use mathlib.Core.Path.{◌≡◌, sym, ap, ◌∙◌}
use native.Mathlib.Omega.{arith}
use lib.ListN.{length, take}
use lib.Seq.{length-take-le}
use Rattle.limits.specs.Limits.{block_most}
use Rattle.sha_2.specs.declared.Hash.{Hash}
use Rattle.sha_2.proofs.StateLaws.{Fitting, fitting, fed_unfit, fed_long, fed_taken, taken_none, taken_some}
use borrow.Author.Rules.{rules}
use borrow.Author.Tests.{eqb-true}
use Rattle.std.proofs.lemmas.Bool.Decides.{nat_tests}
use Rattle.sha_2.proofs.Hash.feed.Goals.{Else-not-fits}
use Rattle.sha_2.proofs.Hash.feed.Goals as goal

-- past the first test
fitted : (c : Else-not-fits) → Fitting c.args.self.now
fitted c = fitting c.args.self.now (sym c.fits.ensures ∙ c.if-not-fits.false)

pub returns-then-not-fits : goal.returns-then-not-fits
returns-then-not-fits c =
    let a = c.args in
    fed_unfit a.self.now a.part.now (sym c.fits.ensures ∙ c.if-not-fits.true)

pub overflow_sub-total : goal.overflow_sub-total
overflow_sub-total c = (fitted (goal.at.overflow_sub-total c).Else-not-fits).total

pub returns-then-total-part : goal.returns-then-total-part
returns-then-total-part c =
    let a = c.args in
    fed_long a.self.now a.part.now (sym c.fits.ensures ∙ c.if-not-fits.false) (omega (arith, fitted (goal.at.returns-then-total-part c).Else-not-fits))

pub returns-then-is_empty : goal.returns-then-is_empty
returns-then-is_empty c =
    let a = c.args in
    ap (λ (h : Hash). record { number = 0; hash = h }) (taken_none a.self.now a.part.now (eqb-true _ _ (sym c.is_empty.ensures ∙ c.if-is_empty.true)))
    ∙ fed_taken a.self.now a.part.now (sym c.fits.ensures ∙ c.if-not-fits.false) (omega (arith, fitted (goal.at.returns-then-is_empty c).Else-not-fits))

pub waiting-requires : goal.waiting-requires
waiting-requires c = omega (arith, fitted (goal.at.waiting-requires c).Else-not-fits)

pub grow-requires : goal.grow-requires
grow-requires c =
    let s = c.args.self.now in
    let l : length s.tail ≡ block_most = search rules in
    let h : Fitting s = fitted (goal.at.grow-requires c).Else-not-fits in
    let n : length (take s.held s.tail) ≡ s.held = length-take-le s.held s.tail (omega arith) in
    record { waits = c.waiting.ensures; less = rw c.waiting.ensures (rw n h.less); sum = omega arith }

pub returns : goal.returns
returns c =
    let a = c.args in
    ap (λ (h : Hash). record { number = 0; hash = h }) (c.grow.ensures ∙ taken_some a.self.now a.part.now (grind (arith, nat_tests)))
    ∙ fed_taken a.self.now a.part.now (sym c.fits.ensures ∙ c.if-not-fits.false) (omega (arith, fitted (goal.at.returns c).Else-not-fits))
