-- `sha_2::Hash::finish` meets its contract. Assumes nothing.
use Prim.Native.Nat.{ℕ}
use mathlib.Core.Path.{◌≡◌, sym, ap, ◌∙◌}
use native.Mathlib.Omega.{arith}
use mathlib.Core.Bool.{true}
use mathlib.Core.List.{List, ◌++◌}
use lib.ListN.{length, take}
use lib.Seq.{length-take-le}
use Rattle.limits.specs.Limits.{h_size, block_most}
use Rattle.sha_words.specs.Constants.{width_of}
use Rattle.sha_words.specs.Message.{padding, sized, value_after}
use Rattle.sha_words.proofs.PaddingLaws.{sizes_of_lem}
use Rattle.sha_words.proofs.DigestLaws.{kind_most}
use Rattle.sha_2.specs.Hash.{fits}
use Rattle.sha_2.proofs.StateLaws.{Fitting, fitting, finished_unfit, finished_fit}
use borrow.Author.Rules.{rules}
use Rattle.sha_2.proofs.Hash.finish.Goals.{Else-not-fits}
use Rattle.sha_2.proofs.Hash.finish.Goals as goal

-- past the first test
fit : (c : Else-not-fits) → fits c.args.self.now ≡ true
fit c = sym c.fits.ensures ∙ c.if-not-fits.false

pub returns-then-not-fits : goal.returns-then-not-fits
returns-then-not-fits c = finished_unfit c.args.self.now (sym c.fits.ensures ∙ c.if-not-fits.true)

pub waiting-requires : goal.waiting-requires
waiting-requires c = omega (arith, fitting c.args.self.now (fit (goal.at.waiting-requires c).Else-not-fits))

pub last-v-requires : goal.last-v-requires
last-v-requires c =
    let s = c.args.self.now in
    let l : length s.tail ≡ block_most = search rules in
    let f : Fitting s = fitting s (fit (goal.at.last-v-requires c).Else-not-fits) in
    record { waits = ap (length {A = ℕ}) c.waiting.ensures ∙ length-take-le s.held s.tail (omega arith) ∙ f.held; most = f.total }

pub cut-requires : goal.cut-requires
cut-requires c =
    let s = c.args.self.now in
    omega (arith, kind_most s.kind (fitting s (fit (goal.at.cut-requires c).Else-not-fits)).kind, (sizes_of_lem s.kind).eight)

pub returns : goal.returns
returns c =
    let s = c.args.self.now in
    let p = width_of s.kind in
    ap (λ (l : List ℕ). record { number = 0; bytes = l })
    (c.cut.ensures ∙ ap (λ (l : List ℕ). sized h_size (take s.kind l))
    (c.last-v.ensures ∙ ap (λ (l : List ℕ). value_after p s.value (l ++ padding p s.total)) c.waiting.ensures))
    ∙ sym (finished_fit s (fit (goal.at.returns c).Else-not-fits))
