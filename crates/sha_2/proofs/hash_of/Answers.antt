-- `sha_2::hash_of` meets its contract. Assumes nothing.
use mathlib.Core.Path.{◌≡◌, sym, ap, ◌∙◌}
use Prim.Native.Nat.{ℕ, ◌+◌, ◌≤◌}
use native.Mathlib.Omega.{arith}
use mathlib.Core.Bool.{true, ◌&&◌, and-eq-true_iff}
use mathlib.Core.List.{List, ◌++◌}
use lib.ListN.{length, length-append}
use borrow.Author.Tests.{leb-true}
use Rattle.limits.specs.Limits.{hash_most}
use Rattle.sha_words.specs.Constants.{known, width_of}
use Rattle.sha_words.specs.Message.{padded, value_after}
use Rattle.sha_2.proofs.WholeLaws.{digested_refused, digested_of}
use Rattle.sha_2.proofs.hash_of.Goals.{Else-not-is_known-sum_fits}
use Rattle.sha_2.proofs.hash_of.Goals as goal

-- past the test
fit : (c : Else-not-is_known-sum_fits) → let a = c.args in (known a.kind ≡ true) × (length a.a.now + length a.b.now ≤ hash_most)
fit c =
    let a = c.args in
    let w = (and-eq-true_iff _ _).0 c.if-not-is_known-sum_fits.false in
    (sym c.is_known.ensures ∙ w.0, leb-true _ _ (sym c.sum_fits.ensures ∙ w.1))

pub returns-then-not-is_known-sum_fits : goal.returns-then-not-is_known-sum_fits
returns-then-not-is_known-sum_fits c =
    let a = c.args in
    digested_refused a.kind a.a.now a.b.now ((λ i. sym c.is_known.ensures i && sym c.sum_fits.ensures i) ∙ c.if-not-is_known-sum_fits.true)

pub returns : goal.returns
returns c =
    let past = (goal.at.returns c).Else-not-is_known-sum_fits in
    let a = c.args in
    let m = a.a.now ++ a.b.now in
    let p = width_of a.kind in
    ap (λ (t : List ℕ). record { number = 0; bytes = t }) c.cut.ensures
    ∙ digested_of a.kind m c.value_of_both-v.result (fit past).0 (omega (arith, length-append a.a.now a.b.now, (fit past).1))
    (c.value_of_both-v.ensures ∙ ap (λ (t : List ℕ). value_after p t (padded p m)) c.initial_of.ensures)
