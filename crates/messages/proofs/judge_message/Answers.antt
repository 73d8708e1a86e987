-- `messages::judge_message` meets its contract. Assumes nothing.
use Prim.Native.Nat.{ℕ, ◌+◌, ◌<◌}
use mathlib.Core.Path.{◌≡◌, refl, sym, ◌∙◌}
use mathlib.Core.List.{List}
use mathlib.Core.Bool.{true, false}
use native.Mathlib.Omega.{arith}
use lib.ListN.{length, get_or}
use borrow.Author.Rules.{rules}
use Rattle.std.specs.Prelude.{Ok}
use Rattle.limits.specs.Range.{within}
use Rattle.limits.proofs.RangeLaws.{within_least, within_most}
use Rattle.wire.specs.Strings.{walk}
use Rattle.wire.specs.Told.{walk_told}
use Rattle.messages.specs.Payload.{strings_end, fields_fit, message_cause}
use Rattle.messages.specs.declared.Layout.{Layout}
use Rattle.messages.proofs.PayloadLaws.{walk_passed, fit_not_strings, fit_not_behind, fit_is, cause_size, cause_other, cause_cut, cause_more, cause_none, judged_refused, judged_good}
use Rattle.messages.proofs.judge_message.Goals.{In_ok-left}
use Rattle.messages.proofs.judge_message.Goals as goal

-- a field passes the end of a payload of the right size and message number
cut : (l : Layout) (p : List ℕ) → within 1 l.most (length p) ≡ true → get_or p 0 0 ≡ l.byte → fields_fit l p ≡ false → message_cause l p ≡ 12
cut l p s b = cause_cut l p (within_least 1 l.most (length p) s) (within_most 1 l.most (length p) s) b

-- where the strings end, and how many bytes are left behind them
passed : (k : In_ok-left) →
    let l = k.args.l in
    let p = k.args.payload.now in
    ((walk p l.first l.count).number ≡ 0) × (k.in_ok-place.place ≡ strings_end l p) × (strings_end l p + k.in_ok-left.left ≡ length p)
passed k =
    let e : walk_told (Ok k.in_ok-place.place) ≡ walk k.args.payload.now k.args.l.first k.args.l.count = search rules in
    let w = walk_passed k.args.l k.args.payload.now _ e in
    (w.0, w.1, search (rules, w.1))

pub returns-then-not-in_range : goal.returns-then-not-in_range
returns-then-not-in_range c =
    let l = c.args.l in
    let p = c.args.payload.now in
    judged_refused l p 10 (cause_size l p (sym c.in_range.ensures ∙ c.if-not-in_range.true)) refl

pub returns-then-payload-l : goal.returns-then-payload-l
returns-then-payload-l c =
    let l = c.args.l in
    let p = c.args.payload.now in
    let s = sym c.in_range.ensures ∙ c.if-not-in_range.false in
    judged_refused l p 11 (cause_other l p (within_least 1 l.most (length p) s) (within_most 1 l.most (length p) s) c.if-payload-l.true) refl

pub returns-in_err-place : goal.returns-in_err-place
returns-in_err-place c =
    let l = c.args.l in
    let p = c.args.payload.now in
    let s = sym c.in_range.ensures ∙ c.if-not-in_range.false in
    let w : ¬ ((walk p l.first l.count).number ≡ 0) = search rules in
    let j = judged_refused l p 12 (cut l p s c.if-payload-l.false (fit_not_strings l p w)) refl in
    search (rules, j)

pub returns-in_err-left : goal.returns-in_err-left
returns-in_err-left c =
    let l = c.args.l in
    let p = c.args.payload.now in
    let s = sym c.in_range.ensures ∙ c.if-not-in_range.false in
    let h : length p < strings_end l p = search rules in
    let j = judged_refused l p 12 (cut l p s c.if-payload-l.false (fit_not_behind l p (omega (arith, h)))) refl in
    search (rules, j)

pub returns-then-left-l : goal.returns-then-left-l
returns-then-left-l c =
    let l = c.args.l in
    let p = c.args.payload.now in
    let s = sym c.in_range.ensures ∙ c.if-not-in_range.false in
    let w = passed (goal.at.returns-then-left-l c).In_ok-left in
    judged_refused l p 12 (cut l p s c.if-payload-l.false (fit_not_behind l p (omega (arith, w)))) refl

pub returns-then-l-left : goal.returns-then-l-left
returns-then-l-left c =
    let l = c.args.l in
    let p = c.args.payload.now in
    let s = sym c.in_range.ensures ∙ c.if-not-in_range.false in
    let w = passed (goal.at.returns-then-l-left c).In_ok-left in
    judged_refused l p 13 (cause_more l p (within_least 1 l.most (length p) s) (within_most 1 l.most (length p) s) c.if-payload-l.false (fit_is l p w.0 (omega (arith, w))) (omega (arith, w))) refl

pub returns : goal.returns
returns c =
    let l = c.args.l in
    let p = c.args.payload.now in
    let s = sym c.in_range.ensures ∙ c.if-not-in_range.false in
    let w = passed (goal.at.returns c).In_ok-left in
    judged_good l p _ w.1 (cause_none l p (within_least 1 l.most (length p) s) (within_most 1 l.most (length p) s) c.if-payload-l.false (fit_is l p w.0 (omega (arith, w))) (omega (arith, w)))
