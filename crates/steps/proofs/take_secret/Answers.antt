-- `steps::take_secret` meets its contract. Assumes nothing.
use borrow.Author.Rules.{rules}
use Prim.Native.Nat.{ℕ}
use mathlib.Core.Path.{refl, ap, ◌∙◌}
use mathlib.Core.List.{List, []}
use lib.ListN.{get_or, drop}
use Rattle.exchange.specs.Steps.{secret, secret_answered, count_of, second_of, position_of}
use Rattle.exchange.proofs.StepLaws.{handed_refused}
use Rattle.lent.specs.Lent.{tells}
use Rattle.by_value.proofs.ValueLaws.{Sized, value_long, value_step, value_told, second_none}
use Rattle.steps.proofs.take_secret.Goals.{Start}
use Rattle.steps.proofs.take_secret.Goals as goal

sizes : (c : Start) → Sized c.args.e
sizes c = (search rules, search rules, search rules)

pub returns-in_default : goal.returns-in_default
unfolding secret_answered
returns-in_default c =
    let a = c.args in
    let e = a.e in
    let r = a.room.now in
    let q = secret a.cl a.x.now a.kem a.k_pq.now a.ks.now a.s.now in
    let v = value_long e r q c.in_default.ensures in
    let w = c.not_due-step.ensures ∙ v.0 in
    let h = handed_refused e r q v.2 in
    ((λ i. record { step = w i; h = h i }), v.1)

pub returns : goal.returns
unfolding tells count_of second_of position_of secret_answered
returns c =
    let a = c.args in
    let e = a.e in
    let r = a.room.now in
    let q = secret a.cl a.x.now a.kem a.k_pq.now a.ks.now a.s.now in
    let l = c.in-Some.ensures in
    let z = sizes (goal.at.returns c).Start in
    let v = value_step e r q _ l z [] _ _ _ _ _ c.take_secret-n.ensures _ _ _ (λ w. (ap (λ (n : List ℕ). get_or n 0 0) w.told_is, second_none e r q refl)) refl in
    let w = c.answer-step.ensures ∙ v.0 in
    let h = ap (λ (n : List ℕ). drop 1 n) (value_told e r q _ l z [] _ _ _ _ _ c.take_secret-n.ensures) in
    ((λ i. record { step = w i; h = h i }), v.1)
