-- `client::own_c` meets its contract. Assumes nothing.
use borrow.Author.Rules.{rules}
use Prim.Native.Nat.{ℕ}
use mathlib.Core.Path.{refl, ap, ◌∙◌}
use mathlib.Core.List.{List, [], ◌∷◌}
use lib.ListN.{length, get_or}
use Rattle.exchange.specs.Steps.{own_c, count_of, second_of, position_of}
use Rattle.exchange.proofs.StepLaws.{output_refused}
use Rattle.messages.specs.Messages.{init_bytes}
use Rattle.lent.specs.Lent.{tells}
use Rattle.by_value.proofs.ValueLaws.{Sized, value_long, value_step, second_none}
use Rattle.client.proofs.own_c.Goals.{Start}
use Rattle.client.proofs.own_c.Goals as goal

sizes : (c : Start) → Sized c.args.e
sizes c = (search rules, search rules, search rules)

pub returns-in_default : goal.returns-in_default
returns-in_default c =
    let a = c.args in
    let e = a.e in
    let r = a.room.now in
    let q = own_c a.c.now (length a.out.now) in
    let v = value_long e r q c.in_default.ensures in
    (c.not_due.ensures ∙ v.0, v.1, output_refused _ a.out.now (init_bytes a.c.now) v.2)

pub returns : goal.returns
unfolding tells count_of second_of position_of
returns c =
    let a = c.args in
    let e = a.e in
    let r = a.room.now in
    let q = own_c a.c.now (length a.out.now) in
    let v = value_step e r q _ c.in-Some.ensures (sizes (goal.at.returns c).Start) (a.out.now ∷ []) _ _ _ _ _ c.own_c-n.ensures _ _ _ (λ w. (ap (λ (l : List ℕ). get_or l 0 0) w.told_is, second_none e r q refl)) refl in
    (c.answer.ensures ∙ v.0, v.1, ap (λ (l : List (List ℕ)). get_or l 0 []) v.2)
