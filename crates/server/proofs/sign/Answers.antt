-- `server::sign` meets its contract. Assumes nothing.
use borrow.Author.Rules.{rules}
use Prim.Native.Nat.{ℕ}
use mathlib.Core.Path.{refl, ap, ◌∙◌}
use mathlib.Core.List.{List, [], ◌∷◌}
use lib.ListN.{length, get_or}
use Rattle.exchange.specs.Steps.{sign, reply_of, count_of, second_of, position_of}
use Rattle.exchange.proofs.StepLaws.{output_refused}
use Rattle.lent.specs.Lent.{tells}
use Rattle.by_value.proofs.ValueLaws.{Sized, value_long, value_step}
use Rattle.server.proofs.sign.Goals.{Start}
use Rattle.server.proofs.sign.Goals as goal

sizes : (c : Start) → Sized c.args.e
sizes c = (search rules, search rules, search rules)

pub returns-in_default : goal.returns-in_default
returns-in_default c =
    let a = c.args in
    let e = a.e in
    let r = a.room.now in
    let q = sign a.signature.now (length a.out.now) (length a.k_out.now) in
    let v = value_long e r q c.in_default.ensures in
    (c.not_due.ensures ∙ v.0, output_refused _ a.out.now (reply_of e r a.signature.now) v.2, output_refused _ a.k_out.now e.k v.2)

pub returns : goal.returns
unfolding tells count_of second_of position_of
returns c =
    let a = c.args in
    let e = a.e in
    let r = a.room.now in
    let q = sign a.signature.now (length a.out.now) (length a.k_out.now) in
    let v = value_step e r q _ c.in-Some.ensures (sizes (goal.at.returns c).Start) (a.out.now ∷ a.k_out.now ∷ []) _ _ _ _ _ c.sign-n.ensures _ _ _ (λ w. (ap (λ (l : List ℕ). get_or l 0 0) w.told_is, ap (λ (l : List ℕ). get_or l 1 0) w.told_is)) refl in
    (c.answer.ensures ∙ v.0, ap (λ (l : List (List ℕ)). get_or l 0 []) v.2, ap (λ (l : List (List ℕ)). get_or l 1 []) v.2)
