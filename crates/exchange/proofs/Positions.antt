-- Demand 2 for the position, where INIT and REPLY are read: an answer tells where its payload breaks. Assumes nothing.
use Prim.Native.Nat.{ℕ, ◌≤◌, ◌<◌}
use mathlib.Core.Path.{◌≡◌, refl, sym, ap, ◌∙◌}
use mathlib.Core.List.{List}
use mathlib.Core.Bool.{Bool, true, false, cond}
use native.Mathlib.Omega.{arith}
use lib.ListN.{length}
use lib.Dec.{eqb}
use borrow.Author.Tests.{le-ltb}
use Rattle.limits.specs.Limits.{payload_most, room_least}
use Rattle.buffers.specs.Bytes.{Bytes}
use Rattle.wire.specs.Causes.{cause_if, cause_unless, or_else}
use Rattle.messages.specs.Payload.{message_cause}
use Rattle.wire.proofs.CauseLaws.{if_fails, unless_holds, or_else_first}
use Rattle.messages.specs.Position.{position, CutAt, LeftOverAt, PositionTold}
use Rattle.messages.specs.Messages.{init_layout, reply_layout}
use Rattle.messages.proofs.PayloadLaws.{passed}
use Rattle.messages.proofs.PositionLaws.{position_some}
use Rattle.messages.proofs.CutLaws.{init_ordered, reply_ordered, cut_found, left_over_found, position_told}
use Rattle.exchange.specs.Causes.{init_cause, reply_cause}
use Rattle.exchange.specs.Record.{due}
use Rattle.exchange.specs.Steps.{Call, init, reply, step_no, fed_cause, step_number, number, position_of, answered}
use Rattle.exchange.specs.declared.Exchange.{Exchange}

-- 12 and 13 are the payload's: no cause ahead of it or behind it has these numbers
module _ (k : ℕ) (low : 11 < k) (high : k < 14) where
  if_other : (t : Bool) (n rest : ℕ) → ¬ (n ≡ k) → cause_if t n rest ≡ k → rest ≡ k
  unfolding cause_if
  if_other true n rest h e = absurd (h e)
  if_other false n rest h e = e

  first_is : (a b : ℕ) → ¬ (b ≡ k) → or_else a b ≡ k → a ≡ k
  unfolding or_else
  first_is a b h e = by_test (eqb a 0) e
    where
      by_test : (t : Bool) → cond t b a ≡ k → a ≡ k
      by_test true e = absurd (h e)
      by_test false e = e

  -- of a field's length or lead byte
  of_field : (s t : Bool) → ¬ (cause_unless s 14 (cause_unless t 15 0) ≡ k)
  of_field s t e =
      let z = (passed t 15 0 k (λ x. omega arith) (passed s 14 _ k (λ x. omega arith) e).1).1 in
      omega arith

  module _ (e : Exchange) (room : List ℕ) where
    fed_is : (q : Call) → number e room q ≡ k → fed_cause e.role e.method q ≡ k
    unfolding number step_number
    fed_is q h = if_other _ 3 _ (λ x. omega arith) (passed _ 1 _ k (λ x. omega arith) h).1

    pub init_broken : (p : List ℕ) → number e room (init p) ≡ k → message_cause init_layout p ≡ k
    unfolding fed_cause init_cause
    init_broken p h = first_is (message_cause init_layout p) _ (of_field _ _) (fed_is (init p) h)

    pub reply_broken : (p : List ℕ) → number e room (reply p) ≡ k → message_cause reply_layout p ≡ k
    unfolding fed_cause reply_cause
    reply_broken p h = first_is (message_cause reply_layout p) _ (of_field _ _) (fed_is (reply p) h)

module _ (e : Exchange) (room p : List ℕ) (y : Bytes p) where
  pub init_told : PositionTold init_layout p (answered e room (init p)).number (answered e room (init p)).position
  unfolding answered position_of
  init_told =
      position_told init_layout init_ordered p y (number e room (init p))
      (λ a b. init_broken (number e room (init p)) a b e room p refl)

  pub reply_told : PositionTold reply_layout p (answered e room (reply p)).number (answered e room (reply p)).position
  unfolding answered position_of
  reply_told =
      position_told reply_layout reply_ordered p y (number e room (reply p))
      (λ a b. reply_broken (number e room (reply p)) a b e room p refl)

-- ---- and the other way round: where a step is due and the room is long enough, a payload that breaks is answered so

module _ (e : Exchange) (room : List ℕ) (r : room_least ≤ length room) where
  fed_there : (q : Call) → due (step_no q) e ≡ true → number e room q ≡ fed_cause e.role e.method q
  unfolding number step_number
  fed_there q d = unless_holds _ 1 _ d ∙ if_fails _ 3 _ (le-ltb (length room) room_least r)

  module _ (p : List ℕ) where
    init_so : (k : ℕ) → ¬ (k ≡ 0) → due 2 e ≡ true → message_cause init_layout p ≡ k → ((answered e room (init p)).number ≡ k) × ((answered e room (init p)).position ≡ position k init_layout p)
    unfolding answered position_of fed_cause init_cause
    init_so k z d f = let n = fed_there (init p) d ∙ or_else_first _ _ (λ x. z (sym f ∙ x)) ∙ f in (n, ap (λ (m : ℕ). position m init_layout p) n)

    reply_so : (k : ℕ) → ¬ (k ≡ 0) → due 3 e ≡ true → message_cause reply_layout p ≡ k → ((answered e room (reply p)).number ≡ k) × ((answered e room (reply p)).position ≡ position k reply_layout p)
    unfolding answered position_of fed_cause reply_cause
    reply_so k z d f = let n = fed_there (reply p) d ∙ or_else_first _ _ (λ x. z (sym f ∙ x)) ∙ f in (n, ap (λ (m : ℕ). position m reply_layout p) n)

    module _ (y : Bytes p) (at : ℕ) (h : length p ≤ payload_most) where
      pub init_cut : due 2 e ≡ true → CutAt init_layout p at → ((answered e room (init p)).number ≡ 12) × ((answered e room (init p)).position ≡ at)
      init_cut d c =
          let f = cut_found init_layout init_ordered p at y h c in
          let s = init_so 12 (λ z. omega arith) d f.0 in
          (s.0, s.1 ∙ sym (position_some init_layout p 12 refl) ∙ f.1)

      pub reply_cut : due 3 e ≡ true → CutAt reply_layout p at → ((answered e room (reply p)).number ≡ 12) × ((answered e room (reply p)).position ≡ at)
      reply_cut d c =
          let f = cut_found reply_layout reply_ordered p at y h c in
          let s = reply_so 12 (λ z. omega arith) d f.0 in
          (s.0, s.1 ∙ sym (position_some reply_layout p 12 refl) ∙ f.1)

      pub init_over : due 2 e ≡ true → LeftOverAt init_layout p at → ((answered e room (init p)).number ≡ 13) × ((answered e room (init p)).position ≡ at)
      init_over d c =
          let f = left_over_found init_layout init_ordered p at y h c in
          let s = init_so 13 (λ z. omega arith) d f.0 in
          (s.0, s.1 ∙ sym (position_some init_layout p 13 refl) ∙ f.1)

      pub reply_over : due 3 e ≡ true → LeftOverAt reply_layout p at → ((answered e room (reply p)).number ≡ 13) × ((answered e room (reply p)).position ≡ at)
      reply_over d c =
          let f = left_over_found reply_layout reply_ordered p at y h c in
          let s = reply_so 13 (λ z. omega arith) d f.0 in
          (s.0, s.1 ∙ sym (position_some reply_layout p 13 refl) ∙ f.1)
