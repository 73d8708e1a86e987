-- Laws of `specs/Payload.antt`: a law for each answer, and what a caller knows by the number. Assumes nothing.
use Prim.Native.Nat.{ℕ, ◌+◌, ◌≤◌, ◌<◌}
use mathlib.Core.Path.{◌≡◌, refl, sym, ap, ◌∙◌}
use mathlib.Core.List.{List}
use mathlib.Core.Bool.{Bool, true, false}
use native.Mathlib.Omega.{arith}
use lib.ListN.{length, get_or}
use lib.Dec.{ltb, leb, eqb}
use borrow.Author.Tests.{le-leb, lt-leb, leb-true, lt-ltb, le-ltb, ltb-true, ltb-false, eq-eqb, ne_eqb, eqb-true}
use Rattle.std.specs.Prelude.{Result, Ok, Err}
use Rattle.limits.specs.Range.{within}
use Rattle.limits.specs.Refusals.{told}
use Rattle.limits.specs.declared.Refusal.{Refusal}
use Rattle.limits.proofs.BoolLaws.{and_true, and_false}
use Rattle.limits.proofs.RangeLaws.{within_is, within_least, within_most}
use Rattle.wire.specs.Causes.{cause_if, cause_unless}
use Rattle.wire.specs.Strings.{Walk, walk}
use Rattle.wire.proofs.CauseLaws.{if_holds, if_fails, unless_holds, unless_fails, if_none}
use Rattle.messages.specs.Payload.{strings_end, fields_fit, message_cause, judged, judged_told}
use Rattle.messages.specs.declared.Layout.{Layout}
use Rattle.messages.specs.Payload.{Judged}

-- a cause with another number was not met
pub passed : (t : Bool) (n rest m : ℕ) → ¬ (n ≡ m) → cause_unless t n rest ≡ m → (t ≡ true) × (rest ≡ m)
unfolding cause_unless
passed true n rest m h e = (refl, e)
passed false n rest m h e = absurd (h e)

cut_only : (f t : Bool) → cause_unless f 12 (cause_if t 13 0) ≡ 12 → f ≡ false
unfolding cause_unless cause_if
cut_only false t e = refl
cut_only true true e = let w : ⊥ = omega arith in absurd w
cut_only true false e = let w : ⊥ = omega arith in absurd w

more_only : (t : Bool) → cause_if t 13 0 ≡ 13 → t ≡ true
unfolding cause_if
more_only true e = refl
more_only false e = let w : ⊥ = omega arith in absurd w

module _ (l : Layout) (p : List ℕ) where
  -- ---- fields_fit

  -- a string passes the end
  pub fit_not_strings : ((walk p l.first l.count).number ≡ 0 → ⊥) → fields_fit l p ≡ false
  unfolding fields_fit
  fit_not_strings h = rw (ne_eqb (walk p l.first l.count).number 0 h)

  -- what stands behind them does
  pub fit_not_behind : length p < strings_end l p + l.behind → fields_fit l p ≡ false
  unfolding fields_fit
  fit_not_behind h = rw (lt-leb (strings_end l p + l.behind) (length p) h) (and_false (eqb (walk p l.first l.count).number 0))

  -- nothing does
  pub fit_is : (walk p l.first l.count).number ≡ 0 → strings_end l p + l.behind ≤ length p → fields_fit l p ≡ true
  unfolding fields_fit
  fit_is h k = rw (eq-eqb (walk p l.first l.count).number 0 h, le-leb (strings_end l p + l.behind) (length p) k)

  pub fit_known : fields_fit l p ≡ true → ((walk p l.first l.count).number ≡ 0) × (strings_end l p + l.behind ≤ length p)
  unfolding fields_fit
  fit_known e =
      let a = and_true (eqb (walk p l.first l.count).number 0) (leb (strings_end l p + l.behind) (length p)) e in
      (eqb-true (walk p l.first l.count).number 0 a.0, leb-true (strings_end l p + l.behind) (length p) a.1)

  -- what is known of the strings that were passed over, and of those that were not
  pub walk_passed : (place : ℕ) → ◌≡◌ {A = Walk} (record { number = 0; place = place }) (walk p l.first l.count)
      → ((walk p l.first l.count).number ≡ 0) × (place ≡ strings_end l p)
  walk_passed place e = (sym (ap (λ (x : Walk). x.number) e), ap (λ (x : Walk). x.place) e)

  pub walk_cut_short : (place : ℕ) → ◌≡◌ {A = Walk} (record { number = 12; place = place }) (walk p l.first l.count)
      → ¬ ((walk p l.first l.count).number ≡ 0) × (place ≡ strings_end l p)
  walk_cut_short place e =
      let n : 12 ≡ (walk p l.first l.count).number = ap (λ (x : Walk). x.number) e in
      (λ z. omega arith, ap (λ (x : Walk). x.place) e)

  -- ---- message_cause, the causes in their order

  pub cause_size : within 1 l.most (length p) ≡ false → message_cause l p ≡ 10
  unfolding message_cause
  cause_size h = unless_fails _ 10 _ h

  module _ (a : 1 ≤ length p) (b : length p ≤ l.most) where
    pub cause_other : (get_or p 0 0 ≡ l.byte → ⊥) → message_cause l p ≡ 11
    unfolding message_cause
    cause_other h = unless_holds _ 10 _ (within_is 1 l.most (length p) a b) ∙ unless_fails _ 11 _ (ne_eqb (get_or p 0 0) l.byte h)

    module _ (c : get_or p 0 0 ≡ l.byte) where
      pub cause_cut : fields_fit l p ≡ false → message_cause l p ≡ 12
      unfolding message_cause
      cause_cut f = unless_holds _ 10 _ (within_is 1 l.most (length p) a b) ∙ unless_holds _ 11 _ (eq-eqb (get_or p 0 0) l.byte c) ∙ unless_fails _ 12 _ f

      module _ (f : fields_fit l p ≡ true) where
        pub cause_more : strings_end l p + l.behind < length p → message_cause l p ≡ 13
        unfolding message_cause
        cause_more h =
            unless_holds _ 10 _ (within_is 1 l.most (length p) a b) ∙ unless_holds _ 11 _ (eq-eqb (get_or p 0 0) l.byte c) ∙ unless_holds _ 12 _ f
            ∙ if_holds _ 13 0 (lt-ltb (strings_end l p + l.behind) (length p) h)

        pub cause_none : length p ≤ strings_end l p + l.behind → message_cause l p ≡ 0
        unfolding message_cause
        cause_none h =
            unless_holds _ 10 _ (within_is 1 l.most (length p) a b) ∙ unless_holds _ 11 _ (eq-eqb (get_or p 0 0) l.byte c) ∙ unless_holds _ 12 _ f
            ∙ if_fails _ 13 0 (le-ltb (strings_end l p + l.behind) (length p) h)

  -- what is known of a payload whose fields were looked at
  looked : (m : ℕ) → ¬ (10 ≡ m) → ¬ (11 ≡ m) → message_cause l p ≡ m
      → (1 ≤ length p) × (length p ≤ l.most) × (get_or p 0 0 ≡ l.byte)
      × (cause_unless (fields_fit l p) 12 (cause_if (ltb (strings_end l p + l.behind) (length p)) 13 0) ≡ m)
  unfolding message_cause
  looked m h k e =
      let a = passed (within 1 l.most (length p)) 10 _ m h e in
      let b = passed (eqb (get_or p 0 0) l.byte) 11 _ m k a.1 in
      (within_least 1 l.most (length p) a.0, within_most 1 l.most (length p) a.0, eqb-true (get_or p 0 0) l.byte b.0, b.1)

  -- what is known of a payload that is not refused
  pub record Good : Type 0 where
    pub some : 1 ≤ length p
    pub most : length p ≤ l.most
    pub byte : get_or p 0 0 ≡ l.byte
    pub walked : (walk p l.first l.count).number ≡ 0
    pub ends : strings_end l p + l.behind ≡ length p

  pub cause_known : message_cause l p ≡ 0 → Good
  cause_known e =
      let a = looked 0 (omega arith) (omega arith) e in
      let d = passed (fields_fit l p) 12 _ 0 (omega arith) a.3 in
      let g = if_none (ltb (strings_end l p + l.behind) (length p)) 13 0 (omega arith) d.1 in
      let f = fit_known d.0 in
      let lo : strings_end l p + l.behind ≤ length p = f.1 in
      let hi : length p ≤ strings_end l p + l.behind = ltb-false (strings_end l p + l.behind) (length p) g.0 in
      record {
        some = a.0;
        most = a.1;
        byte = a.2;
        walked = f.0;
        ends = omega arith;
      }

  -- of one that is cut, and of one with bytes left over
  pub cut_known : message_cause l p ≡ 12 → (1 ≤ length p) × (get_or p 0 0 ≡ l.byte) × (fields_fit l p ≡ false)
  cut_known e = let a = looked 12 (omega arith) (omega arith) e in (a.0, a.2, cut_only (fields_fit l p) _ a.3)

  pub more_known : message_cause l p ≡ 13 → (1 ≤ length p) × (get_or p 0 0 ≡ l.byte) × (fields_fit l p ≡ true) × (strings_end l p + l.behind < length p)
  more_known e =
      let a = looked 13 (omega arith) (omega arith) e in
      let f = passed (fields_fit l p) 12 _ 13 (omega arith) a.3 in
      (a.0, a.2, f.0, ltb-true (strings_end l p + l.behind) (length p) (more_only _ f.1))

  -- ---- judged

  pub judged_refused : (k : ℕ) → message_cause l p ≡ k → eqb k 0 ≡ false → ◌≡◌ {A = Judged} (record { number = k; place = 0 }) (judged l p)
  unfolding judged
  judged_refused k e z = rw (e, z) refl

  pub judged_good : (place : ℕ) → place ≡ strings_end l p → message_cause l p ≡ 0 → ◌≡◌ {A = Judged} (record { number = 0; place = place }) (judged l p)
  unfolding judged
  judged_good place h e = rw e (λ i. record { number = 0; place = h i })

  -- the number is the cause
  pub judged_number : (judged l p).number ≡ message_cause l p
  unfolding judged
  judged_number = refl

  judged_place : message_cause l p ≡ 0 → (judged l p).place ≡ strings_end l p
  unfolding judged
  judged_place e = rw e

  -- what a caller knows by the number
  pub judged_cause : (j : Judged) → j ≡ judged l p → j.number ≡ message_cause l p
  judged_cause j e = ap (λ (x : Judged). x.number) e ∙ judged_number

  pub judged_zero : (j : Judged) → j ≡ judged l p → j.number ≡ 0 → (message_cause l p ≡ 0) × (j.place ≡ strings_end l p)
  judged_zero j e z =
      let q : message_cause l p ≡ 0 = sym (judged_cause j e) ∙ z in
      (q, ap (λ (x : Judged). x.place) e ∙ judged_place q)

  -- and by the answer
  pub told_cause : (r : Result ℕ Refusal) → judged_told r ≡ judged l p → told r ≡ message_cause l p
  told_cause (Ok place) e = judged_cause _ e
  told_cause (Err f) e = judged_cause _ e

  pub told_place : (place : ℕ) → judged_told (Ok place) ≡ judged l p → (message_cause l p ≡ 0) × (place ≡ strings_end l p)
  told_place place e = judged_zero _ e refl
