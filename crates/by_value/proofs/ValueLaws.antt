-- What a step by value answers, from the step on bytes. Assumes nothing.
use Prim.Native.Nat.{ℕ, ◌<◌}
use mathlib.Core.Path.{◌≡◌, refl, sym, ap, ◌∙◌}
use mathlib.Core.List.{List, [], ◌∷◌, ◌++◌}
use mathlib.Core.Bool.{Bool, true, false, cond, ◌&&◌, false≢true}
use Rattle.std.specs.Prelude.{Option, Some, None}
use Rattle.std.specs.Option.{is_some, unwrap_or}
use native.Mathlib.Omega.{arith}
use lib.ListN.{length, get_or}
use lib.Seq.{get_or_at}
use lib.Dec.{leb, eqb}
use borrow.Author.Tests.{leb-true, le-leb}
use Rattle.limits.specs.Limits.{length_most, k_size, h_size, count_most, exchange_size}
use Rattle.limits.proofs.BoolLaws.{and_true, both}
use Rattle.buffers.specs.Bytes.{zeros}
use Rattle.wire.proofs.CauseLaws.{unless_fails}
use Rattle.exchange.specs.Causes.{start_cause}
use Rattle.exchange.specs.Record.{due}
use Rattle.exchange.specs.Numbers.{Kind, accepted, refused, fault, kind, by_kind}
use Rattle.exchange.specs.Steps.{Call, number, step_number, second_of, count_of, exchange_after, room_after, position_of, answered, started, started_room, refused_step}
use Rattle.exchange.specs.declared.Lengths.{Lengths}
use Rattle.exchange.specs.declared.Exchange.{Exchange}
use Rattle.exchange.specs.declared.Step.{Step}
use Rattle.exchange.specs.Again.{again_after, again_room, again_answered}
use Rattle.exchange.proofs.StepLaws.{position_other, step_refused}
use Rattle.exchange.proofs.SessionLaws.{again_refused_keeps}
use Rattle.stored.specs.Stored.{encoded, decoded, blank, by_fit, by_size}
use Rattle.stored.proofs.StoredLaws.{size_taken, fits_known}
use Rattle.stored.proofs.RoundTrip.{Short, decoded_encoded, encoded_fits}
use Rattle.lent.specs.Lent.{Left, left, tells, writes, outputs_after, untouched, lent_call, positioned, start_left, lent_start, lent_again}
use Rattle.lent.proofs.Kept.{Storable, Within, step_storable, start_storable, again_storable, lent_is_step, long_not_due, long_refused, long_not_again}
use Rattle.lent.proofs.AsStep.{AsStep, as_step, position_aside, by_again, as_again}
use Rattle.by_value.specs.ByValue.{fits_two, fits_bytes, some_bytes, back}

-- ---- lengths that two bytes hold

one : (n : ℕ) → leb n length_most ≡ true → n < 65536
one n h = let k = leb-true n length_most h in omega arith

one_back : (n : ℕ) → n < 65536 → leb n length_most ≡ true
one_back n h = le-leb n length_most (omega arith)

first : (a b : Bool) → a && b ≡ true → a ≡ true
first a b h = (and_true a b h).0

last : (a b : Bool) → a && b ≡ true → b ≡ true
last a b h = (and_true a b h).1

short_known : (l : Lengths) → fits_two l ≡ true → Short l
unfolding fits_two
short_known l h = search (first, last, one)

short_fits : (l : Lengths) → Short l → fits_two l ≡ true
unfolding fits_two
short_fits l s = search (both, one_back)

bytes_known : (e : Exchange) → fits_bytes e ≡ true → Within e
unfolding fits_bytes
bytes_known e h =
    let t = and_true (fits_two e.lens && leb e.session.len length_most) (leb e.session.count count_most) h in
    let u = and_true (fits_two e.lens) (leb e.session.len length_most) t.0 in
    record { lens = short_known e.lens u.0; len = leb-true e.session.len length_most u.1; count = leb-true e.session.count count_most t.1 }

bytes_fits : (e : Exchange) → Within e → fits_bytes e ≡ true
unfolding fits_bytes
bytes_fits e h = both (both (short_fits e.lens h.lens) (le-leb e.session.len length_most h.len)) (le-leb e.session.count count_most h.count)

-- ---- the bytes

-- K's record, H and the session identifier are as long as their types have them
abbrev pub Sized : Exchange → Type 0
Sized e = (length e.k ≡ k_size) × (length e.h ≡ h_size) × (length e.session.id ≡ h_size)

-- where `lay` answers none, they cannot hold it; else they are its encoding
module _ (e : Exchange) where
  pub laid_long : None ≡ some_bytes e → ¬ Within e
  laid_long h s = false≢true (ap is_some (rw (bytes_fits e s) at h))

  pub laid_short : (b : List ℕ) → Some b ≡ some_bytes e → Sized e → Storable e × (b ≡ encoded e)
  laid_short b h k = by_test (fits_bytes e) refl h
    where
      by_test : (t : Bool) → fits_bytes e ≡ t → Some b ≡ cond t (Some (encoded e)) None → Storable e × (b ≡ encoded e)
      by_test true f g =
          let w = bytes_known e f in
          let n = w.len in
          let m = w.count in
          (record { short = w.lens; session = record { len = omega arith; count = omega arith }; k_size_is = k.0; h_size_is = k.1; id_size = k.2 }, ap (λ (o : Option (List ℕ)). unwrap_or o b) g)
      by_test false f g = absurd (false≢true (sym (ap is_some g)))

-- the exchange comes back
exchange_back : (x : Exchange) (b : List ℕ) → Storable x → b ≡ encoded x → by_size b (decoded b) blank ≡ x
exchange_back x b h e =
    let n : length b ≡ exchange_size = ap length e ∙ (fits_known (encoded x) (encoded_fits x h.k_size_is h.h_size_is h.id_size)).0 in
    sym (size_taken b blank (decoded b) n) ∙ ap decoded e ∙ decoded_encoded x h.short h.session h.k_size_is h.h_size_is

-- ---- a step's number

module _ (n : ℕ) (e : Exchange) (room fed : ℕ) where
  pub number_long : None ≡ some_bytes e → 1 ≡ step_number n e room fed
  unfolding step_number
  number_long l = sym (unless_fails (due n e) 1 _ (long_not_due n e (laid_long e l)))

  pub number_value : (b : List ℕ) → Some b ≡ some_bytes e → Sized e → (r : ℕ) → r ≡ by_fit b (step_number n (decoded b) room fed) 1 → r ≡ step_number n e room fed
  number_value b l k r f =
      let s = laid_short e b l k in
      f ∙ ap (λ (y : List ℕ). by_fit y (step_number n (decoded y) room fed) 1) s.1 ∙ lent_is_step (λ (x : Exchange). step_number n x room fed) 1 e s.0

-- ---- a step

module _ (e : Exchange) (room : List ℕ) (q : Call) where
  -- one that the bytes cannot hold
  pub value_long : None ≡ some_bytes e → (refused_step 1 0 e ≡ answered e room q) × (room ≡ room_after e room q) × (¬ (number e room q ≡ 0))
  unfolding kind
  value_long l =
      let n = long_refused e room q (laid_long e l) in
      let s = step_refused e room q 1 (sym n) (λ z. let w : ⊥ = omega arith in w) in
      (ap (λ (at : ℕ). refused_step 1 at e) (position_other 1 q refl) ∙ s.0, s.1, (λ z. let w : ⊥ = omega (arith, n, z) in w))

  module _ (b : List ℕ) (l : Some b ≡ some_bytes e) (k : Sized e) (outs : List (List ℕ)) (n : ℕ) (told ex room' : List ℕ) (outs' : List (List ℕ)) (c : left n told ex room' outs' ≡ lent_call b room q outs) where
    -- others: what was told, by the step's counts
    pub value_step : (count second at : ℕ) → (AsStep e room q outs n told ex room' outs' → (count ≡ (answered e room q).count) × (second ≡ (answered e room q).second)) → at ≡ position_of n q
        → (back n count second at ex ≡ answered e room q) × (room' ≡ room_after e room q) × (outs' ≡ outputs_after (number e room q) outs (writes e room q))
    unfolding back answered
    value_step count second at f g =
        let s = laid_short e b l k in
        let a = as_step b e room q outs n told ex room' outs' s.1 s.0 c in
        let d = f a in
        let x = exchange_back (exchange_after e room q) ex (step_storable e room q s.0) a.exchange_is in
        ((λ i. record { number = a.number_is i; count = d.0 i; second = d.1 i; exchange = x i; position = (g ∙ ap (λ (m : ℕ). position_of m q) a.number_is) i }), a.room_is, a.outputs_are)

    -- and all that was told
    pub value_told : told ≡ tells e room q
    value_told =
        let s = laid_short e b l k in
        (as_step b e room q outs n told ex room' outs' s.1 s.0 c).told_is

-- counts that no number tells
pub count_none : (e : Exchange) (room : List ℕ) (q : Call) → count_of e room q ≡ 0 → 0 ≡ (answered e room q).count
unfolding answered
count_none e room q h = by_kind_lem (kind (number e room q))
  where
    by_kind_lem : (k : Kind) → 0 ≡ by_kind k (count_of e room q) 0 0
    by_kind_lem accepted = sym h
    by_kind_lem refused = refl
    by_kind_lem fault = refl

pub second_none : (e : Exchange) (room : List ℕ) (q : Call) → second_of e q ≡ 0 → 0 ≡ (answered e room q).second
unfolding answered
second_none e room q h = by_kind_lem (kind (number e room q))
  where
    by_kind_lem : (k : Kind) → 0 ≡ by_kind k (second_of e q) 0 0
    by_kind_lem accepted = sym h
    by_kind_lem refused = refl
    by_kind_lem fault = refl

-- ---- a reader

-- nothing is counted, and the position stands behind what else is told
module _ (e : Exchange) (room : List ℕ) (q : Call) (b : List ℕ) (l : Some b ≡ some_bytes e) where
  pub value_read : Sized e → (k at n : ℕ) (told ex room' : List ℕ) → left n told ex room' [] ≡ positioned at (lent_call b room q [])
      → length (tells e room q) ≡ k → count_of e room q ≡ 0 → second_of e q ≡ 0 → at ≡ position_of n q
      → (back n 0 0 (get_or told k 0) ex ≡ answered e room q) × (room' ≡ room_after e room q)
  value_read z k at n told ex room' c m f g p =
      let x = position_aside (lent_call b room q []) at c in
      let y = value_told e room q b l z [] n _ ex room' [] x.0 in
      let o = ap (λ (w : List ℕ). get_or w k 0) (x.1 ∙ ap (λ (w : List ℕ). w ++ at ∷ []) y) ∙ get_or_at (tells e room q) at [] 0 k m ∙ p in
      let v = value_step e room q b l z [] n _ ex room' [] x.0 0 0 _ (λ w. (count_none e room q f, second_none e room q g)) o in
      (v.0, v.1)

-- ---- the start

module _ (role m : ℕ) (vc vs ic is room : List ℕ) where
  start_counts : (n : ℕ) → (0 ≡ (started role m vc vs ic is n).count) × (0 ≡ (started role m vc vs ic is n).second) × (0 ≡ (started role m vc vs ic is n).position)
  unfolding started
  start_counts n = by_test (eqb (start_cause role m vc vs ic is n) 0) _ _ (refl, refl, refl) (refl, refl, refl)
    where
      None : Step → Type 0
      None x = (0 ≡ x.count) × (0 ≡ x.second) × (0 ≡ x.position)

      by_test : (t : Bool) (x y : Step) → None x → None y → None (cond t x y)
      by_test true x y a b = a
      by_test false x y a b = b

  pub start_value : (n : ℕ) (ex room' : List ℕ) → left n [] ex room' [] ≡ lent_start (zeros exchange_size) role m vc vs ic is room
      → (back n 0 0 0 ex ≡ started role m vc vs ic is (length room)) × (room' ≡ started_room role m vc vs ic is room)
  unfolding lent_start start_left back
  start_value n ex room' l =
      let s = started role m vc vs ic is (length room) in
      let k : left n [] ex room' [] ≡ start_left s (started_room role m vc vs ic is room) =
      l ∙ sym (size_taken (zeros exchange_size) (untouched (zeros exchange_size) room 0 []) (start_left s (started_room role m vc vs ic is room)) refl) in
      let c = start_counts (length room) in
      let x = exchange_back s.exchange ex (start_storable role m vc vs ic is (length room)) (ap (λ (y : Left). y.exchange) k) in
      ((λ i. record { number = (k i).number; count = c.0 i; second = c.1 i; exchange = x i; position = c.2 i }), ap (λ (y : Left). y.room) k)

-- ---- to begin again

module _ (e : Exchange) (room : List ℕ) (m : ℕ) (ic is : List ℕ) where
  -- one that the bytes cannot hold
  pub again_long : None ≡ some_bytes e → (refused_step 1 0 e ≡ again_answered e (length room) m ic is) × (room ≡ again_room e room m ic is)
  unfolding kind again_answered
  again_long l =
      let n = long_not_again e (length room) m ic is (laid_long e l) in
      let k = again_refused_keeps e room m ic is (λ z. let w : ⊥ = omega (arith, n, z) in w) in
      ((λ i. record { number = sym n i; count = 0; second = 0; exchange = sym k.0 i; position = 0 }), sym k.1)

  -- others
  pub again_value : (b : List ℕ) → Some b ≡ some_bytes e → Sized e → (n : ℕ) (ex room' : List ℕ) → left n [] ex room' [] ≡ lent_again b room m ic is
      → (back n 0 0 0 ex ≡ again_answered e (length room) m ic is) × (room' ≡ again_room e room m ic is)
  unfolding back again_answered
  again_value b l z n ex room' c =
      let s = laid_short e b l z in
      let k : left n [] ex room' [] ≡ by_again e room m ic is = c ∙ ap (λ (y : List ℕ). lent_again y room m ic is) s.1 ∙ sym (as_again e room m ic is s.0) in
      let x = exchange_back (again_after e (length room) m ic is) ex (again_storable e (length room) m ic is s.0) (ap (λ (y : Left). y.exchange) k) in
      ((λ i. record { number = (k i).number; count = 0; second = 0; exchange = x i; position = 0 }), ap (λ (y : Left). y.room) k)
