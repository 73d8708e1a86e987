-- Laws of what is due: what an exchange's bytes are read as, and a step's number. Assumes nothing.
use Prim.Native.Nat.{ℕ, ◌≤◌, ◌<◌}
use mathlib.Core.Path.{◌≡◌, refl, sym, ap, ◌∙◌}
use mathlib.Core.List.{List, []}
use mathlib.Core.Bool.{Bool, true, false, ◌&&◌}
use native.Mathlib.Omega.{arith}
use lib.ListN.{length, take, drop, length-drop, length-take}
use borrow.Author.Tests.{lt-ltb, le-ltb}
use Rattle.limits.specs.Limits.{k_size, room_least}
use Rattle.limits.proofs.BoolLaws.{and_true}
use Rattle.wire.proofs.CauseLaws.{if_holds, if_fails, unless_holds, unless_fails}
use Rattle.exchange.specs.Record.{no_lengths, due, is_complete, completed}
use Rattle.exchange.specs.Steps.{step_number}
use Rattle.exchange.specs.declared.Lengths.{Lengths}
use Rattle.exchange.specs.declared.Exchange.{Exchange}
use Rattle.stored.specs.Stored.{fits, number16, number64, lengths_in, decoded, by_fit, by_size}
use Rattle.stored.proofs.StoredLaws.{size_taken, fits_known, fit_taken, fit_left}

-- ---- completed

module _ (e : Exchange) where
  pub completed_not : is_complete e.stage ≡ false → false ≡ completed e
  unfolding completed
  completed_not h = rw h

-- ---- step_number

module _ (n : ℕ) (e : Exchange) (room fed : ℕ) where
  pub number_not_due : due n e ≡ false → 1 ≡ step_number n e room fed
  unfolding step_number
  number_not_due h = sym (unless_fails _ 1 _ h)

  module _ (a : due n e ≡ true) where
    pub number_room : room < room_least → 3 ≡ step_number n e room fed
    unfolding step_number
    number_room h = sym (unless_holds _ 1 _ a ∙ if_holds _ 3 fed (lt-ltb room room_least h))

    pub number_fed : room_least ≤ room → fed ≡ step_number n e room fed
    unfolding step_number
    number_fed h = sym (unless_holds _ 1 _ a ∙ if_fails _ 3 fed (le-ltb room room_least h))

-- ---- on lent bytes

module _ (b : List ℕ) (f : fits b ≡ true) where
  -- lengths and K
  pub lens_read : (l : Lengths) → l ≡ by_size b (lengths_in b) no_lengths → l ≡ (decoded b).lens
  unfolding decoded
  lens_read l h = h ∙ sym (size_taken b no_lengths (lengths_in b) (fits_known b f).0)

  pub k_read : (k : List ℕ) → k ≡ by_size b (take k_size (drop 19 b)) [] → k ≡ (decoded b).k
  unfolding decoded
  k_read k h = h ∙ sym (size_taken b [] (take k_size (drop 19 b)) (fits_known b f).0)

  pub k_size_lem : (k : List ℕ) → k ≡ by_size b (take k_size (drop 19 b)) [] → 4 ≤ length k
  k_size_lem k h =
      let n = (fits_known b f).0 in
      omega (arith, length-drop 19 b, length-take k_size (drop 19 b), ap length (h ∙ sym (size_taken b [] (take k_size (drop 19 b)) n)))

  -- the session's numbers
  pub len_read : (n : ℕ) → n ≡ by_size b (number16 b 154) 0 → n ≡ (decoded b).session.len
  unfolding decoded
  len_read n h = h ∙ sym (size_taken b 0 (number16 b 154) (fits_known b f).0)

  pub count_read : (n : ℕ) → n ≡ by_size b (number64 b 156) 0 → n ≡ (decoded b).session.count
  unfolding decoded
  count_read n h = h ∙ sym (size_taken b 0 (number64 b 156) (fits_known b f).0)

  -- a step's number
  pub number_on : (n room fed r : ℕ) → r ≡ step_number n (decoded b) room fed → r ≡ by_fit b (step_number n (decoded b) room fed) 1
  number_on n room fed r h = h ∙ fit_taken b (step_number n (decoded b) room fed) 1 f

-- where none is due it is 1
pub not_due_on : (b : List ℕ) (n room fed : ℕ) → (fits b && due n (decoded b)) ≡ false → 1 ≡ by_fit b (step_number n (decoded b) room fed) 1
not_due_on b n room fed h = by_fit_lem (fits b) refl h
  where
    by_fit_lem : (t : Bool) → fits b ≡ t → (t && due n (decoded b)) ≡ false → 1 ≡ by_fit b (step_number n (decoded b) room fed) 1
    by_fit_lem true f h = number_on b f n room fed 1 (number_not_due n (decoded b) room fed h)
    by_fit_lem false f h = fit_left b (step_number n (decoded b) room fed) 1 f

pub due_fits : (b : List ℕ) (n : ℕ) → (fits b && due n (decoded b)) ≡ true → (fits b ≡ true) × (due n (decoded b) ≡ true)
due_fits b n h = and_true (fits b) (due n (decoded b)) h
