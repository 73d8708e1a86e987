-- The effects of a number (SPECIFICATION 2.3, 9.12), on the bytes that a host lends: 1 to 5 change nothing, a peer's fault leaves role, method, session and its
-- number alone; a refused beginning changes nothing. Assumes nothing.
use Prim.Native.Nat.{ℕ}
use mathlib.Core.Path.{◌≡◌, refl, sym, ap, ◌∙◌}
use mathlib.Core.List.{List, []}
use mathlib.Core.Bool.{Bool, true, false, cond, false≢true}
use lib.ListN.{length}
use borrow.Author.Tests.{ne_eqb}
use Rattle.buffers.specs.Bytes.{zeros}
use Rattle.exchange.specs.Numbers.{is_fault, Kind, by_kind}
use Rattle.exchange.specs.Record.{ended}
use Rattle.exchange.specs.Steps.{Call, number, filled, taken, room_after}
use Rattle.exchange.specs.Again.{again_number, again_room}
use Rattle.exchange.specs.declared.Session.{Session}
use Rattle.exchange.proofs.KindLaws.{kind_fault}
use Rattle.exchange.proofs.Simulation.{dead_number, dead_again}
use Rattle.exchange.specs.declared.Stage.TheVariants.{Failed}
use Rattle.stored.specs.Stored.{stage_of, encoded, decoded, fits, by_fit}
use Rattle.stored.proofs.StoredLaws.{fit_taken}
use Rattle.lent.specs.Lent.{left, told_size, writes, bytes_after, step_left, untouched, lent_call, again_left, lent_again}
use Rattle.lent.proofs.AsStep.{number_left}
use Rattle.lent.proofs.LentLaws.{call_refused, refused_stays, tells_none, outputs_stay}

-- ---- the effects

module _ (b room : List ℕ) (q : Call) (outs : List (List ℕ)) where
  -- any number but 0 and a peer's fault: every lent byte is as it was, and all that is told is 0
  pub nothing_changes : let n = (lent_call b room q outs).number in ¬ (n ≡ 0) → is_fault n ≡ false → lent_call b room q outs ≡ left n (zeros (told_size q)) b room outs
  nothing_changes h f =
      let n = (lent_call b room q outs).number in
      sym (call_refused b room q outs n (number_left b room q outs) (λ g. absurd (false≢true (sym f ∙ g))) h n b room refl (refused_stays n b b _ f) (refused_stays n b room _ f))

  fault_fits : (n : ℕ) → n ≡ by_fit b (number (decoded b) room q) 1 → is_fault n ≡ true → fits b ≡ true
  unfolding by_fit
  fault_fits n e g = by_fit_lem (fits b) e
    where
      by_fit_lem : (t : Bool) → n ≡ cond t (number (decoded b) room q) 1 → t ≡ true
      by_fit_lem true k = refl
      by_fit_lem false k = absurd (false≢true (sym (ap is_fault k) ∙ g))

  -- a peer's fault, 10 to 18: the room is zeros, and of the exchange role, method, session and the number are left
  pub fault_leaves : let n = (lent_call b room q outs).number in is_fault n ≡ true
      → (fits b ≡ true) × (lent_call b room q outs ≡ left n (zeros (told_size q)) (encoded (ended n (decoded b).role (decoded b).method (decoded b).session)) (zeros (length room)) outs)
  unfolding lent_call step_left bytes_after room_after
  fault_leaves f =
      let n = (lent_call b room q outs).number in
      let d = decoded b in
      let w = fault_fits n (number_left b room q outs) f in
      let e : n ≡ number d room q = (number_left b room q outs) ∙ sym (fit_taken b (number d room q) 1 w) in
      let z : ¬ (number d room q ≡ 0) = λ (y : number d room q ≡ 0). false≢true (sym (ap is_fault (e ∙ y)) ∙ f) in
      let k = kind_fault (number d room q) (ap is_fault (sym e) ∙ f) in
      let x = ap (λ (t : Kind). by_kind t (encoded (taken d room q)) b (encoded (ended (number d room q) d.role d.method d.session))) k ∙ ap (λ (y : ℕ). encoded (ended y d.role d.method d.session)) (sym e) in
      let r = ap (λ (t : Kind). by_kind t (filled d room q) room (zeros (length room))) k in (
        w,
        sym (fit_taken b (step_left b d room q outs) (untouched b room (told_size q) outs) w)
            ∙ (λ i. left (sym e i) (tells_none d room q z i) (x i) (r i) (outputs_stay (number d room q) outs (writes d room q) z i)),
      )

-- what a fault or a refused start left is answered 1 by every step, whatever its session
module _ (n role m : ℕ) (s : Session) (room : List ℕ) where
  failed_there : (decoded (encoded (ended n role m s))).stage ≡ Failed n
  unfolding decoded encoded ended stage_of
  failed_there = refl

  pub ended_silent : (q : Call) (outs : List (List ℕ)) → (lent_call (encoded (ended n role m s)) room q outs).number ≡ 1
  unfolding by_fit
  ended_silent q outs = number_left (encoded (ended n role m s)) room q outs ∙ by_fit_lem (fits (encoded (ended n role m s)))
    where
      by_fit_lem : (t : Bool) → cond t (number (decoded (encoded (ended n role m s))) room q) 1 ≡ 1
      by_fit_lem true = dead_number (decoded (encoded (ended n role m s))) room n q failed_there
      by_fit_lem false = refl

  -- and where it would begin again
  pub ended_over : (m' : ℕ) (ic is : List ℕ) → (lent_again (encoded (ended n role m s)) room m' ic is).number ≡ 1
  unfolding lent_again again_left by_fit
  ended_over m' ic is = by_fit_lem (fits (encoded (ended n role m s)))
    where
      by_fit_lem : (t : Bool) → (cond t (again_left (encoded (ended n role m s)) (decoded (encoded (ended n role m s))) room m' ic is) (untouched (encoded (ended n role m s)) room 0 [])).number ≡ 1
      by_fit_lem true = dead_again (decoded (encoded (ended n role m s))) (length room) n m' ic is failed_there
      by_fit_lem false = refl

-- a beginning that is refused, by any number: every lent byte is as it was
pub again_stays : (b room : List ℕ) (m : ℕ) (ic is : List ℕ) → let n = (lent_again b room m ic is).number in ¬ (n ≡ 0) → lent_again b room m ic is ≡ left n [] b room []
unfolding lent_again again_left again_room by_fit
again_stays b room m ic is = by_fit_lem (fits b)
  where
    by_fit_lem : (t : Bool) → let a = cond t (again_left b (decoded b) room m ic is) (untouched b room 0 []) in ¬ (a.number ≡ 0) → a ≡ left a.number [] b room []
    by_fit_lem false h = refl
    by_fit_lem true h = rw (ne_eqb (again_number (decoded b) (length room) m ic is) 0 h)
