-- After any list of calls the whole exchange is the one that the book and the numbers tell. Assumes nothing.
use Prim.Native.Nat.{ℕ, ◌≤◌}
use mathlib.Core.Path.{◌≡◌, refl, sym, ap, ◌∙◌}
use mathlib.Core.List.{List, [], ◌∷◌}
use mathlib.Core.Bool.{Bool, true, false, cond, false≢true}
use native.Mathlib.Omega.{arith}
use lib.ListN.{length}
use lib.Dec.{eqb}
use Rattle.limits.specs.Limits.{room_least}
use Rattle.exchange.specs.Numbers.{is_fault, Kind, accepted, refused, fault, kind, by_kind}
use Rattle.exchange.specs.Causes.{start_cause}
use Rattle.exchange.specs.Record.{ended}
use Rattle.exchange.specs.Steps.{Call, number, taken, exchange_after, room_after, started, started_room}
use Rattle.exchange.specs.Again.{again_after, Turn, step as call, again, turn_after, turn_room}
use Rattle.exchange.specs.Book.{Book, begun, opened, moved, dropped, noted, first_cause, finished, again_first, again_noted, session_of, turn_noted, last_book}
use Rattle.exchange.specs.Demand.{numbers_of, last_exchange}
use Rattle.exchange.specs.ExchangeTold.{exchange_of, first_fault, exchange_told}
use Rattle.exchange.specs.declared.Stage.TheVariants.{Failed}
use Rattle.exchange.specs.declared.Session.{Session}
use Rattle.exchange.specs.declared.Exchange.{Exchange}
use Rattle.exchange.proofs.KindLaws.{kind_is_accepted, kind_fault, kind_is_fault, kind_refused}
use Rattle.exchange.proofs.Simulation.{Reachable, sound_live, fault_open, Sim, live, dead, step, dead_number, dead_again, begins, dead_turn, again_fault, followed}

-- ---- after a fault nothing moves

ended_stage : (n role m : ℕ) (s : Session) → (ended n role m s).stage ≡ Failed n
unfolding ended
ended_stage n role m s = refl

dead_stays : (e : Exchange) (room : List ℕ) (n : ℕ) (q : Turn) → e.stage ≡ Failed n → turn_after e room q ≡ e
unfolding exchange_after again_after
dead_stays e room n (call q) y = rw (dead_number e room n q y, kind_refused 1 (λ u. omega arith) refl)
dead_stays e room n (again m ic is) y = rw (dead_again e (length room) n m ic is y)

dead_last : (e : Exchange) (room : List ℕ) (n : ℕ) (qs : List Turn) → e.stage ≡ Failed n → last_exchange e room qs ≡ e
dead_last e room n [] y = refl
dead_last e room n (q ∷ qs) y =
    let s = dead_stays e room n q y in
    dead_last (turn_after e room q) (turn_room e room q) n qs (ap (λ (x : Exchange). x.stage) s ∙ y) ∙ s

dead_book : (l : ℕ) (b : Book) (qs : List Turn) → b.faulted ≡ true → last_book l b qs ≡ b
dead_book l b [] x = refl
dead_book l b (q ∷ qs) x =
    let s = (dead_turn l b q x).1 in
    dead_book l (turn_noted l b q) qs (ap (λ (y : Book). y.faulted) s ∙ x) ∙ s

-- ---- what the kind of a number says

abbrev is_fault_kind : Kind → Bool
is_fault_kind accepted = false
is_fault_kind refused = false
is_fault_kind fault = true

fault_kind : (n : ℕ) (k : Kind) → kind n ≡ k → is_fault n ≡ is_fault_kind k
fault_kind n accepted e = ap is_fault (kind_is_accepted n e)
fault_kind n refused e = by_test (is_fault n) refl
  where
    by_test : (t : Bool) → is_fault n ≡ t → t ≡ false
    by_test false f = refl
    by_test true f = ap is_fault_kind (sym (kind_fault n f) ∙ e)
fault_kind n fault e = kind_is_fault n e

-- a number that is no fault is passed over; the first that is one counts
skipped : (b : Book) (n : ℕ) (ns : List ℕ) → is_fault n ≡ false → exchange_told b ns ≡ exchange_told b (n ∷ ns)
unfolding exchange_told
skipped b n ns f = rw f

live_noted : (l : ℕ) (b : Book) (q : Call) (k : Kind) → kind (first_cause l b q) ≡ k → b.faulted ≡ false → is_fault_kind k ≡ false → (noted l b q).faulted ≡ false
unfolding noted
live_noted l b q accepted e f z = rw e
live_noted l b q refused e f z = rw e f
live_noted l b q fault e f z = absurd (false≢true (sym z))

-- ---- call by call

first_of : (m role k : ℕ) (s : Session) (ns : List ℕ) → is_fault m ≡ true → ended m role k s ≡ ended (first_fault (m ∷ ns)) role k s
first_of m role k s ns z = ap (λ (j : ℕ). ended j role k s) (sym (ap (λ (t : Bool). cond t m (first_fault ns)) z))

-- a call on a live exchange, and then the rest, where the rest is as told while no fault came
module _ (l : ℕ) (b : Book) (e : Exchange) (room : List ℕ) (q : Call) (qs : List Turn) (s : Reachable b) (x : e ≡ exchange_of b)
    (n : number e room q ≡ first_cause l b q)
    (rest : (noted l b q).faulted ≡ false → last_exchange (exchange_after e room q) (room_after e room q) qs ≡ exchange_told (last_book l (noted l b q) qs) (numbers_of (exchange_after e room q) (room_after e room q) qs)) where
  goes_on : (k : Kind) → kind (number e room q) ≡ k → is_fault_kind k ≡ false
      → last_exchange (exchange_after e room q) (room_after e room q) qs ≡ exchange_told (last_book l (noted l b q) qs) (number e room q ∷ numbers_of (exchange_after e room q) (room_after e room q) qs)
  goes_on k c z =
      rest (live_noted l b q k (sym (ap kind n) ∙ c) (sound_live s) z)
      ∙ skipped (last_book l (noted l b q) qs) (number e room q) (numbers_of (exchange_after e room q) (room_after e room q) qs) (fault_kind (number e room q) k c ∙ z)

  one_call : (k : Kind) → kind (number e room q) ≡ k
      → last_exchange (exchange_after e room q) (room_after e room q) qs ≡ exchange_told (last_book l (noted l b q) qs) (number e room q ∷ numbers_of (exchange_after e room q) (room_after e room q) qs)
  unfolding exchange_told exchange_after noted
  one_call accepted c = goes_on accepted c refl
  one_call refused c = goes_on refused c refl
  one_call fault c =
      let m = number e room q in
      let ns = numbers_of (exchange_after e room q) (room_after e room q) qs in
      let t = fault_kind m fault c in
      let o = session_of (finished (dropped b)) in
      let r = ap (λ (z : Exchange). z.role) x in
      let p = ap (λ (z : Exchange). z.method) x in
      let u = ap (λ (z : Exchange). z.session) x ∙ ap session_of (fault_open l s q (ap is_fault (sym n) ∙ t)) in
      let v : exchange_after e room q ≡ ended m b.role b.method o =
      ap (λ (k : Kind). by_kind k (taken e room q) e (ended m e.role e.method e.session)) c ∙ (λ i. ended m (r i) (p i) (u i)) in
      let d : noted l b q ≡ dropped b = ap (λ (k : Kind). by_kind k (moved b q) b (dropped b)) (sym (ap kind n) ∙ c) in
      let g = ap (λ (z : Exchange). z.stage) v ∙ ended_stage m b.role b.method o in
      dead_last (exchange_after e room q) (room_after e room q) m qs g
      ∙ v
      ∙ first_of m b.role b.method o ns t
      ∙ sym (ap (λ (z : Book). exchange_told z (m ∷ ns)) (dead_book l (noted l b q) qs (ap (λ (z : Book). z.faulted) d) ∙ d))

-- beginning again leaves no fault
live_again : (l : ℕ) (b : Book) (m : ℕ) (ic is : List ℕ) → b.faulted ≡ false → (again_noted l b m ic is).faulted ≡ false
unfolding again_noted
live_again l b m ic is f = by_test (eqb (again_first l b m ic is) 0)
  where
    by_test : (t : Bool) → (cond t (begun (finished b) b.role m b.fields.vc b.fields.vs ic is) b).faulted ≡ false
    by_test true = refl
    by_test false = f

-- without a fault
told_live : (b : Book) (ns : List ℕ) → b.faulted ≡ false → exchange_of b ≡ exchange_told b ns
unfolding exchange_told
told_live b ns f = ap (λ (t : Bool). cond t (ended (first_fault ns) b.role b.method (session_of (finished b))) (exchange_of b)) (sym f)

-- either kind of call
one_turn : (room : List ℕ) → room_least ≤ length room → (b : Book) (e : Exchange) (room' : List ℕ) (q : Turn) (qs : List Turn) → (s : Reachable b) (x : e ≡ exchange_of b) → Sim room b e room'
    → (Sim room (turn_noted (length room) b q) (turn_after e room' q) (turn_room e room' q) → (turn_noted (length room) b q).faulted ≡ false
    → last_exchange (turn_after e room' q) (turn_room e room' q) qs ≡ exchange_told (last_book (length room) (turn_noted (length room) b q) qs) (numbers_of (turn_after e room' q) (turn_room e room' q) qs))
    → last_exchange e room' (q ∷ qs) ≡ exchange_told (last_book (length room) b (q ∷ qs)) (numbers_of e room' (q ∷ qs))
one_turn room h b e room' (call q) qs s x m rest =
    let a = step room b e room' q h m in
    one_call (length room) b e room' q qs s x a.0 (rest a.1) (kind (number e room' q)) refl
one_turn room h b e room' (again m' ic is) qs s x m rest =
    let a = begins room b e room' m' ic is h m in
    rest a.1 (live_again (length room) b m' ic is (sound_live s)) ∙ skipped _ _ _ (ap is_fault a.0 ∙ again_fault (length room) b m' ic is)

told_run : (room : List ℕ) → room_least ≤ length room → (b : Book) (e : Exchange) (room' : List ℕ) (qs : List Turn) → Sim room b e room' → b.faulted ≡ false
    → last_exchange e room' qs ≡ exchange_told (last_book (length room) b qs) (numbers_of e room' qs)
told_run room h b e room' [] (live s x y) f = x ∙ told_live b [] f
told_run room h b e room' [] (dead n x g y w v u t j z) f = absurd (false≢true (sym f ∙ x))
told_run room h b e room' (q ∷ qs) (dead n x g y w v u t j z) f = absurd (false≢true (sym f ∙ x))
told_run room h b e room' (q ∷ qs) (live s x y) f =
    one_turn room h b e room' q qs s x (live s x y) (told_run room h (turn_noted (length room) b q) (turn_after e room' q) (turn_room e room' q) qs)

-- after an accepted start
pub told_exchange : (role m : ℕ) (vc vs ic is room : List ℕ) → start_cause role m vc vs ic is (length room) ≡ 0 → (calls : List Turn)
    → let e = (started role m vc vs ic is (length room)).exchange in
    let o = started_room role m vc vs ic is room in
    last_exchange e o calls ≡ exchange_told (last_book (length room) (opened role m vc vs ic is) calls) (numbers_of e o calls)
unfolding opened
told_exchange role m vc vs ic is room z calls =
    let f = followed role m vc vs ic is room z [] in
    told_run room f.0 (opened role m vc vs ic is) (started role m vc vs ic is (length room)).exchange (started_room role m vc vs ic is room) calls f.2 refl
