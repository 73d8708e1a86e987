-- Demand 3 holds. Assumes nothing.
use Prim.Native.Nat.{ℕ}
use mathlib.Core.Path.{◌≡◌, refl, sym, ap, ap₂, ◌∙◌}
use mathlib.Core.List.{List, ◌∷◌}
use lib.ListN.{length}
use Rattle.exchange.specs.Causes.{start_cause}
use Rattle.exchange.specs.Steps.{Call, answered, secret_answered, number, exchange_after, room_after, started, started_room}
use Rattle.exchange.specs.Again.{Turn, step, again, again_number, again_after, again_room, again_answered}
use Rattle.exchange.specs.Book.{Book, opened}
use Rattle.exchange.specs.Demand.{numbers_of, last_exchange, last_room, Held}
use Rattle.exchange.specs.declared.Step.{Step}
use Rattle.exchange.specs.declared.SecretStep.{SecretStep}
use Rattle.exchange.specs.declared.Exchange.{Exchange}
use Rattle.exchange.proofs.Simulation.{held, start_zero, sign_room}
use Rattle.exchange.proofs.SessionLaws.{Kept, session_kept}
use Rattle.demand.specs.History.{History, no_call, own_c_lem, read_init, read_reply, take_secret, give_sign, give_verdict, begin_again}
use Rattle.demand.specs.Told.{Told, start_then}
use Rattle.demand.specs.Demand3.{Demand3}

-- a history is the run of the definitions
pub record AsDefined (e : Exchange) (room : List ℕ) (qs : List Turn) (ns : List ℕ) (e' : Exchange) (room' : List ℕ) : Type 0 where
  pub numbers : ns ≡ numbers_of e room qs
  pub exchange : e' ≡ last_exchange e room qs
  pub rooms : room' ≡ last_room e room qs

-- a call that answered and left what the definitions say, and then the rest
one_more : {e : Exchange} {room : List ℕ} {q : Call} {r : Step} {room₁ : List ℕ} {qs : List Turn} {ns : List ℕ} {e' : Exchange} {room' : List ℕ}
    → r ≡ answered e room q → room₁ ≡ room_after e room q → AsDefined r.exchange room₁ qs ns e' room' → AsDefined e room (step q ∷ qs) (r.number ∷ ns) e' room'
unfolding answered
one_more {e} {room} {q} {r} {room₁} {qs} {ns} t u s =
    let x : r.exchange ≡ exchange_after e room q = ap (λ (z : Step). z.exchange) t in
    let n : r.number ≡ number e room q = ap (λ (z : Step). z.number) t in
    record {
      numbers = ap₂ ◌∷◌ n (rw (x, u) at s.numbers);
      exchange = rw (x, u) at s.exchange;
      rooms = rw (x, u) at s.rooms;
    }

-- and a beginning that did
one_again : {e : Exchange} {room : List ℕ} {m : ℕ} {ic is : List ℕ} {r : Step} {room₁ : List ℕ} {qs : List Turn} {ns : List ℕ} {e' : Exchange} {room' : List ℕ}
    → r ≡ again_answered e (length room) m ic is → room₁ ≡ again_room e room m ic is → AsDefined r.exchange room₁ qs ns e' room'
    → AsDefined e room (again m ic is ∷ qs) (r.number ∷ ns) e' room'
unfolding again_answered
one_again {e} {room} {m} {ic} {is} {r} t u s =
    let x : r.exchange ≡ again_after e (length room) m ic is = ap (λ (z : Step). z.exchange) t in
    let n : r.number ≡ again_number e (length room) m ic is = ap (λ (z : Step). z.number) t in
    record {
      numbers = ap₂ ◌∷◌ n (rw (x, u) at s.numbers);
      exchange = rw (x, u) at s.exchange;
      rooms = rw (x, u) at s.rooms;
    }

pub as_defined : {e : Exchange} {room : List ℕ} {qs : List Turn} {ns : List ℕ} {e' : Exchange} {room' : List ℕ} → History e room qs ns e' room' → AsDefined e room qs ns e' room'
unfolding secret_answered
as_defined no_call = record { numbers = refl; exchange = refl; rooms = refl }
as_defined (own_c_lem κs a r s t h) = one_more t.0 t.1 (as_defined h)
as_defined (read_init κs a r s t h) = one_more t.0 t.1 (as_defined h)
as_defined (read_reply κs a r s t h) = one_more t.0 t.1 (as_defined h)
as_defined (take_secret κs a r s t h) = one_more (ap (λ (y : SecretStep). y.step) t.0) t.1 (as_defined h)
as_defined (give_sign κs a r s t h) = one_more t.0 (sym (sign_room a.0 a.1.0.now _ _ _)) (as_defined h)
as_defined (give_verdict κs a r s t h) = one_more t.0 t.1 (as_defined h)
as_defined (begin_again κs a r s t h) = one_again t.0 t.1 (as_defined h)

-- an accepted start had no cause against it, and exchange and room are those that the definitions reach from it
pub record Run (b₀ : Book) (room₀ : List ℕ) (calls : List Turn) (numbers : List ℕ) (e : Exchange) (room : List ℕ) : Type 0 where
  pub role : ℕ
  pub method : ℕ
  pub vc : List ℕ
  pub vs : List ℕ
  pub ic : List ℕ
  pub is : List ℕ
  pub book : b₀ ≡ opened role method vc vs ic is
  pub cause : start_cause role method vc vs ic is (length room₀) ≡ 0
  pub run : AsDefined (started role method vc vs ic is (length room₀)).exchange (started_room role method vc vs ic is room₀) calls numbers e room

pub runs : {b₀ : Book} {room₀ : List ℕ} {calls : List Turn} {numbers : List ℕ} {e : Exchange} {room : List ℕ} → Told b₀ room₀ calls numbers e room
    → Run b₀ room₀ calls numbers e room
runs (start_then {calls} {numbers} {e} {room} κs a r s t z h) =
    let x = ap (λ (y : Step). y.exchange) t.0 in
    let u = t.1 in
    record {
      role = a.0;
      method = a.1.0;
      vc = a.1.1.0.now;
      vs = a.1.1.1.0.now;
      ic = a.1.1.1.1.0.now;
      is = a.1.1.1.1.1.0.now;
      book = refl;
      cause = start_zero a.0 a.1.0 a.1.1.0.now a.1.1.1.0.now a.1.1.1.1.0.now a.1.1.1.1.1.0.now (length a.1.1.1.1.1.1.0.now) (sym (ap (λ (y : Step). y.number) t.0) ∙ z);
      run = rw (x, u) at (as_defined h);
    }

pub held_there : (role m : ℕ) (vc vs ic is room₀ : List ℕ) (b₀ : Book) (calls : List Turn) (numbers : List ℕ) (e : Exchange) (room : List ℕ)
    → b₀ ≡ opened role m vc vs ic is → start_cause role m vc vs ic is (length room₀) ≡ 0
    → AsDefined (started role m vc vs ic is (length room₀)).exchange (started_room role m vc vs ic is room₀) calls numbers e room
    → Held b₀ room₀ calls numbers e room
held_there role m vc vs ic is room₀ b₀ calls numbers e room b c s =
    rw (b, s.numbers, s.exchange, s.rooms) (held role m vc vs ic is room₀ c calls)

pub demand3 : Demand3
demand3 b₀ room₀ calls numbers e room h =
    let k = runs h in
    held_there k.role k.method k.vc k.vs k.ic k.is room₀ b₀ calls numbers e room k.book k.cause k.run

-- once an exchange was completed, no further call changes identifier and length, and the count does not fall; a fault included
pub session_over : {e : Exchange} {room : List ℕ} {qs : List Turn} {ns : List ℕ} {e' : Exchange} {room' : List ℕ} → History e room qs ns e' room' → (e.session.count ≡ 0 → ⊥)
    → Kept e.session e'.session
session_over {e} {room} {qs} h n = rw (as_defined h).exchange (session_kept e room qs n)
