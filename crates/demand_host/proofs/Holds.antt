-- Demand 3 holds where the host stands. Assumes nothing.
use Prim.Native.Nat.{ℕ}
use mathlib.Core.Path.{◌≡◌, refl, sym, ap, ap₂, ◌∙◌}
use mathlib.Core.List.{List, [], ◌∷◌}
use lib.ListN.{length}
use Rattle.exchange.specs.Causes.{start_cause}
use Rattle.exchange.specs.Steps.{Call, own_c, init, reply, secret, sign, verdict, number, exchange_after, room_after, started, started_room}
use Rattle.exchange.specs.Again.{Turn, step, again, again_number, again_after, again_room}
use Rattle.exchange.specs.Book.{Book, opened, last_book}
use Rattle.exchange.specs.ExchangeTold.{exchange_told}
use Rattle.exchange.specs.Demand.{numbers_of, last_exchange, last_room}
use Rattle.exchange.specs.declared.Exchange.{Exchange}
use Rattle.exchange.proofs.Simulation.{start_zero}
use Rattle.exchange.proofs.TheExchange.{told_exchange}
use Rattle.arguments.specs.Arguments.{is_yes, classical_of, kem_of}
use Rattle.stored.specs.Stored.{encoded, fits, decoded}
use Rattle.lent.specs.Lent.{lent_call}
use Rattle.stored.proofs.RoundTrip.{encoded_fits}
use Rattle.demand.proofs.Holds.{AsDefined, held_there}
use Rattle.demand_host.specs.History.{History, no_call, own_c_lem, read_init, read_reply, take_secret, give_sign, give_verdict, begin_again}
use Rattle.demand_host.specs.Told.{Told, start_then}
use Rattle.demand_host.specs.Demand3.{Demand3}
use Rattle.lent.proofs.Kept.{Storable, step_storable, start_storable, again_storable}
use Rattle.lent.proofs.AsStep.{as_step, position_aside}
use Rattle.demand_host.proofs.Links.{as_start, found, method_kept, start_method, again_method, as_begun, method_there}

-- a history from the bytes of x is the run of the definitions from x, and its bytes are those of the exchange that the run reaches
pub record HostRun (x : Exchange) (room : List ℕ) (qs : List Turn) (ns ex' room' : List ℕ) : Type 0 where
  pub numbers : ns ≡ numbers_of x room qs
  pub exchange : ex' ≡ encoded (last_exchange x room qs)
  pub storable : Storable (last_exchange x room qs)
  pub rooms : room' ≡ last_room x room qs

-- a call, and then the rest
one_more : {x : Exchange} {room : List ℕ} {q : Call} {n : ℕ} {room₁ : List ℕ} {qs : List Turn} {ns ex' room' : List ℕ}
    → n ≡ number x room q → room₁ ≡ room_after x room q → HostRun (exchange_after x room q) room₁ qs ns ex' room' → HostRun x room (step q ∷ qs) (n ∷ ns) ex' room'
one_more {x} {room} {q} n u s = record {
  numbers = ap₂ ◌∷◌ n (rw u at s.numbers);
  exchange = rw u at s.exchange;
  storable = rw u at s.storable;
  rooms = rw u at s.rooms;
}

-- a beginning, and then the rest
one_again : {x : Exchange} {room : List ℕ} {m : ℕ} {ic is : List ℕ} {n : ℕ} {room₁ : List ℕ} {qs : List Turn} {ns ex' room' : List ℕ}
    → n ≡ again_number x (length room) m ic is → room₁ ≡ again_room x room m ic is → HostRun (again_after x (length room) m ic is) room₁ qs ns ex' room' → HostRun x room (again m ic is ∷ qs) (n ∷ ns) ex' room'
one_again n u s = record {
  numbers = ap₂ ◌∷◌ n (rw u at s.numbers);
  exchange = rw u at s.exchange;
  storable = rw u at s.storable;
  rooms = rw u at s.rooms;
}

pub host_run : {m : ℕ} {ex room : List ℕ} {qs : List Turn} {ns ex' room' : List ℕ} → History m ex room qs ns ex' room'
    → (x : Exchange) → ex ≡ encoded x → Storable x → x.method ≡ m → HostRun x room qs ns ex' room'
host_run no_call x e k j = record { numbers = refl; exchange = e; storable = k; rooms = refl }
host_run (own_c_lem κs a r s t h) x e k j =
    let q = own_c a.1.1.0.now (length a.1.1.1.0.now) in
    let l = as_step a.0.now x a.1.0.now q _ r _ _ _ _ e k t in
    one_more l.number_is l.room_is (host_run h (exchange_after x a.1.0.now q) l.exchange_is (step_storable x a.1.0.now q k) (method_kept x a.1.0.now q ∙ j))
host_run (read_init κs a r s t h) x e k j =
    let q = init a.1.1.0.now in
    let l = as_step a.0.now x a.1.0.now q _ r _ _ _ _ e k (position_aside _ _ t).0 in
    one_more l.number_is l.room_is (host_run h (exchange_after x a.1.0.now q) l.exchange_is (step_storable x a.1.0.now q k) (method_kept x a.1.0.now q ∙ j))
host_run (read_reply κs a r s t h) x e k j =
    let q = reply a.1.1.0.now in
    let l = as_step a.0.now x a.1.0.now q _ r _ _ _ _ e k (position_aside _ _ t).0 in
    one_more l.number_is l.room_is (host_run h (exchange_after x a.1.0.now q) l.exchange_is (step_storable x a.1.0.now q k) (method_kept x a.1.0.now q ∙ j))
host_run {m} (take_secret κs a r s t h) x e k j =
    let told : ℕ → Call = λ (n : ℕ). secret (classical_of a.1.1.0 a.1.1.1.0) a.1.1.1.1.0.now (kem_of n a.1.1.1.1.1.0) a.1.1.1.1.1.1.0.now a.1.1.1.1.1.1.1.0.now a.1.1.1.1.1.1.1.1.0.now in
    let q = told m in
    let w = ap (λ (n : ℕ). lent_call a.0.now a.1.0.now (told n) []) (method_there a.0.now x m e k j) in
    let l = as_step a.0.now x a.1.0.now q _ r _ _ _ _ e k (t ∙ w) in
    one_more l.number_is l.room_is (host_run h (exchange_after x a.1.0.now q) l.exchange_is (step_storable x a.1.0.now q k) (method_kept x a.1.0.now q ∙ j))
host_run (give_sign κs a r s t h) x e k j =
    let q = sign a.1.1.0.now (length a.1.1.1.0.now) (length a.1.1.1.1.0.now) in
    let l = as_step a.0.now x a.1.0.now q _ r _ _ _ _ e k t in
    one_more l.number_is l.room_is (host_run h (exchange_after x a.1.0.now q) l.exchange_is (step_storable x a.1.0.now q k) (method_kept x a.1.0.now q ∙ j))
host_run (give_verdict κs a r s t h) x e k j =
    let q = verdict (is_yes a.1.1.0) (is_yes a.1.1.1.0) (length a.1.1.1.1.0.now) in
    let l = as_step a.0.now x a.1.0.now q _ r _ _ _ _ e k t in
    one_more l.number_is l.room_is (host_run h (exchange_after x a.1.0.now q) l.exchange_is (step_storable x a.1.0.now q k) (method_kept x a.1.0.now q ∙ j))
host_run {m} (begin_again κs a r s t h) x e k j =
    let room = a.1.0.now in
    let m' = a.1.1.0 in
    let ic = a.1.1.1.0.now in
    let is = a.1.1.1.1.0.now in
    let l = as_begun a.0.now x room m' ic is r _ _ e k t in
    one_again l.0 l.2 (host_run h (again_after x (length room) m' ic is) l.1 (again_storable x (length room) m' ic is k) (again_method x (length room) m m' ic is r l.0 j))

-- an accepted start had no cause against it, and bytes and room are those that the definitions reach from it
pub record Run (b₀ : Book) (room₀ : List ℕ) (calls : List Turn) (numbers ex room : List ℕ) : Type 0 where
  pub role : ℕ
  pub method : ℕ
  pub vc : List ℕ
  pub vs : List ℕ
  pub ic : List ℕ
  pub is : List ℕ
  pub book : b₀ ≡ opened role method vc vs ic is
  pub cause : start_cause role method vc vs ic is (length room₀) ≡ 0
  pub run : HostRun (started role method vc vs ic is (length room₀)).exchange (started_room role method vc vs ic is room₀) calls numbers ex room

pub runs : {b₀ : Book} {room₀ : List ℕ} {calls : List Turn} {numbers ex room : List ℕ} → Told b₀ room₀ calls numbers ex room → Run b₀ room₀ calls numbers ex room
runs (start_then κs a r s t z h) =
    let role = a.1.0 in
    let m = a.1.1.0 in
    let vc = a.1.1.1.0.now in
    let vs = a.1.1.1.1.0.now in
    let ic = a.1.1.1.1.1.0.now in
    let is = a.1.1.1.1.1.1.0.now in
    let room = a.1.1.1.1.1.1.1.0.now in
    let g = as_start a.0.now role m vc vs ic is room r _ _ t z in
    record {
      role = role;
      method = m;
      vc = vc;
      vs = vs;
      ic = ic;
      is = is;
      book = refl;
      cause = start_zero role m vc vs ic is (length room) g.0;
      run = rw g.2 at (host_run h (started role m vc vs ic is (length room)).exchange g.1 (start_storable role m vc vs ic is (length room)) (start_method role m vc vs ic is (length room) (start_zero role m vc vs ic is (length room) g.0)));
    }

-- the exchange in the bytes is the one that the run reaches
pub as_defined : {x : Exchange} {room : List ℕ} {qs : List Turn} {ns ex' room' : List ℕ} → HostRun x room qs ns ex' room' → AsDefined x room qs ns (decoded ex') room'
as_defined {x} {room} {qs} s = record {
  numbers = s.numbers;
  exchange = ap decoded s.exchange ∙ found (last_exchange x room qs) s.storable;
  rooms = s.rooms;
}

pub demand3 : Demand3
demand3 b₀ room₀ calls numbers ex room h =
    let k = runs h in
    let s = k.run in
    let x₀ = (started k.role k.method k.vc k.vs k.ic k.is (length room₀)).exchange in
    let o = started_room k.role k.method k.vc k.vs k.ic k.is room₀ in
    let t = told_exchange k.role k.method k.vc k.vs k.ic k.is room₀ k.cause calls in
    record {
      held = held_there k.role k.method k.vc k.vs k.ic k.is room₀ b₀ calls numbers (decoded ex) room k.book k.cause (as_defined s);
      bytes_are = s.exchange ∙ ap encoded t ∙ (λ i. encoded (exchange_told (last_book (length room₀) (sym k.book i) calls) (sym s.numbers i)));
      fitting = ap fits s.exchange ∙ encoded_fits (last_exchange x₀ o calls) s.storable.k_size_is s.storable.h_size_is s.storable.id_size;
    }
