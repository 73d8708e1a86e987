-- What an accepted start made, and what a step keeps. Assumes nothing.
use Prim.Native.Nat.{ℕ}
use mathlib.Core.Path.{◌≡◌, refl, sym, ap, ◌∙◌}
use mathlib.Core.List.{List, []}
use mathlib.Core.Bool.{Bool, true, false, cond}
use native.Mathlib.Omega.{arith}
use lib.ListN.{length}
use lib.Dec.{eqb}
use Rattle.limits.specs.Limits.{exchange_size}
use Rattle.exchange.specs.Causes.{start_cause}
use Rattle.exchange.specs.Record.{ended}
use Rattle.exchange.specs.Numbers.{Kind, accepted, refused, fault, kind, by_kind}
use Rattle.exchange.specs.Steps.{Call, own_c, init, reply, secret, sign, verdict, number, taken, exchange_after, started, started_room}
use Rattle.exchange.specs.Again.{again_number, begun_again, again_after, again_room}
use Rattle.exchange.specs.Book.{Book, finished, session_of}
use Rattle.exchange.specs.ExchangeTold.{exchange_of, first_fault, exchange_told}
use Rattle.exchange.specs.declared.Exchange.{Exchange}
use Rattle.stored.specs.Stored.{encoded, decoded, by_size}
use Rattle.stored.proofs.StoredLaws.{size_taken}
use Rattle.stored.proofs.RoundTrip.{decoded_encoded}
use Rattle.lent.specs.Lent.{Left, left, untouched, start_left, lent_start, lent_again}
use Rattle.lent.proofs.Kept.{Storable}
use Rattle.lent.proofs.AsStep.{by_again, as_again}
use Rattle.demand_host.specs.History.{running}

-- an accepted start made the exchange
pub as_start : (b : List ℕ) (role m : ℕ) (vc vs ic is room : List ℕ) (n : ℕ) (ex room' : List ℕ) → left n [] ex room' [] ≡ lent_start b role m vc vs ic is room → n ≡ 0
    → ((started role m vc vs ic is (length room)).number ≡ 0) × (ex ≡ encoded (started role m vc vs ic is (length room)).exchange) × (room' ≡ started_room role m vc vs ic is room)
unfolding lent_start start_left by_size
as_start b role m vc vs ic is room n ex room' l z = by_test (eqb (length b) exchange_size) refl
  where
    by_test : (t : Bool) → eqb (length b) exchange_size ≡ t
        → ((started role m vc vs ic is (length room)).number ≡ 0) × (ex ≡ encoded (started role m vc vs ic is (length room)).exchange) × (room' ≡ started_room role m vc vs ic is room)
    by_test true w =
        let k : left n [] ex room' [] ≡ start_left (started role m vc vs ic is (length room)) (started_room role m vc vs ic is room) =
        l ∙ ap (λ (t : Bool). cond t (start_left (started role m vc vs ic is (length room)) (started_room role m vc vs ic is room)) (untouched b room 0 [])) w in
        (sym (ap (λ (y : Left). y.number) k) ∙ z, ap (λ (y : Left). y.exchange) k, ap (λ (y : Left). y.room) k)
    by_test false w =
        let k : left n [] ex room' [] ≡ untouched b room 0 [] =
        l ∙ ap (λ (t : Bool). cond t (start_left (started role m vc vs ic is (length room)) (started_room role m vc vs ic is room)) (untouched b room 0 [])) w in
        let o : n ≡ 1 = ap (λ (y : Left). y.number) k in
        let w : ⊥ = omega (arith, o, z) in
        absurd w

-- the other way round, in as many bytes as an exchange has
pub start_called : (b : List ℕ) (role m : ℕ) (vc vs ic is room : List ℕ) → length b ≡ exchange_size
    → start_left (started role m vc vs ic is (length room)) (started_room role m vc vs ic is room) ≡ lent_start b role m vc vs ic is room
unfolding lent_start
start_called b role m vc vs ic is room h =
    size_taken b (untouched b room 0 []) (start_left (started role m vc vs ic is (length room)) (started_room role m vc vs ic is room)) h

-- and its bytes are found again
pub found : (x : Exchange) → Storable x → decoded (encoded x) ≡ x
found x h = decoded_encoded x h.short h.session h.k_size_is h.h_size_is

-- a step keeps the method
taken_method : (x : Exchange) (room : List ℕ) (q : Call) → (taken x room q).method ≡ x.method
unfolding taken
taken_method x room (own_c c out) = refl
taken_method x room (init p) = refl
taken_method x room (reply p) = refl
taken_method x room (secret cl v kem k_pq ks s) = refl
taken_method x room (sign g out k_out) = refl
taken_method x room (verdict a b k_out) = refl

pub method_kept : (x : Exchange) (room : List ℕ) (q : Call) → (exchange_after x room q).method ≡ x.method
unfolding exchange_after ended
method_kept x room q = by_kind_lem (kind (number x room q))
  where
    by_kind_lem : (k : Kind) → (by_kind k (taken x room q) x (ended (number x room q) x.role x.method x.session)).method ≡ x.method
    by_kind_lem accepted = taken_method x room q
    by_kind_lem refused = refl
    by_kind_lem fault = refl

-- an accepted start has it from its argument
pub start_method : (role m : ℕ) (vc vs ic is : List ℕ) (room : ℕ) → start_cause role m vc vs ic is room ≡ 0 → (started role m vc vs ic is room).exchange.method ≡ m
unfolding started
start_method role m vc vs ic is room z = rw z

-- a beginning has it from its argument, where it is accepted
pub again_method : (x : Exchange) (room m m' : ℕ) (ic is : List ℕ) (r : ℕ) → r ≡ again_number x room m' ic is → x.method ≡ m → (again_after x room m' ic is).method ≡ running m r m'
unfolding again_after
again_method x room m m' ic is r e j = by_test (eqb (again_number x room m' ic is) 0) ∙ (λ i. running (j i) (sym e i) m')
  where
    by_test : (t : Bool) → (cond t (begun_again x m' (length ic) (length is)) x).method ≡ cond t m' x.method
    by_test true = refl
    by_test false = refl

-- what a beginning on an exchange's bytes is, by its definitions
pub as_begun : (b : List ℕ) (x : Exchange) (room : List ℕ) (m : ℕ) (ic is : List ℕ) (n : ℕ) (ex room' : List ℕ) → b ≡ encoded x → Storable x → left n [] ex room' [] ≡ lent_again b room m ic is
    → (n ≡ again_number x (length room) m ic is) × (ex ≡ encoded (again_after x (length room) m ic is)) × (room' ≡ again_room x room m ic is)
as_begun b x room m ic is n ex room' e h l =
    let k : left n [] ex room' [] ≡ by_again x room m ic is = l ∙ ap (λ (y : List ℕ). lent_again y room m ic is) e ∙ sym (as_again x room m ic is h) in
    (ap (λ (y : Left). y.number) k, ap (λ (y : Left). y.exchange) k, ap (λ (y : Left). y.room) k)

-- the exchange that the book tells has the book's method
pub told_method : (b : Book) (numbers : List ℕ) → (exchange_told b numbers).method ≡ b.method
unfolding exchange_told ended
told_method b numbers = by_test b.faulted
  where
    by_test : (t : Bool) → (cond t (ended (first_fault numbers) b.role b.method (session_of (finished b))) (exchange_of b)).method ≡ b.method
    by_test true = refl
    by_test false = refl

-- and the bytes of an exchange have its method
pub method_there : (b : List ℕ) (x : Exchange) (m : ℕ) → b ≡ encoded x → Storable x → x.method ≡ m → (decoded b).method ≡ m
method_there b x m e h k = ap (λ (y : List ℕ). (decoded y).method) e ∙ ap (λ (y : Exchange). y.method) (found x h) ∙ k
