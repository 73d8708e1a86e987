-- For each role and method there is a list of calls that completes an exchange, one that completes two, and one that completes as many as a session
-- can, so that 23 is reached. Assumes nothing.
use Prim.Native.Nat.{ℕ, zero, suc, ◌-◌, ◌≤◌, ◌<◌}
use mathlib.Core.Path.{◌≡◌, refl, ap, ◌∙◌}
use mathlib.Core.Logic.{⊎_elim}
use mathlib.Core.List.{List, [], ◌∷◌, ◌++◌}
use mathlib.Core.Bool.{Bool, true, false, cond, not, ◌&&◌, ◌||◌}
use native.Mathlib.Omega.{arith}
use lib.ListN.{length, get_or, replicate, length-append, length-replicate}
use lib.Seq.{get_or_at}
use lib.Dec.{eqb}
use borrow.Author.Tests.{le-ltb, eq-eqb, ne_eqb}
use Rattle.limits.specs.Limits.{k_size, count_most, room_least, init_least, reply_least, server}
use Rattle.limits.proofs.BoolLaws.{and_false, both}
use Rattle.buffers.specs.Bytes.{zeros}
use Rattle.wire.specs.Causes.{cause_if}
use Rattle.wire.proofs.CauseLaws.{if_holds, if_fails, unless_holds}
use Rattle.methods.specs.Rows.{hybrid, row_of}
use Rattle.methods.specs.Form.{formed}
use Rattle.methods.specs.declared.KForm.{KForm}
use Rattle.methods.specs.declared.KForm.TheVariants.{Mpint, Digest}
use Rattle.methods.specs.declared.Shape.{Shape}
use Rattle.methods.specs.Sound.{Sound}
use Rattle.methods.proofs.FormLaws.{formed_complete}
use Rattle.messages.specs.Messages.{init_bytes, reply_bytes}
use Rattle.exchange.specs.Causes.{method_ok, role_ok, version_ok, kexinit_ok, start_cause, again_cause, own_c_cause, init_cause, reply_cause, x_ok, present, k_pq_for, own_ok, rest_ok, all_zero, kem_bad, secret_cause, sign_cause, verdict_cause, h_of}
use Rattle.exchange.specs.Record.{is_complete}
use Rattle.exchange.specs.Steps.{Call, own_c, init, reply, sign, verdict, step_no, fed_cause, started, started_room}
use Rattle.exchange.specs.Again.{again_number, Turn, again}
use Rattle.exchange.specs.Book.{Past, Book, begun, opened, steps_of, first_cause, fields_after, moved, noted, has_all, finished, again_first, again_noted, hash_input, session_of, turn_noted, last_book}
use Rattle.exchange.specs.Demand.{last_exchange, last_room}
use Rattle.exchange.proofs.KindLaws.{kind_accepted}
use Rattle.exchange.proofs.ReadBack.{init_back, reply_back}
use Rattle.exchange.proofs.Sample.{version, payload, payload', blob, public_value, kem_for, k_pq_in, secret_call, client_calls, server_calls, sample_calls, turns, sample_turns, twice_turns, nights}
use Rattle.exchange.specs.declared.Classical.TheVariants.{Given}
use Rattle.exchange.specs.declared.Session.{Session}
use Rattle.exchange.proofs.CauseFacts.{method_row}
use Rattle.exchange.proofs.Simulation.{begins, role_is, followed, held}
use Rattle.exchange.proofs.HandedLaws.{complete_ready}

-- ---- the values

length_value : (h : Shape) → h.classical < h.len → length (public_value h) ≡ h.len
length_value h k = length-append (zeros h.classical) (4 ∷ zeros (h.len - h.classical - 1)) ∙ omega (arith, length-replicate {A = ℕ} h.classical 0, length-replicate {A = ℕ} (h.len - h.classical - 1) 0)

value_formed : (h : Shape) → h.classical < h.len → formed h (public_value h) ≡ true
value_formed h k =
    formed_complete h (public_value h) (length_value h k)
    (λ e. get_or_at (zeros h.classical) 4 (zeros (h.len - h.classical - 1)) 0 h.classical (length-replicate h.classical 0))

ones_some : (n : ℕ) → 1 ≤ n → all_zero (replicate n 1) ≡ false
ones_some zero h = let w : ⊥ = omega arith in absurd w
ones_some (suc n) h = ne_eqb 0 (suc (length (replicate n 1))) (λ e. omega arith)

-- ---- no cause against any of the calls

module _ (m : ℕ) (ok : method_ok m ≡ true) where
  row : Sound (row_of m)
  row = method_row m ok

  own_c_fed : own_c_cause m (public_value (row_of m).c) init_least ≡ 0
  unfolding own_c_cause
  own_c_fed =
      unless_holds _ 4 _ (value_formed (row_of m).c row.c_classical)
      ∙ if_fails _ 5 0 (le-ltb init_least init_least (omega arith))

  init_fed : init_cause m (init_bytes (public_value (row_of m).c)) ≡ 0
  init_fed = (init_back m ok (public_value (row_of m).c) init_least own_c_fed).0

  reply_fed : reply_cause m (reply_bytes blob (public_value (row_of m).s) blob) ≡ 0
  reply_fed = (reply_back m ok blob (public_value (row_of m).s) blob refl (value_formed (row_of m).s row.s_classical) refl).0

  -- the KEM and K_PQ, by the form
  kem_fed : (f : KForm) → cond (hybrid f) (present (kem_for f)) (not (present (kem_for f))) ≡ true
  kem_fed Mpint = refl
  kem_fed Digest = refl

  k_pq_fed : (f : KForm) → eqb (length (k_pq_in f)) (k_pq_for (kem_for f)) ≡ true
  k_pq_fed Mpint = refl
  k_pq_fed Digest = refl

  kem_right : (f : KForm) → kem_bad (kem_for f) ≡ false
  kem_right Mpint = refl
  kem_right Digest = refl

  secret_fed : (role : ℕ) (ks s : List ℕ) → own_ok role (row_of m) ks s ≡ true → fed_cause role m (secret_call (row_of m) ks s) ≡ 0
  unfolding fed_cause secret_cause rest_ok
  secret_fed role ks s o =
      let x : x_ok (row_of m) (Given (row_of m).x_len) (replicate (row_of m).x_len 1) ≡ true =
      both (eq-eqb (row_of m).x_len (row_of m).x_len refl) (eq-eqb (length {A = ℕ} (replicate (row_of m).x_len 1)) (row_of m).x_len (length-replicate {A = ℕ} (row_of m).x_len 1)) in
      let z : (row_of m).zero_check && all_zero (replicate (row_of m).x_len 1) ≡ false =
      ap (λ (t : Bool). (row_of m).zero_check && t) (ones_some (row_of m).x_len row.x_least) ∙ and_false (row_of m).zero_check in
      unless_holds _ 4 _ (both x (both (both (kem_fed (row_of m).k_form) (k_pq_fed (row_of m).k_form)) o))
      ∙ if_fails _ 16 _ z
      ∙ if_fails _ 17 0 (kem_right (row_of m).k_form)

  own_fed : own_ok server (row_of m) blob (public_value (row_of m).s) ≡ true
  own_fed = value_formed (row_of m).s row.s_classical

sign_fed : sign_cause blob reply_least k_size ≡ 0
unfolding sign_cause
sign_fed =
    unless_holds _ 4 _ refl
    ∙ if_fails _ 5 0
    (λ i. le-ltb reply_least reply_least (omega arith) i || le-ltb k_size k_size (omega arith) i)

verdict_fed : verdict_cause true true k_size ≡ 0
unfolding verdict_cause
verdict_fed = if_fails _ 5 _ (le-ltb k_size k_size (omega arith)) ∙ unless_holds _ 18 0 refl

-- ---- the book

-- a call that is next and has no cause against it moves the book
moves : (room : ℕ) (b : Book) (q : Call) → room_least ≤ room → b.faulted ≡ false → eqb (get_or (steps_of b.role) b.done 0) (step_no q) ≡ true → fed_cause b.role b.method q ≡ 0
    → noted room b q ≡ moved b q
unfolding noted first_cause
moves room b q h f n z =
    let e : first_cause room b q ≡ 0 = if_fails b.faulted 1 _ f ∙ unless_holds _ 1 _ n ∙ if_fails _ 3 _ (le-ltb room room_least h) ∙ z in
    rw (kind_accepted (first_cause room b q) e)

-- the samples' beginning, after these exchanges and with this payload
abbrev sample : List Past → ℕ → ℕ → List ℕ → Book
sample past role m p = begun past role m version version p p

-- every step of a role done: the books that the samples leave
abbrev client_done : List Past → ℕ → List ℕ → Book
client_done past m p =
    moved (moved (moved (moved (sample past 1 m p) (own_c (public_value (row_of m).c) init_least)) (reply (reply_bytes blob (public_value (row_of m).s) blob))) (secret_call (row_of m) [] [])) (verdict true true k_size)

abbrev server_done : List Past → ℕ → List ℕ → Book
server_done past m p = moved (moved (moved (sample past 2 m p) (init (init_bytes (public_value (row_of m).c)))) (secret_call (row_of m) blob (public_value (row_of m).s))) (sign blob reply_least k_size)

client_book : (past : List Past) (m : ℕ) (p : List ℕ) (room : ℕ) → method_ok m ≡ true → room_least ≤ room → last_book room (sample past 1 m p) (turns (client_calls (row_of m))) ≡ client_done past m p
unfolding fed_cause
client_book past m p room ok h =
    let q1 : Call = own_c (public_value (row_of m).c) init_least in
    let q2 : Call = reply (reply_bytes blob (public_value (row_of m).s) blob) in
    let q3 : Call = secret_call (row_of m) [] [] in
    let q4 : Call = verdict true true k_size in
    let b0 : Book = sample past 1 m p in
    let b1 : Book = moved b0 q1 in
    let b2 : Book = moved b1 q2 in
    let b3 : Book = moved b2 q3 in
    ap (λ (b : Book). noted room (noted room (noted room b q2) q3) q4) (moves room b0 q1 h refl refl (own_c_fed m ok))
    ∙ ap (λ (b : Book). noted room (noted room b q3) q4) (moves room b1 q2 h refl refl (reply_fed m ok))
    ∙ ap (λ (b : Book). noted room b q4) (moves room b2 q3 h refl refl (secret_fed m ok 1 [] [] refl))
    ∙ moves room b3 q4 h refl refl verdict_fed

server_book : (past : List Past) (m : ℕ) (p : List ℕ) (room : ℕ) → method_ok m ≡ true → room_least ≤ room → last_book room (sample past 2 m p) (turns (server_calls (row_of m))) ≡ server_done past m p
unfolding fed_cause
server_book past m p room ok h =
    let q1 : Call = init (init_bytes (public_value (row_of m).c)) in
    let q2 : Call = secret_call (row_of m) blob (public_value (row_of m).s) in
    let q3 : Call = sign blob reply_least k_size in
    let b0 : Book = sample past 2 m p in
    let b1 : Book = moved b0 q1 in
    let b2 : Book = moved b1 q2 in
    ap (λ (b : Book). noted room (noted room b q2) q3) (moves room b0 q1 h refl refl (init_fed m ok))
    ∙ ap (λ (b : Book). noted room b q3) (moves room b1 q2 h refl refl (secret_fed m ok 2 blob (public_value (row_of m).s) (own_fed m ok)))
    ∙ moves room b2 q3 h refl refl sign_fed

-- a book that completed an exchange after these, with the samples' V
record Done (past : List Past) (role m : ℕ) (b : Book) : Type 0 where
  is_role : b.role ≡ role
  is_method_is : b.method ≡ m
  all : has_all b ≡ true
  its_vc : b.fields.vc ≡ version
  its_vs : b.fields.vs ≡ version
  one_more : finished b ≡ record { method = m; fields = b.fields } ∷ past

client_done_lem : (past : List Past) (m : ℕ) (p : List ℕ) → Done past 1 m (client_done past m p)
unfolding finished has_all fields_after
client_done_lem past m p = record { is_role = refl; is_method_is = refl; all = refl; its_vc = refl; its_vs = refl; one_more = refl }

server_done_lem : (past : List Past) (m : ℕ) (p : List ℕ) → Done past 2 m (server_done past m p)
unfolding finished has_all fields_after
server_done_lem past m p = record { is_role = refl; is_method_is = refl; all = refl; its_vc = refl; its_vs = refl; one_more = refl }

-- ---- the samples complete

sample_start : (role m room : ℕ) → role_ok role ≡ true → method_ok m ≡ true → room_least ≤ room → start_cause role m version version payload payload room ≡ 0
unfolding start_cause version_ok kexinit_ok
sample_start role m room r k h =
    unless_holds _ 2 _ (λ i. k i && r i) ∙ if_fails _ 3 _ (le-ltb room room_least h) ∙ unless_holds _ 4 0 refl

sample_done : (past : List Past) (role m : ℕ) (p : List ℕ) (room : ℕ) → role_ok role ≡ true → method_ok m ≡ true → room_least ≤ room → Done past role m (last_book room (sample past role m p) (sample_turns role m))
unfolding sample_calls
sample_done past role m p room r k h =
    ⊎_elim
    (λ (e : role ≡ 1). rw (e, client_book past m p room k h) (client_done_lem past m p))
    (λ (e : role ≡ 2). rw (e, server_book past m p room k h) (server_done_lem past m p))
    (role_is role r)

-- for each role and method: the start is accepted, and the sample calls leave an exchange that records itself complete
pub completes : (role m : ℕ) (room : List ℕ) → role_ok role ≡ true → method_ok m ≡ true → room_least ≤ length room
    → (start_cause role m version version payload payload (length room) ≡ 0)
    × (is_complete (last_exchange (started role m version version payload payload (length room)).exchange (started_room role m version version payload payload room) (sample_turns role m)).stage ≡ true)
unfolding opened
completes role m room r k h =
    let z = sample_start role m (length room) r k h in
    (z, (held role m version version payload payload room z (sample_turns role m)).complete ∙ (sample_done [] role m payload (length room) r k h).all)

-- ---- two exchanges in a row

last_append : (room : ℕ) (b : Book) (qs rs : List Turn) → last_book room b (qs ++ rs) ≡ last_book room (last_book room b qs) rs
last_append room b [] rs = refl
last_append room b (q ∷ qs) rs = last_append room (turn_noted room b q) qs rs

-- on a book that completed an exchange only the count is left to stand against a beginning
count_alone : (past : List Past) (role m m' room : ℕ) (b : Book) → Done past role m b → method_ok m' ≡ true → room_least ≤ room
    → again_first room b m' payload' payload' ≡ cause_if (eqb (length (finished b)) count_most) 23 0
unfolding again_first again_cause kexinit_ok
count_alone past role m m' room b y k h = unless_holds _ 1 _ y.all ∙ unless_holds _ 2 _ k ∙ if_fails _ 3 _ (le-ltb room room_least h) ∙ unless_holds _ 4 _ refl

-- a book that completed an exchange begins again
begins_again : (past : List Past) (role m m' room : ℕ) (b : Book) → Done past role m b → method_ok m' ≡ true → room_least ≤ room → suc (length past) < count_most
    → again_noted room b m' payload' payload' ≡ sample (record { method = m; fields = b.fields } ∷ past) role m' payload'
unfolding again_noted
begins_again past role m m' room b y k h l =
    let c : length (finished b) ≡ suc (length past) = ap length y.one_more in
    let z : again_first room b m' payload' payload' ≡ 0 = count_alone past role m m' room b y k h ∙ if_fails _ 23 0 (ne_eqb (length (finished b)) count_most (λ e. omega arith)) in
    rw z (λ i. begun (y.one_more i) (y.is_role i) m' (y.its_vc i) (y.its_vs i) payload' payload')

-- and completes another, after any calls that left it so
again_done : (past : List Past) (role m m' room : ℕ) (b : Book) (qs : List Turn) → Done past role m (last_book room b qs) → role_ok role ≡ true → method_ok m' ≡ true → room_least ≤ room → suc (length past) < count_most
    → Done (record { method = m; fields = (last_book room b qs).fields } ∷ past) role m' (last_book room b (qs ++ again m' payload' payload' ∷ sample_turns role m'))
again_done past role m m' room b qs y r k h l =
    let t = last_append room b qs (again m' payload' payload' ∷ sample_turns role m')
    ∙ ap (λ (c : Book). last_book room c (sample_turns role m')) (begins_again past role m m' room (last_book room b qs) y k h l) in
    rw t (sample_done (record { method = m; fields = (last_book room b qs).fields } ∷ past) role m' payload' room r k h)

twice_book : (role m m' room : ℕ) → role_ok role ≡ true → method_ok m ≡ true → method_ok m' ≡ true → room_least ≤ room
    → let b = last_book room (sample [] role m payload) (sample_turns role m) in
    Done (record { method = m; fields = b.fields } ∷ []) role m' (last_book room (sample [] role m payload) (twice_turns role m m'))
twice_book role m m' room r k k' h =
    again_done [] role m m' room (sample [] role m payload) (sample_turns role m) (sample_done [] role m payload room r k h) r k' h (omega arith)

-- for each role and any two methods: two exchanges complete, one after the other; the count is 2, and the identifier and its length are the first one's
pub completes_twice : (role m m' : ℕ) (room : List ℕ) → role_ok role ≡ true → method_ok m ≡ true → method_ok m' ≡ true → room_least ≤ length room
    → let e = last_exchange (started role m version version payload payload (length room)).exchange (started_room role m version version payload payload room) (twice_turns role m m') in
    (start_cause role m version version payload payload (length room) ≡ 0)
    × (is_complete e.stage ≡ true) × (e.method ≡ m') × (e.session.count ≡ 2) × (e.session.len ≡ (row_of m).digest_len)
    × (e.session.id ≡ h_of m (hash_input (last_book (length room) (opened role m version version payload payload) (sample_turns role m)).fields))
unfolding opened
completes_twice role m m' room r k k' h =
    let z = sample_start role m (length room) r k h in
    let d = held role m version version payload payload room z (twice_turns role m m') in
    let y = twice_book role m m' (length room) r k k' h in
    let c = d.complete ∙ y.all in
    let s = d.session_is ∙ ap session_of y.one_more in
    let f = followed role m version version payload payload room z (twice_turns role m m') in (
      z,
      c,
      (complete_ready _ _ _ _ f.2 c).method_is ∙ y.is_method_is,
      ap (λ (x : Session). x.count) s,
      ap (λ (x : Session). x.len) s,
      ap (λ (x : Session). x.id) s,
    )

-- ---- as many as a session can complete

-- the book after so many more than one
record Often (role m n : ℕ) (b : Book) : Type 0 where
  before : List Past
  so_many : length before ≡ n
  done : Done before role m b

often_book : (role m n room : ℕ) → role_ok role ≡ true → method_ok m ≡ true → room_least ≤ room → suc n ≤ count_most → Often role m n (last_book room (sample [] role m payload) (nights role m n))
often_book role m zero room r k h l = record { before = []; so_many = refl; done = sample_done [] role m payload room r k h }
often_book role m (suc n) room r k h l =
    let y = often_book role m n room r k h (omega arith) in
    let c = y.so_many in
    record {
      before = record { method = m; fields = (last_book room (sample [] role m payload) (nights role m n)).fields } ∷ y.before;
      so_many = omega arith;
      done = again_done y.before role m m room (sample [] role m payload) (nights role m n) y.done r k h (omega arith);
    }

-- so many exchanges are completed
often_count : (role m n : ℕ) (b : Book) → Often role m n b → length (finished b) ≡ suc n
often_count role m n b y = ap length y.done.one_more ∙ ap suc y.so_many

-- for each role and method: up to 4,294,967,295 exchanges complete, one after the other, and the count says how many
pub completes_often : (role m n : ℕ) (room : List ℕ) → role_ok role ≡ true → method_ok m ≡ true → room_least ≤ length room → suc n ≤ count_most
    → let e = last_exchange (started role m version version payload payload (length room)).exchange (started_room role m version version payload payload room) (nights role m n) in
    (is_complete e.stage ≡ true) × (e.session.count ≡ suc n)
unfolding opened
completes_often role m n room r k h l =
    let d = held role m version version payload payload room (sample_start role m (length room) r k h) (nights role m n) in
    let y = often_book role m n (length room) r k h l in
    (d.complete ∙ y.done.all, ap (λ (x : Session). x.count) d.session_is ∙ often_count role m n _ y)

-- and after as many as that a further beginning answers 23
pub full_refused : (role m n : ℕ) (room : List ℕ) → role_ok role ≡ true → method_ok m ≡ true → room_least ≤ length room → suc n ≡ count_most
    → let e = (started role m version version payload payload (length room)).exchange in
    let o = started_room role m version version payload payload room in
    again_number (last_exchange e o (nights role m n)) (length (last_room e o (nights role m n))) m payload' payload' ≡ 23
unfolding opened
full_refused role m n room r k h l =
    let f = followed role m version version payload payload room (sample_start role m (length room) r k h) (nights role m n) in
    let b = last_book (length room) (sample [] role m payload) (nights role m n) in
    let y = often_book role m n (length room) r k h (omega arith) in
    let c = often_count role m n b y ∙ l in
    (begins room _ _ _ m payload' payload' h f.2).0
    ∙ count_alone y.before role m m (length room) b y.done k h
    ∙ if_holds _ 23 0 (eq-eqb (length (finished b)) count_most c)
