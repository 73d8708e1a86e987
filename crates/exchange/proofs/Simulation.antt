-- The exchange and the room follow the book, call by call: demand 3 over the definitions. Assumes nothing.
use Prim.Native.Nat.{ℕ, zero, suc, ◌+◌, ◌≤◌, ◌<◌, zero-le}
use mathlib.Core.Path.{◌≡◌, refl, sym, ap, ap₂, ◌∙◌}
use mathlib.Core.Logic.{◌⊎◌, inl, inr, ⊎_elim}
use mathlib.Core.List.{List, [], ◌∷◌, ◌++◌}
use mathlib.Core.Bool.{Bool, true, false, cond, not, ◌&&◌, ◌||◌, false≢true}
use native.Mathlib.Omega.{arith}
use native.Mathlib.Numerals.{add-one}
use lib.ListN.{length, get_or, take, drop}
use lib.Seq.{take_at}
use lib.Dec.{eqb, ltb, eqb-suc-zero}
use borrow.Author.Tests.{eqb-true, eqb-false, le-ltb, lt-ltb}
use Rattle.limits.specs.Limits.{version_most, kexinit_most, blob_most, k_size, h_size, count_most, room_least, reply_least}
use Rattle.limits.proofs.BoolLaws.{both}
use Rattle.limits.proofs.RangeLaws.{within_is, within_least, within_most}
use Rattle.buffers.specs.Bytes.{zeros, onto, over}
use Rattle.wire.specs.Causes.{cause_if, cause_unless}
use Rattle.buffers.proofs.ByteLaws.{length_onto}
use Rattle.wire.proofs.CauseLaws.{if_none, unless_none}
use Rattle.methods.specs.Rows.{row_of, k_most}
use Rattle.methods.proofs.FormLaws.{length_most_lem}
use Rattle.messages.specs.Messages.{field_of}
use Rattle.transcript.specs.Fields.{field}
use Rattle.transcript.proofs.RoomLaws.{field_length_most}
use Rattle.exchange.specs.Numbers.{is_fault, Kind, accepted, refused, fault, kind, by_kind}
use Rattle.exchange.specs.Causes.{blob_ok, method_ok, role_ok, start_cause, again_cause, sign_cause, k_of, h_of}
use Rattle.exchange.specs.Record.{no_session, ended, next_step, k_length, c_fits, s_fits, k_fits, id_fits, session_fits, record_fits, due, is_complete, completed}
use Rattle.exchange.specs.Steps.{Call, own_c, init, reply, secret, sign, verdict, step_no, fed_cause, number, step_number, filled, with_secret, one_more, taken, k_record, exchange_after, room_after, started, started_room}
use Rattle.exchange.specs.Again.{again_number, versions_end, begun_again, again_after, again_room, Turn, step as call, again, turn_number, turn_after, turn_room}
use Rattle.exchange.proofs.KindLaws.{kind_is_accepted, kind_fault, kind_is_fault, kind_refused}
use Rattle.exchange.proofs.TableLaws.{OfEach, if_keeps, unless_keeps, fed_keeps}
use Rattle.exchange.specs.Book.{Fields, Past, Book, no_fields, begun, opened, steps_of, first_cause, fields_after, moved, dropped, noted, has_all, finished, again_first, again_noted, hash_input, left_by, room_told, h_once, h_told, session_of, turn_cause, turn_noted, causes, last_book}
use Rattle.exchange.specs.Demand.{numbers_of, last_exchange, last_room, Never, AllOnes, SilentAfterFault, Held}
use Rattle.exchange.specs.ExchangeTold.{lengths_in, exchange_of}
use Rattle.exchange.specs.declared.Stage.{Stage}
use Rattle.exchange.specs.declared.Stage.TheVariants.{Started, CSent, InitRead, ReplyRead, SecretDone, Complete, Failed}
use Rattle.exchange.specs.declared.Session.{Session}
use Rattle.exchange.specs.declared.Exchange.{Exchange}
use Rattle.exchange.specs.declared.Step.{Step}
use Rattle.exchange.proofs.CauseFacts.{Base, FormedC, FormedS, Blob, Key, method_row, start_known, again_known, own_c_formed, init_formed, reply_formed, secret_known, own_formed, key_sized}
use Rattle.exchange.proofs.DueLaws.{lengths_fit_lem, record_fits_lem, recorded, due_fits, next_failed, session_known_lem}
use Rattle.exchange.proofs.HashLaws.{fields_of, hash_length, room_c, room_k, room_reply, room_secret, hash_start, room_again}

abbrev pub book : ℕ → ℕ → ℕ → Fields → List Past → Book
book role m done f past = record { role = role; method = m; done = done; fields = f; faulted = false; past = past }

-- what holds of the exchanges before: the count can take one more, the identifier's length fits, and they left the room as long as it was
pub record Gone (past : List Past) : Type 0 where
  pub few : length past < count_most
  pub named : id_fits (session_of past).len (length past) ≡ true
  pub as_long : (room : List ℕ) → room_least ≤ length room → length (left_by past room) ≡ length room

-- the books that can be reached without a fault: one for each role and number of steps done
pub data Reachable : Book → Type 0 where
  client0 : {m : ℕ} {vc vs ic is : List ℕ} {past : List Past} → Gone past → Base m vc vs ic is → Reachable (book 1 m 0 (fields_of vc vs ic is [] [] [] []) past)
  client1 : {m : ℕ} {vc vs ic is c : List ℕ} {past : List Past} → Gone past → Base m vc vs ic is → FormedC m c → Reachable (book 1 m 1 (fields_of vc vs ic is [] c [] []) past)
  client2 : {m : ℕ} {vc vs ic is ks c s : List ℕ} {past : List Past} → Gone past → Base m vc vs ic is → FormedC m c → Blob ks → FormedS m s → Reachable (book 1 m 2 (fields_of vc vs ic is ks c s []) past)
  client3 : {m : ℕ} {vc vs ic is ks c s k : List ℕ} {past : List Past} → Gone past → Base m vc vs ic is → FormedC m c → Blob ks → FormedS m s → Key m k → Reachable (book 1 m 3 (fields_of vc vs ic is ks c s k) past)
  client4 : {m : ℕ} {vc vs ic is ks c s k : List ℕ} {past : List Past} → Gone past → Base m vc vs ic is → FormedC m c → Blob ks → FormedS m s → Key m k → Reachable (book 1 m 4 (fields_of vc vs ic is ks c s k) past)
  server0 : {m : ℕ} {vc vs ic is : List ℕ} {past : List Past} → Gone past → Base m vc vs ic is → Reachable (book 2 m 0 (fields_of vc vs ic is [] [] [] []) past)
  server1 : {m : ℕ} {vc vs ic is c : List ℕ} {past : List Past} → Gone past → Base m vc vs ic is → FormedC m c → Reachable (book 2 m 1 (fields_of vc vs ic is [] c [] []) past)
  server2 : {m : ℕ} {vc vs ic is ks c s k : List ℕ} {past : List Past} → Gone past → Base m vc vs ic is → FormedC m c → Blob ks → FormedS m s → Key m k → Reachable (book 2 m 2 (fields_of vc vs ic is ks c s k) past)
  server3 : {m : ℕ} {vc vs ic is ks c s k : List ℕ} {past : List Past} → Gone past → Base m vc vs ic is → FormedC m c → Blob ks → FormedS m s → Key m k → Reachable (book 2 m 3 (fields_of vc vs ic is ks c s k) past)

-- ---- the exchange that a book without a fault tells

-- the session of the exchanges before fits until the exchange completes, and then with that one
session_open : (stage : Stage) {past : List Past} → Gone past → is_complete stage ≡ false → session_fits stage (session_of past) ≡ true
unfolding session_fits
session_open stage {past} g e = rw e (both (lt-ltb (length past) count_most g.few) g.named)

id_more : (x : Past) (past : List Past) → method_ok x.method ≡ true → id_fits (session_of past).len (length past) ≡ true → id_fits (session_of (x ∷ past)).len (length (x ∷ past)) ≡ true
id_more x [] o n = (method_row x.method o).digest_kind
id_more x (y ∷ past) o n = rw (eqb-suc-zero (suc (length past))) (rw (eqb-suc-zero (length past)) at n)

session_full : (stage : Stage) (x : Past) {past : List Past} → Gone past → method_ok x.method ≡ true → is_complete stage ≡ true → session_fits stage (session_of (x ∷ past)) ≡ true
unfolding session_fits
session_full stage x {past} g o e = rw e (both (within_is 1 count_most (suc (length past)) (omega arith) (omega (arith, g.few))) (id_more x past o g.named))

-- it fits
fits_is : (b : Book) → Base b.method b.fields.vc b.fields.vs b.fields.ic b.fields.is
    → c_fits (row_of b.method) (exchange_of b).stage (lengths_in b.fields) ≡ true → s_fits (row_of b.method) (exchange_of b).stage (lengths_in b.fields) ≡ true
    → k_fits (row_of b.method) (exchange_of b).stage (k_record b.fields.k) ≡ true → session_fits (exchange_of b).stage (session_of (finished b)) ≡ true
    → record_fits (exchange_of b) ≡ true
fits_is b a c s k n =
    record_fits_lem (exchange_of b) a.method_ok_is (lengths_fit_lem (row_of b.method) (exchange_of b).stage (lengths_in b.fields) a.vc_ok a.vs_ok a.ic_ok a.is_ok c s) k n

pub fits_of_book : {b : Book} → Reachable b → record_fits (exchange_of b) ≡ true
unfolding c_fits s_fits k_fits finished has_all
fits_of_book (client0 {m} {vc} {vs} {ic} {is} {past = pa} o a) = fits_is (book 1 m 0 (fields_of vc vs ic is [] [] [] []) pa) a refl refl refl (session_open Started o refl)
fits_of_book (client1 {m} {vc} {vs} {ic} {is} {c = fc} {past = pa} o a c) = fits_is (book 1 m 1 (fields_of vc vs ic is [] fc [] []) pa) a c.len refl refl (session_open CSent o refl)
fits_of_book (client2 {m} {vc} {vs} {ic} {is} {ks = fk} {c = fc} {s = fs} {past = pa} o a c k s) = fits_is (book 1 m 2 (fields_of vc vs ic is fk fc fs []) pa) a c.len (both k.ok s.len) refl (session_open ReplyRead o refl)
fits_of_book (client3 {m} {vc} {vs} {ic} {is} {ks = fk} {c = fc} {s = fs} {k = ky} {past = pa} o a c k s y) = fits_is (book 1 m 3 (fields_of vc vs ic is fk fc fs ky) pa) a c.len (both k.ok s.len) y.ok (session_open SecretDone o refl)
fits_of_book (client4 {m} {vc} {vs} {ic} {is} {ks = fk} {c = fc} {s = fs} {k = ky} {past = pa} o a c k s y) = fits_is (book 1 m 4 (fields_of vc vs ic is fk fc fs ky) pa) a c.len (both k.ok s.len) y.ok (session_full Complete (record { method = m; fields = fields_of vc vs ic is fk fc fs ky }) o a.method_ok_is refl)
fits_of_book (server0 {m} {vc} {vs} {ic} {is} {past = pa} o a) = fits_is (book 2 m 0 (fields_of vc vs ic is [] [] [] []) pa) a refl refl refl (session_open Started o refl)
fits_of_book (server1 {m} {vc} {vs} {ic} {is} {c = fc} {past = pa} o a c) = fits_is (book 2 m 1 (fields_of vc vs ic is [] fc [] []) pa) a c.len refl refl (session_open InitRead o refl)
fits_of_book (server2 {m} {vc} {vs} {ic} {is} {ks = fk} {c = fc} {s = fs} {k = ky} {past = pa} o a c k s y) = fits_is (book 2 m 2 (fields_of vc vs ic is fk fc fs ky) pa) a c.len (both k.ok s.len) y.ok (session_open SecretDone o refl)
fits_of_book (server3 {m} {vc} {vs} {ic} {is} {ks = fk} {c = fc} {s = fs} {k = ky} {past = pa} o a c k s y) = fits_is (book 2 m 3 (fields_of vc vs ic is fk fc fs ky) pa) a c.len (both k.ok s.len) y.ok (session_full Complete (record { method = m; fields = fields_of vc vs ic is fk fc fs ky }) o a.method_ok_is refl)

-- a step is due on it exactly where it is the role's next in the book
next_of_book : {b : Book} → Reachable b → next_step b.role (exchange_of b).stage ≡ get_or (steps_of b.role) b.done 0
next_of_book (client0 o a) = refl
next_of_book (client1 o a c) = refl
next_of_book (client2 o a c k s) = refl
next_of_book (client3 o a c k s y) = refl
next_of_book (client4 o a c k s y) = refl
next_of_book (server0 o a) = refl
next_of_book (server1 o a c) = refl
next_of_book (server2 o a c k s y) = refl
next_of_book (server3 o a c k s y) = refl

due_of_book : {b : Book} → Reachable b → (q : Call) → due (step_no q) (exchange_of b) ≡ eqb (get_or (steps_of b.role) b.done 0) (step_no q)
due_of_book {b} s q = due_fits (step_no q) (exchange_of b) (fits_of_book s) ∙ ap (λ (n : ℕ). eqb n (step_no q)) (next_of_book s)

-- it is complete exactly where the book has every step
complete_of_book : {b : Book} → Reachable b → is_complete (exchange_of b).stage ≡ has_all b
unfolding has_all
complete_of_book (client0 o a) = refl
complete_of_book (client1 o a c) = refl
complete_of_book (client2 o a c k s) = refl
complete_of_book (client3 o a c k s y) = refl
complete_of_book (client4 o a c k s y) = refl
complete_of_book (server0 o a) = refl
complete_of_book (server1 o a c) = refl
complete_of_book (server2 o a c k s y) = refl
complete_of_book (server3 o a c k s y) = refl

pub role_of_book : {b : Book} → Reachable b → role_ok b.role ≡ true
unfolding role_ok
role_of_book (client0 o a) = refl
role_of_book (client1 o a c) = refl
role_of_book (client2 o a c k s) = refl
role_of_book (client3 o a c k s y) = refl
role_of_book (client4 o a c k s y) = refl
role_of_book (server0 o a) = refl
role_of_book (server1 o a c) = refl
role_of_book (server2 o a c k s y) = refl
role_of_book (server3 o a c k s y) = refl

completed_of_book : {b : Book} → Reachable b → completed (exchange_of b) ≡ has_all b
unfolding completed
completed_of_book {b} s = (λ i. complete_of_book s i && role_of_book s i && fits_of_book s i) ∙ and_true_true (has_all b)
  where
    and_true_true : (t : Bool) → t && true && true ≡ t
    and_true_true true = refl
    and_true_true false = refl

-- ---- an accepted call

-- over the room that the latest beginning found
pub record Follows (room : List ℕ) (b : Book) (q : Call) : Type 0 where
  pub sound : Reachable (moved b q)
  pub exchange : taken (exchange_of b) (onto room (hash_input b.fields)) q ≡ exchange_of (moved b q)
  pub room_is : filled (exchange_of b) (onto room (hash_input b.fields)) q ≡ onto room (hash_input (fields_after b.role b.method b.fields q))

-- H of the room's first bytes, where these are the hash input and K is one of its fields
h_once_lem : (m n : ℕ) (room r k input : List ℕ) → n ≡ length input → r ≡ onto room input → k_length (k_record k) ≡ length k → h_of m (take n r) ≡ h_once m k input
unfolding onto
h_once_lem m n room r [] input a b l = let w : ⊥ = omega (arith, l) in absurd w
h_once_lem m n room r (y ∷ k) input a b l = ap (λ (v : List ℕ). h_of m (take n v)) b ∙ ap (h_of m) (take_at input (drop (length input) room) n (sym a))

-- K has its four length bytes, so that H is there
h_some : (m : ℕ) (k input : List ℕ) → k_length (k_record k) ≡ length k → h_once m k input ≡ h_of m input
h_some m [] input l = let w : ⊥ = omega (arith, l) in absurd w
h_some m (y ∷ k) input l = refl

-- one exchange more
session_more : (x : Past) (past : List Past) → one_more x.method (h_of x.method (hash_input x.fields)) (session_of past) ≡ session_of (x ∷ past)
unfolding one_more
session_more x [] = refl
session_more x (y ∷ past) = rw (eqb-suc-zero (length past), add-one)

-- the last step counts the exchange
last_session : (m : ℕ) (f : Fields) (past : List Past) → Key m f.k → one_more m (h_once m f.k (hash_input f)) (session_of past) ≡ session_of (record { method = m; fields = f } ∷ past)
last_session m f past y = ap (λ (h : List ℕ). one_more m h (session_of past)) (h_some m f.k (hash_input f) y.len) ∙ session_more (record { method = m; fields = f }) past

-- an exchange whose last step is done, with this session
abbrev with_session : Exchange → Session → Exchange
with_session e session = record { stage = Complete; role = e.role; method = e.method; lens = e.lens; k = e.k; h = e.h; session = session }

pub accepts : (room : List ℕ) {b : Book} → Reachable b → (q : Call) → eqb (get_or (steps_of b.role) b.done 0) (step_no q) ≡ true → fed_cause b.role b.method q ≡ 0 → Follows room b q
unfolding fed_cause fields_after taken filled h_told finished has_all
accepts room (client0 o a) (own_c c' out) e z = record { sound = client1 o a (own_c_formed _ c' _ z); exchange = refl; room_is = room_c _ _ _ _ room c' }
accepts room (client0 o a) (init p) e z = absurd (false≢true e)
accepts room (client0 o a) (reply p) e z = absurd (false≢true e)
accepts room (client0 o a) (secret cl x kem k_pq ks' s') e z = absurd (false≢true e)
accepts room (client0 o a) (sign g out k_out) e z = absurd (false≢true e)
accepts room (client0 o a) (verdict u v k_out) e z = absurd (false≢true e)
accepts room (client1 o a c) (own_c c' out) e z = absurd (false≢true e)
accepts room (client1 o a c) (init p) e z = absurd (false≢true e)
accepts room (client1 o a c) (reply p) e z = let r = reply_formed _ p z in record { sound = client2 o a c r.1 r.2; exchange = refl; room_is = room_reply _ _ _ _ room (field_of p 0) _ (field_of p 1) }
accepts room (client1 o a c) (secret cl x kem k_pq ks' s') e z = absurd (false≢true e)
accepts room (client1 o a c) (sign g out k_out) e z = absurd (false≢true e)
accepts room (client1 o a c) (verdict u v k_out) e z = absurd (false≢true e)
accepts room (client2 o a c k s) (own_c c' out) e z = absurd (false≢true e)
accepts room (client2 o a c k s) (init p) e z = absurd (false≢true e)
accepts room (client2 o a c k s) (reply p) e z = absurd (false≢true e)
accepts room (client2 {m} {vc} {vs} {ic} {is} {ks = fk} {c = fc} {s = fs} {past = pa} o a c k s) (secret cl x kem k_pq ks' s') e z =
    let y = key_sized 1 m cl x kem k_pq ks' s' a.method_ok_is z in
    let r = room_k vc vs ic is room fk fc fs (k_of m x k_pq) in
    let b = book 1 m 2 (fields_of vc vs ic is fk fc fs []) pa in
    let f = fields_of vc vs ic is fk fc fs (k_of m x k_pq) in
    let h = h_once_lem m _ room _ (k_of m x k_pq) (hash_input f) (sym (hash_length vc vs ic is fk fc fs (k_of m x k_pq))) r y.len in
    record { sound = client3 o a c k s y; exchange = λ i. with_secret (exchange_of b) (lengths_in f) (k_record (k_of m x k_pq)) (h i); room_is = r }
accepts room (client2 o a c k s) (sign g out k_out) e z = absurd (false≢true e)
accepts room (client2 o a c k s) (verdict u v k_out) e z = absurd (false≢true e)
accepts room (client3 o a c k s y) (own_c c' out) e z = absurd (false≢true e)
accepts room (client3 o a c k s y) (init p) e z = absurd (false≢true e)
accepts room (client3 o a c k s y) (reply p) e z = absurd (false≢true e)
accepts room (client3 o a c k s y) (secret cl x kem k_pq ks' s') e z = absurd (false≢true e)
accepts room (client3 o a c k s y) (sign g out k_out) e z = absurd (false≢true e)
accepts room (client3 {m} {vc} {vs} {ic} {is} {ks = fk} {c = fc} {s = fs} {k = ky} {past = pa} o a c k s y) (verdict u v k_out) e z =
    let f = fields_of vc vs ic is fk fc fs ky in
    record { sound = client4 o a c k s y; exchange = λ i. with_session (exchange_of (book 1 m 3 f pa)) (last_session m f pa y i); room_is = refl }
accepts room (client4 o a c k s y) (own_c c' out) e z = absurd (false≢true e)
accepts room (client4 o a c k s y) (init p) e z = absurd (false≢true e)
accepts room (client4 o a c k s y) (reply p) e z = absurd (false≢true e)
accepts room (client4 o a c k s y) (secret cl x kem k_pq ks' s') e z = absurd (false≢true e)
accepts room (client4 o a c k s y) (sign g out k_out) e z = absurd (false≢true e)
accepts room (client4 o a c k s y) (verdict u v k_out) e z = absurd (false≢true e)
accepts room (server0 o a) (own_c c' out) e z = absurd (false≢true e)
accepts room (server0 o a) (init p) e z = record { sound = server1 o a (init_formed _ p z).1; exchange = refl; room_is = room_c _ _ _ _ room (field_of p 0) }
accepts room (server0 o a) (reply p) e z = absurd (false≢true e)
accepts room (server0 o a) (secret cl x kem k_pq ks' s') e z = absurd (false≢true e)
accepts room (server0 o a) (sign g out k_out) e z = absurd (false≢true e)
accepts room (server0 o a) (verdict u v k_out) e z = absurd (false≢true e)
accepts room (server1 o a c) (own_c c' out) e z = absurd (false≢true e)
accepts room (server1 o a c) (init p) e z = absurd (false≢true e)
accepts room (server1 o a c) (reply p) e z = absurd (false≢true e)
accepts room (server1 {m} {vc} {vs} {ic} {is} {c = fc} {past = pa} o a c) (secret cl x kem k_pq ks' s') e z =
    let w = own_formed m ks' s' (secret_known 2 m cl x kem k_pq ks' s' z).3 in
    let y = key_sized 2 m cl x kem k_pq ks' s' a.method_ok_is z in
    let r = room_secret vc vs ic is room ks' fc s' (k_of m x k_pq) in
    let b = book 2 m 1 (fields_of vc vs ic is [] fc [] []) pa in
    let f = fields_of vc vs ic is ks' fc s' (k_of m x k_pq) in
    let h = h_once_lem m _ room _ (k_of m x k_pq) (hash_input f) (sym (hash_length vc vs ic is ks' fc s' (k_of m x k_pq))) r y.len in
    record { sound = server2 o a c w.0 w.1 y; exchange = λ i. with_secret (exchange_of b) (lengths_in f) (k_record (k_of m x k_pq)) (h i); room_is = r }
accepts room (server1 o a c) (sign g out k_out) e z = absurd (false≢true e)
accepts room (server1 o a c) (verdict u v k_out) e z = absurd (false≢true e)
accepts room (server2 o a c k s y) (own_c c' out) e z = absurd (false≢true e)
accepts room (server2 o a c k s y) (init p) e z = absurd (false≢true e)
accepts room (server2 o a c k s y) (reply p) e z = absurd (false≢true e)
accepts room (server2 o a c k s y) (secret cl x kem k_pq ks' s') e z = absurd (false≢true e)
accepts room (server2 {m} {vc} {vs} {ic} {is} {ks = fk} {c = fc} {s = fs} {k = ky} {past = pa} o a c k s y) (sign g out k_out) e z =
    let f = fields_of vc vs ic is fk fc fs ky in
    record { sound = server3 o a c k s y; exchange = λ i. with_session (exchange_of (book 2 m 2 f pa)) (last_session m f pa y i); room_is = refl }
accepts room (server2 o a c k s y) (verdict u v k_out) e z = absurd (false≢true e)
accepts room (server3 o a c k s y) (own_c c' out) e z = absurd (false≢true e)
accepts room (server3 o a c k s y) (init p) e z = absurd (false≢true e)
accepts room (server3 o a c k s y) (reply p) e z = absurd (false≢true e)
accepts room (server3 o a c k s y) (secret cl x kem k_pq ks' s') e z = absurd (false≢true e)
accepts room (server3 o a c k s y) (sign g out k_out) e z = absurd (false≢true e)
accepts room (server3 o a c k s y) (verdict u v k_out) e z = absurd (false≢true e)

-- ---- the fields never pass the least room

sized_c : {m : ℕ} {c : List ℕ} → FormedC m c → length c ≤ (row_of m).c.len
sized_c {m} {c} h = length_most_lem (row_of m).c (length c) h.len

sized_s : {m : ℕ} {s : List ℕ} → FormedS m s → length s ≤ (row_of m).s.len
sized_s {m} {s} h = length_most_lem (row_of m).s (length s) h.len

blob_most_lem : {ks : List ℕ} → Blob ks → length ks ≤ blob_most
blob_most_lem {ks} h = within_most 1 blob_most (length ks) h.ok

sum_most : (m : ℕ) (vc vs ic is ks c s k : List ℕ) → Base m vc vs ic is → length ks ≤ blob_most → length c ≤ (row_of m).c.len → length s ≤ (row_of m).s.len → length k ≤ 4 + k_most (row_of m)
    → length (hash_input (fields_of vc vs ic is ks c s k)) ≤ room_least
sum_most m vc vs ic is ks c s k a hk hc hs hy =
    let r = method_row m a.method_ok_is in
    let l = hash_length vc vs ic is ks c s k in
    let t = r.all_most in
    let v1 = within_most 1 version_most (length vc) a.vc_ok in
    let v2 = within_most 1 version_most (length vs) a.vs_ok in
    let i1 = within_most 1 kexinit_most (length ic) a.ic_ok in
    let i2 = within_most 1 kexinit_most (length is) a.is_ok in
    let f1 = field_length_most (length vc) in
    let f2 = field_length_most (length vs) in
    let f3 = field_length_most (length ic) in
    let f4 = field_length_most (length is) in
    let f5 = field_length_most (length ks) in
    let f6 = field_length_most (length c) in
    let f7 = field_length_most (length s) in
    omega arith

total : {b : Book} → Reachable b → length (hash_input b.fields) ≤ room_least
total (client0 o a) = sum_most _ _ _ _ _ _ _ _ _ a zero-le zero-le zero-le zero-le
total (client1 o a c) = sum_most _ _ _ _ _ _ _ _ _ a zero-le (sized_c c) zero-le zero-le
total (client2 o a c k s) = sum_most _ _ _ _ _ _ _ _ _ a (blob_most_lem k) (sized_c c) (sized_s s) zero-le
total (client3 o a c k s y) = sum_most _ _ _ _ _ _ _ _ _ a (blob_most_lem k) (sized_c c) (sized_s s) y.most
total (client4 o a c k s y) = sum_most _ _ _ _ _ _ _ _ _ a (blob_most_lem k) (sized_c c) (sized_s s) y.most
total (server0 o a) = sum_most _ _ _ _ _ _ _ _ _ a zero-le zero-le zero-le zero-le
total (server1 o a c) = sum_most _ _ _ _ _ _ _ _ _ a zero-le (sized_c c) zero-le zero-le
total (server2 o a c k s y) = sum_most _ _ _ _ _ _ _ _ _ a (blob_most_lem k) (sized_c c) (sized_s s) y.most
total (server3 o a c k s y) = sum_most _ _ _ _ _ _ _ _ _ a (blob_most_lem k) (sized_c c) (sized_s s) y.most

pub sound_live : {b : Book} → Reachable b → b.faulted ≡ false
sound_live (client0 o a) = refl
sound_live (client1 o a c) = refl
sound_live (client2 o a c k s) = refl
sound_live (client3 o a c k s y) = refl
sound_live (client4 o a c k s y) = refl
sound_live (server0 o a) = refl
sound_live (server1 o a c) = refl
sound_live (server2 o a c k s y) = refl
sound_live (server3 o a c k s y) = refl

-- ---- the exchanges before

gone : {b : Book} → Reachable b → Gone b.past
gone (client0 o a) = o
gone (client1 o a c) = o
gone (client2 o a c k s) = o
gone (client3 o a c k s y) = o
gone (client4 o a c k s y) = o
gone (server0 o a) = o
gone (server1 o a c) = o
gone (server2 o a c k s y) = o
gone (server3 o a c k s y) = o

-- the room that they left is as long as it was lent, and so is it with the hash input
long_enough : {b : Book} → Reachable b → (room : List ℕ) → room_least ≤ length room → length (onto (left_by b.past room) (hash_input b.fields)) ≡ length room
long_enough {b} s room h =
    let e = (gone s).as_long room h in
    length_onto (left_by b.past room) (hash_input b.fields) (omega (arith, total s)) ∙ e

count_of_book : {b : Book} → Reachable b → length (finished b) ≤ count_most
unfolding finished
count_of_book {b} s = by_test (has_all b)
  where
    by_test : (t : Bool) → length (cond t (record { method = b.method; fields = b.fields } ∷ b.past) b.past) ≤ count_most
    by_test true = omega (arith, (gone s).few)
    by_test false = omega (arith, (gone s).few)

-- every step has a number
some_step : (q : Call) → eqb 0 (step_no q) ≡ false
some_step (own_c c out) = refl
some_step (init p) = refl
some_step (reply p) = refl
some_step (secret cl x kem k_pq ks s) = refl
some_step (sign g out k_out) = refl
some_step (verdict u v k_out) = refl

-- a fault comes only before the exchange is complete, so that it leaves the completed ones as they were
full_cause : (l : ℕ) (b : Book) (q : Call) → get_or (steps_of b.role) b.done 0 ≡ 0 → first_cause l b q ≡ 1
unfolding first_cause cause_if cause_unless
full_cause l b q n = rw (n, some_step q) (by_test b.faulted)
  where
    by_test : (t : Bool) → cause_if t 1 1 ≡ 1
    by_test true = refl
    by_test false = refl

pub fault_open : (l : ℕ) {b : Book} → Reachable b → (q : Call) → is_fault (first_cause l b q) ≡ true → finished b ≡ finished (dropped b)
unfolding finished has_all
fault_open l (client0 o a) q e = refl
fault_open l (client1 o a c) q e = refl
fault_open l (client2 o a c k s) q e = refl
fault_open l (client3 o a c k s y) q e = refl
fault_open l (client4 o a c k s y) q e = absurd (false≢true (ap is_fault (sym (full_cause l _ q refl)) ∙ e))
fault_open l (server0 o a) q e = refl
fault_open l (server1 o a c) q e = refl
fault_open l (server2 o a c k s y) q e = refl
fault_open l (server3 o a c k s y) q e = absurd (false≢true (ap is_fault (sym (full_cause l _ q refl)) ∙ e))

dropped_past : (b : Book) → finished (dropped b) ≡ b.past
unfolding finished has_all
dropped_past b = refl

-- ---- how exchange and room stand to the book

pub data Sim (room : List ℕ) (b : Book) (e : Exchange) (room' : List ℕ) : Type 0 where
  live : Reachable b → e ≡ exchange_of b → room' ≡ onto (left_by b.past room) (hash_input b.fields) → Sim room b e room'
  dead : (n : ℕ) → b.faulted ≡ true → b.fields ≡ no_fields → e.stage ≡ Failed n → e.k ≡ k_record [] → e.h ≡ zeros h_size
      → e.session ≡ session_of (finished b) → length (finished b) ≤ count_most → id_fits (session_of (finished b)).len (length (finished b)) ≡ true
      → room' ≡ zeros (length room) → Sim room b e room'

pub number_live : (room : List ℕ) (b : Book) (q : Call) → room_least ≤ length room → Reachable b →
    number (exchange_of b) (onto (left_by b.past room) (hash_input b.fields)) q ≡ first_cause (length room) b q
unfolding number step_number first_cause cause_if
number_live room b q h s = rw (due_of_book s q, long_enough s room h, sound_live s) refl

no_k : zeros k_size ≡ k_record []
unfolding k_record onto
no_k = refl

ended_stage : (n role m : ℕ) (s : Session) → (ended n role m s).stage ≡ Failed n
unfolding ended
ended_stage n role m s = refl

ended_k : (n role m : ℕ) (s : Session) → (ended n role m s).k ≡ k_record []
unfolding ended
ended_k n role m s = no_k

ended_h : (n role m : ℕ) (s : Session) → (ended n role m s).h ≡ zeros h_size
unfolding ended
ended_h n role m s = refl

ended_session : (n role m : ℕ) (s : Session) → (ended n role m s).session ≡ s
unfolding ended
ended_session n role m s = refl

-- a call without a cause is next, and nothing is wrong with what it was fed
pub no_cause : (l : ℕ) (b : Book) (q : Call) → first_cause l b q ≡ 0 → (eqb (get_or (steps_of b.role) b.done 0) (step_no q) ≡ true) × (fed_cause b.role b.method q ≡ 0)
unfolding first_cause
no_cause l b q z =
    let u = unless_none _ 1 _ (omega arith) (if_none _ 1 _ (omega arith) z).1 in
    (u.0, (if_none _ 3 _ (omega arith) u.1).1)

-- a call on a live exchange goes by the kind of its number
settle : (room : List ℕ) (b : Book) (q : Call) (n : ℕ) (k : Kind) → room_least ≤ length room → Reachable b → n ≡ first_cause (length room) b q → kind n ≡ k →
    let r = onto (left_by b.past room) (hash_input b.fields) in
    Sim room (by_kind k (moved b q) b (dropped b)) (by_kind k (taken (exchange_of b) r q) (exchange_of b) (ended n b.role b.method (session_of (finished b))))
    (by_kind k (filled (exchange_of b) r q) r (zeros (length r)))
settle room b q n accepted h s e k =
    let u = no_cause (length room) b q (sym e ∙ kind_is_accepted n k) in
    let f = accepts (left_by b.past room) s q u.0 u.1 in
    live f.sound f.exchange f.room_is
settle room b q n refused h s e k = live s refl refl
settle room b q n fault h s e k =
    let p = session_of (finished b) in
    let o = ap session_of (fault_open (length room) s q (ap is_fault (sym e) ∙ kind_is_fault n k)) in
    let d = ap length (dropped_past b) in
    let j = ap (λ (past : List Past). id_fits (session_of past).len (length past)) (dropped_past b) ∙ (gone s).named in
    dead n refl refl (ended_stage n b.role b.method p) (ended_k n b.role b.method p) (ended_h n b.role b.method p)
    (ended_session n b.role b.method p ∙ o) (omega (arith, (gone s).few)) j (ap zeros (long_enough s room h))

-- no step is due on an exchange that failed
dead_due : (e : Exchange) (n : ℕ) (q : Call) → e.stage ≡ Failed n → due (step_no q) e ≡ false
unfolding due
dead_due e n q y = first (step_no q) (ap (next_step e.role) y ∙ next_failed e.role n) (some_step q)
  where
    first : (m : ℕ) → next_step e.role e.stage ≡ 0 → eqb 0 m ≡ false → due m e ≡ false
    first m a b = rw (a, b)

pub dead_number : (e : Exchange) (room : List ℕ) (n : ℕ) (q : Call) → e.stage ≡ Failed n → number e room q ≡ 1
unfolding number step_number cause_unless
dead_number e room n q y = rw (dead_due e n q y)

pub dead_cause : (l : ℕ) (b : Book) (q : Call) → b.faulted ≡ true → first_cause l b q ≡ 1
unfolding first_cause cause_if
dead_cause l b q x = rw x

-- one call keeps the relation, and its number is the book's
pub step : (room : List ℕ) (b : Book) (e : Exchange) (room' : List ℕ) (q : Call) → room_least ≤ length room → Sim room b e room' →
    (number e room' q ≡ first_cause (length room) b q) × Sim room (noted (length room) b q) (exchange_after e room' q) (room_after e room' q)
unfolding exchange_after room_after noted
step room b e room' q h (live s x y) = rw (x, y) (number_live room b q h s, rw (number_live room b q h s) (settle room b q _ _ h s refl refl))
step room b e room' q h (dead n x f y w v u t j z) =
    (dead_number e room' n q y ∙ sym (dead_cause (length room) b q x), rw (dead_number e room' n q y, dead_cause (length room) b q x, kind_refused 1 (λ u. omega arith) refl) (dead n x f y w v u t j z))

-- ---- to begin again

-- the exchanges before, with one more
gone_more : {m : ℕ} {f : Fields} {past : List Past} → Gone past → method_ok m ≡ true → length (hash_input f) ≤ room_least → (suc (length past) ≡ count_most → ⊥)
    → Gone (record { method = m; fields = f } ∷ past)
gone_more {m} {f} {past} g o t l = record {
  few = omega (arith, g.few, l);
  named = id_more (record { method = m; fields = f }) past o g.named;
  as_long = λ room h. let e = g.as_long room h in length_onto (left_by past room) (hash_input f) (omega arith) ∙ e;
}

-- where it is accepted
record Begins (room : List ℕ) (b : Book) (m : ℕ) (ic is : List ℕ) : Type 0 where
  sound : Reachable (begun (finished b) b.role m b.fields.vc b.fields.vs ic is)
  exchange : begun_again (exchange_of b) m (length ic) (length is) ≡ exchange_of (begun (finished b) b.role m b.fields.vc b.fields.vs ic is)
  room_is : over (onto (left_by b.past room) (hash_input b.fields)) (versions_end (lengths_in b.fields)) (field ic ++ field is)
      ≡ onto (left_by (finished b) room) (hash_input (fields_of b.fields.vc b.fields.vs ic is [] [] [] []))

-- an exchange at its beginning, its K record apart
abbrev beginning : ℕ → ℕ → Fields → List ℕ → Session → Exchange
beginning role m f k session = record { stage = Started; role = role; method = m; lens = lengths_in f; k = k; h = zeros h_size; session = session }

begins_at : (room : List ℕ) {b : Book} → Reachable b → (m : ℕ) (ic is : List ℕ) → has_all b ≡ true → again_cause m ic is (length room) (length (finished b)) ≡ 0 → Begins room b m ic is
unfolding finished has_all h_told
begins_at room (client0 o a) m' ic' is' e z = absurd (false≢true e)
begins_at room (client1 o a c) m' ic' is' e z = absurd (false≢true e)
begins_at room (client2 o a c k s) m' ic' is' e z = absurd (false≢true e)
begins_at room (client3 o a c k s y) m' ic' is' e z = absurd (false≢true e)
begins_at room (client4 {m} {vc} {vs} {ic} {is} {ks = fk} {c = fc} {s = fs} {k = ky} {past = pa} o a c k s y) m' ic' is' e z =
    let w = again_known m' ic' is' (length room) (suc (length pa)) z in
    let x : Past = record { method = m; fields = fields_of vc vs ic is fk fc fs ky } in
    record {
      sound = client0 (gone_more o a.method_ok_is (total (client4 o a c k s y)) w.4) (record { method_ok_is = w.0; vc_ok = a.vc_ok; vs_ok = a.vs_ok; ic_ok = w.2; is_ok = w.3 });
      exchange = λ i. beginning 1 m' (fields_of vc vs ic' is' [] [] [] []) (no_k i) (session_of (x ∷ pa));
      room_is = room_again (left_by pa room) vc vs ic is fk fc fs ky ic' is';
    }
begins_at room (server0 o a) m' ic' is' e z = absurd (false≢true e)
begins_at room (server1 o a c) m' ic' is' e z = absurd (false≢true e)
begins_at room (server2 o a c k s y) m' ic' is' e z = absurd (false≢true e)
begins_at room (server3 {m} {vc} {vs} {ic} {is} {ks = fk} {c = fc} {s = fs} {k = ky} {past = pa} o a c k s y) m' ic' is' e z =
    let w = again_known m' ic' is' (length room) (suc (length pa)) z in
    let x : Past = record { method = m; fields = fields_of vc vs ic is fk fc fs ky } in
    record {
      sound = server0 (gone_more o a.method_ok_is (total (server3 o a c k s y)) w.4) (record { method_ok_is = w.0; vc_ok = a.vc_ok; vs_ok = a.vs_ok; ic_ok = w.2; is_ok = w.3 });
      exchange = λ i. beginning 2 m' (fields_of vc vs ic' is' [] [] [] []) (no_k i) (session_of (x ∷ pa));
      room_is = room_again (left_by pa room) vc vs ic is fk fc fs ky ic' is';
    }

-- on a live exchange
again_live : (room : List ℕ) (b : Book) (m : ℕ) (ic is : List ℕ) → room_least ≤ length room → Reachable b →
    again_number (exchange_of b) (length (onto (left_by b.past room) (hash_input b.fields))) m ic is ≡ again_first (length room) b m ic is
unfolding again_number again_first
again_live room b m ic is h s = λ i. cause_unless (completed_of_book s i) 1 (again_cause m ic is (long_enough s room h i) (length (finished b)))

again_settle : (room : List ℕ) (b : Book) (m : ℕ) (ic is : List ℕ) (t : Bool) → Reachable b → eqb (again_first (length room) b m ic is) 0 ≡ t →
    let r = onto (left_by b.past room) (hash_input b.fields) in
    Sim room (cond t (begun (finished b) b.role m b.fields.vc b.fields.vs ic is) b) (cond t (begun_again (exchange_of b) m (length ic) (length is)) (exchange_of b))
    (cond t (over r (versions_end (lengths_in b.fields)) (field ic ++ field is)) r)
unfolding again_first
again_settle room b m ic is true s e =
    let u = unless_none (has_all b) 1 _ (omega arith) (eqb-true (again_first (length room) b m ic is) 0 e) in
    let f = begins_at room s m ic is u.0 u.1 in
    live f.sound f.exchange f.room_is
again_settle room b m ic is false s e = live s refl refl

-- on one that failed
pub dead_again : (e : Exchange) (room n m : ℕ) (ic is : List ℕ) → e.stage ≡ Failed n → again_number e room m ic is ≡ 1
unfolding again_number completed cause_unless
dead_again e room n m ic is y = rw y

dead_first : (l : ℕ) (b : Book) (m : ℕ) (ic is : List ℕ) → b.faulted ≡ true → again_first l b m ic is ≡ 1
unfolding again_first has_all cause_unless
dead_first l b m ic is x = rw x

-- it keeps the relation, and its number is the book's
pub begins : (room : List ℕ) (b : Book) (e : Exchange) (room' : List ℕ) (m : ℕ) (ic is : List ℕ) → room_least ≤ length room → Sim room b e room' →
    (again_number e (length room') m ic is ≡ again_first (length room) b m ic is)
    × Sim room (again_noted (length room) b m ic is) (again_after e (length room') m ic is) (again_room e room' m ic is)
unfolding again_noted again_after again_room
begins room b e room' m ic is h (live s x y) =
    let n = again_live room b m ic is h s in
    rw (x, y) (n, rw n (again_settle room b m ic is _ s refl))
begins room b e room' m ic is h (dead n x f y w v u t j z) =
    let d = dead_again e (length room') n m ic is y in
    let c = dead_first (length room) b m ic is x in
    (d ∙ sym c, rw (d, c) (dead n x f y w v u t j z))

-- ---- a list of calls

pub turn : (room : List ℕ) (b : Book) (e : Exchange) (room' : List ℕ) (q : Turn) → room_least ≤ length room → Sim room b e room' →
    (turn_number e room' q ≡ turn_cause (length room) b q) × Sim room (turn_noted (length room) b q) (turn_after e room' q) (turn_room e room' q)
turn room b e room' (call q) h s = step room b e room' q h s
turn room b e room' (again m ic is) h s = begins room b e room' m ic is h s

run : (room : List ℕ) (b : Book) (e : Exchange) (room' : List ℕ) (qs : List Turn) → room_least ≤ length room → Sim room b e room' →
    (numbers_of e room' qs ≡ causes (length room) b qs) × Sim room (last_book (length room) b qs) (last_exchange e room' qs) (last_room e room' qs)
run room b e room' [] h s = (refl, s)
run room b e room' (q ∷ qs) h s =
    let a = turn room b e room' q h s in
    let t = run room (turn_noted (length room) b q) (turn_after e room' q) (turn_room e room' q) qs h a.1 in
    (ap₂ ◌∷◌ a.0 t.0, t.1)

-- ---- no number is 3 where the room is long enough

abbrev other_than_3 : ℕ → Bool
other_than_3 n = not (eqb n 3)

not3 : (l : ℕ) (b : Book) (q : Call) → room_least ≤ l → first_cause l b q ≡ 3 → ⊥
unfolding first_cause cause_if
not3 l b q h e =
    let each : OfEach other_than_3 = record { of0 = refl; of4 = refl; of5 = refl; of10 = refl; of11 = refl; of12 = refl; of13 = refl; of14 = refl; of15 = refl; of16 = refl; of17 = refl; of18 = refl } in
    let c : other_than_3 (cause_if (ltb l room_least) 3 (fed_cause b.role b.method q)) ≡ true = rw (le-ltb l room_least h) (fed_keeps other_than_3 each b.role b.method q) in
    let d = if_keeps other_than_3 b.faulted 1 _ refl (unless_keeps other_than_3 (eqb (get_or (steps_of b.role) b.done 0) (step_no q)) 1 _ refl c) in
    false≢true (ap other_than_3 (sym e) ∙ d)

-- those of beginning again are 0, 1, 2, 4, 23 and, with a short room, 3
again_keeps : (P : ℕ → Bool) (l : ℕ) (b : Book) (m : ℕ) (ic is : List ℕ) → P 0 ≡ true → P 1 ≡ true → P 2 ≡ true → ((x : ℕ) → P x ≡ true → P (cause_if (ltb l room_least) 3 x) ≡ true) → P 4 ≡ true → P 23 ≡ true
    → P (again_first l b m ic is) ≡ true
unfolding again_first again_cause
again_keeps P l b m ic is of0 of1 of2 of3 of4 of23 =
    unless_keeps P (has_all b) 1 _ of1 (unless_keeps P (method_ok m) 2 _ of2 (of3 _ (unless_keeps P _ 4 _ of4 (if_keeps P _ 23 0 of23 of0))))

again_not3 : (l : ℕ) (b : Book) (m : ℕ) (ic is : List ℕ) → room_least ≤ l → again_first l b m ic is ≡ 3 → ⊥
unfolding cause_if
again_not3 l b m ic is h e =
    false≢true (ap other_than_3 (sym e) ∙ again_keeps other_than_3 l b m ic is refl refl refl (λ x p. rw (le-ltb l room_least h) p) refl refl)

turn_not3 : (l : ℕ) (b : Book) (q : Turn) → room_least ≤ l → turn_cause l b q ≡ 3 → ⊥
turn_not3 l b (call q) h = not3 l b q h
turn_not3 l b (again m ic is) h = again_not3 l b m ic is h

never_3 : (l : ℕ) (b : Book) (qs : List Turn) → room_least ≤ l → Never 3 (causes l b qs)
never_3 l b [] h = tt
never_3 l b (q ∷ qs) h = (turn_not3 l b q h, never_3 l (turn_noted l b q) qs h)

-- ---- after a fault

pub dead_turn : (l : ℕ) (b : Book) (q : Turn) → b.faulted ≡ true → (turn_cause l b q ≡ 1) × (turn_noted l b q ≡ b)
unfolding noted again_noted
dead_turn l b (call q) x = let c = dead_cause l b q x in (c, rw (c, kind_refused 1 (λ u. omega arith) refl))
dead_turn l b (again m ic is) x = let c = dead_first l b m ic is x in (c, rw c)

ones : (l : ℕ) (b : Book) (qs : List Turn) → b.faulted ≡ true → AllOnes (causes l b qs)
ones l b [] x = tt
ones l b (q ∷ qs) x = let d = dead_turn l b q x in (d.0, ones l (turn_noted l b q) qs (ap (λ (c : Book). c.faulted) d.1 ∙ x))

-- to begin again is no peer's fault
pub again_fault : (l : ℕ) (b : Book) (m : ℕ) (ic is : List ℕ) → is_fault (again_first l b m ic is) ≡ false
again_fault l b m ic is = not_true (is_fault (again_first l b m ic is)) (again_keeps (λ (n : ℕ). not (is_fault n)) l b m ic is refl refl refl (λ x p. if_keeps (λ (n : ℕ). not (is_fault n)) (ltb l room_least) 3 x refl p) refl refl)
  where
    not_true : (t : Bool) → not t ≡ true → t ≡ false
    not_true true e = sym e
    not_true false e = refl

faulted : (l : ℕ) (b : Book) (q : Turn) → is_fault (turn_cause l b q) ≡ true → (turn_noted l b q).faulted ≡ true
unfolding noted
faulted l b (call q) h = rw (kind_fault (first_cause l b q) h)
faulted l b (again m ic is) h = absurd (false≢true (sym (again_fault l b m ic is) ∙ h))

silent : (l : ℕ) (b : Book) (qs : List Turn) → SilentAfterFault (causes l b qs)
silent l b [] = tt
silent l b (q ∷ qs) = (λ h. ones l (turn_noted l b q) qs (faulted l b q h), silent l (turn_noted l b q) qs)

-- ---- what the relation says at the end

pub complete_sim : (room : List ℕ) (b : Book) (e : Exchange) (room' : List ℕ) → Sim room b e room' → is_complete e.stage ≡ has_all b
unfolding has_all
complete_sim room b e room' (live s x y) = rw x (complete_of_book s)
complete_sim room b e room' (dead n x f y w v u t j z) = rw (x, y)

room_sim : (room : List ℕ) (b : Book) (e : Exchange) (room' : List ℕ) → Sim room b e room' → room' ≡ room_told b room
unfolding room_told
room_sim room b e room' (live s x y) = rw (sound_live s) y
room_sim room b e room' (dead n x f y w v u t j z) = rw x z

most_sim : (room : List ℕ) (b : Book) (e : Exchange) (room' : List ℕ) → Sim room b e room' → length (hash_input b.fields) ≤ room_least
unfolding hash_input field
most_sim room b e room' (live s x y) = total s
most_sim room b e room' (dead n x f y w v u t j z) = rw f zero-le

k_sim : (room : List ℕ) (b : Book) (e : Exchange) (room' : List ℕ) → Sim room b e room' → e.k ≡ k_record b.fields.k
k_sim room b e room' (live s x y) = ap (λ (z : Exchange). z.k) x
k_sim room b e room' (dead n x f y w v u t j z) = rw f w

h_sim : (room : List ℕ) (b : Book) (e : Exchange) (room' : List ℕ) → Sim room b e room' → e.h ≡ h_told b
unfolding h_told
h_sim room b e room' (live s x y) = ap (λ (z : Exchange). z.h) x
h_sim room b e room' (dead n x f y w v u t j z) = rw f v

session_sim : (room : List ℕ) (b : Book) (e : Exchange) (room' : List ℕ) → Sim room b e room' → e.session ≡ session_of (finished b)
session_sim room b e room' (live s x y) = ap (λ (z : Exchange). z.session) x
session_sim room b e room' (dead n x f y w v u t j z) = u

count_sim : (room : List ℕ) (b : Book) (e : Exchange) (room' : List ℕ) → Sim room b e room' → e.session.count ≤ count_most
count_sim room b e room' (live s x y) = rw x (count_of_book s)
count_sim room b e room' (dead n x f y w v u t j z) = rw u t

-- the session is the book's, and its identifier's length goes with the count
pub id_sim : (room : List ℕ) (b : Book) (e : Exchange) (room' : List ℕ) → Sim room b e room' → (e.session ≡ session_of (finished b)) × (id_fits e.session.len e.session.count ≡ true)
id_sim room b e room' s =
    let o = session_sim room b e room' s in
    (o, ap (λ (z : Session). id_fits z.len z.count) o ∙ fits s)
  where
    fits : Sim room b e room' → id_fits (session_of (finished b)).len (length (finished b)) ≡ true
    fits (live r x y) = (session_known_lem (exchange_of b).stage (session_of (finished b)) (recorded (exchange_of b) (fits_of_book r)).session).1
    fits (dead n x f y w v u t j z) = j

h_complete : {b : Book} → Reachable b → is_complete (exchange_of b).stage ≡ true → h_told b ≡ h_of b.method (hash_input b.fields)
unfolding h_told
h_complete (client0 o a) z = absurd (false≢true z)
h_complete (client1 o a c) z = absurd (false≢true z)
h_complete (client2 o a c k s) z = absurd (false≢true z)
h_complete (client3 o a c k s y) z = absurd (false≢true z)
h_complete (client4 o a c k s y) z = h_some _ _ _ y.len
h_complete (server0 o a) z = absurd (false≢true z)
h_complete (server1 o a c) z = absurd (false≢true z)
h_complete (server2 o a c k s y) z = absurd (false≢true z)
h_complete (server3 o a c k s y) z = h_some _ _ _ y.len

pub h_whole_sim : (room : List ℕ) (b : Book) (e : Exchange) (room' : List ℕ) → Sim room b e room' → is_complete e.stage ≡ true → e.h ≡ h_of b.method (hash_input b.fields)
h_whole_sim room b e room' (live s x y) z = ap (λ (v : Exchange). v.h) x ∙ h_complete s (ap (λ (v : Exchange). is_complete v.stage) (sym x) ∙ z)
h_whole_sim room b e room' (dead n x f y w v u t j r) z = absurd (false≢true (ap is_complete (sym y) ∙ z))

-- ---- the start

pub role_is : (role : ℕ) → role_ok role ≡ true → (role ≡ 1) ⊎ (role ≡ 2)
unfolding role_ok
role_is role h = go (eqb role 1) refl
  where
    go : (t : Bool) → eqb role 1 ≡ t → (role ≡ 1) ⊎ (role ≡ 2)
    go true e = inl (eqb-true role 1 e)
    go false e = inr (two role (eqb-false role 1 e) (within_least 1 2 role h) (within_most 1 2 role h))
      where
        two : (n : ℕ) → (n ≡ 1 → ⊥) → 1 ≤ n → n ≤ 2 → n ≡ 2
        two zero n a b = let w : ⊥ = omega arith in absurd w
        two (suc zero) n a b = absurd (n refl)
        two (suc (suc k)) n a b = omega arith

-- the accepted start's exchange and room
pub freshly : ℕ → ℕ → List ℕ → List ℕ → List ℕ → List ℕ → Exchange
freshly role m vc vs ic is = record { stage = Started; role = role; method = m; lens = lengths_in (fields_of vc vs ic is [] [] [] []); k = zeros k_size; h = zeros h_size; session = no_session }

gone_none : Gone []
gone_none = record { few = omega arith; named = refl; as_long = λ room h. refl }

start_sim : (role m : ℕ) (vc vs ic is room : List ℕ) → start_cause role m vc vs ic is (length room) ≡ 0 →
    (room_least ≤ length room) × Sim room (opened role m vc vs ic is) (freshly role m vc vs ic is) (onto room (field vc ++ field vs ++ field ic ++ field is))
unfolding opened freshly h_told finished has_all
start_sim role m vc vs ic is room z =
    let a = start_known role m vc vs ic is (length room) z in
    let h = ap (onto room) (hash_start vc vs ic is) in (
      a.1,
      ⊎_elim
          (λ (e : role ≡ 1). rw e (live (client0 gone_none a.2) (λ i. beginning 1 m (fields_of vc vs ic is [] [] [] []) (no_k i) no_session) h))
          (λ (e : role ≡ 2). rw e (live (server0 gone_none a.2) (λ i. beginning 2 m (fields_of vc vs ic is [] [] [] []) (no_k i) no_session) h))
          (role_is role a.0),
    )

started_is : (role m : ℕ) (vc vs ic is : List ℕ) (room : ℕ) → start_cause role m vc vs ic is room ≡ 0 → (started role m vc vs ic is room).exchange ≡ freshly role m vc vs ic is
unfolding started freshly
started_is role m vc vs ic is room z = rw z

room_started : (role m : ℕ) (vc vs ic is room : List ℕ) → start_cause role m vc vs ic is (length room) ≡ 0
    → started_room role m vc vs ic is room ≡ onto room (field vc ++ field vs ++ field ic ++ field is)
unfolding started_room
room_started role m vc vs ic is room z = rw z

-- ---- demand 3 over the definitions

-- exchange and room follow the book after an accepted start and any calls
pub followed : (role m : ℕ) (vc vs ic is room : List ℕ) → start_cause role m vc vs ic is (length room) ≡ 0 → (calls : List Turn)
    → let e = (started role m vc vs ic is (length room)).exchange in
    let r = started_room role m vc vs ic is room in
    let b = opened role m vc vs ic is in
    (room_least ≤ length room) × (numbers_of e r calls ≡ causes (length room) b calls) × Sim room (last_book (length room) b calls) (last_exchange e r calls) (last_room e r calls)
followed role m vc vs ic is room z calls =
    let s = start_sim role m vc vs ic is room z in
    let t = run room (opened role m vc vs ic is) (freshly role m vc vs ic is) (onto room (field vc ++ field vs ++ field ic ++ field is)) calls s.0 s.1 in
    rw (started_is role m vc vs ic is (length room) z, room_started role m vc vs ic is room z) (s.0, t.0, t.1)

pub held : (role m : ℕ) (vc vs ic is room : List ℕ) → start_cause role m vc vs ic is (length room) ≡ 0 → (calls : List Turn)
    → Held (opened role m vc vs ic is) room calls
    (numbers_of (started role m vc vs ic is (length room)).exchange (started_room role m vc vs ic is room) calls)
    (last_exchange (started role m vc vs ic is (length room)).exchange (started_room role m vc vs ic is room) calls)
    (last_room (started role m vc vs ic is (length room)).exchange (started_room role m vc vs ic is room) calls)
held role m vc vs ic is room z calls =
    let t = followed role m vc vs ic is room z calls in
    record {
      answers = t.1;
      room_enough = rw t.1 (never_3 (length room) (opened role m vc vs ic is) calls t.0);
      after_fault = rw t.1 (silent (length room) (opened role m vc vs ic is) calls);
      complete = complete_sim _ _ _ _ t.2;
      room_is = room_sim _ _ _ _ t.2;
      fields_most = most_sim _ _ _ _ t.2;
      k_is = k_sim _ _ _ _ t.2;
      h_is = h_sim _ _ _ _ t.2;
      h_whole = h_whole_sim _ _ _ _ t.2;
      session_is = session_sim _ _ _ _ t.2;
      count_most = count_sim _ _ _ _ t.2;
    }

-- ---- for the crate demand

-- an accepted start had no cause against it
pub start_zero : (role m : ℕ) (vc vs ic is : List ℕ) (room : ℕ) → (started role m vc vs ic is room).number ≡ 0 → start_cause role m vc vs ic is room ≡ 0
unfolding started
start_zero role m vc vs ic is room e = by_test (eqb (start_cause role m vc vs ic is room) 0) refl e
  where
    by_test : (t : Bool) → eqb (start_cause role m vc vs ic is room) 0 ≡ t
        → (cond {A = Step} t
        (record { number = 0; count = 0; second = 0; exchange = record { stage = Started; role = role; method = m; lens = lengths_in (fields_of vc vs ic is [] [] [] []); k = zeros k_size; h = zeros h_size; session = no_session }; position = 0 })
        (record { number = start_cause role m vc vs ic is room; count = 0; second = 0; exchange = ended (start_cause role m vc vs ic is room) 0 0 no_session; position = 0 })).number ≡ 0
        → start_cause role m vc vs ic is room ≡ 0
    by_test true p q = eqb-true (start_cause role m vc vs ic is room) 0 p
    by_test false p q = q

-- the signature step has no peer to blame, so it never touches the room
pub sign_room : (e : Exchange) (room g : List ℕ) (out k_out : ℕ) → room_after e room (sign g out k_out) ≡ room
unfolding room_after filled number step_number fed_cause sign_cause cause_if cause_unless kind
sign_room e room g out k_out = by_test (due 5 e) (ltb (length room) room_least) (blob_ok (length g)) (ltb out reply_least || ltb k_out k_size)
  where
    by_test : (t u v w : Bool) → by_kind (kind (cause_unless t 1 (cause_if u 3 (cause_unless v 4 (cause_if w 5 0))))) room room (zeros (length room)) ≡ room
    by_test true true v w = refl
    by_test true false true true = refl
    by_test true false true false = refl
    by_test true false false w = refl
    by_test false u v w = refl
