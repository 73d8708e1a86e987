-- What an accepted call hands out is what the book says: hash input and its length, H, REPLY, and K. Assumes nothing.
use Prim.Native.Nat.{ℕ, suc, ◌+◌, ◌-◌, ◌≤◌}
use mathlib.Core.Path.{◌≡◌, refl, sym, ap, ◌∙◌, subst}
use mathlib.Core.List.{List, [], ◌∷◌}
use mathlib.Core.Bool.{Bool, true, false, cond, false≢true}
use native.Mathlib.Omega.{arith}
use lib.ListN.{length, get_or, take, drop}
use lib.Seq.{take_at}
use lib.Dec.{eqb, eqb-suc-zero}
use borrow.Author.Tests.{eqb-true}
use Rattle.limits.specs.Limits.{blob_most, k_size, h_size, room_least, server}
use Rattle.limits.proofs.RangeLaws.{within_least}
use Rattle.buffers.specs.Bytes.{zeros, onto}
use Rattle.sha_words.specs.Constants.{known}
use Rattle.sha_words.specs.Message.{sha2, sized}
use Rattle.sha_words.proofs.DigestLaws.{length_sha2}
use Rattle.wire.proofs.CauseLaws.{unless_none}
use Rattle.methods.specs.Rows.{row_of}
use Rattle.methods.proofs.FormLaws.{s_least}
use Rattle.messages.specs.Messages.{reply_bytes, field_of}
use Rattle.exchange.specs.Causes.{method_ok, blob_ok, reply_cause, sign_cause, k_of, h_of}
use Rattle.exchange.specs.Record.{k_length, id_fits, is_complete, completed}
use Rattle.exchange.specs.Steps.{Call, secret, sign, verdict, step_no, fed_cause, number, fields_end, filled, input_length, taken, k_record, reply_of, count_of, handed_h, room_after}
use Rattle.exchange.specs.Book.{Fields, Past, Book, brings, steps_of, first_cause, fields_after, moved, noted, finished, hash_input, left_by, h_once, h_told, by_first, session_of}
use Rattle.exchange.specs.ExchangeTold.{exchange_of}
use Rattle.exchange.specs.declared.Classical.{Classical}
use Rattle.exchange.specs.declared.Kem.{Kem}
use Rattle.exchange.specs.declared.Exchange.{Exchange}
use Rattle.exchange.proofs.KindLaws.{kind_accepted}
use Rattle.exchange.proofs.CauseFacts.{Base, FormedS, Blob, Key, method_row, method_least, method_most}
use Rattle.exchange.proofs.DueLaws.{recorded, completed_fits, session_known_lem}
use Rattle.exchange.proofs.HashLaws.{hash_length, ks_stands, s_stands}
use Rattle.exchange.proofs.StepLaws.{step_accepted, handed_accepted}
use Rattle.exchange.proofs.ReadBack.{reply_back}
use Rattle.exchange.proofs.Simulation.{Reachable, client0, client1, client2, client3, client4, server0, server1, server2, server3, fits_of_book, role_of_book, accepts, Sim, live, dead, number_live, no_cause, dead_number}

-- a call that is accepted finds the exchange and the room as the book tells them, and has no cause against it there
record Live (room : List ℕ) (b : Book) (e : Exchange) (room' : List ℕ) (q : Call) : Type 0 where
  sound : Reachable b
  exchange : e ≡ exchange_of b
  room_is : room' ≡ onto (left_by b.past room) (hash_input b.fields)
  cause : first_cause (length room) b q ≡ 0

live_of : (room : List ℕ) (b : Book) (e : Exchange) (room' : List ℕ) (q : Call) → room_least ≤ length room → Sim room b e room' → number e room' q ≡ 0 → Live room b e room' q
live_of room b e room' q h (live s x y) z = record {
  sound = s;
  exchange = x;
  room_is = y;
  cause = sym (number_live room b q h s) ∙ (λ i. number (sym x i) (sym y i) q) ∙ z;
}
live_of room b e room' q h (dead n x f y w v u t j r) z = let d = dead_number e room' n q y in let g : ⊥ = omega arith in absurd g

noted_moved : (l : ℕ) (b : Book) (q : Call) → first_cause l b q ≡ 0 → noted l b q ≡ moved b q
unfolding noted
noted_moved l b q z = rw (kind_accepted (first_cause l b q) z)

-- ---- the secret step: the hash input is whole, and its length is the count

secret_k : (role m : ℕ) (f : Fields) (cl : Classical) (x : List ℕ) (kem : Kem) (k_pq ks s : List ℕ) → (fields_after role m f (secret cl x kem k_pq ks s)).k ≡ k_of m x k_pq
unfolding fields_after
secret_k role m f cl x kem k_pq ks s = by_test (eqb role server)
  where
    by_test : (t : Bool) → (cond t (brings f ks f.c s (k_of m x k_pq)) (brings f f.ks f.c f.s (k_of m x k_pq))).k ≡ k_of m x k_pq
    by_test true = refl
    by_test false = refl

module _ (room : List ℕ) (b : Book) (e : Exchange) (room' : List ℕ) (h : room_least ≤ length room) (sim : Sim room b e room') where
  pub secret_handed : (cl : Classical) (x : List ℕ) (kem : Kem) (k_pq ks s : List ℕ) → number e room' (secret cl x kem k_pq ks s) ≡ 0
      → (count_of e room' (secret cl x kem k_pq ks s) ≡ length (hash_input (noted (length room) b (secret cl x kem k_pq ks s)).fields))
      × (take (count_of e room' (secret cl x kem k_pq ks s)) (room_after e room' (secret cl x kem k_pq ks s)) ≡ hash_input (noted (length room) b (secret cl x kem k_pq ks s)).fields)
  unfolding count_of onto taken
  secret_handed cl x kem k_pq ks s z =
      let q : Call = secret cl x kem k_pq ks s in
      let l = live_of room b e room' q h sim z in
      let u = no_cause (length room) b q l.cause in
      let w = accepts (left_by b.past room) l.sound q u.0 u.1 in
      let f : Fields = fields_after b.role b.method b.fields q in
      let m : (noted (length room) b q).fields ≡ f = ap (λ (y : Book). y.fields) (noted_moved (length room) b q l.cause) in
      let n : count_of e room' q ≡ length (hash_input f) =
      (λ i. input_length (l.exchange i) x k_pq ks s)
      ∙ (λ i. fields_end (w.exchange i).lens + length (sym (secret_k b.role b.method b.fields cl x kem k_pq ks s) i))
      ∙ sym (hash_length f.vc f.vs f.ic f.is f.ks f.c f.s f.k) in
      let r : room_after e room' q ≡ onto (left_by b.past room) (hash_input f) =
      sym (step_accepted e room' q z).1 ∙ (λ i. filled (l.exchange i) (l.room_is i) q) ∙ w.room_is in (
        n ∙ ap (λ (y : Fields). length (hash_input y)) (sym m),
        (λ i. take (n i) (r i)) ∙ take_at (hash_input f) (drop (length (hash_input f)) (left_by b.past room)) _ refl ∙ ap hash_input (sym m),
      )

  -- and H is the hash of the hash input, by the book's method
  pub secret_hashed : (cl : Classical) (x : List ℕ) (kem : Kem) (k_pq ks s : List ℕ) → number e room' (secret cl x kem k_pq ks s) ≡ 0
      → handed_h e room' (secret cl x kem k_pq ks s)
      ≡ h_of b.method (hash_input (noted (length room) b (secret cl x kem k_pq ks s)).fields)
  unfolding count_of taken filled
  secret_hashed cl x kem k_pq ks s z =
      let q : Call = secret cl x kem k_pq ks s in
      let l = live_of room b e room' q h sim z in
      let r = (step_accepted e room' q z).1 in
      sym (handed_accepted e room' q z)
      ∙ (λ i. h_of (l.exchange i).method (take (count_of e room' q) (r i)))
      ∙ ap (h_of b.method) (secret_handed cl x kem k_pq ks s z).1

-- ---- a complete exchange

-- it fits, holds the book's K and the hash of the book's hash input, and the identifier of its session is the hash of the first completed exchange's
pub record Ready (b : Book) (e : Exchange) : Type 0 where
  pub fits : completed e ≡ true
  pub method_is : e.method ≡ b.method
  pub method_ok_is : method_ok b.method ≡ true
  pub k_in_is : take (k_length e.k) e.k ≡ b.fields.k
  pub h_in : take (row_of b.method).digest_len e.h ≡ sha2 (row_of b.method).digest_len (hash_input b.fields)
  pub id_known : id_fits e.session.len e.session.count ≡ true
  pub id_in : take e.session.len e.session.id ≡ by_first [] (λ (x : Past). sha2 (row_of x.method).digest_len (hash_input x.fields)) (finished b)

k_front : (k : List ℕ) → k_length (k_record k) ≡ length k → take (k_length (k_record k)) (k_record k) ≡ k
unfolding k_record onto
k_front k l = take_at k (drop (length k) (zeros k_size)) _ (sym l)

-- as many bytes of H as the digest has, where the method's digest is one
digest_front : (m : ℕ) (input : List ℕ) → known (row_of m).digest_len ≡ true → take (row_of m).digest_len (h_of m input) ≡ sha2 (row_of m).digest_len input
unfolding sized
digest_front m input d = take_at (sha2 (row_of m).digest_len input) (zeros (h_size - length (sha2 (row_of m).digest_len input))) _ (length_sha2 (row_of m).digest_len input d)

h_front : (m : ℕ) (k input : List ℕ) → method_ok m ≡ true → k_length (k_record k) ≡ length k → take (row_of m).digest_len (h_once m k input) ≡ sha2 (row_of m).digest_len input
h_front m [] input ok l = let w : ⊥ = omega (arith, l) in absurd w
h_front m (y ∷ k) input ok l = digest_front m input (method_row m ok).digest_kind

-- and of the identifier, where its length fits
id_front : (past : List Past) → id_fits (session_of past).len (length past) ≡ true
    → take (session_of past).len (session_of past).id ≡ by_first [] (λ (x : Past). sha2 (row_of x.method).digest_len (hash_input x.fields)) past
id_front [] f = refl
id_front (x ∷ []) f = digest_front x.method (hash_input x.fields) f
id_front (x ∷ y ∷ past) f = id_front (y ∷ past) (rw (eqb-suc-zero (length past)) (rw (eqb-suc-zero (suc (length past))) at f))

key_of : {b : Book} → Reachable b → is_complete (exchange_of b).stage ≡ true → Key b.method b.fields.k
key_of (client0 o a) z = absurd (false≢true z)
key_of (client1 o a c) z = absurd (false≢true z)
key_of (client2 o a c k s) z = absurd (false≢true z)
key_of (client3 o a c k s y) z = absurd (false≢true z)
key_of (client4 o a c k s y) z = y
key_of (server0 o a) z = absurd (false≢true z)
key_of (server1 o a c) z = absurd (false≢true z)
key_of (server2 o a c k s y) z = absurd (false≢true z)
key_of (server3 o a c k s y) z = y

ready_of : {b : Book} → Reachable b → is_complete (exchange_of b).stage ≡ true → Ready b (exchange_of b)
unfolding h_told
ready_of {b} s z =
    let f = fits_of_book s in
    let r = recorded (exchange_of b) f in
    let y = key_of s z in
    let n = (session_known_lem (exchange_of b).stage (session_of (finished b)) r.session).1 in
    record {
      fits = completed_fits (exchange_of b) z (role_of_book s) f;
      method_is = refl;
      method_ok_is = r.method_ok_is;
      k_in_is = k_front b.fields.k y.len;
      h_in = h_front b.method b.fields.k (hash_input b.fields) r.method_ok_is y.len;
      id_known = n;
      id_in = id_front (finished b) n;
    }

pub complete_ready : (room : List ℕ) (b : Book) (e : Exchange) (room' : List ℕ) → Sim room b e room' → is_complete e.stage ≡ true → Ready b e
complete_ready room b e room' (live s x y) z = subst (Ready b) (sym x) (ready_of s (ap (λ (v : Exchange). is_complete v.stage) (sym x) ∙ z))
complete_ready room b e room' (dead n x f y w v u t j r) z = absurd (false≢true (ap is_complete (sym y) ∙ z))

-- ---- signature and verdict: the book has every field, K too

record Full (b : Book) : Type 0 where
  base : Base b.method b.fields.vc b.fields.vs b.fields.ic b.fields.is
  host_key : Blob b.fields.ks
  value : FormedS b.method b.fields.s
  key : Key b.method b.fields.k

full : {b : Book} → Reachable b → (n : ℕ) → 5 ≤ n → eqb (get_or (steps_of b.role) b.done 0) n ≡ true → Full b
full (client0 o a) n h e = let v = eqb-true 1 n e in let w : ⊥ = omega arith in absurd w
full (client1 o a c) n h e = let v = eqb-true 3 n e in let w : ⊥ = omega arith in absurd w
full (client2 o a c k s) n h e = let v = eqb-true 4 n e in let w : ⊥ = omega arith in absurd w
full (client3 o a c k s y) n h e = record { base = a; host_key = k; value = s; key = y }
full (client4 o a c k s y) n h e = let v = eqb-true 0 n e in let w : ⊥ = omega arith in absurd w
full (server0 o a) n h e = let v = eqb-true 2 n e in let w : ⊥ = omega arith in absurd w
full (server1 o a c) n h e = let v = eqb-true 4 n e in let w : ⊥ = omega arith in absurd w
full (server2 o a c k s y) n h e = record { base = a; host_key = k; value = s; key = y }
full (server3 o a c k s y) n h e = let v = eqb-true 0 n e in let w : ⊥ = omega arith in absurd w

module _ (room : List ℕ) (b : Book) (e : Exchange) (room' : List ℕ) (h : room_least ≤ length room) (sim : Sim room b e room') where
  -- K as it is written, and its length
  key_handed : (q : Call) → 5 ≤ step_no q → number e room' q ≡ 0 → (e.k ≡ k_record b.fields.k) × (k_length e.k ≡ length b.fields.k)
  key_handed q n z =
      let l = live_of room b e room' q h sim z in
      let w = full l.sound (step_no q) n (no_cause (length room) b q l.cause).0 in
      let k = ap (λ (x : Exchange). x.k) l.exchange in
      (k, ap k_length k ∙ w.key.len)

  pub verdict_handed : (u v : Bool) (k_out : ℕ) → number e room' (verdict u v k_out) ≡ 0 → (e.k ≡ k_record b.fields.k) × (k_length e.k ≡ length b.fields.k)
  verdict_handed u v k_out z = key_handed (verdict u v k_out) (omega arith) z

  pub sign_handed : (g : List ℕ) (out k_out : ℕ) → number e room' (sign g out k_out) ≡ 0
      → let p = reply_bytes b.fields.ks b.fields.s g in
      (reply_of e room' g ≡ p)
      × ((e.k ≡ k_record b.fields.k) × (k_length e.k ≡ length b.fields.k))
      × ((reply_cause b.method p ≡ 0) × (field_of p 0 ≡ b.fields.ks) × (field_of p 1 ≡ b.fields.s) × (field_of p 2 ≡ g))
  unfolding fed_cause sign_cause
  sign_handed g out k_out z =
      let q : Call = sign g out k_out in
      let f : Fields = b.fields in
      let l = live_of room b e room' q h sim z in
      let u = no_cause (length room) b q l.cause in
      let w = full l.sound 5 (omega arith) u.0 in
      let mo = w.base.method_ok_is in
      let ks = within_least 1 blob_most (length f.ks) w.host_key.ok in
      let s = s_least b.method (length f.s) (method_least b.method mo) (method_most b.method mo) w.value.len in (
        (λ i. reply_of (l.exchange i) (l.room_is i) g)
            ∙ (λ i. reply_bytes (ks_stands f.vc f.vs f.ic f.is (left_by b.past room) f.ks f.c f.s f.k ks i) (s_stands f.vc f.vs f.ic f.is (left_by b.past room) f.ks f.c f.s f.k s i) g),
        key_handed q (omega arith) z,
        reply_back b.method mo f.ks f.s g w.host_key.ok w.value.ok (unless_none (blob_ok (length g)) 4 _ (omega arith) u.1).0,
      )
