-- An exchange that the lent bytes hold stays one through every step, so that the next call finds what the last one answered. Assumes nothing.
use Rattle.std.proofs.Common.{◌≡◌, ℕ, ◌-◌, ◌<◌, ◌≤◌, Bool, true, false, cond, ◌&&◌, eqb, List, length, drop, sym, refl, ap, ◌∙◌, arith, length-append, length-drop, length-take, ltb-true, eqb-true}
use lib.ListN.{length-replicate}
use Rattle.limits.specs.Limits.{version_most, kexinit_most, blob_most, k_size, h_size, length_most, count_most, server}
use Rattle.limits.proofs.BoolLaws.{and_false}
use Rattle.limits.proofs.RangeLaws.{within_most}
use Rattle.buffers.specs.Bytes.{Bytes, zeros}
use Rattle.buffers.proofs.ByteLaws.{length_onto}
use Rattle.wire.proofs.CauseLaws.{unless_none, unless_fails}
use Rattle.sha_words.specs.Message.{sha2, sized}
use Rattle.sha_words.proofs.DigestLaws.{length_sha2}
use Rattle.methods.specs.Rows.{row_of}
use Rattle.methods.proofs.FormLaws.{length_most_lem}
use Rattle.messages.specs.Messages.{field_of}
use Rattle.exchange.specs.Causes.{method_ok, role_ok, own_ok, start_cause, k_of, h_of}
use Rattle.exchange.specs.Record.{no_lengths, no_session, ended, next_step, count_fits, record_fits, due, is_complete, completed}
use Rattle.exchange.specs.Numbers.{is_fault, accepted, refused, fault, kind, by_kind}
use Rattle.exchange.specs.Steps.{Call, own_c, init, reply, secret, sign, verdict, step_no, fed_cause, step_number, number, with_c, with_s, one_more, k_record, taken, exchange_after, started}
use Rattle.exchange.specs.Again.{again_number, begun_again, again_after}
use Rattle.exchange.specs.declared.Stage.{Stage}
use Rattle.exchange.specs.declared.Stage.TheVariants.{Started, CSent, InitRead, ReplyRead, SecretDone, Complete, Failed}
use Rattle.exchange.specs.declared.Lengths.{Lengths}
use Rattle.exchange.specs.declared.Session.{Session}
use Rattle.exchange.specs.declared.Exchange.{Exchange}
use Rattle.exchange.proofs.CauseFacts.{FormedC, FormedS, Blob, method_row, start_known, again_known, own_c_formed, init_formed, reply_formed, secret_known, own_formed, key_sized}
use Rattle.exchange.proofs.StepLaws.{step_known, bounded, small}
use Rattle.exchange.proofs.DueLaws.{recorded, Due, session_known_lem, id_most}
use Rattle.stored.specs.Stored.{encoded, fits, decoded, by_fit}
use Rattle.stored.proofs.StoredLaws.{fits_known}
use Rattle.stored.proofs.RoundTrip.{Short, SmallSession, decoded_encoded, encoded_fits, number_bytes, decoded_short, decoded_session}

-- the lent bytes hold it
pub record Storable (x : Exchange) : Type 0 where
  pub short : Short x.lens
  pub session : SmallSession x.session
  pub k_size_is : length x.k ≡ k_size
  pub h_size_is : length x.h ≡ h_size
  pub id_size : length x.session.id ≡ h_size

-- ---- lengths that a step brings

short_c : (l : Lengths) (n : ℕ) → Short l → n < 65536 → Short (with_c l n)
short_c l n h k = record { vc = h.vc; vs = h.vs; ic = h.ic; is = h.is; ks = h.ks; c = k; s = h.s }

short_s : (l : Lengths) (m n : ℕ) → Short l → m < 65536 → n < 65536 → Short (with_s l m n)
short_s l m n h j k = record { vc = h.vc; vs = h.vs; ic = h.ic; is = h.is; ks = j; c = h.c; s = k }

c_short : (m : ℕ) (c : List ℕ) → method_ok m ≡ true → FormedC m c → length c < 65536
c_short m c o z = let h = length_most_lem (row_of m).c (length c) z.len in omega (arith, (method_row m o).c_most)

s_short : (m : ℕ) (s : List ℕ) → method_ok m ≡ true → FormedS m s → length s < 65536
s_short m s o z = let h = length_most_lem (row_of m).s (length s) z.len in omega (arith, (method_row m o).s_most)

blob_short : (ks : List ℕ) → Blob ks → length ks < 65536
blob_short ks z = let h = within_most 1 blob_most (length ks) z.ok in omega arith

-- H has 64 bytes
pub length_h : (m : ℕ) (input : List ℕ) → method_ok m ≡ true → length (h_of m input) ≡ h_size
unfolding sized
length_h m input o =
    let d = sha2 (row_of m).digest_len input in
    let l = length_sha2 (row_of m).digest_len input (method_row m o).digest_kind in
    length-append d (zeros (h_size - length d)) ∙ omega (arith, l, length-replicate {A = ℕ} (h_size - length d) 0, (method_row m o).digest_most)

-- ---- an accepted step

module _ (e : Exchange) (room : List ℕ) (o : method_ok e.method ≡ true) where
  taken_short : (q : Call) → fed_cause e.role e.method q ≡ 0 → Short e.lens → Short (taken e room q).lens
  unfolding taken fed_cause
  taken_short (own_c c out) z h = short_c e.lens (length c) h (c_short e.method c o (own_c_formed e.method c out z))
  taken_short (init p) z h = short_c e.lens (length (field_of p 0)) h (c_short e.method (field_of p 0) o (init_formed e.method p z).1)
  taken_short (reply p) z h =
      let a = reply_formed e.method p z in
      short_s e.lens (length (field_of p 0)) (length (field_of p 1)) h (blob_short (field_of p 0) a.1) (s_short e.method (field_of p 1) o a.2)
  taken_short (secret cl x kem k_pq ks s) z h = by_role (eqb e.role server) refl
    where
      by_role : (t : Bool) → eqb e.role server ≡ t → Short (cond t (with_s e.lens (length ks) (length s)) e.lens)
      by_role true w =
          let k = (secret_known e.role e.method cl x kem k_pq ks s z).3 in
          let a = own_formed e.method ks s (ap (λ (r : ℕ). own_ok r (row_of e.method) ks s) (sym (eqb-true e.role server w)) ∙ k) in
          short_s e.lens (length ks) (length s) h (blob_short ks a.0) (s_short e.method s o a.1)
      by_role false w = h
  taken_short (sign g out k_out) z h = h
  taken_short (verdict a b k_out) z h = h

  taken_k : (q : Call) → fed_cause e.role e.method q ≡ 0 → length e.k ≡ k_size → length (taken e room q).k ≡ k_size
  unfolding taken fed_cause k_record
  taken_k (own_c c out) z h = h
  taken_k (init p) z h = h
  taken_k (reply p) z h = h
  taken_k (secret cl x kem k_pq ks s) z h =
      let k = k_of e.method x k_pq in
      let a = (key_sized e.role e.method cl x kem k_pq ks s o z).most in
      length_onto (zeros k_size) k (omega (arith, (method_row e.method o).k_most_is))
  taken_k (sign g out k_out) z h = h
  taken_k (verdict a b k_out) z h = h

  taken_h : (q : Call) → length e.h ≡ h_size → length (taken e room q).h ≡ h_size
  unfolding taken
  taken_h (own_c c out) h = h
  taken_h (init p) h = h
  taken_h (reply p) h = h
  taken_h (secret cl x kem k_pq ks s) h = length_h e.method _ o
  taken_h (sign g out k_out) h = h
  taken_h (verdict a b k_out) h = h

  -- the session changes with the last step alone
  module _ (f : e.session.count < count_most) (l : length e.h ≡ h_size) where
    last_session : SmallSession e.session → SmallSession (one_more e.method e.h e.session)
    unfolding one_more
    last_session h = record { len = by_count (eqb e.session.count 0); count = omega arith }
      where
        by_count : (t : Bool) → cond t (row_of e.method).digest_len e.session.len < 65536
        by_count true = omega (arith, (method_row e.method o).digest_most)
        by_count false = h.len

    last_id : length e.session.id ≡ h_size → length (one_more e.method e.h e.session).id ≡ h_size
    unfolding one_more
    last_id h = by_count (eqb e.session.count 0)
      where
        by_count : (t : Bool) → length (cond t e.h e.session.id) ≡ h_size
        by_count true = l
        by_count false = h

    taken_session : (q : Call) → SmallSession e.session → SmallSession (taken e room q).session
    unfolding taken
    taken_session (own_c c out) h = h
    taken_session (init p) h = h
    taken_session (reply p) h = h
    taken_session (secret cl x kem k_pq ks s) h = h
    taken_session (sign g out k_out) h = last_session h
    taken_session (verdict a b k_out) h = last_session h

    taken_id : (q : Call) → length e.session.id ≡ h_size → length (taken e room q).session.id ≡ h_size
    unfolding taken
    taken_id (own_c c out) h = h
    taken_id (init p) h = h
    taken_id (reply p) h = h
    taken_id (secret cl x kem k_pq ks s) h = h
    taken_id (sign g out k_out) h = last_id h
    taken_id (verdict a b k_out) h = last_id h

-- a step is due only before the exchange is complete, and so below the last count
next_open : (role : ℕ) (s : Stage) → ¬ (next_step role s ≡ 0) → is_complete s ≡ false
next_open role Started h = refl
next_open role CSent h = refl
next_open role InitRead h = refl
next_open role ReplyRead h = refl
next_open role SecretDone h = refl
next_open role Complete h = absurd (h (by_tests (eqb role 1) (eqb role 2)))
  where
    by_tests : (t u : Bool) → ◌≡◌ {A = ℕ} (cond t 0 (cond u 0 0)) 0
    by_tests true u = refl
    by_tests false true = refl
    by_tests false false = refl
next_open role (Failed n) h = refl

pub step_some : (q : Call) → ¬ (step_no q ≡ 0)
step_some (own_c c out) h = let w : ⊥ = omega arith in w
step_some (init p) h = let w : ⊥ = omega arith in w
step_some (reply p) h = let w : ⊥ = omega arith in w
step_some (secret cl x kem k_pq ks s) h = let w : ⊥ = omega arith in w
step_some (sign g out k_out) h = let w : ⊥ = omega arith in w
step_some (verdict a b k_out) h = let w : ⊥ = omega arith in w

pub count_less : (q : Call) (e : Exchange) → Due (step_no q) e → e.session.count < count_most
count_less q e d =
    let z = next_open e.role e.stage (λ h. step_some q (sym d.next ∙ h)) in
    ltb-true e.session.count count_most (ap (λ (t : Bool). count_fits t e.session.count) (sym z) ∙ (session_known_lem e.stage e.session d.session).0)

-- ---- every step, the start, and a beginning

none_short : Short no_lengths
none_short = record { vc = omega arith; vs = omega arith; ic = omega arith; is = omega arith; ks = omega arith; c = omega arith; s = omega arith }

no_session_lem : SmallSession no_session
no_session_lem = record { len = omega arith; count = omega arith }

pub ended_storable : (n role m : ℕ) (s : Session) → SmallSession s → length s.id ≡ h_size → Storable (ended n role m s)
unfolding ended
ended_storable n role m s h l = record { short = none_short; session = h; k_size_is = refl; h_size_is = refl; id_size = l }

pub step_storable : (e : Exchange) (room : List ℕ) (q : Call) → Storable e → Storable (exchange_after e room q)
unfolding exchange_after kind
step_storable e room q h = by_tests (eqb (number e room q) 0) (is_fault (number e room q)) refl
  where
    by_tests : (a b : Bool) → eqb (number e room q) 0 ≡ a
        → Storable (by_kind (cond a accepted (cond b fault refused)) (taken e room q) e (ended (number e room q) e.role e.method e.session))
    by_tests true b w =
        let k = step_known e room q (eqb-true (number e room q) 0 w) in
        let o = k.0.method_ok_is in
        let c = count_less q e k.0 in
        record {
          short = taken_short e room o q k.2 h.short;
          session = taken_session e room o c h.h_size_is q h.session;
          k_size_is = taken_k e room o q k.2 h.k_size_is;
          h_size_is = taken_h e room o q h.h_size_is;
          id_size = taken_id e room o c h.h_size_is q h.id_size;
        }
    by_tests false true w = ended_storable (number e room q) e.role e.method e.session h.session h.id_size
    by_tests false false w = h

pub start_storable : (role m : ℕ) (vc vs ic is : List ℕ) (room : ℕ) → Storable (started role m vc vs ic is room).exchange
unfolding started
start_storable role m vc vs ic is room = by_test (eqb (start_cause role m vc vs ic is room) 0) refl
  where
    by_test : (t : Bool) → eqb (start_cause role m vc vs ic is room) 0 ≡ t → Storable (started role m vc vs ic is room).exchange
    by_test true w =
        let b = (start_known role m vc vs ic is room (eqb-true (start_cause role m vc vs ic is room) 0 w)).2 in
        let v = within_most 1 version_most (length vc) b.vc_ok in
        let x = within_most 1 version_most (length vs) b.vs_ok in
        let y = within_most 1 kexinit_most (length ic) b.ic_ok in
        let z = within_most 1 kexinit_most (length is) b.is_ok in
        rw w (record {
          short = record { vc = omega arith; vs = omega arith; ic = omega arith; is = omega arith; ks = omega arith; c = omega arith; s = omega arith };
          session = no_session_lem;
          k_size_is = refl;
          h_size_is = refl;
          id_size = refl;
        })
    by_test false w = rw w (ended_storable (start_cause role m vc vs ic is room) 0 0 no_session no_session_lem refl)

pub again_storable : (e : Exchange) (room m : ℕ) (ic is : List ℕ) → Storable e → Storable (again_after e room m ic is)
unfolding again_after again_number
again_storable e room m ic is h = by_test (eqb (again_number e room m ic is) 0) refl
  where
    by_test : (t : Bool) → eqb (again_number e room m ic is) 0 ≡ t → Storable (cond t (begun_again e m (length ic) (length is)) e)
    by_test false w = h
    by_test true w =
        let k = unless_none (completed e) 1 _ (omega arith) (eqb-true (again_number e room m ic is) 0 w) in
        let a = again_known m ic is room e.session.count k.1 in
        let y = within_most 1 kexinit_most (length ic) a.2 in
        let z = within_most 1 kexinit_most (length is) a.3 in
        record {
          short = record { vc = h.short.vc; vs = h.short.vs; ic = omega arith; is = omega arith; ks = omega arith; c = omega arith; s = omega arith };
          session = h.session;
          k_size_is = refl;
          h_size_is = refl;
          id_size = h.id_size;
        }

-- ---- what a host meets

-- bytes that fit hold such an exchange
pub decoded_storable : (b : List ℕ) → Bytes b → fits b ≡ true → Storable (decoded b)
unfolding decoded
decoded_storable b y h =
    let n = (fits_known b h).0 in
    let u = number_bytes b y in
    record {
      short = decoded_short b u;
      session = decoded_session b u;
      k_size_is = omega (arith, length-take k_size (drop 19 b), length-drop 19 b);
      h_size_is = omega (arith, length-take h_size (drop 90 b), length-drop 90 b);
      id_size = omega (arith, length-drop 164 b);
    }

-- on an exchange's bytes an export answers and leaves what the step does by value
pub lent_is_step : {A : Type 0} (F : Exchange → A) (old : A) (x : Exchange) → Storable x → by_fit (encoded x) (F (decoded (encoded x))) old ≡ F x
unfolding by_fit
lent_is_step F old x h = rw (encoded_fits x h.k_size_is h.h_size_is h.id_size, decoded_encoded x h.short h.session h.k_size_is h.h_size_is)

-- what is recorded is no greater than any that fits
pub record Within (e : Exchange) : Type 0 where
  pub lens : Short e.lens
  pub len : e.session.len ≤ length_most
  pub count : e.session.count ≤ count_most

count_within : (t : Bool) (n : ℕ) → count_fits t n ≡ true → n ≤ count_most
count_within true n h = within_most 1 count_most n h
count_within false n h = let k = ltb-true n count_most h in omega arith

-- an exchange that records more does not fit: no step is due on it, and it is not complete
long_not_fits : (e : Exchange) → ¬ Within e → record_fits e ≡ false
long_not_fits e h = by_test (record_fits e) refl
  where
    by_test : (t : Bool) → record_fits e ≡ t → t ≡ false
    by_test false w = refl
    by_test true w =
        let d = recorded e w in
        let b = small (row_of e.method) e.lens (method_row e.method d.method_ok_is) (bounded (row_of e.method) e.stage e.lens d.lengths) in
        let s = session_known_lem e.stage e.session d.session in
        absurd (h (record {
          lens = record {
            vc = omega (arith, b.vc);
            vs = omega (arith, b.vs);
            ic = omega (arith, b.ic);
            is = omega (arith, b.is);
            ks = omega (arith, b.ks);
            c = omega (arith, b.c);
            s = omega (arith, b.s);
          };
          len = omega (arith, id_most e.session.len e.session.count s.1);
          count = count_within (is_complete e.stage) e.session.count s.0;
        }))

pub long_not_due : (n : ℕ) (e : Exchange) → ¬ Within e → due n e ≡ false
unfolding due
long_not_due n e h = rw (long_not_fits e h) (and_false (eqb (next_step e.role e.stage) n))

pub long_not_complete : (e : Exchange) → ¬ Within e → completed e ≡ false
unfolding completed
long_not_complete e h = rw (long_not_fits e h) (and_false (is_complete e.stage && role_ok e.role))

-- so it is answered 1 by every step, and where it would begin again: a host loses nothing
pub long_refused : (e : Exchange) (room : List ℕ) (q : Call) → ¬ Within e → number e room q ≡ 1
unfolding number step_number
long_refused e room q h = unless_fails (due (step_no q) e) 1 _ (long_not_due (step_no q) e h)

pub long_not_again : (e : Exchange) (room m : ℕ) (ic is : List ℕ) → ¬ Within e → again_number e room m ic is ≡ 1
unfolding again_number
long_not_again e room m ic is h = unless_fails (completed e) 1 _ (long_not_complete e h)
