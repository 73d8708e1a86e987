-- Laws of `specs/Record.antt`: a record that fits has its next step due, a failed one none. Assumes nothing.
use Prim.Native.Nat.{ℕ, ◌+◌, ◌≤◌}
use mathlib.Core.Path.{◌≡◌, refl, sym, ap, ◌∙◌}
use mathlib.Core.List.{List}
use mathlib.Core.Bool.{Bool, true, false, cond, ◌&&◌, ◌||◌}
use native.Mathlib.Omega.{arith}
use lib.Dec.{eqb}
use borrow.Author.Tests.{eqb-true, ne_eqb, ltb-true}
use Rattle.limits.specs.Limits.{version_most, kexinit_most, h_size, count_most, client, server}
use Rattle.limits.specs.Range.{within}
use Rattle.limits.proofs.BoolLaws.{and_true, both}
use Rattle.limits.proofs.RangeLaws.{within_is}
use Rattle.sha_words.specs.Constants.{known}
use Rattle.methods.specs.Rows.{row_of}
use Rattle.methods.specs.declared.Method.{Method}
use Rattle.exchange.specs.Causes.{method_ok, role_ok}
use Rattle.exchange.specs.Record.{next_step, c_fits, s_fits, lengths_fit, k_fits, count_fits, id_fits, session_fits, record_fits, due, is_complete, completed}
use Rattle.exchange.specs.declared.Stage.{Stage}
use Rattle.exchange.specs.Steps.{with_stage, one_more, with_last}
use Rattle.exchange.specs.declared.Stage.TheVariants.{SecretDone, Complete, Failed}
use Rattle.exchange.specs.declared.Lengths.{Lengths}
use Rattle.exchange.specs.declared.Session.{Session}
use Rattle.exchange.specs.declared.Exchange.{Exchange}

-- ---- lengths_fit

pub lengths_fit_lem : (r : Method) (stage : Stage) (l : Lengths)
    → within 1 version_most l.vc ≡ true → within 1 version_most l.vs ≡ true → within 1 kexinit_most l.ic ≡ true → within 1 kexinit_most l.is ≡ true
    → c_fits r stage l ≡ true → s_fits r stage l ≡ true → lengths_fit r stage l ≡ true
unfolding lengths_fit
lengths_fit_lem r stage l a b c d e f = (λ i. a i && b i && c i && d i && e i && f i)

pub record Fitting (r : Method) (stage : Stage) (l : Lengths) : Type 0 where
  pub vc : within 1 version_most l.vc ≡ true
  pub vs : within 1 version_most l.vs ≡ true
  pub ic : within 1 kexinit_most l.ic ≡ true
  pub is : within 1 kexinit_most l.is ≡ true
  pub c : c_fits r stage l ≡ true
  pub s : s_fits r stage l ≡ true

-- what fitting lengths tell
pub fitting : (r : Method) (stage : Stage) (l : Lengths) → lengths_fit r stage l ≡ true → Fitting r stage l
unfolding lengths_fit
fitting r stage l e =
    let e5 = and_true (within 1 version_most l.vc && within 1 version_most l.vs && within 1 kexinit_most l.ic && within 1 kexinit_most l.is && c_fits r stage l) (s_fits r stage l) e in
    let e4 = and_true (within 1 version_most l.vc && within 1 version_most l.vs && within 1 kexinit_most l.ic && within 1 kexinit_most l.is) (c_fits r stage l) e5.0 in
    let e3 = and_true (within 1 version_most l.vc && within 1 version_most l.vs && within 1 kexinit_most l.ic) (within 1 kexinit_most l.is) e4.0 in
    let e2 = and_true (within 1 version_most l.vc && within 1 version_most l.vs) (within 1 kexinit_most l.ic) e3.0 in
    let e1 = and_true (within 1 version_most l.vc) (within 1 version_most l.vs) e2.0 in
    record { vc = e1.0; vs = e1.1; ic = e2.1; is = e3.1; c = e4.1; s = e5.1 }

-- ---- record_fits

pub record_fits_lem : (e : Exchange) → method_ok e.method ≡ true → lengths_fit (row_of e.method) e.stage e.lens ≡ true
    → k_fits (row_of e.method) e.stage e.k ≡ true → session_fits e.stage e.session ≡ true → record_fits e ≡ true
unfolding record_fits
record_fits_lem e a b c d = λ i. a i && b i && c i && d i

-- what a record that fits tells
pub record Recorded (e : Exchange) : Type 0 where
  pub method_ok_is : method_ok e.method ≡ true
  pub lengths : Fitting (row_of e.method) e.stage e.lens
  pub key : k_fits (row_of e.method) e.stage e.k ≡ true
  pub session : session_fits e.stage e.session ≡ true

pub recorded : (e : Exchange) → record_fits e ≡ true → Recorded e
unfolding record_fits
recorded e f =
    let e3 = and_true (method_ok e.method && lengths_fit (row_of e.method) e.stage e.lens && k_fits (row_of e.method) e.stage e.k) (session_fits e.stage e.session) f in
    let e2 = and_true (method_ok e.method && lengths_fit (row_of e.method) e.stage e.lens) (k_fits (row_of e.method) e.stage e.k) e3.0 in
    let e1 = and_true (method_ok e.method) (lengths_fit (row_of e.method) e.stage e.lens) e2.0 in
    record { method_ok_is = e1.0; lengths = fitting (row_of e.method) e.stage e.lens e1.1; key = e2.1; session = e3.1 }

-- ---- due

pub due_fits : (n : ℕ) (e : Exchange) → record_fits e ≡ true → due n e ≡ eqb (next_step e.role e.stage) n
unfolding due
due_fits n e f = ap (λ (t : Bool). eqb (next_step e.role e.stage) n && t) f ∙ by_test (eqb (next_step e.role e.stage) n)
  where
    by_test : (t : Bool) → t && true ≡ t
    by_test true = refl
    by_test false = refl

-- what a step that is due tells of the record
pub record Due (n : ℕ) (e : Exchange) : Type 0 where
  pub next : next_step e.role e.stage ≡ n
  pub method_ok_is : method_ok e.method ≡ true
  pub lengths : Fitting (row_of e.method) e.stage e.lens
  pub key : k_fits (row_of e.method) e.stage e.k ≡ true
  pub session : session_fits e.stage e.session ≡ true

pub due_known : (n : ℕ) (e : Exchange) → due n e ≡ true → Due n e
unfolding due
due_known n e d =
    let t = and_true (eqb (next_step e.role e.stage) n) (record_fits e) d in
    let r = recorded e t.1 in
    record { next = eqb-true (next_step e.role e.stage) n t.0; method_ok_is = r.method_ok_is; lengths = r.lengths; key = r.key; session = r.session }

-- nothing comes next on a failed exchange
pub next_failed : (role n : ℕ) → next_step role (Failed n) ≡ 0
next_failed role n = by_test (eqb role client) (eqb role server)
  where
    by_test : (t u : Bool) → ◌≡◌ {A = ℕ} (cond t 0 (cond u 0 0)) 0
    by_test true u = refl
    by_test false true = refl
    by_test false false = refl

-- ---- completed

pub completed_fits : (e : Exchange) → is_complete e.stage ≡ true → role_ok e.role ≡ true → record_fits e ≡ true → completed e ≡ true
unfolding completed
completed_fits e a b c = λ i. a i && b i && c i

pub completed_known : (e : Exchange) → completed e ≡ true → (is_complete e.stage ≡ true) × Recorded e
unfolding completed
completed_known e c =
    let t = and_true (is_complete e.stage && role_ok e.role) (record_fits e) c in
    ((and_true (is_complete e.stage) (role_ok e.role) t.0).0, recorded e t.1)

-- ---- the session

-- the numbers of a session that fits
pub session_known_lem : (stage : Stage) (s : Session) → session_fits stage s ≡ true → (count_fits (is_complete stage) s.count ≡ true) × (id_fits s.len s.count ≡ true)
unfolding session_fits
session_known_lem stage s f = and_true (count_fits (is_complete stage) s.count) (id_fits s.len s.count) f

-- an identifier's length is at most a digest's
pub id_most : (len count : ℕ) → id_fits len count ≡ true → len ≤ h_size
id_most len count f = by_count (eqb count 0) f
  where
    by_count : (t : Bool) → cond t (eqb len 0) (known len) ≡ true → len ≤ h_size
    by_count true e = let z = eqb-true len 0 e in omega arith
    by_count false e = by_kind_lem (eqb len 32) (eqb len 48) refl refl e
      where
        by_kind_lem : (t u : Bool) → eqb len 32 ≡ t → eqb len 48 ≡ u → t || u || eqb len 64 ≡ true → len ≤ h_size
        by_kind_lem true u p q h = let z = eqb-true len 32 p in omega arith
        by_kind_lem false true p q h = let z = eqb-true len 48 q in omega arith
        by_kind_lem false false p q h = let z = eqb-true len 64 h in omega arith

-- the session of an exchange whose last step is done
pub more_fits : (m : ℕ) (h : List ℕ) (s : Session) → known (row_of m).digest_len ≡ true → session_fits SecretDone s ≡ true → session_fits Complete (one_more m h s) ≡ true
unfolding session_fits one_more
more_fits m h s k f =
    let a = and_true (count_fits false s.count) (id_fits s.len s.count) f in
    let l = ltb-true s.count count_most a.0 in
    let n = ne_eqb (s.count + 1) 0 (λ (e : s.count + 1 ≡ 0). omega arith) in
    both (within_is 1 count_most (s.count + 1) (omega arith) (omega arith)) (rw n (by_count (eqb s.count 0) a.1))
  where
    by_count : (t : Bool) → cond t (eqb s.len 0) (known s.len) ≡ true → known (cond t (row_of m).digest_len s.len) ≡ true
    by_count true e = k
    by_count false e = e

-- a record that fits at the last step fits when it is complete
pub last_fits : (e : Exchange) → e.stage ≡ SecretDone → known (row_of e.method).digest_len ≡ true → record_fits e ≡ true → record_fits (with_last e) ≡ true
unfolding record_fits lengths_fit c_fits s_fits k_fits
last_fits e z k f =
    let r : record_fits (with_stage e SecretDone e.lens) ≡ true = (λ i. record_fits (with_stage e (sym z i) e.lens)) ∙ f in
    let d = recorded (with_stage e SecretDone e.lens) r in
    record_fits_lem (with_last e) d.method_ok_is (lengths_fit_lem (row_of e.method) Complete e.lens d.lengths.vc d.lengths.vs d.lengths.ic d.lengths.is d.lengths.c d.lengths.s) d.key (more_fits e.method e.h e.session k d.session)
