-- What an accepted call tells of the fields that it brings. Assumes nothing.
use Prim.Native.Nat.{ℕ, ◌+◌, ◌≤◌}
use mathlib.Core.Path.{◌≡◌, refl, sym, ap, ◌∙◌}
use mathlib.Core.List.{List, ◌∷◌, ◌++◌}
use mathlib.Core.Bool.{Bool, true, false, cond, ◌&&◌, false≢true}
use native.Mathlib.Omega.{arith}
use lib.ListN.{length, get_or, drop}
use lib.Dec.{leb, ltb, eqb}
use borrow.Author.Tests.{eqb-true, eqb-false, le-leb, eq-eqb, ltb-false}
use Rattle.limits.specs.Limits.{version_most, kexinit_most, string_most, k_pq_size, k_size, count_most, room_least, method_last, server}
use Rattle.limits.specs.Range.{within}
use Rattle.limits.proofs.BoolLaws.{and_true, both}
use Rattle.limits.proofs.RangeLaws.{within_least, within_most}
use Rattle.buffers.specs.Bytes.{zeros, onto}
use Rattle.wire.specs.Strings.{number32, string}
use Rattle.wire.proofs.CauseLaws.{if_none, unless_none, or_else_none}
use Rattle.wire.proofs.StringLaws.{length_string}
use Rattle.wire.proofs.RoundTrip.{number32_string}
use Rattle.sha_words.specs.Message.{sha2}
use Rattle.sha_words.proofs.DigestLaws.{length_sha2}
use Rattle.mpint.specs.Mpint.{shortest}
use Rattle.mpint.proofs.MpintLaws.{length_shortest}
use Rattle.methods.specs.Rows.{row_of, most_by, k_most}
use Rattle.methods.specs.Form.{length_fits, lead_fits, formed}
use Rattle.methods.specs.declared.KForm.{KForm}
use Rattle.methods.specs.declared.KForm.TheVariants.{Mpint, Digest}
use Rattle.methods.specs.declared.Method.{Method}
use Rattle.methods.specs.Sound.{Sound}
use Rattle.methods.proofs.MethodLaws.{sound}
use Rattle.methods.proofs.FormLaws.{formed_length}
use Rattle.messages.specs.Payload.{message_cause}
use Rattle.messages.specs.Messages.{init_layout, reply_layout, field_of}
use Rattle.secret.specs.Secret.{k_bytes}
use Rattle.secret.proofs.SecretLaws.{k_some}
use Rattle.exchange.specs.Causes.{version_ok, plain, kexinit_ok, blob_ok, method_ok, role_ok, start_cause, again_cause, own_c_cause, init_cause, reply_cause, x_ok, kem_ok, k_pq_for, k_pq_ok, own_ok, rest_ok, all_zero, x_bad, kem_bad, secret_cause, k_of}
use Rattle.exchange.specs.Record.{k_length, k_body_fits}
use Rattle.exchange.specs.Steps.{k_record}
use Rattle.exchange.specs.declared.Classical.{Classical}
use Rattle.exchange.specs.declared.Classical.TheVariants.{Failed as NoX, Given}
use Rattle.exchange.specs.declared.Kem.{Kem}
use Rattle.exchange.specs.declared.Kem.TheVariants.{Absent, Failed as NoKem, Done}

-- ---- facts as records, so that what they speak of is found from them

pub record Base (m : ℕ) (vc vs ic is : List ℕ) : Type 0 where
  pub method_ok_is : method_ok m ≡ true
  pub vc_ok : within 1 version_most (length vc) ≡ true
  pub vs_ok : within 1 version_most (length vs) ≡ true
  pub ic_ok : within 1 kexinit_most (length ic) ≡ true
  pub is_ok : within 1 kexinit_most (length is) ≡ true

pub record FormedC (m : ℕ) (c : List ℕ) : Type 0 where
  pub ok : formed (row_of m).c c ≡ true
  pub len : length_fits (row_of m).c (length c) ≡ true

pub record FormedS (m : ℕ) (s : List ℕ) : Type 0 where
  pub ok : formed (row_of m).s s ≡ true
  pub len : length_fits (row_of m).s (length s) ≡ true

pub record Blob (ks : List ℕ) : Type 0 where
  pub ok : blob_ok (length ks) ≡ true

pub record Key (m : ℕ) (k : List ℕ) : Type 0 where
  pub ok : k_body_fits (row_of m).k_form (row_of m) (number32 (k_record k)) ≡ true
  pub most : length k ≤ 4 + k_most (row_of m)
  pub len : k_length (k_record k) ≡ length k

-- ---- the method

pub method_least : (m : ℕ) → method_ok m ≡ true → 1 ≤ m
unfolding method_ok
method_least m e = within_least 1 method_last m e

pub method_most : (m : ℕ) → method_ok m ≡ true → m ≤ method_last
unfolding method_ok
method_most m e = within_most 1 method_last m e

pub method_row : (m : ℕ) → method_ok m ≡ true → Sound (row_of m)
method_row m e = sound m (method_least m e) (method_most m e)

-- ---- start

pub start_known : (role m : ℕ) (vc vs ic is : List ℕ) (room : ℕ) → start_cause role m vc vs ic is room ≡ 0
    → (role_ok role ≡ true) × (room_least ≤ room) × Base m vc vs ic is
unfolding start_cause version_ok kexinit_ok
start_known role m vc vs ic is room z =
    let a = unless_none (method_ok m && role_ok role) 2 _ (omega arith) z in
    let b = and_true (method_ok m) (role_ok role) a.0 in
    let c = if_none (ltb room room_least) 3 _ (omega arith) a.1 in
    let d = (unless_none _ 4 0 (omega arith) c.1).0 in
    let e3 = and_true (version_ok vc && version_ok vs && kexinit_ok ic) (kexinit_ok is) d in
    let e2 = and_true (version_ok vc && version_ok vs) (kexinit_ok ic) e3.0 in
    let e1 = and_true (version_ok vc) (version_ok vs) e2.0 in (
      b.1,
      ltb-false room room_least c.0,
      record {
        method_ok_is = b.0;
        vc_ok = (and_true (within 1 version_most (length vc)) (plain vc) e1.0).0;
        vs_ok = (and_true (within 1 version_most (length vs)) (plain vs) e1.1).0;
        ic_ok = (and_true (within 1 kexinit_most (length ic)) (eqb (get_or ic 0 0) 20) e2.1).0;
        is_ok = (and_true (within 1 kexinit_most (length is)) (eqb (get_or is 0 0) 20) e3.1).0;
      },
    )

-- ---- to begin again

pub again_known : (m : ℕ) (ic is : List ℕ) (room count : ℕ) → again_cause m ic is room count ≡ 0
    → (method_ok m ≡ true) × (room_least ≤ room) × (within 1 kexinit_most (length ic) ≡ true) × (within 1 kexinit_most (length is) ≡ true) × (count ≡ count_most → ⊥)
unfolding again_cause kexinit_ok
again_known m ic is room count z =
    let a = unless_none (method_ok m) 2 _ (omega arith) z in
    let c = if_none (ltb room room_least) 3 _ (omega arith) a.1 in
    let d = unless_none _ 4 _ (omega arith) c.1 in
    let e = and_true (kexinit_ok ic) (kexinit_ok is) d.0 in (
      a.0,
      ltb-false room room_least c.0,
      (and_true (within 1 kexinit_most (length ic)) (eqb (get_or ic 0 0) 20) e.0).0,
      (and_true (within 1 kexinit_most (length is)) (eqb (get_or is 0 0) 20) e.1).0,
      eqb-false count count_most (if_none (eqb count count_most) 23 0 (omega arith) d.1).0,
    )

-- ---- C, and K_S with S

pub own_c_formed : (m : ℕ) (c : List ℕ) (out : ℕ) → own_c_cause m c out ≡ 0 → FormedC m c
unfolding own_c_cause
own_c_formed m c out z =
    let f = (unless_none (formed (row_of m).c c) 4 _ (omega arith) z).0 in
    record { ok = f; len = formed_length (row_of m).c c f }

pub init_formed : (m : ℕ) (p : List ℕ) → init_cause m p ≡ 0 → (message_cause init_layout p ≡ 0) × FormedC m (field_of p 0)
unfolding init_cause formed
init_formed m p z =
    let a = or_else_none (message_cause init_layout p) _ z in
    let b = unless_none (length_fits (row_of m).c (length (field_of p 0))) 14 _ (omega arith) a.1 in
    let c = unless_none (lead_fits (row_of m).c (field_of p 0)) 15 0 (omega arith) b.1 in
    (a.0, record { ok = both b.0 c.0; len = b.0 })

pub reply_formed : (m : ℕ) (p : List ℕ) → reply_cause m p ≡ 0 → (message_cause reply_layout p ≡ 0) × Blob (field_of p 0) × FormedS m (field_of p 1)
unfolding reply_cause formed
reply_formed m p z =
    let a = or_else_none (message_cause reply_layout p) _ z in
    let b = unless_none (blob_ok (length (field_of p 0)) && length_fits (row_of m).s (length (field_of p 1)) && blob_ok (length (field_of p 2))) 14 _ (omega arith) a.1 in
    let l = unless_none (lead_fits (row_of m).s (field_of p 1)) 15 0 (omega arith) b.1 in
    let c = (and_true (blob_ok (length (field_of p 0)) && length_fits (row_of m).s (length (field_of p 1))) (blob_ok (length (field_of p 2))) b.0).0 in
    let d = and_true (blob_ok (length (field_of p 0))) (length_fits (row_of m).s (length (field_of p 1))) c in
    (a.0, record { ok = d.0 }, record { ok = both d.1 l.0; len = d.1 })

-- ---- the secret

-- the judgements of an accepted secret step: X, KEM, K_PQ, and a server's own; and neither primitive is to blame
pub secret_known : (role m : ℕ) (cl : Classical) (x : List ℕ) (kem : Kem) (k_pq ks s : List ℕ) → secret_cause role m cl x kem k_pq ks s ≡ 0
    → (x_ok (row_of m) cl x ≡ true) × (kem_ok (row_of m) kem ≡ true) × (k_pq_ok kem k_pq ≡ true) × (own_ok role (row_of m) ks s ≡ true)
    × (x_bad (row_of m) cl x ≡ false) × (kem_bad kem ≡ false)
unfolding secret_cause rest_ok
secret_known role m cl x kem k_pq ks s z =
    let a = unless_none (x_ok (row_of m) cl x && rest_ok role (row_of m) kem k_pq ks s) 4 _ (omega arith) z in
    let b = and_true (x_ok (row_of m) cl x) (rest_ok role (row_of m) kem k_pq ks s) a.0 in
    let b2 = and_true (kem_ok (row_of m) kem && k_pq_ok kem k_pq) (own_ok role (row_of m) ks s) b.1 in
    let b1 = and_true (kem_ok (row_of m) kem) (k_pq_ok kem k_pq) b2.0 in
    let c = if_none (x_bad (row_of m) cl x) 16 _ (omega arith) a.1 in
    (b.0, b1.0, b1.1, b2.1, c.0, (if_none (kem_bad kem) 17 0 (omega arith) c.1).0)

-- a server's K_S and S
pub own_formed : (m : ℕ) (ks s : List ℕ) → own_ok server (row_of m) ks s ≡ true → Blob ks × FormedS m s
own_formed m ks s e =
    let a = and_true (blob_ok (length ks)) (formed (row_of m).s s) e in
    (record { ok = a.0 }, record { ok = a.1; len = formed_length (row_of m).s s a.1 })

-- K's record begins with K's length
number32_record : (b : List ℕ) → length b ≤ string_most → number32 (k_record (string b)) ≡ length b
unfolding k_record onto
number32_record b h = number32_string b (drop (length (string b)) (zeros k_size)) h

-- K by its form, over any sound row
module _ (r : Method) (row : Sound r) (x d : List ℕ) where
  mpint_fits : length x ≡ r.x_len → r.zero_check && all_zero x ≡ false
      → (k_body_fits Mpint r (number32 (k_record (k_bytes Mpint x d))) ≡ true) × (length (k_bytes Mpint x d) ≤ 4 + most_by Mpint r.x_len r.digest_len)
      × (k_length (k_record (k_bytes Mpint x d)) ≡ length (k_bytes Mpint x d))
  mpint_fits l z =
      let b = length_shortest (0 ∷ x) in
      let n = number32_record (shortest (0 ∷ x)) (omega (arith, row.x_most)) in
      let t = length_string (shortest (0 ∷ x)) in (
        ap (k_body_fits Mpint r) n ∙ rw (le-leb (length (shortest (0 ∷ x))) (r.x_len + 1) (omega arith)) (checked r.zero_check z),
        omega arith,
        omega arith,
      )
    where
      checked : (t : Bool) → t && all_zero x ≡ false → cond t (leb 1 (length (shortest (0 ∷ x)))) true ≡ true
      checked true e = le-leb 1 (length (shortest (0 ∷ x))) (k_some x e)
      checked false e = refl

  digest_fits : length d ≡ r.digest_len
      → (k_body_fits Digest r (number32 (k_record (k_bytes Digest x d))) ≡ true) × (length (k_bytes Digest x d) ≤ 4 + most_by Digest r.x_len r.digest_len)
      × (k_length (k_record (k_bytes Digest x d)) ≡ length (k_bytes Digest x d))
  digest_fits l =
      let n = number32_record d (omega (arith, row.digest_most)) in
      let t = length_string d in
      (ap (k_body_fits Digest r) n ∙ eq-eqb (length d) r.digest_len l, omega arith, omega arith)

  by_form : (f : KForm) → length x ≡ r.x_len → r.zero_check && all_zero x ≡ false → length d ≡ r.digest_len
      → (k_body_fits f r (number32 (k_record (k_bytes f x d))) ≡ true) × (length (k_bytes f x d) ≤ 4 + most_by f r.x_len r.digest_len)
      × (k_length (k_record (k_bytes f x d)) ≡ length (k_bytes f x d))
  by_form Mpint l z k = mpint_fits l z
  by_form Digest l z k = digest_fits k

-- X and K_PQ of an accepted secret step are short
pub secret_short : (role m : ℕ) (cl : Classical) (x : List ℕ) (kem : Kem) (k_pq ks s : List ℕ) → method_ok m ≡ true → secret_cause role m cl x kem k_pq ks s ≡ 0
    → (length x ≤ 66) × (length k_pq ≤ k_pq_size)
secret_short role m NoX x kem k_pq ks s mo z = absurd (false≢true (sym (secret_known role m NoX x kem k_pq ks s z).4))
secret_short role m (Given n) x kem k_pq ks s mo z =
    let a = secret_known role m (Given n) x kem k_pq ks s z in
    let l = eqb-true (length x) (row_of m).x_len (and_true (eqb n (row_of m).x_len) (eqb (length x) (row_of m).x_len) a.0).1 in
    let q = eqb-true (length k_pq) (k_pq_for kem) a.2 in
    (omega (arith, (method_row m mo).x_most), omega (arith, most kem))
  where
    most : (kem : Kem) → k_pq_for kem ≤ k_pq_size
    most Absent = omega arith
    most NoKem = omega arith
    most Done = omega arith

-- K of an accepted secret step fits its method
pub key_sized : (role m : ℕ) (cl : Classical) (x : List ℕ) (kem : Kem) (k_pq ks s : List ℕ) → method_ok m ≡ true → secret_cause role m cl x kem k_pq ks s ≡ 0 → Key m (k_of m x k_pq)
key_sized role m NoX x kem k_pq ks s mo z = absurd (false≢true (sym (secret_known role m NoX x kem k_pq ks s z).4))
key_sized role m (Given n) x kem k_pq ks s mo z =
    let a = secret_known role m (Given n) x kem k_pq ks s z in
    let lx = (and_true (eqb n (row_of m).x_len) (eqb (length x) (row_of m).x_len) a.0).1 in
    let d : List ℕ = sha2 (row_of m).digest_len (k_pq ++ x) in
    let k = by_form (row_of m) (method_row m mo) x d (row_of m).k_form (eqb-true (length x) (row_of m).x_len lx) a.4 (length_sha2 _ (k_pq ++ x) (method_row m mo).digest_kind) in
    record { ok = k.0; most = k.1; len = k.2 }
