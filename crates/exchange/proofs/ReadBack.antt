-- Demand 2 for INIT, REPLY and K: what is written is read with 0 and gives the same fields back. Assumes nothing.
use Prim.Native.Nat.{ℕ, ◌≤◌}
use mathlib.Core.Path.{◌≡◌, refl, sym, ap, ◌∙◌, subst}
use mathlib.Core.List.{List, ◌++◌, append_assoc}
use mathlib.Core.Bool.{true, false, ◌&&◌, false≢true}
use native.Mathlib.Omega.{arith}
use lib.ListN.{length, take, drop}
use lib.Seq.{take_at}
use borrow.Author.Tests.{le-leb, lt-leb, le-ltb}
use Rattle.limits.specs.Limits.{blob_most, init_least, k_size, method_last}
use Rattle.limits.proofs.BoolLaws.{and_true}
use Rattle.limits.proofs.RangeLaws.{within_most}
use Rattle.buffers.specs.Bytes.{Bytes, zeros, onto}
use Rattle.sha_words.specs.Message.{sha2}
use Rattle.wire.proofs.CauseLaws.{if_fails, unless_holds, or_else_second}
use Rattle.methods.specs.Rows.{hybrid, row_of}
use Rattle.methods.specs.Form.{length_fits, lead_fits, formed}
use Rattle.methods.specs.declared.KForm.{KForm}
use Rattle.methods.specs.declared.KForm.TheVariants.{Mpint, Digest}
use Rattle.methods.specs.declared.Shape.{Shape}
use Rattle.methods.proofs.MethodLaws.{sound, row_number}
use Rattle.methods.proofs.FormLaws.{length_most_lem}
use Rattle.messages.specs.Messages.{init_bytes, reply_bytes, field_of}
use Rattle.messages.proofs.MessageLaws.{length_init, length_reply}
use Rattle.messages.proofs.RoundTrip.{init_complete, init_sound, reply_complete, reply_sound}
use Rattle.secret.specs.Secret.{ReadsAs}
use Rattle.secret.proofs.SecretLaws.{k_read}
use Rattle.exchange.specs.Causes.{blob_ok, method_ok, own_c_cause, init_cause, reply_cause, secret_cause, k_of}
use Rattle.exchange.specs.Steps.{Call, own_c, fed_cause, number, count_of, answered, output_after, k_record}
use Rattle.exchange.specs.declared.Classical.{Classical}
use Rattle.exchange.specs.declared.Kem.{Kem}
use Rattle.exchange.specs.declared.Exchange.{Exchange}
use Rattle.exchange.specs.declared.Step.{Step}
use Rattle.exchange.proofs.CauseFacts.{method_row, own_c_formed, init_formed, reply_formed, key_sized}
use Rattle.exchange.proofs.StepLaws.{step_known, step_accepted, output_accepted}

split_formed : (h : Shape) (v : List ℕ) → formed h v ≡ true → (length_fits h (length v) ≡ true) × (lead_fits h v ≡ true)
unfolding formed
split_formed h v e = and_true (length_fits h (length v)) (lead_fits h v) e

-- ---- INIT, in every method

module _ (m : ℕ) (ok : method_ok m ≡ true) (c : List ℕ) where
  pub init_formed_back : formed (row_of m).c c ≡ true → (init_cause m (init_bytes c) ≡ 0) × (field_of (init_bytes c) 0 ≡ c)
  unfolding init_cause
  init_formed_back g =
      let f = split_formed (row_of m).c c g in
      let n = length_most_lem (row_of m).c (length c) f.0 in
      let b = init_complete c (omega (arith, length_init c, (method_row m ok).c_most)) in (
        or_else_second _ _ b.0
            ∙ unless_holds _ 14 _ (ap (λ (v : List ℕ). length_fits (row_of m).c (length v)) b.1 ∙ f.0)
            ∙ unless_holds _ 15 0 (ap (lead_fits (row_of m).c) b.1 ∙ f.1),
        b.1,
      )

  -- own C with no cause against it
  pub init_back : (out : ℕ) → own_c_cause m c out ≡ 0 → (init_cause m (init_bytes c) ≡ 0) × (field_of (init_bytes c) 0 ≡ c)
  init_back out z = init_formed_back (own_c_formed m c out z).ok

-- where own C is accepted, as many bytes of its output as it counts are an INIT of the same method with the same C
pub own_c_back : (e : Exchange) (room c out : List ℕ) → number e room (own_c c (length out)) ≡ 0
    → let w = take (answered e room (own_c c (length out))).count (output_after (number e room (own_c c (length out))) out (init_bytes c)) in
    (init_cause e.method w ≡ 0) × (field_of w 0 ≡ c)
unfolding fed_cause count_of onto
own_c_back e room c out z =
    let q : Call = own_c c (length out) in
    let k = step_known e room (own_c c (length out)) z in
    let b = init_back e.method k.0.method_ok_is c (length out) k.2 in
    let n : (answered e room q).count ≡ length (init_bytes c) = ap (λ (r : Step). r.count) (sym (step_accepted e room (own_c c (length out)) z).0) in
    let w : take (answered e room q).count (output_after (number e room q) out (init_bytes c)) ≡ init_bytes c =
    ap (take (answered e room q).count) (sym (output_accepted (number e room q) out (init_bytes c) z))
    ∙ take_at (init_bytes c) (drop (length (init_bytes c)) out) _ (sym n) in
    (ap (init_cause e.method) w ∙ b.0, ap (λ (p : List ℕ). field_of p 0) w ∙ b.1)

-- what was read as an INIT own C takes again in the same method, and its bytes are the payload
pub init_again : (m : ℕ) (p : List ℕ) (out : ℕ) → Bytes p → init_cause m p ≡ 0 → init_least ≤ out → (own_c_cause m (field_of p 0) out ≡ 0) × (init_bytes (field_of p 0) ≡ p)
unfolding own_c_cause
init_again m p out y z h =
    let f = init_formed m p z in
    (unless_holds _ 4 _ f.1.ok ∙ if_fails _ 5 0 (le-ltb out init_least h), init_sound p y f.0)

-- ---- REPLY, in every method

module _ (m : ℕ) (ok : method_ok m ≡ true) (ks s g : List ℕ) where
  pub reply_back : blob_ok (length ks) ≡ true → formed (row_of m).s s ≡ true → blob_ok (length g) ≡ true
      → (reply_cause m (reply_bytes ks s g) ≡ 0)
      × (field_of (reply_bytes ks s g) 0 ≡ ks) × (field_of (reply_bytes ks s g) 1 ≡ s) × (field_of (reply_bytes ks s g) 2 ≡ g)
  unfolding reply_cause
  reply_back hk hs hg =
      let f = split_formed (row_of m).s s hs in
      let n = length_most_lem (row_of m).s (length s) f.0 in
      let k = within_most 1 blob_most (length ks) hk in
      let j = within_most 1 blob_most (length g) hg in
      let b = reply_complete ks s g (omega (arith, length_reply ks s g, (method_row m ok).s_most)) in (
        or_else_second _ _ b.0
            ∙ unless_holds _ 14 _ ((λ i. blob_ok (length (b.1 i)) && length_fits (row_of m).s (length (b.2 i)) && blob_ok (length (b.3 i))) ∙ (λ i. hk i && f.0 i && hg i))
            ∙ unless_holds _ 15 0 (ap (lead_fits (row_of m).s) b.2 ∙ f.1),
        b.1,
        b.2,
        b.3,
      )

-- what was read as a REPLY has fields of the right form, and its bytes are the payload
pub reply_again : (m : ℕ) (p : List ℕ) → Bytes p → reply_cause m p ≡ 0
    → (blob_ok (length (field_of p 0)) ≡ true) × (formed (row_of m).s (field_of p 1) ≡ true) × (reply_bytes (field_of p 0) (field_of p 1) (field_of p 2) ≡ p)
reply_again m p y z = let f = reply_formed m p z in (f.1.ok, f.2.ok, reply_sound p y f.0)

-- ---- K, as it is written

-- the K output of an accepted secret begins with K, whatever follows it
k_front : (k k_out : List ℕ) → onto k_out (k_record k) ≡ k ++ (drop (length k) (zeros k_size) ++ drop (length (k_record k)) k_out)
unfolding k_record onto
k_front k k_out = append_assoc k (drop (length k) (zeros k_size)) (drop (length (k ++ drop (length k) (zeros k_size))) k_out)

-- K of a secret with no cause against it, read from the K output: X's number in methods 1 to 6, the digest of K_PQ and X in 7 to 9
pub k_back : (role m : ℕ) (cl : Classical) (x : List ℕ) (kem : Kem) (k_pq ks s k_out : List ℕ) → method_ok m ≡ true → secret_cause role m cl x kem k_pq ks s ≡ 0
    → ReadsAs (row_of m).k_form (onto k_out (k_record (k_of m x k_pq))) x (sha2 (row_of m).digest_len (k_pq ++ x))
k_back role m cl x kem k_pq ks s k_out ok z =
    let y = key_sized role m cl x kem k_pq ks s ok z in
    let d : List ℕ = sha2 (row_of m).digest_len (k_pq ++ x) in
    subst (λ (w : List ℕ). ReadsAs (row_of m).k_form w x d) (sym (k_front (k_of m x k_pq) k_out))
    (k_read (row_of m).k_form x d _ (omega (arith, y.most, (method_row m ok).k_most_is)))

-- which form that is, by the method
pub k_form_number : (m : ℕ) → 1 ≤ m → m ≤ 6 → (row_of m).k_form ≡ Mpint
k_form_number m h k =
    let n = row_number m h (omega arith) in
    by_hybrid (row_of m).k_form ((sound m h (omega arith)).k_hybrid ∙ lt-leb 7 (row_of m).number (omega arith))
  where
    by_hybrid : (f : KForm) → hybrid f ≡ false → f ≡ Mpint
    by_hybrid Mpint e = refl
    by_hybrid Digest e = absurd (false≢true (sym e))

pub k_form_digest : (m : ℕ) → 7 ≤ m → m ≤ method_last → (row_of m).k_form ≡ Digest
k_form_digest m h k =
    let n = row_number m (omega arith) k in
    by_hybrid (row_of m).k_form ((sound m (omega arith) k).k_hybrid ∙ le-leb 7 (row_of m).number (omega arith))
  where
    by_hybrid : (f : KForm) → hybrid f ≡ true → f ≡ Digest
    by_hybrid Mpint e = absurd (false≢true e)
    by_hybrid Digest e = refl
