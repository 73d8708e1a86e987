-- Deriving from an exchange in lent bytes: its number where the letter is none, and what it reads of a complete one. Assumes nothing.
use Prim.Native.Nat.{ℕ, ◌+◌, ◌≤◌}
use mathlib.Core.Path.{◌≡◌, refl, sym, ap, ◌∙◌}
use mathlib.Core.List.{List, []}
use mathlib.Core.Bool.{Bool, true, false, cond, ◌&&◌, false≢true}
use native.Mathlib.Omega.{arith}
use lib.ListN.{length, get_or, take, drop, length-drop, length-take}
use lib.Dec.{leb, ltb}
use borrow.Author.Tests.{leb-true, eqb-true, ltb-false}
use Rattle.limits.specs.Limits.{k_size, h_size, key_most, letter_first, letter_last}
use Rattle.limits.specs.Range.{within}
use Rattle.limits.proofs.BoolLaws.{and_true, both}
use Rattle.wire.specs.Strings.{number32, number_at}
use Rattle.wire.proofs.CauseLaws.{if_none, unless_holds, unless_fails, unless_none}
use Rattle.wire.proofs.StringLaws.{number_at_lem}
use Rattle.sha_words.specs.Constants.{known}
use Rattle.methods.specs.Rows.{row_of, k_most}
use Rattle.methods.specs.declared.KForm.{KForm}
use Rattle.methods.specs.declared.KForm.TheVariants.{Mpint, Digest}
use Rattle.methods.specs.declared.Method.{Method}
use Rattle.exchange.specs.Record.{has_k, k_body_fits, k_fits, is_complete, completed}
use Rattle.exchange.specs.declared.Stage.{Stage}
use Rattle.exchange.specs.declared.Stage.TheVariants.{Started, CSent, InitRead, ReplyRead, SecretDone, Complete, Failed}
use Rattle.exchange.proofs.CauseFacts.{method_row}
use Rattle.exchange.proofs.DueLaws.{completed_known, session_known_lem, id_most}
use Rattle.stored.specs.Stored.{fits, number16, decoded, by_fit, k_kept, h_kept, id_len_told, id_kept}
use Rattle.stored.proofs.StoredLaws.{method_read, size_taken, fits_known, fit_taken}
use Rattle.keys.specs.Derived.{derive_cause, recorded_k, recorded_h, identifier}

-- ---- the number

module _ (b : List ℕ) (letter len out : ℕ) where
  module _ (c : (fits b && completed (decoded b)) ≡ true) where
    pub bad_letter : within letter_first letter_last letter ≡ false → 4 ≡ by_fit b (derive_cause (decoded b) letter len out) 1
    unfolding derive_cause
    bad_letter h =
        let g = and_true (fits b) (completed (decoded b)) c in
        sym (unless_holds (completed (decoded b)) 1 _ g.1
        ∙ unless_fails (within letter_first letter_last letter && within 1 key_most len) 4 _ (ap (λ (t : Bool). t && within 1 key_most len) h))
        ∙ fit_taken b (derive_cause (decoded b) letter len out) 1 g.0

-- ---- what an accepted call knows

-- where there is none, the exchange is complete and what was fed is right
pub record Derives (b : List ℕ) (letter len out : ℕ) : Type 0 where
  pub complete : (fits b && completed (decoded b)) ≡ true
  pub letter_ok : within letter_first letter_last letter ≡ true
  pub length_ok : within 1 key_most len ≡ true
  pub long_enough : len ≤ out

pub derives_known : (b : List ℕ) (letter len out : ℕ) → by_fit b (derive_cause (decoded b) letter len out) 1 ≡ 0 → Derives b letter len out
unfolding by_fit derive_cause
derives_known b letter len out z = by_fit_lem (fits b) refl z
  where
    by_fit_lem : (t : Bool) → fits b ≡ t → cond t (derive_cause (decoded b) letter len out) 1 ≡ 0 → Derives b letter len out
    by_fit_lem false f h = let w : ⊥ = omega arith in absurd w
    by_fit_lem true f h =
        let c = unless_none (completed (decoded b)) 1 _ (omega arith) h in
        let a = unless_none (within letter_first letter_last letter && within 1 key_most len) 4 _ (omega arith) c.1 in
        let e = and_true (within letter_first letter_last letter) (within 1 key_most len) a.0 in
        record { complete = both f c.0; letter_ok = e.0; length_ok = e.1; long_enough = ltb-false out len (if_none (ltb out len) 5 0 (omega arith) a.1).0 }

-- ---- what is read

-- a complete exchange has K
complete_k : (s : Stage) → is_complete s ≡ true → has_k s ≡ true
complete_k Started h = absurd (false≢true h)
complete_k CSent h = absurd (false≢true h)
complete_k InitRead h = absurd (false≢true h)
complete_k ReplyRead h = absurd (false≢true h)
complete_k SecretDone h = refl
complete_k Complete h = refl
complete_k (Failed n) h = absurd (false≢true h)

-- and K is at most as long as the method has it
body_most : (f : KForm) (r : Method) (n : ℕ) → r.k_form ≡ f → k_body_fits f r n ≡ true → n ≤ k_most r
body_most Mpint r n g h = rw g (leb-true n (r.x_len + 1) (and_true (leb n (r.x_len + 1)) (cond r.zero_check (leb 1 n) true) h).0)
body_most Digest r n g h = rw g (let e = eqb-true n r.digest_len h in omega arith)

recorded_most : (r : Method) (s : Stage) (k : List ℕ) → has_k s ≡ true → k_fits r s k ≡ true → number32 k ≤ k_most r
unfolding k_fits
recorded_most r s k h f = body_most r.k_form r (number32 k) refl (sym (ap (λ (t : Bool). cond t (k_body_fits r.k_form r (number32 k)) true) h) ∙ f)

pub record Read (b : List ℕ) (kind size : ℕ) : Type 0 where
  pub hash_known : known kind ≡ true
  pub kind_is : kind ≡ (row_of (decoded b).method).digest_len
  pub kind_most : kind ≤ h_size
  pub h_length : length (h_kept b) ≡ h_size
  pub size_most_is : size ≤ length (k_kept b)
  pub k_length_is : length (k_kept b) ≡ k_size
  pub k_is : take size (k_kept b) ≡ recorded_k (decoded b)
  pub h_is : take kind (h_kept b) ≡ recorded_h (decoded b)

pub read : (b : List ℕ) (m kind n : ℕ) → (fits b && completed (decoded b)) ≡ true → m ≡ get_or b 4 0 → kind ≡ (row_of m).digest_len → n ≡ number_at (k_kept b) 0 → Read b kind (4 + n)
unfolding decoded
read b m kind n c p q e =
    let f = and_true (fits b) (completed (decoded b)) c in
    let l = (fits_known b f.0).0 in
    let d = completed_known (decoded b) f.1 in
    let r = method_row (decoded b).method d.1.method_ok_is in
    let k : k_kept b ≡ (decoded b).k = sym (size_taken b [] (take k_size (drop 19 b)) l) in
    let h : h_kept b ≡ (decoded b).h = sym (size_taken b [] (take h_size (drop 90 b)) l) in
    let g : kind ≡ (row_of (decoded b).method).digest_len = q ∙ ap (λ (y : ℕ). (row_of y).digest_len) (method_read b m p) in
    let kl : length (k_kept b) ≡ k_size = ap length k ∙ omega (arith, length-take k_size (drop 19 b), length-drop 19 b) in
    let hl : length (h_kept b) ≡ h_size = ap length h ∙ omega (arith, length-take h_size (drop 90 b), length-drop 90 b) in
    let s : n ≡ number32 (decoded b).k = e ∙ number_at_lem (k_kept b) 0 (omega (arith, kl)) ∙ ap number32 k in
    let u = recorded_most (row_of (decoded b).method) (decoded b).stage (decoded b).k (complete_k (decoded b).stage d.0) d.1.key in
    record {
      hash_known = ap known g ∙ r.digest_kind;
      kind_is = g;
      kind_most = omega (arith, g, r.digest_most);
      h_length = hl;
      size_most_is = omega (arith, s, u, r.k_most_is, kl);
      k_length_is = kl;
      k_is = (λ i. take (4 + s i) (k i));
      h_is = (λ i. take (g i) (h i));
    }

-- the session identifier
pub record Named (b : List ℕ) (n : ℕ) : Type 0 where
  pub small : n ≤ h_size
  pub length_is : length (id_kept b) ≡ h_size
  pub id_is : take n (id_kept b) ≡ identifier (decoded b)

pub named : (b : List ℕ) (n : ℕ) → (fits b && completed (decoded b)) ≡ true → n ≡ id_len_told b → Named b n
unfolding decoded
named b n c e =
    let f = and_true (fits b) (completed (decoded b)) c in
    let l = (fits_known b f.0).0 in
    let d = (completed_known (decoded b) f.1).1 in
    let k : id_kept b ≡ (decoded b).session.id = sym (size_taken b [] (drop 164 b) l) in
    let g : n ≡ (decoded b).session.len = e ∙ sym (size_taken b 0 (number16 b 154) l) in
    record {
      small = omega (arith, g, id_most (decoded b).session.len (decoded b).session.count (session_known_lem (decoded b).stage (decoded b).session d.session).1);
      length_is = ap length k ∙ omega (arith, length-drop 164 b);
      id_is = (λ i. take (g i) (k i));
    }
