-- What the secret step owes at its returns, and what it knows where it is accepted. Assumes nothing.
use Prim.Native.Nat.{ℕ, ◌+◌, ◌≤◌, ◌-◌}
use mathlib.Core.Path.{◌≡◌, refl, sym, ap, ◌∙◌}
use mathlib.Core.List.{List, [], ◌∷◌, ◌++◌, append-nil}
use mathlib.Core.Bool.{Bool, true, false, cond}
use native.Mathlib.Omega.{arith}
use lib.Dec.{eqb}
use lib.ListN.{length, get_or, set, length-append, take, drop, length-drop, length-replicate}
use lib.Seq.{length-take-le}
use borrow.Author.Tests.{le-leb, eq-eqb, ne_eqb, eqb-true, eqb-false}
use Rattle.limits.specs.Limits.{blob_most, hash_most, h_size, k_size, exchange_size, room_least, server}
use Rattle.limits.proofs.RangeLaws.{within_most}
use Rattle.buffers.specs.Bytes.{zeros, onto, over, laid}
use Rattle.buffers.proofs.ByteLaws.{drop_zeros, length_over, over_over, laid_fits}
use Rattle.wire.specs.Parts.{part, inside, bytes_at}
use Rattle.wire.proofs.PartLaws.{inside_fits}
use Rattle.sha_words.specs.Message.{sha2, sized}
use Rattle.sha_words.proofs.DigestLaws.{length_sha2}
use Rattle.sha_words.proofs.SizedLaws.{length_sized, take_sized}
use Rattle.sha_2.specs.Hash.{Digest, digested}
use Rattle.sha_2.proofs.WholeLaws.{digested_known}
use Rattle.methods.specs.Rows.{row_of, k_most}
use Rattle.methods.proofs.FormLaws.{length_most_lem}
use Rattle.methods.specs.declared.KForm.{KForm}
use Rattle.methods.specs.declared.KForm.TheVariants.{Mpint}
use Rattle.methods.specs.Sound.{Sound}
use Rattle.secret.specs.Secret.{Secret, k_bytes, told_by, kept}
use Rattle.secret.specs.declared.Secret.{Secret as Held}
use Rattle.std.specs.Prelude.{Option, Some, None, IsSome}
use Rattle.secret.proofs.SecretLaws.{kept_fits}
use Rattle.transcript.specs.Fields.{field, field_length, around, field_size}
use Rattle.transcript.proofs.RoomLaws.{length_field, take_onto}
use Rattle.exchange.specs.Causes.{method_ok, secret_cause, own_ok, k_of, h_of}
use Rattle.exchange.specs.Record.{no_lengths}
use Rattle.exchange.specs.Steps.{Call, fed_cause, number, head_end, fields_end, standing_c, filled, with_s, with_own, taken, count_of, answered, room_after, secret, k_record, with_stage, with_secret, head_size, fields_size}
use Rattle.exchange.specs.declared.Stage.TheVariants.{SecretDone}
use Rattle.exchange.specs.declared.Exchange.{Exchange}
use Rattle.exchange.specs.declared.Step.{Step}
use Rattle.exchange.proofs.CauseFacts.{method_row, secret_known, own_formed, secret_short, key_sized}
use Rattle.exchange.specs.declared.Lengths.{Lengths}
use Rattle.exchange.proofs.StepLaws.{bounded, small, step_known, step_accepted, handed_accepted, Bounded, all_most, size_fits, head_fits, fields_fits, Small}
use Rattle.exchange.specs.declared.Classical.{Classical}
use Rattle.exchange.specs.declared.Kem.{Kem}
use Rattle.stored.specs.Stored.{encoded, lengths_in, decoded, by_size, lengths_told}
use Rattle.changes.specs.Changes.{put16}
use Rattle.stored.proofs.StoredLaws.{role_read, size_taken, fits_known}
use Rattle.stored.proofs.RoundTrip.{Short, SmallSession, decoded_encoded, encoded_fits}
use Rattle.lent.specs.Lent.{tells}
use Rattle.lent.proofs.LentLaws.{Opened, s_changed, k_changed, h_changed}
use Rattle.lent.proofs.Kept.{length_h}

-- ---- K and its record

-- the record that `kept` gives
record_kept : (k : List ℕ) → length k ≤ k_size → k ++ zeros (k_size - length k) ≡ k_record k
unfolding k_record onto
record_kept k h = ap (λ (z : List ℕ). k ++ z) (sym (drop_zeros (length k) k_size h))

-- it is whole
pub length_record : (k : List ℕ) → length k ≤ k_size → length (k_record k) ≡ k_size
unfolding k_record onto
length_record k h =
    let a = length-append k (drop (length k) (zeros k_size)) in
    let b = length-drop (length k) (zeros k_size) in
    let c = length-replicate {A = ℕ} k_size 0 in
    omega arith

-- K stands at the record's beginning
record_begins : (k : List ℕ) → take (length k) (k_record k) ≡ k
unfolding k_record
record_begins k = take_onto (zeros k_size) k

record_part : (k : List ℕ) → length k ≤ k_size → bytes_at (k_record k) (inside (length (k_record k)) (part 0 (length k))) ≡ k
record_part k h =
    let l = length_record k h in
    ap (bytes_at (k_record k)) (inside_fits (length (k_record k)) (part 0 (length k)) (omega arith)) ∙ record_begins k

-- what is handed on as K, by what `k_of` gave
key_part : (k : List ℕ) (len : ℕ) (bytes src : List ℕ) → length k ≤ k_size → len ≡ length k → bytes ≡ k_record k
    → src ≡ bytes_at bytes (inside (length bytes) (part 0 len)) → src ≡ k
key_part k len bytes src h l b f = f ∙ (λ i. bytes_at (b i) (inside (length (b i)) (part 0 (l i)))) ∙ record_part k h

-- what `secret::k_of` gave of a K that fits: one that is there, its length and its record
pub key_some : (k : List ℕ) (g : Option Held) → length k ≤ k_size → told_by g ≡ kept k → IsSome g
key_some k None h f = let e = ap (λ (v : Secret). v.number) (f ∙ sym (kept_fits k h)) in absurd (omega arith)
key_some k (Some v) h f = refl

pub key_kept : (k : List ℕ) (g : Option Held) (v : Held) → length k ≤ k_size → told_by g ≡ kept k → g ≡ Some v → (v.len ≡ length k) × (v.bytes ≡ k_record k)
key_kept k g v h f s =
    let e = ap told_by (sym s) ∙ f ∙ sym (kept_fits k h) in
    (ap (λ (w : Secret). w.len) e, ap (λ (w : Secret). w.bytes) e ∙ record_kept k h)

-- ---- K by its form, and H

module _ (m : ℕ) (f : KForm) (x k_pq : List ℕ) (r : f ≡ (row_of m).k_form) where
  pub key_number : f ≡ Mpint → (d : List ℕ) → kept (k_bytes f x d) ≡ kept (k_of m x k_pq)
  key_number e d =
      ap (λ (w : KForm). kept (k_bytes w x d)) e ∙ ap (λ (w : KForm). kept (k_bytes w x (sha2 (row_of m).digest_len (k_pq ++ x)))) (sym e ∙ r)

  -- the digest stands at the beginning of what was hashed
  pub key_digest : method_ok m ≡ true → length k_pq + length x ≤ hash_most → (len : ℕ) (d : Digest) (src : List ℕ) → len ≡ (row_of m).digest_len
      → d ≡ digested len (k_pq ++ x) → src ≡ bytes_at d.bytes (inside (length d.bytes) (part 0 len)) → k_bytes f x src ≡ k_of m x k_pq
  key_digest ok h len d src l g p =
      let row = method_row m ok in
      let n : ℕ = (row_of m).digest_len in
      let t : List ℕ = sha2 n (k_pq ++ x) in
      let k : length t ≡ n = length_sha2 n (k_pq ++ x) row.digest_kind in
      let b : d.bytes ≡ sized h_size t =
      ap (λ (y : Digest). y.bytes) (g ∙ ap (λ (y : ℕ). digested y (k_pq ++ x)) l ∙ digested_known n (k_pq ++ x) row.digest_kind (omega (arith, length-append k_pq x))) in
      let w : n ≤ length (sized h_size t) = omega (arith, length_sized h_size t (omega (arith, row.digest_most)), row.digest_most) in
      let c : src ≡ t =
      p ∙ (λ i. bytes_at (b i) (inside (length (b i)) (part 0 (l i)))) ∙ ap (bytes_at (sized h_size t)) (inside_fits (length (sized h_size t)) (part 0 n) (omega arith)) ∙ take_sized h_size n t k in
      λ i. k_bytes (r i) x (c i)

pub hash_is : (m : ℕ) (a b room : List ℕ) (n len : ℕ) (d : Digest) → method_ok m ≡ true → n ≤ hash_most → n ≤ length room → len ≡ (row_of m).digest_len → a ≡ take n room → b ≡ []
    → d ≡ digested len (a ++ b) → d.bytes ≡ h_of m (take n room)
hash_is m a b room n len d ok h k l p q g =
    let t = take n room in
    let e = (λ i. digested (l i) (p i ++ q i)) ∙ ap (digested (row_of m).digest_len) (append-nil t) in
    ap (λ (y : Digest). y.bytes) (g ∙ e ∙ digested_known _ t (method_row m ok).digest_kind (omega (arith, length-take-le n room k)))

-- ---- the room

-- fields around C, and K behind them
room_server : (l : Lengths) (room ks s k : List ℕ) → fields_end (with_s l (length ks) (length s)) + length k ≤ length room
    → laid (around room (head_end l) (field_length l.c) ks s) (fields_end (with_s l (length ks) (length s))) k
    ≡ over room (head_end l) (field ks ++ standing_c l room ++ field s ++ k)
unfolding around
room_server l room ks s k h =
    let a = length_field ks in
    let b = length_field s in
    let f = length-drop (head_end l) room in
    let c : length (standing_c l room) ≡ field_length l.c = length-take-le (field_length l.c) (drop (head_end l) room) (omega arith) in
    let p : List ℕ = field ks ++ standing_c l room ++ field s in
    let n : head_end l + length p ≡ fields_end (with_s l (length ks) (length s)) = omega (arith, length-append (field ks ++ standing_c l room) (field s), length-append (field ks) (standing_c l room)) in
    let g : head_end l + length p ≤ length room = omega arith in
    let o = length_over room (head_end l) p g in
    rw (le-leb (head_end l + length (field ks) + field_length l.c + length (field s)) (length room) (omega arith))
    (laid_fits (over room (head_end l) p) (fields_end (with_s l (length ks) (length s))) k (omega arith)
    ∙ ap (λ (j : ℕ). over (over room (head_end l) p) j k) (sym n)
    ∙ over_over room (head_end l) p k g)

-- ---- the step

-- what it knows where it is accepted
pub record SecretFits (e : Exchange) (room x k_pq : List ℕ) : Type 0 where
  pub row : Sound (row_of e.method)
  pub bounds : Bounded (row_of e.method) e.lens
  pub sums : Small e.lens
  pub room_least_is : room_least ≤ length room
  pub k_row : length (k_of e.method x k_pq) ≤ 4 + k_most (row_of e.method)
  pub k_fits_is : length (k_of e.method x k_pq) ≤ k_size
  pub all_fits : fields_end e.lens + length (k_of e.method x k_pq) ≤ room_least
  pub method_ok_is : method_ok e.method ≡ true
  pub hash_fits : length k_pq + length x ≤ hash_most

-- and a server beside: K_S and S are of the method's lengths
pub record ServerFits (e : Exchange) (x k_pq ks s : List ℕ) : Type 0 where
  pub sums : Small (with_s e.lens (length ks) (length s))
  pub all_fits : fields_end (with_s e.lens (length ks) (length s)) + length (k_of e.method x k_pq) ≤ room_least

module _ (e : Exchange) (room : List ℕ) (cl : Classical) (x : List ℕ) (kem : Kem) (k_pq ks s : List ℕ) where
  cause_none : number e room (secret cl x kem k_pq ks s) ≡ 0 → secret_cause e.role e.method cl x kem k_pq ks s ≡ 0
  unfolding fed_cause
  cause_none z = (step_known e room (secret cl x kem k_pq ks s) z).2

  module _ (z : number e room (secret cl x kem k_pq ks s) ≡ 0) where
    -- lengths and K are within their bounds
    pub secret_fits : SecretFits e room x k_pq
    secret_fits =
        let a = step_known e room (secret cl x kem k_pq ks s) z in
        let r = method_row e.method a.0.method_ok_is in
        let b = bounded (row_of e.method) e.stage e.lens a.0.lengths in
        let k = (key_sized e.role e.method cl x kem k_pq ks s a.0.method_ok_is (cause_none z)).most in
        let w = secret_short e.role e.method cl x kem k_pq ks s a.0.method_ok_is (cause_none z) in
        record {
          row = r;
          bounds = b;
          sums = small (row_of e.method) e.lens r b;
          room_least_is = a.1;
          k_row = k;
          k_fits_is = omega (arith, r.k_most_is);
          all_fits = all_most (row_of e.method) e.lens r b (length (k_of e.method x k_pq)) k;
          method_ok_is = a.0.method_ok_is;
          hash_fits = omega (arith, w.0, w.1);
        }

    -- and so are the lengths with K_S and S
    pub server_fits : e.role ≡ server → ServerFits e x k_pq ks s
    server_fits h =
        let f = secret_fits in
        let o = own_formed e.method ks s (ap (λ (r : ℕ). own_ok r (row_of e.method) ks s) (sym h) ∙ (secret_known e.role e.method cl x kem k_pq ks s (cause_none z)).3) in
        let b : Bounded (row_of e.method) (with_s e.lens (length ks) (length s)) = record {
          vc = f.bounds.vc;
          vs = f.bounds.vs;
          ic = f.bounds.ic;
          is = f.bounds.is;
          ks = within_most 1 blob_most (length ks) o.0.ok;
          c = f.bounds.c;
          s = length_most_lem (row_of e.method).s (length s) o.1.len;
        } in
        record {
          sums = small (row_of e.method) (with_s e.lens (length ks) (length s)) f.row b;
          all_fits = all_most (row_of e.method) (with_s e.lens (length ks) (length s)) f.row b (length (k_of e.method x k_pq)) f.k_row;
        }

    -- the lengths, the exchange, the count and the room of an accepted step, by the role
    own_client : (e.role ≡ server → ⊥) → e.lens ≡ with_own e.role e.lens (length ks) (length s)
    own_client h = rw (ne_eqb e.role server h)

    own_server : e.role ≡ server → with_s e.lens (length ks) (length s) ≡ with_own e.role e.lens (length ks) (length s)
    own_server h = rw (eq-eqb e.role server h)

    taken_is : (l : Lengths) (k h : List ℕ) → l ≡ with_own e.role e.lens (length ks) (length s) → k ≡ k_record (k_of e.method x k_pq)
        → h ≡ (taken e room (secret cl x kem k_pq ks s)).h → with_secret e l k h ≡ taken e room (secret cl x kem k_pq ks s)
    unfolding taken
    taken_is l k h a b d = λ i. with_secret e (a i) (b i) (d i)

    count_is : (l : Lengths) (end len : ℕ) → l ≡ with_own e.role e.lens (length ks) (length s) → end ≡ fields_end l → len ≡ length (k_of e.method x k_pq)
        → end + len ≡ (answered e room (secret cl x kem k_pq ks s)).count
    unfolding count_of
    count_is l end len a f g = (λ i. (f ∙ ap fields_end a) i + g i) ∙ ap (λ (y : Step). y.count) (step_accepted e room (secret cl x kem k_pq ks s) z).0

    -- H over as much of the room as is counted, as it is left; and what is told
    h_taken : (n : ℕ) (left : List ℕ) → n ≡ (answered e room (secret cl x kem k_pq ks s)).count → left ≡ room_after e room (secret cl x kem k_pq ks s)
        → h_of e.method (take n left) ≡ (taken e room (secret cl x kem k_pq ks s)).h
    unfolding taken count_of filled
    h_taken n left c r =
        let a = step_accepted e room (secret cl x kem k_pq ks s) z in
        let k = c ∙ ap (λ (y : Step). y.count) (sym a.0) in
        let f = r ∙ sym a.1 in
        λ i. h_of e.method (take (k i) (f i))

    told_is : (n : ℕ) (left : List ℕ) → n ≡ (answered e room (secret cl x kem k_pq ks s)).count → left ≡ room_after e room (secret cl x kem k_pq ks s)
        → n ∷ h_of e.method (take n left) ≡ tells e room (secret cl x kem k_pq ks s)
    unfolding tells
    told_is n left c r =
        let h = h_taken n left c r ∙ handed_accepted e room (secret cl x kem k_pq ks s) z in
        λ i. c i ∷ h i

    filled_client : (e.role ≡ server → ⊥) → over room (fields_end e.lens) (k_of e.method x k_pq) ≡ filled e room (secret cl x kem k_pq ks s)
    unfolding filled
    filled_client h = rw (ne_eqb e.role server h)

    filled_server : e.role ≡ server
        → over room (head_end e.lens) (field ks ++ standing_c e.lens room ++ field s ++ k_of e.method x k_pq) ≡ filled e room (secret cl x kem k_pq ks s)
    unfolding filled
    filled_server h = rw (eq-eqb e.role server h)

    -- what a client counts and leaves
    client_done_lem : (e.role ≡ server → ⊥) → (end len : ℕ) (bytes src left : List ℕ) → end ≡ fields_size e.lens → len ≡ length (k_of e.method x k_pq)
        → bytes ≡ k_record (k_of e.method x k_pq) → src ≡ bytes_at bytes (inside (length bytes) (part 0 len)) → left ≡ laid room end src
        → (end + len ≡ (answered e room (secret cl x kem k_pq ks s)).count)
        × (left ≡ room_after e room (secret cl x kem k_pq ks s))
    client_done_lem h end len bytes src left f₀ g b p w =
        let t = secret_fits in
        let f = f₀ ∙ fields_fits e.lens t.sums in
        let k = key_part (k_of e.method x k_pq) len bytes src t.k_fits_is g b p in (
          count_is e.lens end len (own_client h) f g,
          w ∙ (λ i. laid room (f i) (k i))
              ∙ laid_fits room (fields_end e.lens) (k_of e.method x k_pq) (omega (arith, t.room_least_is, t.all_fits))
              ∙ filled_client h
              ∙ (step_accepted e room (secret cl x kem k_pq ks s) z).1,
        )

    -- what a server counts and leaves
    server_done_lem : e.role ≡ server → (start size end len : ℕ) (bytes src mid left : List ℕ) → start ≡ head_size e.lens → size ≡ field_size e.lens.c
        → mid ≡ around room start size ks s → end ≡ fields_size (with_s e.lens (length ks) (length s)) → len ≡ length (k_of e.method x k_pq)
        → bytes ≡ k_record (k_of e.method x k_pq) → src ≡ bytes_at bytes (inside (length bytes) (part 0 len)) → left ≡ laid mid end src
        → (end + len ≡ (answered e room (secret cl x kem k_pq ks s)).count)
        × (left ≡ room_after e room (secret cl x kem k_pq ks s))
    server_done_lem h start size end len bytes src mid left a₀ c₀ m f₀ g b p w =
        let t = secret_fits in
        let u = server_fits h in
        let a = a₀ ∙ head_fits e.lens t.sums in
        let c = c₀ ∙ size_fits e.lens.c t.sums.c in
        let f = f₀ ∙ fields_fits (with_s e.lens (length ks) (length s)) u.sums in
        let k = key_part (k_of e.method x k_pq) len bytes src t.k_fits_is g b p in
        let o : mid ≡ around room (head_end e.lens) (field_length e.lens.c) ks s = m ∙ (λ i. around room (a i) (c i) ks s) in (
          count_is (with_s e.lens (length ks) (length s)) end len (own_server h) f g,
          w ∙ (λ i. laid (o i) (f i) (k i))
              ∙ room_server e.lens room ks s (k_of e.method x k_pq) (omega (arith, t.room_least_is, u.all_fits))
              ∙ filled_server h
              ∙ (step_accepted e room (secret cl x kem k_pq ks s) z).1,
        )

-- ---- on lent bytes

-- lengths within their bounds fit two bytes
small_short : (l : Lengths) → Small l → Short l
small_short l h = record {
  vc = omega (arith, h.vc);
  vs = omega (arith, h.vs);
  ic = omega (arith, h.ic);
  is = omega (arith, h.is);
  ks = omega (arith, h.ks);
  c = omega (arith, h.c);
  s = omega (arith, h.s);
}

-- what the bytes of an exchange tell
module _ (e : Exchange) (b : List ℕ) (h : b ≡ encoded e) (k : length e.k ≡ k_size) (m : length e.h ≡ h_size) (n : length e.session.id ≡ h_size) where
  whole : length b ≡ exchange_size
  whole = ap length h ∙ (fits_known (encoded e) (encoded_fits e k m n)).0

  lengths_there : Short e.lens → SmallSession e.session → lengths_told b ≡ e.lens
  unfolding decoded
  lengths_there f g =
      sym (size_taken b no_lengths (lengths_in b) whole) ∙ ap lengths_in h ∙ ap (λ (y : Exchange). y.lens) (decoded_encoded e f g k m)

module _ (b room : List ℕ) (cl : Classical) (x : List ℕ) (kem : Kem) (k_pq ks s : List ℕ) (o : Opened b room (secret cl x kem k_pq ks s)) where
  abbrev q : Call
  q = secret cl x kem k_pq ks s

  -- what an accepted step has left, step by step: K_S and S joined or not, where K goes, K and its record
  pub record Joined (role end len : ℕ) (ex₁ room₁ bytes src left ex : List ℕ) : Type 0 where
    pub role_is : role ≡ get_or b 3 0
    pub own : ex₁ ≡ cond (eqb role server) (by_size b (put16 (put16 (set b 1 4) 13 (length ks)) 17 (length s)) b) b
    pub own_room : room₁ ≡ cond (eqb role server) (around room (head_size (lengths_told b)) (field_size (lengths_told b).c) ks s) room
    pub end_is : end ≡ fields_size (lengths_told ex₁)
    pub len_is : len ≡ length (k_of (decoded b).method x k_pq)
    pub bytes_are : bytes ≡ k_record (k_of (decoded b).method x k_pq)
    pub src_is : src ≡ bytes_at bytes (inside (length bytes) (part 0 len))
    pub left_is : left ≡ laid room₁ end src
    pub ex_is : ex ≡ by_size ex₁ (laid (set ex₁ 1 4) 19 bytes) ex₁

  -- then, with H in the exchange, all is as the step has it, and the count is small
  pub record Done (count : ℕ) (left ex : List ℕ) : Type 0 where
    pub told : count ∷ h_of (decoded b).method (take count left) ≡ tells (decoded b) room q
    pub room_is : left ≡ room_after (decoded b) room q
    pub ex_is : (ex' : List ℕ) → ex' ≡ by_size ex (laid ex 90 (h_of (decoded b).method (take count left))) ex → ex' ≡ encoded (taken (decoded b) room q)

  pub secret_done : (role end len : ℕ) (ex₁ room₁ bytes src left ex : List ℕ) → Joined role end len ex₁ room₁ bytes src left ex
      → Done (end + len) left ex × (end + len ≤ room_least)
  secret_done role end len ex₁ room₁ bytes src left ex j = by_role (eqb role server) refl
    where
      e : Exchange
      e = decoded b

      z : number e room q ≡ 0
      z = o.accepts

      fit : SecretFits e room x k_pq
      fit = secret_fits e room cl x kem k_pq ks s z

      size : length bytes ≡ k_size
      size = ap length j.bytes_are ∙ length_record (k_of e.method x k_pq) fit.k_fits_is

      -- by the exchange with K in it, and the count
      with_h : (l : Lengths) → l ≡ with_own e.role e.lens (length ks) (length s) → ex ≡ encoded (with_secret e l bytes e.h)
          → end + len ≡ (answered e room q).count → left ≡ room_after e room q → Done (end + len) left ex
      with_h l a c n r = record {
        told = told_is e room cl x kem k_pq ks s z (end + len) left n r;
        room_is = r;
        ex_is = λ ex' y.
            let d : List ℕ = h_of e.method (take (end + len) left) in
            h_changed e l bytes e.h d ex ex' size (o.h_size_is ∙ sym (length_h e.method (take (end + len) left) fit.method_ok_is)) c
            (whole (with_secret e l bytes e.h) ex c size o.h_size_is o.id_size) y
            ∙ ap encoded (taken_is e room cl x kem k_pq ks s z l bytes d a j.bytes_are (h_taken e room cl x kem k_pq ks s z (end + len) left n r));
      }

      by_role : (t : Bool) → eqb role server ≡ t → Done (end + len) left ex × (end + len ≤ room_least)
      by_role true w =
          let r : e.role ≡ server = sym (role_read b role j.role_is) ∙ eqb-true role server w in
          let u = server_fits e room cl x kem k_pq ks s z r in
          let l = with_s e.lens (length ks) (length s) in
          let e₁ = with_stage e SecretDone l in
          let a = s_changed b room q o SecretDone (length ks) (length s) ex₁ refl (j.own ∙ rw w) in
          let g = j.end_is ∙ ap fields_size (lengths_there e₁ ex₁ a o.k_size_is o.h_size_is o.id_size (small_short l u.sums) o.session) in
          let c = k_changed e₁ bytes ex₁ ex refl o.k_size_is size a (whole e₁ ex₁ a o.k_size_is o.h_size_is o.id_size) j.ex_is in
          let f = server_done_lem e room cl x kem k_pq ks s z r _ _ end len bytes src room₁ left (ap head_size o.lens_are) (ap (λ (y : Lengths). field_size y.c) o.lens_are) (j.own_room ∙ rw w) g j.len_is j.bytes_are j.src_is j.left_is in (
            with_h l (own_server e room cl x kem k_pq ks s z r) c f.0 f.1,
            omega (arith, g ∙ fields_fits l u.sums, j.len_is, u.all_fits),
          )
      by_role false w =
          let r : e.role ≡ server → ⊥ = λ h. eqb-false role server w (role_read b role j.role_is ∙ h) in
          let a : ex₁ ≡ encoded e = j.own ∙ rw w o.bytes_are in
          let g = j.end_is ∙ ap fields_size (lengths_there e ex₁ a o.k_size_is o.h_size_is o.id_size (small_short e.lens fit.sums) o.session) in
          let c = k_changed e bytes ex₁ ex o.no_fail o.k_size_is size a (whole e ex₁ a o.k_size_is o.h_size_is o.id_size) j.ex_is in
          let n : room₁ ≡ room = j.own_room ∙ rw w in
          let m = j.left_is ∙ ap (λ (y : List ℕ). laid y end src) n in
          let f = client_done_lem e room cl x kem k_pq ks s z r end len bytes src left g j.len_is j.bytes_are j.src_is m in (
            with_h e.lens (own_client e room cl x kem k_pq ks s z r) c f.0 f.1,
            omega (arith, g ∙ fields_fits e.lens fit.sums, j.len_is, fit.all_fits),
          )
