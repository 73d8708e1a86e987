-- What INIT and the signature know where they are accepted, and what they then tell and leave. Assumes nothing.
use Prim.Native.Nat.{ℕ, ◌+◌, ◌≤◌}
use mathlib.Core.Path.{◌≡◌, refl, sym, ap, ◌∙◌}
use mathlib.Core.List.{List, [], ◌∷◌, ◌++◌, append_assoc, append-nil}
use mathlib.Core.Bool.{Bool, true, false, cond, ◌||◌, false≢true}
use native.Mathlib.Omega.{arith}
use lib.ListN.{length, set, take, drop, length-drop}
use lib.Seq.{length-take-le}
use lib.Dec.{ltb}
use borrow.Author.Tests.{ltb-false}
use Rattle.limits.specs.Limits.{blob_most, k_size, room_least, reply_least}
use Rattle.limits.proofs.RangeLaws.{within_most}
use Rattle.buffers.specs.Bytes.{onto, laid}
use Rattle.buffers.proofs.ByteLaws.{length_onto, laid_fits}
use Rattle.wire.specs.declared.Part.{Part}
use Rattle.wire.specs.Parts.{part, inside, bytes_at}
use Rattle.wire.specs.Strings.{string}
use Rattle.wire.proofs.StringLaws.{length_string}
use Rattle.wire.proofs.CauseLaws.{if_none, unless_none}
use Rattle.wire.specs.Causes.{cause_if, cause_unless}
use Rattle.wire.proofs.PartLaws.{inside_fits}
use Rattle.methods.specs.Rows.{row_of}
use Rattle.messages.proofs.MessageLaws.{length_reply}
use Rattle.messages.specs.Messages.{reply_bytes, field_part, field_of}
use Rattle.transcript.specs.Fields.{field, field_length, field_size}
use Rattle.transcript.proofs.RoomLaws.{field_length_most}
use Rattle.exchange.specs.Causes.{init_cause, blob_ok, sign_cause}
use Rattle.exchange.specs.Record.{due, k_length}
use Rattle.exchange.specs.Steps.{init, step_number, fed_cause, number, head_end, fields_end, filled, with_c, taken, count_of, second_of, room_after, step_part, sign, standing_ks, standing_s, reply_of, with_stage, with_last, head_size, fields_size}
use Rattle.exchange.specs.declared.Stage.TheVariants.{InitRead}
use Rattle.exchange.specs.declared.Exchange.{Exchange}
use Rattle.exchange.specs.declared.Lengths.{Lengths}
use Rattle.exchange.specs.Numbers.{is_fault}
use Rattle.exchange.proofs.CauseFacts.{method_row, init_formed}
use Rattle.exchange.proofs.KindLaws.{fault_low, kind_accepted}
use Rattle.exchange.proofs.StepLaws.{bounded, small, head_most, head_bound, next_2, step_known, step_accepted, size_fits, head_fits, fields_fits, Small}
use Rattle.stored.specs.Stored.{encoded, fits, decoded, by_fit}
use Rattle.lent.specs.Lent.{place_of, both_counts, tells}
use Rattle.lent.proofs.RoomLaws.{Joins, joins}
use Rattle.lent.proofs.LaidLaws.{then_laid, begun_onto, begun_store}

-- ---- REPLY, as it is written

reply_pieces : (ks s g : List ℕ) → (31 ∷ []) ++ string ks ++ string s ++ string g ≡ reply_bytes ks s g
unfolding reply_bytes
reply_pieces ks s g =
    append_assoc ((31 ∷ []) ++ string ks) (string s) (string g)
    ∙ append_assoc (31 ∷ []) (string ks) (string s ++ string g)
    ∙ ap (λ (x : List ℕ). (31 ∷ []) ++ (string ks ++ (string s ++ x))) (sym (append-nil (string g)))

module _ (out ks s g o1 o2 o3 : List ℕ) (h : length (reply_bytes ks s g) ≤ length out) (e1 : o1 ≡ laid (set out 0 31) 1 (string ks))
    (e2 : o2 ≡ laid o1 (5 + length ks) (string s)) (e3 : o3 ≡ laid o2 (5 + length ks + 4 + length s) (string g)) where
  -- what is written for REPLY
  pub reply_laid : o3 ≡ onto out (reply_bytes ks s g)
  reply_laid =
      let n = length_reply ks s g in
      let m1 = length_string ks in
      let m2 = length_string s in
      let m3 = length_string g in
      let p0 = begun_store out 31 (omega arith) in
      let p1 = then_laid _ _ _ _ p0 (string ks) o1 (5 + length ks) e1 (omega arith) (omega arith) in
      let p2 = then_laid _ _ _ _ p1 (string s) o2 (5 + length ks + 4 + length s) e2 (omega arith) (omega arith) in
      let p3 = then_laid _ _ _ _ p2 (string g) o3 (13 + length ks + length s + length g) e3 (omega arith) (omega arith) in
      begun_onto _ _ _ _ p3 ∙ ap (onto out) (reply_pieces ks s g)

  -- of an output as long as before
  pub reply_output_length : length o3 ≡ length out
  reply_output_length = ap length reply_laid ∙ length_onto out (reply_bytes ks s g) h

-- ---- INIT

module _ (e : Exchange) (room p : List ℕ) (z : number e room (init p) ≡ 0) where
  init_cause_lem : init_cause e.method p ≡ 0
  unfolding fed_cause
  init_cause_lem = (step_known e room (init p) z).2

  init_joins : Joins e.lens room (field_of p 0)
  init_joins =
      let k = step_known e room (init p) z in
      joins 2 e room (field_of p 0) k.0 (next_2 e.role e.stage k.0.next).1 k.1 (init_formed e.method p init_cause_lem).1

  -- the room
  pub init_room : (l : Lengths) (c : List ℕ) → l ≡ e.lens → c ≡ field_of p 0 → laid room (fields_size l) (field c) ≡ room_after e room (init p)
  unfolding filled
  init_room l c a f =
      (λ i. laid room ((ap fields_size a ∙ fields_fits e.lens init_joins.lengths) i) (field (f i)))
      ∙ laid_fits room (fields_end e.lens) (field (field_of p 0)) init_joins.fits
      ∙ (step_accepted e room (init p) z).1

  -- the exchange
  pub init_taken : (c : List ℕ) → c ≡ field_of p 0 → encoded (with_stage e InitRead (with_c e.lens (length c))) ≡ encoded (taken e room (init p))
  unfolding taken
  init_taken c f = λ i. encoded (with_stage e InitRead (with_c e.lens (length (f i))))

  -- C's place
  pub init_tells : (x : Part) → x ≡ field_part p 0 → x.start ∷ x.len ∷ [] ≡ tells e room (init p)
  unfolding tells step_part
  init_tells x h = rw (kind_accepted (number e room (init p)) z) (ap place_of h)

-- ---- parts of the room

pub part_stands : (room : List ℕ) (start n k : ℕ) → start ≡ k → k + n ≤ length room → bytes_at room (inside (length room) (part start n)) ≡ take n (drop k room)
part_stands room start n k e h = ap (λ (m : ℕ). bytes_at room (inside (length room) (part m n))) e ∙ ap (bytes_at room) (inside_fits (length room) (part k n) h)

pub part_length : (room : List ℕ) (n k : ℕ) → k + n ≤ length room → length (take n (drop k room)) ≡ n
part_length room n k h = length-take-le n (drop k room) (omega (arith, length-drop k room))

-- ---- the signature step

module _ (e : Exchange) (room g out k_out : List ℕ) where
  -- never a peer fault
  pub sign_most : number e room (sign g (length out) (length k_out)) ≤ 5
  unfolding number fed_cause step_number sign_cause cause_if cause_unless
  sign_most = by_test (due 5 e) (ltb (length room) room_least) (blob_ok (length g)) (ltb (length out) reply_least || ltb (length k_out) k_size)
    where
      by_test : (a b c d : Bool) → cond a (cond b 3 (cond c (cond d 5 0) 4)) 1 ≤ 5
      by_test false b c d = omega arith
      by_test true true c d = omega arith
      by_test true false false d = omega arith
      by_test true false true true = omega arith
      by_test true false true false = omega arith

  -- accepted: what the code relies on
  pub record Signable : Type 0 where
    pub lens_small : Small e.lens
    pub ks_most : e.lens.ks ≤ blob_most
    pub s_most : e.lens.s ≤ 1665
    pub g_most : length g ≤ blob_most
    pub ks_there : head_end e.lens + 4 + e.lens.ks ≤ length room
    pub s_there : head_end e.lens + field_length e.lens.ks + field_length e.lens.c + 4 + e.lens.s ≤ length room
    pub out_least : reply_least ≤ length out
    pub k_least : k_size ≤ length k_out

  or_false : (a b : Bool) → a || b ≡ false → (a ≡ false) × (b ≡ false)
  or_false true b h = absurd (false≢true (sym h))
  or_false false b h = (refl, h)

  pub sign_known : number e room (sign g (length out) (length k_out)) ≡ 0 → Signable
  unfolding fed_cause sign_cause
  sign_known z =
      let k = step_known e room (sign g (length out) (length k_out)) z in
      let row = method_row e.method k.0.method_ok_is in
      let b = bounded (row_of e.method) e.stage e.lens k.0.lengths in
      let h = head_most (row_of e.method) e.lens b in
      let u = unless_none (blob_ok (length g)) 4 _ (omega arith) k.2 in
      let v = or_false (ltb (length out) reply_least) (ltb (length k_out) k_size) (if_none (ltb (length out) reply_least || ltb (length k_out) k_size) 5 0 (omega arith) u.1).0 in
      record {
        lens_small = small (row_of e.method) e.lens row b;
        ks_most = b.ks;
        s_most = omega (arith, b.s, row.s_most);
        g_most = within_most 1 blob_most (length g) u.0;
        ks_there = omega (arith, h, b.ks, k.1);
        s_there = omega (arith, h, b.ks, b.c, b.s, row.c_most, row.s_most, field_length_most e.lens.ks, field_length_most e.lens.c, k.1);
        out_least = ltb-false (length out) reply_least v.0;
        k_least = ltb-false (length k_out) k_size v.1;
      }

  -- REPLY's length, by the recorded lengths
  pub reply_sized : Signable → length (reply_of e room g) ≡ 13 + e.lens.ks + e.lens.s + length g
  reply_sized h =
      omega (
        arith,
        length_reply (standing_ks e.lens room) (standing_s e.lens room) g,
        part_length room e.lens.ks (head_end e.lens + 4) h.ks_there,
        part_length room e.lens.s (head_end e.lens + field_length e.lens.ks + field_length e.lens.c + 4) h.s_there,
      )

  -- the code's sums stay far below the greatest size
  pub sign_sums : Signable → (start a b : ℕ) → start ≡ head_size e.lens → a ≡ field_size e.lens.ks → b ≡ field_size e.lens.c
      → (start ≤ 16400) × (a ≤ 4100) × (b ≤ 4100)
  sign_sums h start a b x y z =
      let l = h.lens_small in
      let p = x ∙ head_fits e.lens l in
      let q = y ∙ size_fits e.lens.ks l.ks in
      let r = z ∙ size_fits e.lens.c l.c in
      (omega (arith, head_bound e.lens l), omega (arith, l.ks, field_length_most e.lens.ks), omega (arith, l.c, field_length_most e.lens.c))

  -- K_S and S as the code finds them in the room make REPLY
  pub reply_stands : Signable → (start a b : ℕ) (ks s : List ℕ)
      → start ≡ head_size e.lens → a ≡ field_size e.lens.ks → b ≡ field_size e.lens.c
      → ks ≡ bytes_at room (inside (length room) (part (start + 4) e.lens.ks))
      → s ≡ bytes_at room (inside (length room) (part (start + a + b + 4) e.lens.s))
      → reply_bytes ks s g ≡ reply_of e room g
  reply_stands h start a b ks s x₀ y₀ z₀ p q =
      let x = x₀ ∙ head_fits e.lens h.lens_small in
      let y = y₀ ∙ size_fits e.lens.ks h.lens_small.ks in
      let z = z₀ ∙ size_fits e.lens.c h.lens_small.c in
      let u = p ∙ part_stands room (start + 4) e.lens.ks (head_end e.lens + 4) (λ i. x i + 4) h.ks_there in
      let v = q ∙ part_stands room (start + a + b + 4) e.lens.s (head_end e.lens + field_length e.lens.ks + field_length e.lens.c + 4) (λ i. x i + y i + z i + 4) h.s_there in
      λ i. reply_bytes (u i) (v i) g

  -- its counts
  pub sign_tells : number e room (sign g (length out) (length k_out)) ≡ 0 → (count second : ℕ) → count ≡ length (reply_of e room g) → second ≡ k_length e.k
      → count ∷ second ∷ [] ≡ tells e room (sign g (length out) (length k_out))
  unfolding tells count_of second_of
  sign_tells z count second a b = (λ i. a i ∷ b i ∷ []) ∙ ap both_counts (step_accepted e room (sign g (length out) (length k_out)) z).0

  pub sign_taken : encoded (with_last e) ≡ encoded (taken e room (sign g (length out) (length k_out)))
  unfolding taken
  sign_taken = refl

  pub sign_room : number e room (sign g (length out) (length k_out)) ≡ 0 → room ≡ room_after e room (sign g (length out) (length k_out))
  unfolding filled
  sign_room z = (step_accepted e room (sign g (length out) (length k_out)) z).1

-- refused: nothing changes
pub sign_stays : (b room g out k_out : List ℕ) (n : ℕ) → n ≡ by_fit b (number (decoded b) room (sign g (length out) (length k_out))) 1 → is_fault n ≡ false
unfolding by_fit
sign_stays b room g out k_out n h = by_fit_lem (fits b) h
  where
    by_fit_lem : (t : Bool) → n ≡ cond t (number (decoded b) room (sign g (length out) (length k_out))) 1 → is_fault n ≡ false
    by_fit_lem true e = fault_low n (omega (arith, sign_most (decoded b) room g out k_out))
    by_fit_lem false e = fault_low n (omega arith)
