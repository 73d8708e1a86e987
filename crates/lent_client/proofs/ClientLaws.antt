-- What own C, REPLY and the verdict know where they are accepted, and what they then tell and leave. Assumes nothing.
use Prim.Native.Nat.{ℕ, ◌+◌, ◌≤◌}
use mathlib.Core.Path.{◌≡◌, refl, sym, ap, ◌∙◌}
use mathlib.Core.List.{List, [], ◌∷◌, ◌++◌, append-nil}
use mathlib.Core.Bool.{Bool}
use native.Mathlib.Omega.{arith}
use lib.ListN.{length, set}
use lib.Dec.{ltb}
use borrow.Author.Tests.{le-leb, ltb-false}
use Rattle.limits.specs.Limits.{blob_most, k_size, init_least}
use Rattle.limits.proofs.RangeLaws.{within_most}
use Rattle.buffers.specs.Bytes.{onto, over, laid}
use Rattle.buffers.proofs.ByteLaws.{length_onto, laid_fits}
use Rattle.wire.specs.declared.Part.{Part}
use Rattle.wire.specs.Strings.{string}
use Rattle.wire.proofs.StringLaws.{length_string}
use Rattle.wire.proofs.CauseLaws.{if_none, unless_none}
use Rattle.methods.specs.Rows.{row_of}
use Rattle.methods.specs.Form.{formed}
use Rattle.methods.proofs.FormLaws.{length_most_lem}
use Rattle.messages.proofs.MessageLaws.{length_init}
use Rattle.messages.specs.Messages.{init_bytes, field_part, field_of}
use Rattle.transcript.specs.Fields.{field, field_length, around, field_size}
use Rattle.transcript.proofs.RoomLaws.{length_field, field_length_most}
use Rattle.exchange.specs.Causes.{reply_cause, own_c_cause, verdict_cause}
use Rattle.exchange.specs.Record.{k_length}
use Rattle.exchange.specs.Steps.{reply, fed_cause, number, own_c, head_end, fields_end, standing_c, filled, with_c, with_s, taken, count_of, room_after, step_part, verdict, with_stage, with_last, head_size, fields_size}
use Rattle.exchange.specs.declared.Stage.TheVariants.{CSent, ReplyRead}
use Rattle.exchange.specs.declared.Exchange.{Exchange}
use Rattle.exchange.specs.declared.Lengths.{Lengths}
use Rattle.exchange.proofs.CauseFacts.{method_row, own_c_formed, reply_formed}
use Rattle.exchange.proofs.KindLaws.{kind_accepted}
use Rattle.exchange.proofs.StepLaws.{bounded, small, head_most, next_1, step_known, step_accepted, size_fits, head_fits, fields_fits, Small}
use Rattle.stored.specs.Stored.{encoded}
use Rattle.lent.specs.Lent.{place_of, counts, tells}
use Rattle.lent.proofs.RoomLaws.{Joins, joins}
use Rattle.lent.proofs.LaidLaws.{then_laid, begun_onto, begun_store}

-- ---- INIT, as it is written

init_pieces : (c : List ℕ) → (30 ∷ []) ++ string c ≡ init_bytes c
unfolding init_bytes
init_pieces c = ap (λ (x : List ℕ). (30 ∷ []) ++ x) (sym (append-nil (string c)))

module _ (out c o : List ℕ) (h : length (init_bytes c) ≤ length out) (e : o ≡ laid (set out 0 30) 1 (string c)) where
  -- what is written for INIT
  pub init_laid : o ≡ onto out (init_bytes c)
  init_laid =
      let n = length_init c in
      let m = length_string c in
      let p1 = begun_store out 30 (omega arith) in
      let p2 = then_laid _ _ _ _ p1 (string c) o (5 + length c) e (omega arith) (omega arith) in
      begun_onto _ _ _ _ p2 ∙ ap (onto out) (init_pieces c)

  -- of an output as long as before
  pub init_output_length : length o ≡ length out
  init_output_length = ap length init_laid ∙ length_onto out (init_bytes c) h

-- ---- own C

module _ (e : Exchange) (room c out : List ℕ) (z : number e room (own_c c (length out)) ≡ 0) where
  own_c_cause_lem : own_c_cause e.method c (length out) ≡ 0
  unfolding fed_cause
  own_c_cause_lem = (step_known e room (own_c c (length out)) z).2

  own_c_joins : Joins e.lens room c
  own_c_joins =
      let k = step_known e room (own_c c (length out)) z in
      joins 1 e room c k.0 (next_1 e.role e.stage k.0.next).1 k.1 (own_c_formed e.method c (length out) own_c_cause_lem)

  -- INIT fits its output
  pub own_c_fits : length (init_bytes c) ≤ length out
  unfolding own_c_cause
  own_c_fits =
      let k = step_known e room (own_c c (length out)) z in
      let a = unless_none (formed (row_of e.method).c c) 4 _ (omega arith) own_c_cause_lem in
      let o = ltb-false (length out) init_least (if_none (ltb (length out) init_least) 5 0 (omega arith) a.1).0 in
      let s = own_c_formed e.method c (length out) own_c_cause_lem in
      omega
      (arith, length_init c, length_most_lem (row_of e.method).c (length c) s.len, (method_row e.method k.0.method_ok_is).c_most)

  -- its count
  pub own_c_tells : (5 + length c) ∷ [] ≡ tells e room (own_c c (length out))
  unfolding tells count_of
  own_c_tells = ap (λ (n : ℕ). n ∷ []) (sym (length_init c)) ∙ ap counts (step_accepted e room (own_c c (length out)) z).0

  -- the exchange
  pub own_c_taken : encoded (with_stage e CSent (with_c e.lens (length c))) ≡ encoded (taken e room (own_c c (length out)))
  unfolding taken
  own_c_taken = refl

  -- the room
  pub own_c_room : (l : Lengths) → l ≡ e.lens → laid room (fields_size l) (field c) ≡ room_after e room (own_c c (length out))
  unfolding filled
  own_c_room l a =
      ap (λ (n : ℕ). laid room n (field c)) (ap fields_size a ∙ fields_fits e.lens own_c_joins.lengths)
      ∙ laid_fits room (fields_end e.lens) (field c) own_c_joins.fits
      ∙ (step_accepted e room (own_c c (length out)) z).1

-- ---- REPLY

module _ (e : Exchange) (room p : List ℕ) (z : number e room (reply p) ≡ 0) where
  reply_cause_lem : reply_cause e.method p ≡ 0
  unfolding fed_cause
  reply_cause_lem = (step_known e room (reply p) z).2

  reply_small : Small e.lens
  reply_small =
      let d = (step_known e room (reply p) z).0 in
      small (row_of e.method) e.lens (method_row e.method d.method_ok_is) (bounded (row_of e.method) e.stage e.lens d.lengths)

  -- K_S and S fit around C
  reply_fits_lem : head_end e.lens + length (field (field_of p 0)) + field_length e.lens.c + length (field (field_of p 1)) ≤ length room
  reply_fits_lem =
      let k = step_known e room (reply p) z in
      let row = method_row e.method k.0.method_ok_is in
      let b = bounded (row_of e.method) e.stage e.lens k.0.lengths in
      let s = reply_formed e.method p reply_cause_lem in
      omega (
        arith,
        k.1,
        head_most (row_of e.method) e.lens b,
        b.c,
        row.c_most,
        row.s_most,
        length_field (field_of p 0),
        length_field (field_of p 1),
        field_length_most (length (field_of p 0)),
        field_length_most (length (field_of p 1)),
        field_length_most e.lens.c,
        within_most 1 blob_most (length (field_of p 0)) s.1.ok,
        length_most_lem (row_of e.method).s (length (field_of p 1)) s.2.len,
      )

  around_fits : around room (head_end e.lens) (field_length e.lens.c) (field_of p 0) (field_of p 1)
      ≡ over room (head_end e.lens) (field (field_of p 0) ++ standing_c e.lens room ++ field (field_of p 1))
  unfolding around
  around_fits = rw (le-leb (head_end e.lens + length (field (field_of p 0)) + field_length e.lens.c + length (field (field_of p 1))) (length room) reply_fits_lem)

  reply_around : around room (head_end e.lens) (field_length e.lens.c) (field_of p 0) (field_of p 1) ≡ room_after e room (reply p)
  unfolding filled
  reply_around = around_fits ∙ (step_accepted e room (reply p) z).1

  pub reply_room : (l : Lengths) (ks s : List ℕ) → l ≡ e.lens → ks ≡ field_of p 0 → s ≡ field_of p 1
      → around room (head_size l) (field_size l.c) ks s ≡ room_after e room (reply p)
  reply_room l ks s a f g =
      (λ i. around room ((ap head_size a ∙ head_fits e.lens reply_small) i) ((ap (λ (x : Lengths). field_size x.c) a ∙ size_fits e.lens.c reply_small.c) i) (f i) (g i))
      ∙ reply_around

  -- the exchange
  pub reply_taken : (ks s : List ℕ) → ks ≡ field_of p 0 → s ≡ field_of p 1
      → encoded (with_stage e ReplyRead (with_s e.lens (length ks) (length s))) ≡ encoded (taken e room (reply p))
  unfolding taken
  reply_taken ks s f g = λ i. encoded (with_stage e ReplyRead (with_s e.lens (length (f i)) (length (g i))))

  -- the places
  pub reply_tells : (x y w : Part) → x ≡ field_part p 0 → y ≡ field_part p 1 → w ≡ field_part p 2
      → x.start ∷ x.len ∷ y.start ∷ y.len ∷ w.start ∷ w.len ∷ [] ≡ tells e room (reply p)
  unfolding tells step_part
  reply_tells x y w a b c = rw (kind_accepted (number e room (reply p)) z) (λ i. place_of (a i) ++ place_of (b i) ++ place_of (c i))

-- ---- the verdict

module _ (e : Exchange) (room : List ℕ) (a b : Bool) (k_out : List ℕ) (z : number e room (verdict a b (length k_out)) ≡ 0) where
  -- the output takes K
  pub verdict_fits : k_size ≤ length k_out
  unfolding fed_cause verdict_cause
  verdict_fits = ltb-false (length k_out) k_size (if_none (ltb (length k_out) k_size) 5 _ (omega arith) (step_known e room (verdict a b (length k_out)) z).2).0

  pub verdict_tells : (n : ℕ) → n ≡ k_length e.k → n ∷ [] ≡ tells e room (verdict a b (length k_out))
  unfolding tells count_of
  verdict_tells n h = ap (λ (m : ℕ). m ∷ []) h ∙ ap counts (step_accepted e room (verdict a b (length k_out)) z).0

  pub verdict_taken : encoded (with_last e) ≡ encoded (taken e room (verdict a b (length k_out)))
  unfolding taken
  verdict_taken = refl

  pub verdict_room : room ≡ room_after e room (verdict a b (length k_out))
  unfolding filled
  verdict_room = (step_accepted e room (verdict a b (length k_out)) z).1
