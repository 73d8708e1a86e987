-- `lent_server::sign` meets its contract. Assumes nothing.
use Prim.Native.Nat.{ℕ, ◌+◌, ◌≤◌}
use mathlib.Core.Path.{◌≡◌, refl, sym, ap, ◌∙◌}
use mathlib.Core.List.{List, [], ◌∷◌}
use native.Mathlib.Omega.{arith}
use lib.ListN.{length}
use Rattle.buffers.specs.Bytes.{laid, onto}
use Rattle.wire.specs.Strings.{number_at}
use Rattle.wire.specs.Parts.{part, inside, bytes_at}
use Rattle.messages.specs.Messages.{reply_bytes}
use Rattle.transcript.specs.Fields.{field_size}
use Rattle.exchange.specs.Steps.{sign, reply_of, head_size, fed_cause}
use Rattle.exchange.specs.declared.Lengths.{Lengths}
use Rattle.exchange.proofs.StepLaws.{output_accepted}
use Rattle.lent.proofs.RoomLaws.{k_laid, k_length_lem}
use Rattle.stored.specs.Stored.{decoded}
use Rattle.lent.proofs.LentLaws.{number_lent, call_refused, fault_read, call_accepted, Opened, opened, refused_stays, completed}
use Rattle.lent_server.proofs.ServerLaws.{Signable, sign_stays, sign_known, reply_sized, sign_sums, reply_stands, sign_tells, sign_taken, sign_room}
use Rattle.lent_server.proofs.sign.Goals.{After-field_size-c, After-lengths_in-l, After-body_at-s, After-step_number-n, Else-n-ne0}
use Rattle.lent_server.proofs.sign.Goals as goal

-- where the step is accepted: what its number tells of the bytes, and what the code relies on
accepts : (j : Else-n-ne0) → let a = j.args in Opened a.ex.now a.room.now (sign a.signature.now (length a.out.now) (length a.k_out.now))
unfolding fed_cause
accepts j =
    let a = j.args in
    opened a.ex.now a.room.now (sign a.signature.now (length a.out.now) (length a.k_out.now)) _ (number_lent a.ex.now a.room.now (sign a.signature.now (length a.out.now) (length a.k_out.now)) [] _ _ _ _ j.step_number-n.ensures.0 refl refl (j.number_told-fed.ensures ∙ j.sign_cause.ensures)) j.step_number-n.ensures.1 j.if-n-ne0.false

known : (j : Else-n-ne0) → let a = j.args in Signable (decoded a.ex.now) a.room.now a.signature.now a.out.now a.k_out.now
known j = let a = j.args in sign_known (decoded a.ex.now) a.room.now a.signature.now a.out.now a.k_out.now (accepts j).accepts

accepts-After-lengths_in-l : (j : After-lengths_in-l) → let a = j.args in Opened a.ex.now a.room.now (sign a.signature.now (length a.out.now) (length a.k_out.now))
unfolding fed_cause
accepts-After-lengths_in-l j =
    let a = j.args in
    opened a.ex.now a.room.now (sign a.signature.now (length a.out.now) (length a.k_out.now)) _ (number_lent a.ex.now a.room.now (sign a.signature.now (length a.out.now) (length a.k_out.now)) [] _ _ _ _ j.step_number-n.ensures.0 refl refl (j.number_told-fed.ensures ∙ j.sign_cause.ensures)) j.step_number-n.ensures.1 j.if-n-ne0.false

-- the lengths are the exchange's
lens : (c : After-lengths_in-l) → let a = c.args in c.lengths_in-l.result ≡ (decoded a.ex.now).lens
lens c = c.lengths_in-l.ensures.0 ∙ (accepts-After-lengths_in-l c).lens_are

accepts-After-field_size-c : (j : After-field_size-c) → let a = j.args in Opened a.ex.now a.room.now (sign a.signature.now (length a.out.now) (length a.k_out.now))
unfolding fed_cause
accepts-After-field_size-c j =
    let a = j.args in
    opened a.ex.now a.room.now (sign a.signature.now (length a.out.now) (length a.k_out.now)) _ (number_lent a.ex.now a.room.now (sign a.signature.now (length a.out.now) (length a.k_out.now)) [] _ _ _ _ j.step_number-n.ensures.0 refl refl (j.number_told-fed.ensures ∙ j.sign_cause.ensures)) j.step_number-n.ensures.1 j.if-n-ne0.false

lens-After-field_size-c : (c : After-field_size-c) → let a = c.args in c.lengths_in-l.result ≡ (decoded a.ex.now).lens
lens-After-field_size-c c = c.lengths_in-l.ensures.0 ∙ (accepts-After-field_size-c c).lens_are

-- and so is where fields end; the sums stay small
ends : (c : After-field_size-c) →
    let e = decoded c.args.ex.now in
    (c.head_end-at.result ≡ head_size e.lens) × (c.field_size-a.result ≡ field_size e.lens.ks) × (c.field_size-c.result ≡ field_size e.lens.c)
ends c =
    let l = lens-After-field_size-c c in (
      c.head_end-at.ensures ∙ ap head_size l,
      c.field_size-a.ensures ∙ ap (λ (x : Lengths). field_size x.ks) l,
      c.field_size-c.ensures ∙ ap (λ (x : Lengths). field_size x.c) l,
    )

known-After-field_size-c : (j : After-field_size-c) → let a = j.args in Signable (decoded a.ex.now) a.room.now a.signature.now a.out.now a.k_out.now
known-After-field_size-c j = let a = j.args in sign_known (decoded a.ex.now) a.room.now a.signature.now a.out.now a.k_out.now (accepts-After-field_size-c j).accepts

sums : (c : After-field_size-c) → (c.head_end-at.result ≤ 16400) × (c.field_size-a.result ≤ 4100) × (c.field_size-c.result ≤ 4100)
sums c =
    let a = c.args in
    let w = ends c in
    sign_sums (decoded a.ex.now) a.room.now a.signature.now a.out.now a.k_out.now (known-After-field_size-c c) _ _ _ w.0 w.1 w.2

accepts-After-body_at-s : (j : After-body_at-s) → let a = j.args in Opened a.ex.now a.room.now (sign a.signature.now (length a.out.now) (length a.k_out.now))
unfolding fed_cause
accepts-After-body_at-s j =
    let a = j.args in
    opened a.ex.now a.room.now (sign a.signature.now (length a.out.now) (length a.k_out.now)) _ (number_lent a.ex.now a.room.now (sign a.signature.now (length a.out.now) (length a.k_out.now)) [] _ _ _ _ j.step_number-n.ensures.0 refl refl (j.number_told-fed.ensures ∙ j.sign_cause.ensures)) j.step_number-n.ensures.1 j.if-n-ne0.false

known-After-body_at-s : (j : After-body_at-s) → let a = j.args in Signable (decoded a.ex.now) a.room.now a.signature.now a.out.now a.k_out.now
known-After-body_at-s j = let a = j.args in sign_known (decoded a.ex.now) a.room.now a.signature.now a.out.now a.k_out.now (accepts-After-body_at-s j).accepts

lens-After-body_at-s : (c : After-body_at-s) → let a = c.args in c.lengths_in-l.result ≡ (decoded a.ex.now).lens
lens-After-body_at-s c = c.lengths_in-l.ensures.0 ∙ (accepts-After-body_at-s c).lens_are

ends-After-body_at-s : (c : After-body_at-s) →
    let e = decoded c.args.ex.now in
    (c.head_end-at.result ≡ head_size e.lens) × (c.field_size-a.result ≡ field_size e.lens.ks) × (c.field_size-c.result ≡ field_size e.lens.c)
ends-After-body_at-s c =
    let l = lens-After-body_at-s c in (
      c.head_end-at.ensures ∙ ap head_size l,
      c.field_size-a.ensures ∙ ap (λ (x : Lengths). field_size x.ks) l,
      c.field_size-c.ensures ∙ ap (λ (x : Lengths). field_size x.c) l,
    )

-- K_S and S as they stand in the room make REPLY
stands : (c : After-body_at-s) →
    let a = c.args in
    reply_bytes c.body_at-ks.result.now c.body_at-s.result.now a.signature.now ≡ reply_of (decoded a.ex.now) a.room.now a.signature.now
stands c =
    let a = c.args in
    let r = a.room.now in
    let w = ends-After-body_at-s c in
    let l = lens-After-body_at-s c in
    let at = c.head_end-at.result in
    reply_stands (decoded a.ex.now) r a.signature.now a.out.now a.k_out.now (known-After-body_at-s c) _ _ _ _ _ w.0 w.1 w.2
    (c.body_at-ks.ensures ∙ ap (λ (x : Lengths). bytes_at r (inside (length r) (part (at + 4) x.ks))) l)
    (c.body_at-s.ensures ∙ ap (λ (x : Lengths). bytes_at r (inside (length r) (part (at + c.field_size-a.result + c.field_size-c.result + 4) x.s))) l)

pub returns-then-n-ne0 : goal.returns-then-n-ne0
unfolding fed_cause
returns-then-n-ne0 c =
    let a = c.args in
    let b = a.ex.now in
    let r = a.room.now in
    let m = number_lent b r (sign a.signature.now (length a.out.now) (length a.k_out.now)) [] _ _ _ _ c.step_number-n.ensures.0 refl refl (c.number_told-fed.ensures ∙ c.sign_cause.ensures) in
    let f = sign_stays b r a.signature.now a.out.now a.k_out.now _ m in
    call_refused b r (sign a.signature.now (length a.out.now) (length a.k_out.now)) (a.out.now ∷ a.k_out.now ∷ []) _ m (fault_read _ b c.step_number-n.ensures.1) c.if-n-ne0.true _ _ _ refl (refused_stays _ b b _ f) (refused_stays _ b r _ f)

pub overflow_add-at : goal.overflow_add-at
overflow_add-at c = let x = sums c in omega arith

pub overflow_add-at-2 : goal.overflow_add-at-2
overflow_add-at-2 c = let x = sums (goal.at.overflow_add-at-2 c).After-field_size-c in omega arith

pub overflow_add-at-3 : goal.overflow_add-at-3
overflow_add-at-3 c = let x = sums (goal.at.overflow_add-at-3 c).After-field_size-c in omega arith

pub overflow_add-at-4 : goal.overflow_add-at-4
overflow_add-at-4 c = let x = sums (goal.at.overflow_add-at-4 c).After-field_size-c in omega arith

pub put_reply-requires : goal.put_reply-requires
put_reply-requires c =
    let a = c.args in
    let h = known (goal.at.put_reply-requires c).Else-n-ne0 in
    let u = ap length (stands (goal.at.put_reply-requires c).After-body_at-s) ∙ reply_sized (decoded a.ex.now) a.room.now a.signature.now a.out.now a.k_out.now h in
    omega (arith, h.ks_most, h.s_most, h.g_most, h.out_least)

pub overflow_add-counts : goal.overflow_add-counts
overflow_add-counts c =
    let h = known (goal.at.overflow_add-counts c).Else-n-ne0 in
    let l = lens (goal.at.overflow_add-counts c).After-lengths_in-l in
    let m = ap (λ (x : Lengths). x.ks) l in
    let n = ap (λ (x : Lengths). x.s) l in
    omega (arith, h.ks_most, h.s_most, h.g_most)

pub overflow_add-counts-2 : goal.overflow_add-counts-2
overflow_add-counts-2 c =
    let h = known (goal.at.overflow_add-counts-2 c).Else-n-ne0 in
    let l = lens (goal.at.overflow_add-counts-2 c).After-lengths_in-l in
    let m = ap (λ (x : Lengths). x.ks) l in
    let n = ap (λ (x : Lengths). x.s) l in
    omega (arith, h.ks_most, h.s_most, h.g_most)

pub overflow_add-counts-3 : goal.overflow_add-counts-3
overflow_add-counts-3 c =
    let h = known (goal.at.overflow_add-counts-3 c).Else-n-ne0 in
    let l = lens (goal.at.overflow_add-counts-3 c).After-lengths_in-l in
    let m = ap (λ (x : Lengths). x.ks) l in
    let n = ap (λ (x : Lengths). x.s) l in
    omega (arith, h.ks_most, h.s_most, h.g_most)

pub returns : goal.returns
returns c =
    let a = c.args in
    let b = a.ex.now in
    let r = a.room.now in
    let e = decoded b in
    let o = accepts (goal.at.returns c).Else-n-ne0 in
    let h = known (goal.at.returns c).Else-n-ne0 in
    let l = lens (goal.at.returns c).After-lengths_in-l in
    let t = stands (goal.at.returns c).After-body_at-s in
    let n = reply_sized e r a.signature.now a.out.now a.k_out.now h in
    call_accepted b r (sign a.signature.now (length a.out.now) (length a.k_out.now)) (a.out.now ∷ a.k_out.now ∷ []) o.fitting o.accepts _ _ _ _
    (sign_tells e r a.signature.now a.out.now a.k_out.now o.accepts _ _ (ap (λ (x : Lengths). 13 + x.ks + x.s + length a.signature.now) l ∙ sym n) (c.finish-size.ensures.0 ∙ k_length_lem e.k _ o.k_size_is (ap (λ (k : List ℕ). number_at k 0) o.k_is)))
    (completed b r (sign a.signature.now (length a.out.now) (length a.k_out.now)) o _ c.finish-size.ensures.1 ∙ sign_taken e r a.signature.now a.out.now a.k_out.now)
    (sign_room e r a.signature.now a.out.now a.k_out.now o.accepts)
    (λ i. (c.put_reply.ensures ∙ ap (onto a.out.now) t ∙ output_accepted _ a.out.now (reply_of e r a.signature.now) o.accepts) i
    ∷ (c.finish-size.ensures.2 ∙ ap (laid a.k_out.now 0) o.k_is ∙ k_laid a.k_out.now e.k o.k_size_is h.k_least ∙ output_accepted _ a.k_out.now e.k o.accepts) i
    ∷ [])
