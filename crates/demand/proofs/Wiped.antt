-- What stands behind both V of a complete exchange's room matters to nothing that comes after, so that a host may wipe it. Assumes nothing.
use Prim.Native.Nat.{ℕ, zero, suc, ◌+◌, ◌-◌, ◌≤◌}
use mathlib.Core.Path.{◌≡◌, refl, sym, ap, ap₂, subst, ◌∙◌}
use mathlib.Core.List.{List, [], ◌∷◌, ◌++◌, append_assoc, append-nil}
use mathlib.Core.Bool.{Bool, true, false, cond, false≢true}
use native.Mathlib.Omega.{arith}
use lib.ListN.{length, take, drop, length-append, length-take, length-drop, length-replicate, drop_of_length-le, take-append-drop}
use lib.Seq.{length-take-le, take_all, take_at, take-take, take-append-le, drop-append-le}
use lib.Dec.{eqb, leb}
use borrow.Author.Tests.{eqb-true, leb-true, leb-false}
use Rattle.limits.specs.Limits.{client, server}
use Rattle.buffers.specs.Bytes.{zeros, onto, over}
use Rattle.methods.specs.Rows.{row_of}
use Rattle.messages.specs.Messages.{reply_bytes, field_of}
use Rattle.transcript.specs.Fields.{field, field_length}
use Rattle.transcript.proofs.RoomLaws.{length_field}
use Rattle.transcript.proofs.FieldLaws.{field_length_none, field_length_some}
use Rattle.exchange.specs.Numbers.{Kind, accepted, refused, fault, kind, by_kind}
use Rattle.exchange.specs.Causes.{k_of, h_of}
use Rattle.exchange.specs.Record.{ended, client_next, server_next, next_step, is_complete}
use Rattle.exchange.specs.Steps.{Call, own_c, init, reply, secret, sign, verdict, step_no, fed_cause, step_number, number, head_end, fields_end, standing_c, secret_room, filled, with_c, with_s, with_own, with_secret, k_record, taken, exchange_after, room_after, reply_of, output_after}
use Rattle.exchange.specs.Again.{again_number, versions_end, again_lengths, begun_again, again_after, again_room, Turn, step, again, turn_number, turn_after, turn_room}
use Rattle.exchange.specs.Demand.{numbers_of, last_exchange, last_room}
use Rattle.exchange.specs.declared.Stage.{Stage}
use Rattle.exchange.specs.declared.Stage.TheVariants.{Started, CSent, InitRead, ReplyRead, SecretDone, Complete, Failed}
use Rattle.exchange.specs.declared.Lengths.{Lengths}
use Rattle.exchange.specs.declared.Exchange.{Exchange}
use Rattle.exchange.proofs.KindLaws.{kind_is_accepted}
use Rattle.exchange.proofs.CauseFacts.{method_row}
use Rattle.exchange.proofs.DueLaws.{next_failed}
use Rattle.exchange.proofs.StepLaws.{step_known, bounded, all_most}
use Rattle.exchange.proofs.Simulation.{dead_again}

-- ---- the law's terms

-- how many of the room's first bytes matter: both V once the exchange is complete, none once it failed, else all fields that are there; K behind them
-- does not
abbrev pub shown_at : Stage → Lengths → ℕ
shown_at Started l = fields_end l
shown_at CSent l = fields_end l
shown_at InitRead l = fields_end l
shown_at ReplyRead l = fields_end l
shown_at SecretDone l = fields_end l
shown_at Complete l = versions_end l
shown_at (Failed n) l = 0

abbrev pub shown : Exchange → ℕ
shown e = shown_at e.stage e.lens

-- two rooms that are as long and begin alike
pub record Alike (e : Exchange) (r r' : List ℕ) : Type 0 where
  pub as_long : length r ≡ length r'
  pub begins : take (shown e) r ≡ take (shown e) r'

-- ---- two lists that begin alike

-- fewer of their bytes
fewer : (r r' : List ℕ) (m n : ℕ) → m ≤ n → take n r ≡ take n r' → take m r ≡ take m r'
fewer r r' m n h t = sym (take-take m n r h) ∙ ap (take m) t ∙ take-take m n r' h

-- a part of them
part_in : (r : List ℕ) (n at len : ℕ) → n ≤ length r → at + len ≤ n → take len (drop at r) ≡ take len (drop at (take n r))
part_in r n at len h k =
    let l = length-take-le n r h in
    let d = length-drop at (take n r) in
    ap (λ (x : List ℕ). take len (drop at x)) (sym (take-append-drop n r))
    ∙ ap (take len) (drop-append-le at (take n r) (drop n r) (omega arith))
    ∙ take-append-le len (drop at (take n r)) (drop n r) (omega arith)

part : (r r' : List ℕ) (n at len : ℕ) → length r ≡ length r' → n ≤ length r → at + len ≤ n → take n r ≡ take n r' → take len (drop at r) ≡ take len (drop at r')
part r r' n at len l h k t =
    part_in r n at len h k ∙ ap (λ (x : List ℕ). take len (drop at x)) t ∙ sym (part_in r' n at len (omega arith) k)

-- the same bytes laid over both: they are as long, and begin alike as far as what was laid
over_length : (r r' : List ℕ) (at : ℕ) (b : List ℕ) → length r ≡ length r' → length (over r at b) ≡ length (over r' at b)
unfolding over
over_length r r' at b l = simp (length-append, length-take, length-drop, l)

over_front : (r : List ℕ) (at : ℕ) (b : List ℕ) → take (at + length b) (over r at b) ≡ take at r ++ b
unfolding over
over_front r at b = by_test (leb at (length r)) refl
  where
    by_test : (t : Bool) → leb at (length r) ≡ t → take (at + length b) (take at r ++ b ++ drop (at + length b) r) ≡ take at r ++ b
    by_test true e =
        let l = length-take-le at r (leb-true at (length r) e) in
        take_at (take at r ++ b) (drop (at + length b) r) (at + length b) (length-append (take at r) b ∙ ap (λ (n : ℕ). n + length b) l)
    by_test false e =
        let h = leb-false at (length r) e in
        let l = length-append (take at r) b in
        let m = ap length (take_all at r (omega arith)) in
        let k : length r ≤ at + length b = omega arith in
        ap (λ (x : List ℕ). take (at + length b) (take at r ++ b ++ x)) (drop_of_length-le r k)
        ∙ ap (take (at + length b)) (append-nil (take at r ++ b))
        ∙ take_all (at + length b) (take at r ++ b) (omega arith)

over_alike : (r r' : List ℕ) (at n : ℕ) (b : List ℕ) → n ≤ at + length b → take at r ≡ take at r' → take n (over r at b) ≡ take n (over r' at b)
over_alike r r' at n b k t =
    fewer (over r at b) (over r' at b) n (at + length b) k (over_front r at b ∙ ap (λ (x : List ℕ). x ++ b) t ∙ sym (over_front r' at b))

-- ---- C as it stands in both

standing_length : (l : Lengths) (r : List ℕ) → fields_end l ≤ length r → length (standing_c l r) ≡ field_length l.c
standing_length l r h = simp (length-take, length-drop) (omega arith)

standing_alike : (l : Lengths) (r r' : List ℕ) → length r ≡ length r' → fields_end l ≤ length r → take (fields_end l) r ≡ take (fields_end l) r' → standing_c l r ≡ standing_c l r'
standing_alike l r r' a h t = part r r' (fields_end l) (head_end l) (field_length l.c) a h (omega arith) t

-- the same bytes laid ahead of C and behind it, with K and without
module _ (l : Lengths) (r r' : List ℕ) (a : length r ≡ length r') (h : fields_end l ≤ length r) (t : take (fields_end l) r ≡ take (fields_end l) r') (n : ℕ) where
  around_alike : (x y : List ℕ) → n ≤ head_end l + field_length l.c + length x + length y
      → (length (over r (head_end l) (x ++ standing_c l r ++ y)) ≡ length (over r' (head_end l) (x ++ standing_c l r' ++ y)))
      × (take n (over r (head_end l) (x ++ standing_c l r ++ y)) ≡ take n (over r' (head_end l) (x ++ standing_c l r' ++ y)))
  around_alike x y k =
      let c = standing_alike l r r' a h t in
      let m = standing_length l r h in
      let w : length (x ++ standing_c l r ++ y) ≡ length x + length (standing_c l r) + length y = simp length-append in (
        over_length r r' (head_end l) (x ++ standing_c l r ++ y) a ∙ ap (λ (z : List ℕ). length (over r' (head_end l) (x ++ z ++ y))) c,
        over_alike r r' (head_end l) n (x ++ standing_c l r ++ y) (omega arith) (fewer r r' (head_end l) (fields_end l) (omega arith) t) ∙ ap (λ (z : List ℕ). take n (over r' (head_end l) (x ++ z ++ y))) c,
      )

  around_k_alike : (x y z : List ℕ) → n ≤ head_end l + field_length l.c + length x + length y + length z
      → (length (over r (head_end l) (x ++ standing_c l r ++ y ++ z)) ≡ length (over r' (head_end l) (x ++ standing_c l r' ++ y ++ z)))
      × (take n (over r (head_end l) (x ++ standing_c l r ++ y ++ z)) ≡ take n (over r' (head_end l) (x ++ standing_c l r' ++ y ++ z)))
  around_k_alike x y z k =
      let o = length-append y z in
      let b = around_alike x (y ++ z) (omega arith) in
      let c : (p : List ℕ) → x ++ p ++ y ++ z ≡ x ++ p ++ (y ++ z) = λ p. append_assoc (x ++ p) y z in (
        ap (λ (p : List ℕ). length (over r (head_end l) p)) (c (standing_c l r)) ∙ b.0 ∙ sym (ap (λ (p : List ℕ). length (over r' (head_end l) p)) (c (standing_c l r'))),
        ap (λ (p : List ℕ). take n (over r (head_end l) p)) (c (standing_c l r)) ∙ b.1 ∙ sym (ap (λ (p : List ℕ). take n (over r' (head_end l) p)) (c (standing_c l r'))),
      )

-- a server's own and K, or K alone
own_alike : (u : Bool) (l : Lengths) (r r' : List ℕ) → length r ≡ length r' → fields_end l ≤ length r → take (fields_end l) r ≡ take (fields_end l) r'
    → (p q : ℕ) (x y z : List ℕ) → fields_end (with_s l p q) ≤ head_end l + field_length l.c + length x + length y
    → (length (cond u (over r (head_end l) (x ++ standing_c l r ++ y ++ z)) (over r (fields_end l) z))
    ≡ length (cond u (over r' (head_end l) (x ++ standing_c l r' ++ y ++ z)) (over r' (fields_end l) z)))
    × (take (fields_end (cond u (with_s l p q) l) + length z) (cond u (over r (head_end l) (x ++ standing_c l r ++ y ++ z)) (over r (fields_end l) z))
    ≡ take (fields_end (cond u (with_s l p q) l) + length z) (cond u (over r' (head_end l) (x ++ standing_c l r' ++ y ++ z)) (over r' (fields_end l) z)))
own_alike true l r r' a h t p q x y z k = around_k_alike l r r' a h t (fields_end (with_s l p q) + length z) x y z (omega arith)
own_alike false l r r' a h t p q x y z k =
    (over_length r r' (fields_end l) z a, over_alike r r' (fields_end l) (fields_end l + length z) z (omega arith) t)

-- K_S, C, S and K of the secret step, or K alone
secret_alike : (role : ℕ) (l : Lengths) (r r' ks s k : List ℕ) → length r ≡ length r' → fields_end l ≤ length r → take (fields_end l) r ≡ take (fields_end l) r'
    → (length (secret_room role l r ks s k) ≡ length (secret_room role l r' ks s k))
    × (take (fields_end (with_own role l (length ks) (length s)) + length k) (secret_room role l r ks s k)
    ≡ take (fields_end (with_own role l (length ks) (length s)) + length k) (secret_room role l r' ks s k))
secret_alike role l r r' ks s k a h t =
    own_alike (eqb role server) l r r' a h t (length ks) (length s) (field ks) (field s) k (omega (arith, length_field ks, length_field s))

-- ---- where a call is accepted, the room has all fields, and they matter

-- nothing comes next on a complete exchange, nor on a failed one
next_shown : (role : ℕ) (stage : Stage) (l : Lengths) → (next_step role stage ≡ 0 → ⊥) → shown_at stage l ≡ fields_end l
next_shown role Started l n = refl
next_shown role CSent l n = refl
next_shown role InitRead l n = refl
next_shown role ReplyRead l n = refl
next_shown role SecretDone l n = refl
next_shown role Complete l n = absurd (n (by_test (eqb role client) (eqb role server)))
  where
    by_test : (t u : Bool) → cond t (client_next Complete) (cond u (server_next Complete) 0) ≡ 0
    by_test true u = refl
    by_test false true = refl
    by_test false false = refl
next_shown role (Failed i) l n = absurd (n (next_failed role i))

-- and every call is of a step
no_step : (q : Call) → step_no q ≡ 0 → ⊥
no_step (own_c c out) e = omega arith
no_step (init p) e = omega arith
no_step (reply p) e = omega arith
no_step (secret cl x kem k_pq ks s) e = omega arith
no_step (sign g out k_out) e = omega arith
no_step (verdict a b k_out) e = omega arith

module _ (e : Exchange) (r r' : List ℕ) (a : Alike e r r') where
  -- all fields are there, and alike
  fields_there : (q : Call) → number e r q ≡ 0 → (fields_end e.lens ≤ length r) × (take (fields_end e.lens) r ≡ take (fields_end e.lens) r')
  fields_there q z =
      let k = step_known e r q z in
      let d = k.0 in
      let row = row_of e.method in
      let m = all_most row e.lens (method_row e.method d.method_ok_is) (bounded row e.stage e.lens d.lengths) 0 (omega arith) in
      let s = next_shown e.role e.stage e.lens (λ y. no_step q (sym d.next ∙ y)) in
      (omega (arith, k.1), rw s at a.begins)

  -- the exchange and both rooms after an accepted call
  taken_alike : (q : Call) → number e r q ≡ 0 → (taken e r q ≡ taken e r' q) × Alike (taken e r q) (filled e r q) (filled e r' q)
  unfolding taken filled
  taken_alike (own_c c out) z =
      let f = fields_there (own_c c out) z in (
        refl,
        record {
          as_long = over_length r r' (fields_end e.lens) (field c) a.as_long;
          begins = over_alike r r' (fields_end e.lens) (fields_end (with_c e.lens (length c))) (field c) (omega (arith, length_field c)) f.1;
        },
      )
  taken_alike (init p) z =
      let f = fields_there (init p) z in (
        refl,
        record {
          as_long = over_length r r' (fields_end e.lens) (field (field_of p 0)) a.as_long;
          begins = over_alike r r' (fields_end e.lens) (fields_end (with_c e.lens (length (field_of p 0)))) (field (field_of p 0)) (omega (arith, length_field (field_of p 0))) f.1;
        },
      )
  taken_alike (reply p) z =
      let f = fields_there (reply p) z in
      let b = around_alike e.lens r r' a.as_long f.0 f.1 (fields_end (with_s e.lens (length (field_of p 0)) (length (field_of p 1)))) (field (field_of p 0)) (field (field_of p 1)) (omega (arith, length_field (field_of p 0), length_field (field_of p 1))) in
      (refl, record { as_long = b.0; begins = b.1 })
  taken_alike (secret cl x kem k_pq ks s) z =
      let f = fields_there (secret cl x kem k_pq ks s) z in
      let l = with_own e.role e.lens (length ks) (length s) in
      let k = k_of e.method x k_pq in
      let b = secret_alike e.role e.lens r r' ks s k a.as_long f.0 f.1 in (
        ap (λ (y : List ℕ). with_secret e l (k_record k) (h_of e.method y)) b.1,
        record {
          as_long = b.0;
          begins = fewer (secret_room e.role e.lens r ks s k) (secret_room e.role e.lens r' ks s k) (fields_end l) (fields_end l + length k) (omega arith) b.1;
        },
      )
  taken_alike (sign g out k_out) z =
      (refl, record { as_long = a.as_long; begins = fewer r r' (versions_end e.lens) (fields_end e.lens) (omega arith) (fields_there (sign g out k_out) z).1 })
  taken_alike (verdict u v k_out) z =
      (refl, record { as_long = a.as_long; begins = fewer r r' (versions_end e.lens) (fields_end e.lens) (omega arith) (fields_there (verdict u v k_out) z).1 })

-- ---- one call, and a list of them

-- begun again, or not
begun_alike : (t : Bool) (e₀ e : Exchange) (r r' b : List ℕ) (at : ℕ) → (t ≡ true → Alike e₀ (over r at b) (over r' at b)) → Alike e r r'
    → Alike (cond t e₀ e) (cond t (over r at b) r) (cond t (over r' at b) r')
begun_alike true e₀ e r r' b at h a = h refl
begun_alike false e₀ e r r' b at h a = a

module _ (e : Exchange) (r r' : List ℕ) (a : Alike e r r') where
  -- a step's number goes by the room's length alone
  number_alike : (q : Call) → number e r q ≡ number e r' q
  unfolding number
  number_alike q = ap (λ (n : ℕ). step_number (step_no q) e n (fed_cause e.role e.method q)) a.as_long

  -- accepted, refused, or a fault
  kind_alike : (q : Call) (k : Kind) → kind (number e r q) ≡ k → (n : ℕ)
      → let x = ended n e.role e.method e.session in
      (by_kind k (taken e r q) e x ≡ by_kind k (taken e r' q) e x)
      × Alike (by_kind k (taken e r q) e x) (by_kind k (filled e r q) r (zeros (length r))) (by_kind k (filled e r' q) r' (zeros (length r')))
  kind_alike q accepted z n = taken_alike e r r' a q (kind_is_accepted (number e r q) z)
  kind_alike q refused z n = (refl, a)
  kind_alike q fault z n = (refl, record { as_long = ap (λ (m : ℕ). length (zeros m)) a.as_long; begins = ap (λ (m : ℕ). take (shown (ended n e.role e.method e.session)) (zeros m)) a.as_long })

  step_alike : (q : Call) → (exchange_after e r q ≡ exchange_after e r' q) × Alike (exchange_after e r q) (room_after e r q) (room_after e r' q)
  unfolding exchange_after room_after
  step_alike q = rw (sym (number_alike q)) (kind_alike q (kind (number e r q)) refl (number e r q))

  -- a failed exchange never begins again
  not_failed : (m : ℕ) (ic is : List ℕ) → again_number e (length r) m ic is ≡ 0 → (n : ℕ) → e.stage ≡ Failed n → ⊥
  not_failed m ic is z n s = let d = dead_again e (length r) n m ic is s in omega arith

  -- an exchange that did not fail has both V in its room, alike
  versions_alike : (stage : Stage) → e.stage ≡ stage → ((n : ℕ) → stage ≡ Failed n → ⊥) → take (versions_end e.lens) r ≡ take (versions_end e.lens) r'
  versions_alike stage s n = fewer r r' (versions_end e.lens) (shown_at stage e.lens) (least stage n) (rw s at a.begins)
    where
      least : (stage : Stage) → ((n : ℕ) → stage ≡ Failed n → ⊥) → versions_end e.lens ≤ shown_at stage e.lens
      least Started n = omega arith
      least CSent n = omega arith
      least InitRead n = omega arith
      least ReplyRead n = omega arith
      least SecretDone n = omega arith
      least Complete n = omega arith
      least (Failed i) n = absurd (n i refl)

  -- both I laid behind them
  again_alike : (m : ℕ) (ic is : List ℕ) → Alike (again_after e (length r) m ic is) (again_room e r m ic is) (again_room e r' m ic is)
  unfolding again_after again_room
  again_alike m ic is =
      rw (sym a.as_long)
      (begun_alike (eqb (again_number e (length r) m ic is) 0) (begun_again e m (length ic) (length is)) e r r' (field ic ++ field is) (versions_end e.lens)
      (λ z. record {
        as_long = over_length r r' (versions_end e.lens) (field ic ++ field is) a.as_long;
        begins = over_alike r r' (versions_end e.lens) (fields_end (again_lengths e.lens (length ic) (length is))) (field ic ++ field is)
            (omega (arith, field_length_none 0 refl, length_field ic, length_field is, length-append (field ic) (field is)))
            (versions_alike e.stage refl (not_failed m ic is (eqb-true (again_number e (length r) m ic is) 0 z)));
      })
      a)

  -- a call's number and the exchange after it are the same, and the rooms after it alike
  pub one : (q : Turn)
      → (turn_number e r q ≡ turn_number e r' q) × (turn_after e r q ≡ turn_after e r' q) × Alike (turn_after e r q) (turn_room e r q) (turn_room e r' q)
  one (step q) = let s = step_alike q in (number_alike q, s.0, s.1)
  one (again m ic is) = (
    ap (λ (n : ℕ). again_number e n m ic is) a.as_long,
    ap (λ (n : ℕ). again_after e n m ic is) a.as_long,
    again_alike m ic is,
  )

-- and so are those of every list
pub alike : (e : Exchange) (r r' : List ℕ) → Alike e r r' → (qs : List Turn)
    → (numbers_of e r qs ≡ numbers_of e r' qs) × (last_exchange e r qs ≡ last_exchange e r' qs) × Alike (last_exchange e r qs) (last_room e r qs) (last_room e r' qs)
alike e r r' a [] = (refl, refl, a)
alike e r r' a (q ∷ qs) =
    let t = one e r r' a q in
    let b = alike (turn_after e r q) (turn_room e r q) (turn_room e r' q) t.2 qs in (
      ap₂ ◌∷◌ t.0 (b.0 ∙ ap (λ (x : Exchange). numbers_of x (turn_room e r' q) qs) t.1),
      b.1 ∙ ap (λ (x : Exchange). last_exchange x (turn_room e r' q) qs) t.1,
      subst (λ (y : List ℕ). Alike (last_exchange (turn_after e r q) (turn_room e r q) qs) (last_room (turn_after e r q) (turn_room e r q) qs) y) (ap (λ (x : Exchange). last_room x (turn_room e r' q) qs) t.1) b.2,
    )

-- ---- what the signature step writes

-- a field's bytes behind its four length bytes
body : (r r' : List ℕ) (n at len : ℕ) → length r ≡ length r' → n ≤ length r → at + field_length len ≤ n → take n r ≡ take n r'
    → take len (drop (at + 4) r) ≡ take len (drop (at + 4) r')
body r r' n at zero l h k t = refl
body r r' n at (suc len) l h k t = part r r' n (at + 4) (suc len) l h (omega (arith, field_length_some (suc len) (λ z. omega arith))) t

module _ (e : Exchange) (r r' : List ℕ) (a : Alike e r r') (g : List ℕ) (out k_out : ℕ) where
  reply_alike : number e r (sign g out k_out) ≡ 0 → reply_of e r g ≡ reply_of e r' g
  reply_alike z =
      let l = e.lens in
      let f = fields_there e r r' a (sign g out k_out) z in
      ap₂ (λ (x y : List ℕ). reply_bytes x y g)
      (body r r' (fields_end l) (head_end l) l.ks a.as_long f.0 (omega arith) f.1)
      (body r r' (fields_end l) (head_end l + field_length l.ks + field_length l.c) l.s a.as_long f.0 (omega arith) f.1)

  -- REPLY's output, whether the step is accepted or not
  pub sign_alike : (o : List ℕ) → output_after (number e r (sign g out k_out)) o (reply_of e r g) ≡ output_after (number e r' (sign g out k_out)) o (reply_of e r' g)
  unfolding output_after
  sign_alike o = rw (sym (number_alike e r r' a (sign g out k_out))) (by_kind_lem (kind (number e r (sign g out k_out))) refl)
    where
      by_kind_lem : (k : Kind) → kind (number e r (sign g out k_out)) ≡ k → by_kind k (onto o (reply_of e r g)) o o ≡ by_kind k (onto o (reply_of e r' g)) o o
      by_kind_lem accepted z = ap (onto o) (reply_alike (kind_is_accepted (number e r (sign g out k_out)) z))
      by_kind_lem refused z = refl
      by_kind_lem fault z = refl

-- ---- a complete exchange's room, wiped behind both V

abbrev pub wiped : Exchange → List ℕ → List ℕ
wiped e room = take (versions_end e.lens) room ++ zeros (length room - versions_end e.lens)

pub wiped_begins : (e : Exchange) (room : List ℕ) → is_complete e.stage ≡ true → versions_end e.lens ≤ length room → Alike e (wiped e room) room
wiped_begins e room c h =
    let n : ℕ = versions_end e.lens in
    let l = length-take-le n room h in
    let z = length-replicate {A = ℕ} (length room - n) 0 in
    let s = complete_shown e.stage e.lens c in
    record {
      as_long = length-append (take n room) (zeros (length room - n)) ∙ omega arith;
      begins = rw s (take_at (take n room) (zeros (length room - n)) n l);
    }
  where
    complete_shown : (stage : Stage) (l : Lengths) → is_complete stage ≡ true → shown_at stage l ≡ versions_end l
    complete_shown Started l c = absurd (false≢true c)
    complete_shown CSent l c = absurd (false≢true c)
    complete_shown InitRead l c = absurd (false≢true c)
    complete_shown ReplyRead l c = absurd (false≢true c)
    complete_shown SecretDone l c = absurd (false≢true c)
    complete_shown Complete l c = refl
    complete_shown (Failed n) l c = absurd (false≢true c)

-- after every list the numbers are the same, and the exchange with its K, H and session
pub wiped_alike : (e : Exchange) (room : List ℕ) (qs : List Turn) → is_complete e.stage ≡ true → versions_end e.lens ≤ length room
    → (numbers_of e (wiped e room) qs ≡ numbers_of e room qs) × (last_exchange e (wiped e room) qs ≡ last_exchange e room qs)
wiped_alike e room qs c h = let b = alike e (wiped e room) room (wiped_begins e room c h) qs in (b.0, b.1)

-- and what a signature step then writes
pub wiped_reply : (e : Exchange) (room : List ℕ) (qs : List Turn) → is_complete e.stage ≡ true → versions_end e.lens ≤ length room → (g : List ℕ) (out k_out : ℕ) (o : List ℕ)
    → output_after (number (last_exchange e (wiped e room) qs) (last_room e (wiped e room) qs) (sign g out k_out)) o (reply_of (last_exchange e (wiped e room) qs) (last_room e (wiped e room) qs) g)
    ≡ output_after (number (last_exchange e room qs) (last_room e room qs) (sign g out k_out)) o (reply_of (last_exchange e room qs) (last_room e room qs) g)
wiped_reply e room qs c h g out k_out o =
    let b = alike e (wiped e room) room (wiped_begins e room c h) qs in
    sign_alike (last_exchange e (wiped e room) qs) (last_room e (wiped e room) qs) (last_room e room qs) b.2 g out k_out o
    ∙ ap (λ (x : Exchange). output_after (number x (last_room e room qs) (sign g out k_out)) o (reply_of x (last_room e room qs) g)) b.1
