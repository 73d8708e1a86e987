-- What a step owes at its returns and knows where it is accepted. Assumes nothing.
use Prim.Native.Nat.{ℕ, ◌+◌, ◌≤◌}
use mathlib.Core.Path.{◌≡◌, refl, sym, ap, ◌∙◌}
use mathlib.Core.List.{List}
use mathlib.Core.Bool.{Bool, true, false, cond, ◌&&◌, ◌||◌}
use native.Mathlib.Omega.{arith}
use lib.ListN.{length}
use lib.Dec.{eqb, ltb}
use borrow.Author.Tests.{eqb-true, ltb-false}
use Rattle.limits.specs.Limits.{version_most, kexinit_most, blob_most, h_size, room_least}
use Rattle.limits.proofs.BoolLaws.{and_true}
use Rattle.limits.proofs.RangeLaws.{within_most}
use Rattle.buffers.specs.Bytes.{zeros, onto}
use Rattle.wire.proofs.CauseLaws.{if_none, unless_none}
use Rattle.methods.specs.Rows.{k_most}
use Rattle.methods.specs.Form.{length_fits}
use Rattle.methods.specs.declared.Method.{Method}
use Rattle.methods.specs.Sound.{Sound}
use Rattle.methods.proofs.FormLaws.{length_most_lem}
use Rattle.messages.specs.Messages.{init_layout, reply_layout}
use Rattle.messages.proofs.PositionLaws.{position_none}
use Rattle.transcript.specs.Fields.{field_length, field_size}
use Rattle.transcript.proofs.RoomLaws.{field_length_most}
use Rattle.transcript.proofs.FieldLaws.{field_size_fits, size_sum_fits}
use Rattle.exchange.specs.Causes.{blob_ok, init_cause, reply_cause}
use Rattle.exchange.specs.Numbers.{kind, by_kind}
use Rattle.exchange.specs.Record.{ended, client_next, server_next, next_step, has_c, has_s, c_fits, s_fits, due}
use Rattle.exchange.specs.Steps.{Call, own_c, init, reply, secret, sign, verdict, step_no, fed_cause, step_number, number, head_end, fields_end, head_size, fields_size, filled, taken, count_of, second_of, exchange_after, room_after, position_of, answered, handed_h, output_after, refused_step, refused_room}
use Rattle.exchange.specs.declared.Stage.{Stage}
use Rattle.exchange.specs.declared.Stage.TheVariants.{Started, CSent, InitRead, ReplyRead, SecretDone, Complete, Failed}
use Rattle.exchange.specs.declared.Lengths.{Lengths}
use Rattle.exchange.specs.declared.Exchange.{Exchange}
use Rattle.exchange.specs.declared.Step.{Step}
use Rattle.exchange.proofs.DueLaws.{Fitting, Due, due_known}
use Rattle.exchange.proofs.KindLaws.{kind_other, kind_same}

-- ---- by its number

-- an answer of any number but 12 and 13 has no position
pub position_other : (n : ℕ) (q : Call) → eqb n 12 || eqb n 13 ≡ false → 0 ≡ position_of n q
unfolding position_of
position_other n (own_c c out) h = refl
position_other n (init p) h = position_none init_layout p n h
position_other n (reply p) h = position_none reply_layout p n h
position_other n (secret cl x kem k_pq ks s) h = refl
position_other n (sign g out k_out) h = refl
position_other n (verdict a b k_out) h = refl

module _ (e : Exchange) (room : List ℕ) (q : Call) where
  -- a refused step's answer and room: by its number alone, but for the position
  pub step_refused : (n : ℕ) → n ≡ number e room q → (n ≡ 0 → ⊥) → (refused_step n (position_of n q) e ≡ answered e room q) × (refused_room n room ≡ room_after e room q)
  unfolding answered exchange_after room_after
  step_refused n m h =
      let z : number e room q ≡ 0 → ⊥ = λ y. h (m ∙ y) in
      let c = kind_same (number e room q) (count_of e room q) 0 z in
      let d = kind_same (number e room q) (second_of e q) 0 z in
      let x : by_kind (kind n) e e (ended n e.role e.method e.session) ≡ by_kind (kind (number e room q)) (taken e room q) e (ended (number e room q) e.role e.method e.session) =
      (λ i. by_kind (kind (m i)) e e (ended (m i) e.role e.method e.session))
      ∙ kind_other (number e room q) e (taken e room q) e (ended (number e room q) e.role e.method e.session) z in (
        (λ i. record { number = m i; count = sym c i; second = sym d i; exchange = x i; position = position_of (m i) q }),
        (λ i. by_kind (kind (m i)) room room (zeros (length room))) ∙ kind_other (number e room q) room (filled e room q) room (zeros (length room)) z,
      )

  -- an accepted step's
  pub step_accepted : number e room q ≡ 0
      → (◌≡◌ {A = Step} (record { number = 0; count = count_of e room q; second = second_of e q; exchange = taken e room q; position = 0 }) (answered e room q))
      × (filled e room q ≡ room_after e room q)
  unfolding answered exchange_after room_after kind
  step_accepted z =
      (rw z (λ i. record { number = 0; count = count_of e room q; second = second_of e q; exchange = taken e room q; position = position_other 0 q refl i }), rw z)

  -- H: zeros on a refusal, else that of the exchange
  pub handed_refused : ¬ (number e room q ≡ 0) → zeros h_size ≡ handed_h e room q
  unfolding handed_h
  handed_refused h = sym (kind_same (number e room q) _ (zeros h_size) h)

  pub handed_accepted : number e room q ≡ 0
      → (taken e room q).h ≡ handed_h e room q
  unfolding handed_h kind
  handed_accepted z = rw z

  -- what it knows: its step is due, the room is long enough, and nothing is wrong with what it was fed
  pub step_known : number e room q ≡ 0 → Due (step_no q) e × (room_least ≤ length room) × (fed_cause e.role e.method q ≡ 0)
  unfolding number step_number
  step_known z =
      let a = unless_none (due (step_no q) e) 1 _ (omega arith) z in
      let b = if_none (ltb (length room) room_least) 3 _ (omega arith) a.1 in
      (due_known (step_no q) e a.0, ltb-false (length room) room_least b.0, b.1)

pub output_refused : (n : ℕ) (out b : List ℕ) → (n ≡ 0 → ⊥) → out ≡ output_after n out b
unfolding output_after
output_refused n out b h = sym (kind_same n (onto out b) out h)

pub output_accepted : (n : ℕ) (out b : List ℕ) → n ≡ 0 → onto out b ≡ output_after n out b
unfolding output_after kind
output_accepted n out b h = rw h

-- ---- the number that the code judges is the call's

module _ (e : Exchange) (room p : List ℕ) (n fed : ℕ) where
  pub init_number : n ≡ step_number 2 e (length room) fed → fed ≡ init_cause e.method p → n ≡ number e room (init p)
  unfolding number fed_cause
  init_number a b = a ∙ ap (step_number 2 e (length room)) b

  pub reply_number : n ≡ step_number 3 e (length room) fed → fed ≡ reply_cause e.method p → n ≡ number e room (reply p)
  unfolding number fed_cause
  reply_number a b = a ∙ ap (step_number 3 e (length room)) b

-- ---- where a step is next

-- own C comes first to a client
pub next_1 : (role : ℕ) (stage : Stage) → next_step role stage ≡ 1 → (role ≡ 1) × (stage ≡ Started)
next_1 role stage e = by_test (eqb role 1) refl (eqb role 2) refl stage e
  where
    by_test : (t : Bool) → eqb role 1 ≡ t → (u : Bool) → eqb role 2 ≡ u → (stage : Stage) → cond t (client_next stage) (cond u (server_next stage) 0) ≡ 1 → (role ≡ 1) × (stage ≡ Started)
    by_test true p u q Started h = (eqb-true role 1 p, refl)
    by_test true p u q CSent h = let w : ⊥ = omega arith in absurd w
    by_test true p u q InitRead h = let w : ⊥ = omega arith in absurd w
    by_test true p u q ReplyRead h = let w : ⊥ = omega arith in absurd w
    by_test true p u q SecretDone h = let w : ⊥ = omega arith in absurd w
    by_test true p u q Complete h = let w : ⊥ = omega arith in absurd w
    by_test true p u q (Failed n) h = let w : ⊥ = omega arith in absurd w
    by_test false p true q Started h = let w : ⊥ = omega arith in absurd w
    by_test false p true q CSent h = let w : ⊥ = omega arith in absurd w
    by_test false p true q InitRead h = let w : ⊥ = omega arith in absurd w
    by_test false p true q ReplyRead h = let w : ⊥ = omega arith in absurd w
    by_test false p true q SecretDone h = let w : ⊥ = omega arith in absurd w
    by_test false p true q Complete h = let w : ⊥ = omega arith in absurd w
    by_test false p true q (Failed n) h = let w : ⊥ = omega arith in absurd w
    by_test false p false q stage h = let w : ⊥ = omega arith in absurd w

-- INIT comes first to a server
pub next_2 : (role : ℕ) (stage : Stage) → next_step role stage ≡ 2 → (role ≡ 2) × (stage ≡ Started)
next_2 role stage e = by_test (eqb role 1) refl (eqb role 2) refl stage e
  where
    by_test : (t : Bool) → eqb role 1 ≡ t → (u : Bool) → eqb role 2 ≡ u → (stage : Stage) → cond t (client_next stage) (cond u (server_next stage) 0) ≡ 2 → (role ≡ 2) × (stage ≡ Started)
    by_test true p u q Started h = let w : ⊥ = omega arith in absurd w
    by_test true p u q CSent h = let w : ⊥ = omega arith in absurd w
    by_test true p u q InitRead h = let w : ⊥ = omega arith in absurd w
    by_test true p u q ReplyRead h = let w : ⊥ = omega arith in absurd w
    by_test true p u q SecretDone h = let w : ⊥ = omega arith in absurd w
    by_test true p u q Complete h = let w : ⊥ = omega arith in absurd w
    by_test true p u q (Failed n) h = let w : ⊥ = omega arith in absurd w
    by_test false p true q Started h = (eqb-true role 2 q, refl)
    by_test false p true q CSent h = let w : ⊥ = omega arith in absurd w
    by_test false p true q InitRead h = let w : ⊥ = omega arith in absurd w
    by_test false p true q ReplyRead h = let w : ⊥ = omega arith in absurd w
    by_test false p true q SecretDone h = let w : ⊥ = omega arith in absurd w
    by_test false p true q Complete h = let w : ⊥ = omega arith in absurd w
    by_test false p true q (Failed n) h = let w : ⊥ = omega arith in absurd w
    by_test false p false q stage h = let w : ⊥ = omega arith in absurd w

-- ---- bounds of the recorded lengths

pub record Bounded (r : Method) (l : Lengths) : Type 0 where
  pub vc : l.vc ≤ version_most
  pub vs : l.vs ≤ version_most
  pub ic : l.ic ≤ kexinit_most
  pub is : l.is ≤ kexinit_most
  pub ks : l.ks ≤ blob_most
  pub c : l.c ≤ r.c.len
  pub s : l.s ≤ r.s.len

-- C by its stage
c_bound : (r : Method) (stage : Stage) (l : Lengths) → c_fits r stage l ≡ true → l.c ≤ r.c.len
unfolding c_fits
c_bound r stage l e = by_test (has_c stage) e
  where
    by_test : (t : Bool) → cond t (length_fits r.c l.c) (eqb l.c 0) ≡ true → l.c ≤ r.c.len
    by_test true h = length_most_lem r.c l.c h
    by_test false h = let z = eqb-true l.c 0 h in omega arith

s_bound : (r : Method) (stage : Stage) (l : Lengths) → s_fits r stage l ≡ true → (l.ks ≤ blob_most) × (l.s ≤ r.s.len)
unfolding s_fits
s_bound r stage l e = by_test (has_s stage) e
  where
    by_test : (t : Bool) → cond t (blob_ok l.ks && length_fits r.s l.s) (eqb l.ks 0 && eqb l.s 0) ≡ true → (l.ks ≤ blob_most) × (l.s ≤ r.s.len)
    by_test true h = let a = and_true (blob_ok l.ks) (length_fits r.s l.s) h in (within_most 1 blob_most l.ks a.0, length_most_lem r.s l.s a.1)
    by_test false h =
        let a = and_true (eqb l.ks 0) (eqb l.s 0) h in
        let y = eqb-true l.ks 0 a.0 in
        let z = eqb-true l.s 0 a.1 in
        (omega arith, omega arith)

pub bounded : (r : Method) (stage : Stage) (l : Lengths) → Fitting r stage l → Bounded r l
bounded r stage l f =
    let s = s_bound r stage l f.s in
    record {
      vc = within_most 1 version_most l.vc f.vc;
      vs = within_most 1 version_most l.vs f.vs;
      ic = within_most 1 kexinit_most l.ic f.ic;
      is = within_most 1 kexinit_most l.is f.is;
      ks = s.0;
      c = c_bound r stage l f.c;
      s = s.1;
    }

-- bounds under which the code's sums are the plain ones
pub record Small (l : Lengths) : Type 0 where
  pub vc : l.vc ≤ kexinit_most
  pub vs : l.vs ≤ kexinit_most
  pub ic : l.ic ≤ kexinit_most
  pub is : l.is ≤ kexinit_most
  pub ks : l.ks ≤ kexinit_most
  pub c : l.c ≤ kexinit_most
  pub s : l.s ≤ kexinit_most

-- no sum of them wraps
pub small : (r : Method) (l : Lengths) → Sound r → Bounded r l → Small l
small r l row b =
    let c = row.c_most in
    let s = row.s_most in
    record {
      vc = omega (arith, b.vc);
      vs = omega (arith, b.vs);
      ic = b.ic;
      is = b.is;
      ks = omega (arith, b.ks);
      c = omega (arith, b.c);
      s = omega (arith, b.s);
    }

-- both V and both I: 2 times 257 and 2 times 4,100
pub head_most : (r : Method) (l : Lengths) → Bounded r l → head_end l ≤ 8714
head_most r l b =
    omega (arith, b.vc, b.vs, b.ic, b.is, field_length_most l.vc, field_length_most l.vs, field_length_most l.ic, field_length_most l.is)

-- all of the room: with K_S, C, S and K there are 14,156 bytes at most
pub all_most : (r : Method) (l : Lengths) → Sound r → Bounded r l → (k : ℕ) → k ≤ 4 + k_most r → fields_end l + k ≤ room_least
all_most r l row b k h =
    omega (arith, head_most r l b, b.ks, b.c, b.s, row.all_most, field_length_most l.ks, field_length_most l.c, field_length_most l.s)

-- ---- lengths by the stage

pub started_lengths : (r : Method) (l : Lengths) → Fitting r Started l → (l.c ≡ 0) × (l.ks ≡ 0) × (l.s ≡ 0)
unfolding c_fits s_fits
started_lengths r l f =
    let a = and_true (eqb l.ks 0) (eqb l.s 0) f.s in
    (eqb-true l.c 0 f.c, eqb-true l.ks 0 a.0, eqb-true l.s 0 a.1)

-- ---- sums as the code counts them

pub size_fits : (n : ℕ) → n ≤ kexinit_most → field_size n ≡ field_length n
size_fits n h = field_size_fits n (omega arith)

module _ (l : Lengths) (b : Small l) where
  pub head_bound : head_end l ≤ 16400
  head_bound =
      omega (arith, b.vc, b.vs, b.ic, b.is, field_length_most l.vc, field_length_most l.vs, field_length_most l.ic, field_length_most l.is)

  pub fields_bound : fields_end l ≤ 28700
  fields_bound = omega (arith, head_bound, b.ks, b.c, b.s, field_length_most l.ks, field_length_most l.c, field_length_most l.s)

  pub head_fits : head_size l ≡ head_end l
  unfolding head_size
  head_fits =
      let h = head_bound in
      rw (size_fits l.vc b.vc, size_fits l.vs b.vs, size_fits l.ic b.ic, size_fits l.is b.is)
      (rw (size_sum_fits (field_length l.vc) (field_length l.vs) (omega arith))
      (rw (size_sum_fits (field_length l.vc + field_length l.vs) (field_length l.ic) (omega arith))
      (size_sum_fits (field_length l.vc + field_length l.vs + field_length l.ic) (field_length l.is) (omega arith))))

  pub fields_fits : fields_size l ≡ fields_end l
  unfolding fields_size
  fields_fits =
      let h = fields_bound in
      rw (head_fits, size_fits l.ks b.ks, size_fits l.c b.c, size_fits l.s b.s)
      (rw (size_sum_fits (head_end l) (field_length l.ks) (omega arith))
      (rw (size_sum_fits (head_end l + field_length l.ks) (field_length l.c) (omega arith))
      (size_sum_fits (head_end l + field_length l.ks + field_length l.c) (field_length l.s) (omega arith))))
