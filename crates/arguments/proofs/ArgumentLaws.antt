-- A host's numbers: a wide number is judged as it came; what a strange KEM outcome meets. Assumes nothing.
use Prim.Native.Nat.{ℕ, ◌<◌}
use mathlib.Core.Path.{◌≡◌, refl, sym, ap, ◌∙◌}
use mathlib.Core.List.{List}
use mathlib.Core.Bool.{Bool, true, false, cond, not, ◌&&◌}
use native.Mathlib.Omega.{arith}
use lib.ListN.{length}
use lib.Dec.{leb, eqb}
use borrow.Author.Tests.{ne_eqb, leb-false}
use Rattle.wire.specs.Causes.{cause_unless}
use Rattle.wire.proofs.CauseLaws.{unless_fails}
use Rattle.limits.proofs.BoolLaws.{and_false}
use Rattle.limits.proofs.RangeLaws.{within_high}
use Rattle.methods.specs.Rows.{hybrid, row_of, rows, no_row}
use Rattle.methods.specs.declared.KForm.{KForm}
use Rattle.methods.specs.declared.KForm.TheVariants.{Mpint, Digest}
use Rattle.exchange.specs.Causes.{method_ok, role_ok, start_cause, again_cause, present, kem_ok, rest_ok, x_ok, secret_cause}
use Rattle.exchange.specs.Record.{no_session, ended, completed}
use Rattle.exchange.specs.Steps.{started, started_room}
use Rattle.exchange.specs.Again.{again_number}
use Rattle.exchange.specs.declared.Exchange.{Exchange}
use Rattle.exchange.specs.declared.Classical.{Classical}
use Rattle.exchange.specs.declared.Step.{Step}
use Rattle.arguments.specs.Arguments.{byte_of, wrong_by, kem_of}

-- ---- a number that is no KEM outcome is 4, in its place

form_wrong : (f : KForm) → cond (hybrid f) (present (wrong_by f)) (not (present (wrong_by f))) ≡ false
form_wrong Mpint = refl
form_wrong Digest = refl

-- it is not the method's presence
pub kem_wrong : (m n : ℕ) → 2 < n → kem_ok (row_of m) (kem_of m n) ≡ false
unfolding kem_of
kem_wrong m n h =
    rw (ne_eqb n 0 (λ (e : n ≡ 0). omega arith), ne_eqb n 1 (λ (e : n ≡ 1). omega arith), ne_eqb n 2 (λ (e : n ≡ 2). omega arith))
    (form_wrong (row_of m).k_form)

-- so that the secret's cause is 4 with it
pub kem_four : (role m n : ℕ) (cl : Classical) (x k_pq ks s : List ℕ) → 2 < n → secret_cause role m cl x (kem_of m n) k_pq ks s ≡ 4
unfolding secret_cause rest_ok
kem_four role m n cl x k_pq ks s h = unless_fails _ 4 _ (second (x_ok (row_of m) cl x) (kem_ok (row_of m) (kem_of m n)) _ _ (kem_wrong m n h))
  where
    second : (a b c d : Bool) → b ≡ false → a && (b && c && d) ≡ false
    second true b c d e = rw e
    second false b c d e = refl

-- ---- a role or a method that is no byte is refused as the byte 0 is

abbrev refusal : Step
refusal = record { number = 2; count = 0; second = 0; exchange = ended 2 0 0 no_session; position = 0 }

module _ (vc vs ic is : List ℕ) where
  strange : (role m : ℕ) (room : ℕ) → method_ok m && role_ok role ≡ false → started role m vc vs ic is room ≡ refusal
  unfolding started start_cause cause_unless
  strange role m room h = rw h

  strange_room : (role m : ℕ) (room : List ℕ) → method_ok m && role_ok role ≡ false → started_room role m vc vs ic is room ≡ room
  unfolding started_room start_cause cause_unless
  strange_room role m room h = rw h

  high_method : (role m : ℕ) → 255 < m → (method_ok m && role_ok role ≡ false) × (method_ok 0 && role_ok role ≡ false)
  unfolding method_ok
  high_method role m h = (rw (within_high 1 9 m (omega arith)), refl)

  high_role : (role m : ℕ) → 255 < role → (method_ok m && role_ok role ≡ false) × (method_ok m && role_ok 0 ≡ false)
  unfolding role_ok
  high_role role m h = (rw (within_high 1 2 role (omega arith)) (and_false (method_ok m)), and_false (method_ok m))

  -- so the start judges both as they came
  pub start_wide : (role m : ℕ) (room : List ℕ)
      → (started (byte_of role) (byte_of m) vc vs ic is (length room) ≡ started role m vc vs ic is (length room))
      × (started_room (byte_of role) (byte_of m) vc vs ic is room ≡ started_room role m vc vs ic is room)
  unfolding byte_of
  start_wide role m room = by_tests (leb m 255) refl (leb role 255) refl
    where
      by_tests : (a : Bool) → leb m 255 ≡ a → (b : Bool) → leb role 255 ≡ b
          → (started (cond b role 0) (cond a m 0) vc vs ic is (length room) ≡ started role m vc vs ic is (length room))
          × (started_room (cond b role 0) (cond a m 0) vc vs ic is room ≡ started_room role m vc vs ic is room)
      by_tests true e true f = (refl, refl)
      by_tests true e false f =
          let h = high_role role m (leb-false role 255 f) in
          (strange 0 m (length room) h.1 ∙ sym (strange role m (length room) h.0), strange_room 0 m room h.1 ∙ sym (strange_room role m room h.0))
      by_tests false e b f =
          let h = high_method role m (leb-false m 255 e) in
          let g = high_method (cond b role 0) m (leb-false m 255 e) in
          (strange (cond b role 0) 0 (length room) g.1 ∙ sym (strange role m (length room) h.0), strange_room (cond b role 0) 0 room g.1 ∙ sym (strange_room role m room h.0))

-- and so does a beginning
module _ (e : Exchange) (room m : ℕ) (ic is : List ℕ) where
  again_strange : (n : ℕ) → method_ok n ≡ false → (again_number e room n ic is ≡ cause_unless (completed e) 1 2) × (eqb (again_number e room n ic is) 0 ≡ false)
  unfolding again_number again_cause cause_unless
  again_strange n h =
      let k = ap (cause_unless (completed e) 1) (unless_fails (method_ok n) 2 _ h) in
      (k, ap (λ (x : ℕ). eqb x 0) k ∙ by_test (completed e))
    where
      by_test : (t : Bool) → eqb (cause_unless t 1 2) 0 ≡ false
      by_test true = refl
      by_test false = refl

  high_again : 255 < m → method_ok m ≡ false
  unfolding method_ok
  high_again h = within_high 1 9 m (omega arith)

  none_again : method_ok 0 ≡ false
  unfolding method_ok
  none_again = refl

  -- in its number and in whatever goes by it
  pub again_wide : {A : Type 0} (F : ℕ → A) (y : A) → (again_number e room (byte_of m) ic is ≡ again_number e room m ic is)
      × (cond (eqb (again_number e room (byte_of m) ic is) 0) (F (byte_of m)) y ≡ cond (eqb (again_number e room m ic is) 0) (F m) y)
  unfolding byte_of
  again_wide F y = by_test (leb m 255) refl
    where
      by_test : (t : Bool) → leb m 255 ≡ t → (again_number e room (cond t m 0) ic is ≡ again_number e room m ic is)
          × (cond (eqb (again_number e room (cond t m 0) ic is) 0) (F (cond t m 0)) y ≡ cond (eqb (again_number e room m ic is) 0) (F m) y)
      by_test true w = (refl, refl)
      by_test false w =
          let a = again_strange 0 none_again in
          let b = again_strange m (high_again (leb-false m 255 w)) in
          (a.0 ∙ sym b.0, ap (λ (u : Bool). cond u (F 0) y) a.1 ∙ sym (ap (λ (u : Bool). cond u (F m) y) b.1))

-- and a lookup finds no method in a number that is no byte
high_row : (m : ℕ) → 255 < m → row_of m ≡ no_row
unfolding row_of rows
high_row m h =
    rw (
      ne_eqb m 1 (λ (e : m ≡ 1). omega arith),
      ne_eqb m 2 (λ (e : m ≡ 2). omega arith),
      ne_eqb m 3 (λ (e : m ≡ 3). omega arith),
      ne_eqb m 4 (λ (e : m ≡ 4). omega arith),
      ne_eqb m 5 (λ (e : m ≡ 5). omega arith),
      ne_eqb m 6 (λ (e : m ≡ 6). omega arith),
      ne_eqb m 7 (λ (e : m ≡ 7). omega arith),
      ne_eqb m 8 (λ (e : m ≡ 8). omega arith),
      ne_eqb m 9 (λ (e : m ≡ 9). omega arith),
    )

pub row_wide : (m : ℕ) → row_of (byte_of m) ≡ row_of m
unfolding byte_of row_of rows
row_wide m = by_test (leb m 255) refl
  where
    by_test : (t : Bool) → leb m 255 ≡ t → row_of (cond t m 0) ≡ row_of m
    by_test true e = refl
    by_test false e = sym (high_row m (leb-false m 255 e))
