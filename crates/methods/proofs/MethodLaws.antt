-- Laws of `specs/Rows.antt`. A rule of the table is one test, computed over all rows, and holds of every method by `rule`.
-- Assumes nothing.
use Prim.Native.Nat.{ℕ, zero, suc, ◌+◌, ◌-◌, ◌≤◌, ◌<◌, ◌*◌}
use mathlib.Core.Path.{◌≡◌, refl, sym, ap, ◌∙◌}
use mathlib.Core.List.{List, [], ◌∷◌}
use mathlib.Core.Bool.{Bool, true, false, cond, ◌&&◌}
use mathlib.Core.Logic.{◌⊎◌, inl, inr}
use native.Mathlib.Omega.{arith}
use native.Mathlib.Nat.{add-zero, add-suc, suc-add}
use lib.ListN.{length, get_or, drop}
use lib.Seq.{drop-cons}
use lib.Dec.{leb, ltb, eqb}
use borrow.Author.Tests.{eqb-true, leb-true, leb-false, ltb-true, eq-eqb, ne_eqb}
use Rattle.buffers.specs.Bytes.{same}
use Rattle.limits.proofs.BoolLaws.{and_true}
use Rattle.limits.specs.Limits.{version_most, kexinit_most, blob_most, k_size, room_least, method_last}
use Rattle.limits.specs.Every.{every}
use Rattle.sha_words.specs.Constants.{known}
use Rattle.methods.specs.Rows.{hybrid, rows, no_row, name_of, row_in, named, row_of, number_of, k_most}
use Rattle.methods.specs.Sound.{Sound}
use Rattle.methods.specs.declared.Method.{Method}

every_at : (f : Method → Bool) (rs : List Method) → every f rs ≡ true → (i : ℕ) → i < length rs → f (get_or rs i no_row) ≡ true
every_at f [] e i h = let w : ⊥ = omega arith in absurd w
every_at f (r ∷ rs) e zero h = (and_true (f r) (every f rs) e).0
every_at f (r ∷ rs) e (suc i) h = every_at f rs (and_true (f r) (every f rs) e).1 i (omega arith)

-- the rows' numbers go up by one from k
abbrev counted : ℕ → List Method → Bool
counted k [] = true
counted k (r ∷ rs) = eqb r.number k && counted (suc k) rs

counted_at : (k : ℕ) (rs : List Method) → counted k rs ≡ true → (i : ℕ) → i < length rs → (get_or rs i no_row).number ≡ k + i
counted_at k [] e i h = let w : ⊥ = omega arith in absurd w
counted_at k (r ∷ rs) e zero h = eqb-true r.number k (and_true (eqb r.number k) _ e).0 ∙ sym (add-zero k)
counted_at k (r ∷ rs) e (suc i) h =
    counted_at (suc k) rs (and_true (eqb r.number k) (counted (suc k) rs) e).1 i (omega arith) ∙ suc-add k i ∙ sym (add-suc k i)

row_in_at : (k : ℕ) (rs : List Method) → counted k rs ≡ true → (i : ℕ) → i < length rs → row_in (k + i) rs ≡ get_or rs i no_row
row_in_at k [] e i h = let w : ⊥ = omega arith in absurd w
row_in_at k (r ∷ rs) e zero h =
    let n = eqb-true r.number k (and_true (eqb r.number k) (counted (suc k) rs) e).0 in
    rw (eq-eqb (k + 0) r.number (omega arith))
row_in_at k (r ∷ rs) e (suc i) h =
    let a = and_true (eqb r.number k) (counted (suc k) rs) e in
    let n = eqb-true r.number k a.0 in
    let m : k + suc i ≡ suc k + i = omega arith in
    let t : eqb (suc k + i) r.number ≡ false = ne_eqb (suc k + i) r.number (λ q. omega arith) in
    ap (λ (j : ℕ). row_in j (r ∷ rs)) m ∙ rw t (row_in_at (suc k) rs a.1 i (omega arith))

-- ---- rows

pub length_rows : length rows ≡ method_last
unfolding rows
length_rows = refl

rows_counted : counted 1 rows ≡ true
unfolding rows
rows_counted = refl

-- ---- row_of

pub row_at : (n : ℕ) → 1 ≤ n → n ≤ method_last → row_of n ≡ get_or rows (n - 1) no_row
unfolding row_of
row_at n h k =
    let e : 1 + (n - 1) ≡ n = omega arith in
    ap (λ (m : ℕ). row_in m rows) (sym e) ∙ row_in_at 1 rows rows_counted (n - 1) (omega (arith, length_rows))

pub row_number : (n : ℕ) → 1 ≤ n → n ≤ method_last → (row_of n).number ≡ n
row_number n h k =
    let e : 1 + (n - 1) ≡ n = omega arith in
    ap (λ (r : Method). r.number) (row_at n h k) ∙ counted_at 1 rows rows_counted (n - 1) (omega (arith, length_rows)) ∙ e

-- what the test says of every row, it says of every method
pub rule : (f : Method → Bool) → every f rows ≡ true → (n : ℕ) → 1 ≤ n → n ≤ method_last → f (row_of n) ≡ true
rule f e n h k = ap f (row_at n h k) ∙ every_at f rows e (n - 1) (omega (arith, length_rows))

-- no other number has a row
pub row_none : (n : ℕ) → (n ≡ 1 → ⊥) → (n ≡ 2 → ⊥) → (n ≡ 3 → ⊥) → (n ≡ 4 → ⊥) → (n ≡ 5 → ⊥) → (n ≡ 6 → ⊥) → (n ≡ 7 → ⊥) → (n ≡ 8 → ⊥)
    → (n ≡ 9 → ⊥) → no_row ≡ row_of n
unfolding row_of rows
row_none n a b c d e f g h i =
    rw (ne_eqb n 1 a, ne_eqb n 2 b, ne_eqb n 3 c, ne_eqb n 4 d, ne_eqb n 5 e, ne_eqb n 6 f, ne_eqb n 7 g, ne_eqb n 8 h, ne_eqb n 9 i)

-- so a number is a method's, or has the empty row
pub row_known : (n : ℕ) → ((1 ≤ n) × (n ≤ method_last)) ⊎ (no_row ≡ row_of n)
row_known n = by_tests (leb 1 n) refl (leb n method_last) refl
  where
    by_tests : (a : Bool) → leb 1 n ≡ a → (b : Bool) → leb n method_last ≡ b → ((1 ≤ n) × (n ≤ method_last)) ⊎ (no_row ≡ row_of n)
    by_tests true e true f = inl (leb-true 1 n e, leb-true n method_last f)
    by_tests true e false f =
        let h : method_last < n = leb-false n method_last f in
        inr (row_none n (λ q. omega arith) (λ q. omega arith) (λ q. omega arith) (λ q. omega arith) (λ q. omega arith) (λ q. omega arith) (λ q. omega arith) (λ q. omega arith) (λ q. omega arith))
    by_tests false e b f =
        let h : n < 1 = leb-false 1 n e in
        inr (row_none n (λ q. omega arith) (λ q. omega arith) (λ q. omega arith) (λ q. omega arith) (λ q. omega arith) (λ q. omega arith) (λ q. omega arith) (λ q. omega arith) (λ q. omega arith))

is_eq : (a b : Bool) → cond a b (cond b false true) ≡ true → a ≡ b
is_eq true true e = refl
is_eq true false e = sym e
is_eq false true e = e
is_eq false false e = refl

pub sound : (n : ℕ) → 1 ≤ n → n ≤ method_last → Sound (row_of n)
unfolding rows
sound n h k = record {
  name_least = leb-true _ _ (rule (λ r. leb 1 r.name_len) refl n h k);
  name_fits = leb-true _ _ (rule (λ r. leb r.name_len (length r.name)) refl n h k);
  c_least = leb-true _ _ (rule (λ r. leb 1 r.c.len) refl n h k);
  c_most = leb-true _ _ (rule (λ r. leb r.c.len 1665) refl n h k);
  c_classical = ltb-true _ _ (rule (λ r. ltb r.c.classical r.c.len) refl n h k);
  s_least = leb-true _ _ (rule (λ r. leb 1 r.s.len) refl n h k);
  s_most = leb-true _ _ (rule (λ r. leb r.s.len 1665) refl n h k);
  s_classical = ltb-true _ _ (rule (λ r. ltb r.s.classical r.s.len) refl n h k);
  x_least = leb-true _ _ (rule (λ r. leb 1 r.x_len) refl n h k);
  x_most = leb-true _ _ (rule (λ r. leb r.x_len 66) refl n h k);
  digest_least = leb-true _ _ (rule (λ r. leb 32 r.digest_len) refl n h k);
  digest_most = leb-true _ _ (rule (λ r. leb r.digest_len 64) refl n h k);
  digest_kind = rule (λ r. known r.digest_len) refl n h k;
  k_most_is = leb-true _ _ (rule (λ r. leb (4 + k_most r) k_size) refl n h k);
  all_most = leb-true _ _ (rule (λ r. leb (32 + 2 * version_most + 2 * kexinit_most + blob_most + r.c.len + r.s.len + k_most r) room_least) refl n h k);
  c_point = is_eq _ _ (rule (λ r. cond r.c.point (leb 4 r.number && leb r.number 8) (cond (leb 4 r.number && leb r.number 8) false true)) refl n h k);
  s_point = is_eq _ _ (rule (λ r. cond r.s.point r.c.point (cond r.c.point false true)) refl n h k);
  c_parts = eqb-true _ _ (rule (λ r. eqb r.c.len (r.c.classical + cond r.c.point (1 + 2 * r.x_len) r.x_len)) refl n h k);
  s_parts = eqb-true _ _ (rule (λ r. eqb r.s.len (r.s.classical + cond r.s.point (1 + 2 * r.x_len) r.x_len)) refl n h k);
  k_hybrid = is_eq _ _ (rule (λ r. cond (hybrid r.k_form) (leb 7 r.number) (cond (leb 7 r.number) false true)) refl n h k);
}

-- ---- number_of

-- each method is found again by its name: no two names are the same
pub number_name : (n : ℕ) → 1 ≤ n → n ≤ method_last → number_of (name_of (row_of n)) ≡ n
unfolding rows number_of
number_name n h k = eqb-true _ _ (rule (λ r. eqb (named (name_of r) rows) r.number) refl n h k) ∙ row_number n h k

-- the rows from a method's on: its own name, or one of those after it
pub named_at : (name : List ℕ) (n : ℕ) → 1 ≤ n → n ≤ method_last
    → named name (drop (n - 1) rows) ≡ cond (same name (name_of (row_of n))) n (named name (drop (n + 1 - 1) rows))
named_at name n h k =
    let l : n - 1 < length rows = omega (arith, length_rows) in
    let e : suc (n - 1) ≡ n + 1 - 1 = omega arith in
    let r = sym (row_at n h k) in
    ap (named name) (drop-cons rows (n - 1) no_row l)
    ∙ (λ i. cond (same name (name_of (r i))) (r i).number (named name (drop (e i) rows)))
    ∙ ap (λ (m : ℕ). cond (same name (name_of (row_of n))) m (named name (drop (n + 1 - 1) rows))) (row_number n h k)

-- behind the last row is none
pub named_end : (name : List ℕ) (n : ℕ) → n ≡ 10 → 0 ≡ named name (drop (n - 1) rows)
unfolding rows
named_end name n e = rw e
