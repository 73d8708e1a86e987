-- Ten lists laid one behind another: one turn of the loop, and what they take together. Assumes nothing.
use Prim.Native.Nat.{ℕ, zero, suc, ◌+◌, ◌-◌, ◌*◌, ◌≤◌, ◌<◌}
use mathlib.Core.Path.{◌≡◌, refl, sym, ap, ◌∙◌}
use mathlib.Core.List.{List, [], ◌∷◌}
use mathlib.Core.Bool.{Bool, true, false, cond}
use native.Mathlib.Omega.{arith}
use lib.ListN.{length, get_or, length-take, length-drop}
use lib.Dec.{leb}
use borrow.Author.Tests.{leb-true}
use Rattle.limits.specs.Limits.{list_count}
use Rattle.limits.specs.Every.{every}
use Rattle.limits.proofs.BoolLaws.{and_true, both}
use Rattle.buffers.specs.Bytes.{over, laid}
use Rattle.buffers.proofs.ByteLaws.{laid_nil, laid_laid}
use Rattle.wire.specs.Strings.{string, strings}
use Rattle.wire.proofs.StringLaws.{length_string}
use Rattle.wire.proofs.StringsLaws.{length_strings}
use Rattle.names.specs.Names.{good_list}
use Rattle.lists.specs.Lists.{stands, list_at, lists_at, good_at, bad_at, first_bad}

-- ---- one turn

-- the lists from number i on, as they are written
abbrev pub left : List ℕ → List ℕ → ℕ → ℕ → List ℕ
left s ends from i = strings (lists_at s ends from i (list_count - i))

module _ (s ends : List ℕ) (from i : ℕ) where
  left_step : i < list_count → left s ends from i ≡ strings (list_at s from (get_or ends i 0) ∷ lists_at s ends (get_or ends i 0) (i + 1) (list_count - (i + 1)))
  left_step h =
      let e : list_count - i ≡ suc (list_count - (i + 1)) = omega arith in
      ap (λ (n : ℕ). strings (lists_at s ends from i n)) e

  pub left_length : (b : List ℕ) → i < list_count → b ≡ list_at s from (get_or ends i 0)
      → length (left s ends from i) ≡ 4 + length b + length (left s ends (get_or ends i 0) (i + 1))
  left_length b h e =
      ap length (left_step h)
      ∙ length_strings (list_at s from (get_or ends i 0)) (lists_at s ends (get_or ends i 0) (i + 1) (list_count - (i + 1)))
      ∙ ap (λ (x : List ℕ). 4 + length x + length (left s ends (get_or ends i 0) (i + 1))) (sym e)

  pub left_laid : (b d o : List ℕ) (at : ℕ) → i < list_count → b ≡ list_at s from (get_or ends i 0) → o ≡ laid d at (string b) → at + length (left s ends from i) ≤ length d
      → laid o (at + 4 + length b) (left s ends (get_or ends i 0) (i + 1)) ≡ laid d at (left s ends from i)
  left_laid b d o at h e q f =
      let r : List ℕ = left s ends (get_or ends i 0) (i + 1) in
      let p : left s ends from i ≡ strings (b ∷ lists_at s ends (get_or ends i 0) (i + 1) (list_count - (i + 1))) =
      left_step h ∙ ap (λ (x : List ℕ). strings (x ∷ lists_at s ends (get_or ends i 0) (i + 1) (list_count - (i + 1)))) (sym e) in
      let n : at + 4 + length b ≡ at + length (string b) = omega (arith, length_string b) in
      (λ j. laid (q j) (n j) r) ∙ laid_laid d at (string b) r (omega (arith, ap length p)) ∙ ap (laid d at) (sym p)

  pub left_none : list_count ≤ i → left s ends from i ≡ []
  left_none h = let e : list_count - i ≡ 0 = omega arith in ap (λ (n : ℕ). strings (lists_at s ends from i n)) e

-- nothing is left
pub left_done : (l : List ℕ) (at : ℕ) (b : List ℕ) → length b ≡ 0 → at ≤ length l → laid l at b ≡ l
unfolding over
left_done l at [] e h = laid_nil l at
left_done l at (x ∷ b) e h = let w : ⊥ = omega arith in absurd w

-- ---- what good lists take

-- where the last of n lists ends
abbrev end : List ℕ → ℕ → ℕ → ℕ → ℕ
end ends at i zero = at
end ends at i (suc n) = end ends (get_or ends i 0) (i + 1) n

list_length : (s : List ℕ) (from to : ℕ) → stands s from to ≡ true → from + length (list_at s from to) ≡ to
unfolding list_at
list_length s from to e =
    let q = and_true (leb from to) (leb to (length s)) e in
    let a = leb-true from to q.0 in
    let b = leb-true to (length s) q.1 in
    rw e (simp (length-take, length-drop) (omega arith))

good_list_lem : (s : List ℕ) (from to : ℕ) → good_at s from to ≡ true → (good_list (list_at s from to) ≡ true) × (from + length (list_at s from to) ≡ to)
unfolding good_at
good_list_lem s from to h =
    let p = and_true (stands s from to) (good_list (list_at s from to)) h in
    (p.1, list_length s from to p.0)

lists_good : (s ends : List ℕ) (at i n : ℕ) → bad_at s ends at i n ≡ 0
    → (every good_list (lists_at s ends at i n) ≡ true) × (at + length (strings (lists_at s ends at i n)) ≡ 4 * n + end ends at i n)
unfolding bad_at
lists_good s ends at i zero h = (refl, omega arith)
lists_good s ends at i (suc n) h = by_test (good_at s at (get_or ends i 0)) refl h (lists_good s ends (get_or ends i 0) (i + 1) n)
  where
    to : ℕ
    to = get_or ends i 0

    by_test : (t : Bool) → good_at s at to ≡ t → cond t (bad_at s ends to (i + 1) n) (i + 1) ≡ 0
        → (bad_at s ends to (i + 1) n ≡ 0
        → (every good_list (lists_at s ends to (i + 1) n) ≡ true) × (to + length (strings (lists_at s ends to (i + 1) n)) ≡ 4 * n + end ends to (i + 1) n))
        → (every good_list (lists_at s ends at i (suc n)) ≡ true) × (at + length (strings (lists_at s ends at i (suc n))) ≡ 4 * suc n + end ends to (i + 1) n)
    by_test true g e k =
        let r = k e in
        let l = good_list_lem s at to g in
        let m = length_strings (list_at s at to) (lists_at s ends to (i + 1) n) in
        (both l.0 r.0, omega arith)
    by_test false g e k = let w : ⊥ = omega arith in absurd w

module _ (s ends : List ℕ) (f : first_bad s ends ≡ 0) where
  pub all_good : every good_list (lists_at s ends 0 0 list_count) ≡ true
  all_good = (lists_good s ends 0 0 list_count f).0

  pub all_length : length (strings (lists_at s ends 0 0 list_count)) ≡ 40 + get_or ends 9 0
  all_length = let e = (lists_good s ends 0 0 list_count f).1 in omega arith
