-- Laws of `specs/Names.antt`. Assumes nothing.
use Prim.Native.Nat.{ℕ, suc, ◌+◌, ◌≤◌, ◌<◌}
use mathlib.Core.Path.{◌≡◌, refl, ap, ◌∙◌}
use mathlib.Core.List.{List, [], ◌∷◌}
use mathlib.Core.Bool.{Bool, true, false, cond, ◌&&◌}
use native.Mathlib.Omega.{arith}
use lib.ListN.{length, take, drop}
use lib.Dec.{eqb}
use Rattle.std.specs.List.{list_all, position_or_len}
use Rattle.std.proofs.lemmas.List.Recursion.{is_position_or_len}
use Rattle.limits.proofs.BoolLaws.{and_true}
use Rattle.limits.specs.Every.{every}
use Rattle.names.specs.Names.{good_name, first_name, later_names, parted, names_of, up_to_bad}

-- ---- every

pub every_all : (f : ℕ → Bool) (l : List ℕ) → every f l ≡ list_all f l
every_all f [] = refl
every_all f (b ∷ l) = ap (λ (t : Bool). f b && t) (every_all f l)

-- ---- first_name

pub first_within : (l : List ℕ) → length (first_name l) ≤ length l
first_within [] = omega arith
first_within (b ∷ l) = by_test (eqb b 44) (first_within l)
  where
    by_test : (t : Bool) → length (first_name l) ≤ length l → length (cond t [] (b ∷ first_name l)) ≤ length (b ∷ l)
    by_test true h = omega arith
    by_test false h = omega arith

-- its length is the place of the first comma
pub first_length : (l : List ℕ) → length (first_name l) ≡ position_or_len (λ b. eqb b 44) l
first_length l = is_position_or_len (λ x. length (first_name x)) (λ b. eqb b 44) refl step l
  where
    step : (b : ℕ) (x : List ℕ) → length (first_name (b ∷ x)) ≡ cond (eqb b 44) 0 (1 + length (first_name x))
    step b x = by_test (eqb b 44)
      where
        by_test : (t : Bool) → length (cond t [] (b ∷ first_name x)) ≡ cond t 0 (1 + length (first_name x))
        by_test true = refl
        by_test false = omega arith

pub take_first : (l : List ℕ) → take (length (first_name l)) l ≡ first_name l
take_first [] = refl
take_first (b ∷ l) = by_test (eqb b 44) (take_first l)
  where
    by_test : (t : Bool) → take (length (first_name l)) l ≡ first_name l → take (length (cond t [] (b ∷ first_name l))) (b ∷ l) ≡ cond t [] (b ∷ first_name l)
    by_test true h = refl
    by_test false h = ap (λ (x : List ℕ). b ∷ x) h

-- ---- later_names

-- behind the first comma the list goes on
pub later_some : (l : List ℕ) → length (first_name l) < length l → later_names l ≡ parted (drop (suc (length (first_name l))) l)
later_some [] h = let w : ⊥ = omega arith in absurd w
later_some (b ∷ l) h = by_test (eqb b 44) refl (later_some l) h
  where
    by_test : (t : Bool) → eqb b 44 ≡ t → (length (first_name l) < length l → later_names l ≡ parted (drop (suc (length (first_name l))) l))
        → length (cond t [] (b ∷ first_name l)) < length (b ∷ l)
        → cond t (first_name l ∷ later_names l) (later_names l) ≡ parted (drop (suc (length (cond t [] (b ∷ first_name l)))) (b ∷ l))
    by_test true e k g = refl
    by_test false e k g = k (omega arith)

-- with no comma there is no other name
pub later_none : (l : List ℕ) → length (first_name l) ≡ length l → later_names l ≡ []
later_none [] h = refl
later_none (b ∷ l) h = by_test (eqb b 44) (later_none l) h
  where
    by_test : (t : Bool) → (length (first_name l) ≡ length l → later_names l ≡ [])
        → length (cond t [] (b ∷ first_name l)) ≡ length (b ∷ l) → cond t (first_name l ∷ later_names l) (later_names l) ≡ []
    by_test true k g = let w : ⊥ = omega arith in absurd w
    by_test false k g = k (omega arith)

-- ---- names_of

pub names_some : (l : List ℕ) → 0 < length l → names_of l ≡ parted l
names_some [] h = let w : ⊥ = omega arith in absurd w
names_some (b ∷ l) h = refl

-- ---- up_to_bad

-- a list with no bad name is yielded whole
pub up_to_bad_all : (ns : List (List ℕ)) → every good_name ns ≡ true → up_to_bad ns ≡ ns
up_to_bad_all [] e = refl
up_to_bad_all (n ∷ ns) e =
    let a = and_true (good_name n) (every good_name ns) e in
    ap (λ (t : Bool). cond t (n ∷ up_to_bad ns) []) a.0 ∙ ap (λ (x : List (List ℕ)). n ∷ x) (up_to_bad_all ns a.1)
