-- Laws of `walk`: what is known of the strings that it passed over. Assumes nothing.
use Prim.Native.Nat.{ℕ, zero, suc, ◌+◌, ◌≤◌, ◌<◌}
use mathlib.Core.Path.{◌≡◌, refl, ap, ◌∙◌}
use mathlib.Core.List.{List}
use mathlib.Core.Bool.{Bool, true, false, cond}
use native.Mathlib.Omega.{arith}
use lib.ListN.{length, drop, length-drop}
use Rattle.wire.specs.Parts.{nothing}
use Rattle.wire.specs.Strings.{Walk, number32, whole, field_at, walk, string_part}
use Rattle.wire.proofs.StringLaws.{whole_within}

-- the place behind a whole string lies within the list
pub whole_behind : (s : List ℕ) (at : ℕ) → whole (drop at s) ≡ true → at + 4 + number32 (drop at s) ≤ length s
whole_behind s at w = let k = whole_within (drop at s) w in omega (arith, length-drop at s)

-- the place of a whole string
pub field_whole : (s : List ℕ) (at : ℕ) → whole (drop at s) ≡ true
    → field_at s at ≡ record { number = 0; start = at + 4; len = number32 (drop at s) }
unfolding field_at
field_whole s at w = rw w

-- a walk that begins within the list stays there
pub walk_within : (s : List ℕ) (at k : ℕ) → at ≤ length s → (walk s at k).place ≤ length s
walk_within s at zero h = h
walk_within s at (suc k) h =
    by_test (whole (drop at s)) refl (λ (w : whole (drop at s) ≡ true). walk_within s (at + 4 + number32 (drop at s)) k (whole_behind s at w))
  where
    by_test : (t : Bool) → whole (drop at s) ≡ t
        → (whole (drop at s) ≡ true → (walk s (at + 4 + number32 (drop at s)) k).place ≤ length s)
        → (cond t (walk s (at + 4 + number32 (drop at s)) k) (record { number = 12; place = at })).place ≤ length s
    by_test true e r = r e
    by_test false e r = h

-- a walk over one whole string or more ends within the list, wherever it began
pub walk_ends : (s : List ℕ) (at k : ℕ) → 0 < k → (walk s at k).number ≡ 0 → (walk s at k).place ≤ length s
walk_ends s at zero h z = let v : ⊥ = omega arith in absurd v
walk_ends s at (suc k) h z = by_test (whole (drop at s)) refl z
  where
    by_test : (t : Bool) → whole (drop at s) ≡ t
        → (cond t (walk s (at + 4 + number32 (drop at s)) k) (record { number = 12; place = at })).number ≡ 0
        → (cond t (walk s (at + 4 + number32 (drop at s)) k) (record { number = 12; place = at })).place ≤ length s
    by_test true e q = walk_within s (at + 4 + number32 (drop at s)) k (whole_behind s at e)
    by_test false e q = let v : ⊥ = omega arith in absurd v

-- where m strings are whole, the first k are
pub walk_prefix : (s : List ℕ) (at k m : ℕ) → k ≤ m → (walk s at m).number ≡ 0 → (walk s at k).number ≡ 0
walk_prefix s at zero m h z = refl
walk_prefix s at (suc k) zero h z = let v : ⊥ = omega arith in absurd v
walk_prefix s at (suc k) (suc m) h z =
    by_test (whole (drop at s)) (walk_prefix s (at + 4 + number32 (drop at s)) k m (omega arith)) z
  where
    by_test : (t : Bool)
        → ((walk s (at + 4 + number32 (drop at s)) m).number ≡ 0 → (walk s (at + 4 + number32 (drop at s)) k).number ≡ 0)
        → (cond t (walk s (at + 4 + number32 (drop at s)) m) (record { number = 12; place = at })).number ≡ 0
        → (cond t (walk s (at + 4 + number32 (drop at s)) k) (record { number = 12; place = at })).number ≡ 0
    by_test true r q = r q
    by_test false r q = q

-- where m strings are whole, the one behind the first k is, for k below m
pub walk_whole : (s : List ℕ) (at k m : ℕ) → k < m → (walk s at m).number ≡ 0 → whole (drop (walk s at k).place s) ≡ true
walk_whole s at k zero h z = let v : ⊥ = omega arith in absurd v
walk_whole s at zero (suc m) h z = by_test (whole (drop at s)) z
  where
    by_test : (t : Bool) → (cond t (walk s (at + 4 + number32 (drop at s)) m) (record { number = 12; place = at })).number ≡ 0 → t ≡ true
    by_test true q = refl
    by_test false q = let v : ⊥ = omega arith in absurd v
walk_whole s at (suc k) (suc m) h z =
    by_test (whole (drop at s)) (walk_whole s (at + 4 + number32 (drop at s)) k m (omega arith)) z
  where
    by_test : (t : Bool)
        → ((walk s (at + 4 + number32 (drop at s)) m).number ≡ 0 → whole (drop (walk s (at + 4 + number32 (drop at s)) k).place s) ≡ true)
        → (cond t (walk s (at + 4 + number32 (drop at s)) m) (record { number = 12; place = at })).number ≡ 0
        → whole (drop (cond t (walk s (at + 4 + number32 (drop at s)) k) (record { number = 12; place = at })).place s) ≡ true
    by_test true r q = r q
    by_test false r q = let v : ⊥ = omega arith in absurd v

-- where a walk is refused, the string that stands there is cut
pub walk_stuck : (s : List ℕ) (at k : ℕ) → ((walk s at k).number ≡ 0 → ⊥) → whole (drop (walk s at k).place s) ≡ false
walk_stuck s at zero z = absurd (z refl)
walk_stuck s at (suc k) z =
    by_test (whole (drop at s)) refl (walk_stuck s (at + 4 + number32 (drop at s)) k) z
  where
    by_test : (t : Bool) → whole (drop at s) ≡ t
        → (((walk s (at + 4 + number32 (drop at s)) k).number ≡ 0 → ⊥) → whole (drop (walk s (at + 4 + number32 (drop at s)) k).place s) ≡ false)
        → ((cond t (walk s (at + 4 + number32 (drop at s)) k) (record { number = 12; place = at })).number ≡ 0 → ⊥)
        → whole (drop (cond t (walk s (at + 4 + number32 (drop at s)) k) (record { number = 12; place = at })).place s) ≡ false
    by_test true e r n = r n
    by_test false e r n = e

-- so no string is found behind it
pub part_lost : (s : List ℕ) (at k place : ℕ) → ◌≡◌ {A = Walk} (record { number = 12; place = place }) (walk s at k) → nothing ≡ string_part s at k
unfolding string_part field_at
part_lost s at k place e =
    rw (walk_stuck s at k (λ z. let n : 12 ≡ 0 = ap (λ (w : Walk). w.number) e ∙ z in let v : ⊥ = omega arith in v)) refl
