-- FIPS 180-4, sections 4.2.2, 4.2.3 and 5.3.3 to 5.3.5: the constants are the fractions of roots of primes that the standard says they are. By
-- computing. Assumes nothing.
use Prim.Native.Nat.{ℕ, zero, suc, ◌<◌}
use mathlib.Core.Path.{◌≡◌, refl}
use mathlib.Core.List.{List, [], ◌∷◌}
use mathlib.Core.Bool.{true, and-eq-true_iff}
use native.Mathlib.Omega.{arith}
use lib.ListN.{length, get_or, take, drop}
use Rattle.sha_words.specs.Constants.{K256, K512, H256, H384, H512}
use Rattle.sha_words.specs.Roots.{primes, is_fraction, are_fractions}

-- ---- what the test of a table says of each place

pub fraction_at : (w n : ℕ) (qs xs : List ℕ) (i : ℕ) → are_fractions w n qs xs ≡ true → i < length xs
    → is_fraction w n (get_or qs i 0) (get_or xs i 0) ≡ true
fraction_at w n qs [] i e h = absurd (omega arith)
fraction_at w n [] (x ∷ xs) i e h = cc
fraction_at w n (q ∷ qs) (x ∷ xs) zero e h = ((and-eq-true_iff (is_fraction w n q x) (are_fractions w n qs xs)).0 e).0
fraction_at w n (q ∷ qs) (x ∷ xs) (suc i) e h =
    fraction_at w n qs xs i ((and-eq-true_iff (is_fraction w n q x) (are_fractions w n qs xs)).0 e).1 (omega arith)

-- ---- the tables

pub K256_is : are_fractions 32 3 (take 64 primes) K256 ≡ true
unfolding K256
K256_is = refl

pub K512_is : are_fractions 64 3 (take 80 primes) K512 ≡ true
unfolding K512
K512_is = refl

pub H256_is : are_fractions 32 2 (take 8 primes) H256 ≡ true
unfolding H256
H256_is = refl

pub H384_is : are_fractions 64 2 (take 8 (drop 8 primes)) H384 ≡ true
unfolding H384
H384_is = refl

pub H512_is : are_fractions 64 2 (take 8 primes) H512 ≡ true
unfolding H512
H512_is = refl
