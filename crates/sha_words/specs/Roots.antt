-- FIPS 180-4, sections 4.2.2, 4.2.3 and 5.3.3 to 5.3.5: primes, and the first bits of the fractions of their roots. Assumes nothing.
use Rattle.std.specs.Prelude.{ℕ, zero, suc, ◌+◌, ◌*◌, ◌-◌, ◌%◌, ◌^◌, List, [], ◌∷◌, Bool, true, false, cond, ◌&&◌, leb, ltb, eqb}

-- ---- primes

-- none of k numbers from d on divides n
abbrev pub undivided : ℕ → ℕ → ℕ → Bool
undivided n d zero = true
undivided n d (suc k) = cond (eqb (n % d) 0) false (undivided n (suc d) k)

-- the primes among k numbers from n on, n being at least 2
abbrev pub primes_from : ℕ → ℕ → List ℕ
primes_from n zero = []
primes_from n (suc k) = cond (undivided n 2 (n - 2)) (n ∷ primes_from (suc n) k) (primes_from (suc n) k)

-- those up to 409, which is the eightieth
abbrev pub primes : List ℕ
primes = primes_from 2 408

-- ---- roots

-- r is the whole part of the n-th root of v
abbrev pub is_root : ℕ → ℕ → ℕ → Bool
is_root n v r = leb (r ^ n) v && ltb v ((r + 1) ^ n)

-- the whole part of the n-th root of q, where it is at most k
abbrev pub whole_root : ℕ → ℕ → ℕ → ℕ
whole_root n q zero = 0
whole_root n q (suc k) = cond (is_root n q (suc k)) (suc k) (whole_root n q k)

-- x is the first w bits of the fraction of the n-th root of q: behind the root's whole part it makes the whole part of 2 ^ w times the root
abbrev pub is_fraction : ℕ → ℕ → ℕ → ℕ → Bool
is_fraction w n q x = is_root n (q * 2 ^ (n * w)) (whole_root n q 20 * 2 ^ w + x) && ltb x (2 ^ w)

-- each number of the second list is that of the number of the first at its place, and they are as many
abbrev pub are_fractions : ℕ → ℕ → List ℕ → List ℕ → Bool
are_fractions w n [] [] = true
are_fractions w n [] (x ∷ xs) = false
are_fractions w n (q ∷ qs) [] = false
are_fractions w n (q ∷ qs) (x ∷ xs) = is_fraction w n q x && are_fractions w n qs xs
