-- Laws of `specs/Numbers.antt`: what kind a number is of, and what goes by it. Assumes nothing.
use Prim.Native.Nat.{ℕ, zero, suc, ◌≤◌, ◌<◌}
use mathlib.Core.Path.{◌≡◌, refl}
use mathlib.Core.Bool.{Bool, true, false, cond}
use native.Mathlib.Omega.{arith}
use lib.Dec.{eqb, eqb-suc-zero}
use borrow.Author.Tests.{eq-eqb, ne_eqb}
use Rattle.limits.proofs.RangeLaws.{within_is, within_low, within_high, within_least}
use Rattle.exchange.specs.Numbers.{is_fault, accepted, refused, fault, kind, by_kind}

-- 0
pub kind_accepted : (n : ℕ) → n ≡ 0 → kind n ≡ accepted
unfolding kind
kind_accepted n h = rw (eq-eqb n 0 h)

-- and no other
pub kind_is_accepted : (n : ℕ) → kind n ≡ accepted → n ≡ 0
unfolding kind
kind_is_accepted zero h = refl
kind_is_accepted (suc n) h = absurd (go (is_fault (suc n)) (rw (eqb-suc-zero n) at h))
  where
    go : (t : Bool) → cond t fault refused ≡ accepted → ⊥
    go true e = let z : ◌≡◌ {A = ℕ} 0 1 = cc in omega arith
    go false e = let z : ◌≡◌ {A = ℕ} 0 1 = cc in omega arith

-- a peer's fault
pub kind_fault : (n : ℕ) → is_fault n ≡ true → kind n ≡ fault
unfolding kind
kind_fault n h = let l = within_least 10 18 n h in rw (ne_eqb n 0 (λ e. omega arith), h)

pub kind_is_fault : (n : ℕ) → kind n ≡ fault → is_fault n ≡ true
unfolding kind
kind_is_fault n h = go (eqb n 0) (is_fault n) h
  where
    go : (t u : Bool) → cond t accepted (cond u fault refused) ≡ fault → u ≡ true
    go true u e = let z : ◌≡◌ {A = ℕ} 0 1 = cc in let w : ⊥ = omega arith in absurd w
    go false true e = refl
    go false false e = let z : ◌≡◌ {A = ℕ} 0 1 = cc in let w : ⊥ = omega arith in absurd w

-- any other
pub kind_refused : (n : ℕ) → (n ≡ 0 → ⊥) → is_fault n ≡ false → kind n ≡ refused
unfolding kind
kind_refused n h k = rw (ne_eqb n 0 h, k)

-- as those below 10 are, and those above 18
pub fault_low : (n : ℕ) → n < 10 → is_fault n ≡ false
fault_low n h = within_low 10 18 n h

pub fault_high : (n : ℕ) → 18 < n → is_fault n ≡ false
fault_high n h = within_high 10 18 n h

pub fault_between : (n : ℕ) → 10 ≤ n → n ≤ 18 → is_fault n ≡ true
fault_between n h k = within_is 10 18 n h k

-- so that a number which a later step may give changes nothing
pub kind_later : (n : ℕ) → 18 < n → kind n ≡ refused
kind_later n h = kind_refused n (λ e. omega arith) (fault_high n h)

-- where a number is not 0, what an accepted call would have made does not matter
pub kind_other : {A : Type 0} (n : ℕ) (a b r f : A) → (n ≡ 0 → ⊥) → by_kind (kind n) a r f ≡ by_kind (kind n) b r f
unfolding kind
kind_other n a b r f h = rw (ne_eqb n 0 h) (by_test (is_fault n))
  where
    by_test : (t : Bool) → by_kind (cond t fault refused) a r f ≡ by_kind (cond t fault refused) b r f
    by_test true = refl
    by_test false = refl

pub kind_same : {A : Type 0} (n : ℕ) (a r : A) → (n ≡ 0 → ⊥) → by_kind (kind n) a r r ≡ r
unfolding kind
kind_same n a r h = rw (ne_eqb n 0 h) (by_test (is_fault n))
  where
    by_test : (t : Bool) → by_kind (cond t fault refused) a r r ≡ r
    by_test true = refl
    by_test false = refl
