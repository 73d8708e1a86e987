-- Bytes and the exchanges that they hold: what goes by their size, and by whether they fit. Assumes nothing.
use Prim.Native.Nat.{ℕ, ◌-◌, ◌/◌, ◌%◌}
use mathlib.Core.Path.{◌≡◌, refl, sym, ap, ◌∙◌}
use mathlib.Core.List.{List, [], ◌∷◌}
use mathlib.Core.Bool.{Bool, true, false, cond, ◌&&◌, false≢true}
use native.Mathlib.Omega.{arith}
use lib.ListN.{length, get_or, take, drop}
use lib.Dec.{eqb}
use borrow.Author.Tests.{eq-eqb, ne_eqb, eqb-true}
use Rattle.std.specs.Int.{w64, to_be_bytes}
use Rattle.buffers.proofs.ByteLaws.{tail_part}
use Rattle.limits.specs.Limits.{exchange_size}
use Rattle.stored.specs.Stored.{bytes16, bytes64, marks_fit, fits, decoded, by_fit, by_size}

-- ---- by the size
pub size_taken : {A : Type 0} (b : List ℕ) (old new : A) → length b ≡ exchange_size → new ≡ by_size b new old
unfolding by_size
size_taken b old new h = rw (eq-eqb (length b) exchange_size h)

pub size_left : {A : Type 0} (b : List ℕ) (old new : A) → ¬ (length b ≡ exchange_size) → old ≡ by_size b new old
unfolding by_size
size_left b old new h = rw (ne_eqb (length b) exchange_size h)

-- of an exchange's bytes, what stands behind 164 is the last 64
pub tail_kept : (b : List ℕ) → by_size b (take 64 (drop 164 b)) [] ≡ by_size b (drop 164 b) []
unfolding by_size
tail_kept b = go (eqb (length b) exchange_size) refl
  where
    go : (t : Bool) → eqb (length b) exchange_size ≡ t → cond t (take 64 (drop 164 b)) [] ≡ cond t (drop 164 b) []
    go true e = ap (λ (n : ℕ). take (n - 164) (drop 164 b)) (sym (eqb-true (length b) exchange_size e)) ∙ tail_part b 164
    go false e = refl

pub fits_known : (b : List ℕ) → fits b ≡ true → (length b ≡ exchange_size) × (marks_fit (get_or b 0 0) (get_or b 1 0) (get_or b 2 0) ≡ true)
unfolding fits
fits_known b h = by_size_lem (eqb (length b) exchange_size) refl h
  where
    by_size_lem : (t : Bool) → eqb (length b) exchange_size ≡ t → t && marks_fit (get_or b 0 0) (get_or b 1 0) (get_or b 2 0) ≡ true
        → (length b ≡ exchange_size) × (marks_fit (get_or b 0 0) (get_or b 1 0) (get_or b 2 0) ≡ true)
    by_size_lem true e h = (eqb-true (length b) exchange_size e, h)
    by_size_lem false e h = absurd (false≢true h)

-- ---- role and method, as they are read

pub role_read : (b : List ℕ) (r : ℕ) → r ≡ get_or b 3 0 → r ≡ (decoded b).role
unfolding decoded
role_read b r h = h

pub method_read : (b : List ℕ) (m : ℕ) → m ≡ get_or b 4 0 → m ≡ (decoded b).method
unfolding decoded
method_read b m h = h

-- ---- what goes by the bytes

pub fit_taken : {A : Type 0} (b : List ℕ) (new old : A) → fits b ≡ true → new ≡ by_fit b new old
unfolding by_fit
fit_taken b new old f = rw f

pub fit_left : {A : Type 0} (b : List ℕ) (new old : A) → fits b ≡ false → old ≡ by_fit b new old
unfolding by_fit
fit_left b new old f = rw f

pub size_unfit : (b : List ℕ) → ¬ (length b ≡ exchange_size) → false ≡ fits b
unfolding fits
size_unfit b h = rw (ne_eqb (length b) exchange_size h)

pub marks_fits : (b : List ℕ) → length b ≡ exchange_size → marks_fit (get_or b 0 0) (get_or b 1 0) (get_or b 2 0) ≡ fits b
unfolding fits
marks_fits b h = rw (eq-eqb (length b) exchange_size h)

-- ---- a number's bytes, as the code takes them
pub all_eight : (n : ℕ) → to_be_bytes w64 n ≡ bytes64 n
all_eight n =
    let b0 : n / 72057594037927936 % 256 ≡ n / 281474976710656 / 256 % 256 = omega arith in
    let b2 : n / 1099511627776 % 256 ≡ n / 4294967296 / 256 % 256 = omega arith in
    let b4 : n / 16777216 % 256 ≡ n / 65536 / 256 % 256 = omega arith in
    λ i. b0 i ∷ n / 281474976710656 % 256 ∷ b2 i ∷ n / 4294967296 % 256 ∷ b4 i ∷ n / 65536 % 256 ∷ n / 256 % 256 ∷ n % 256 ∷ []

pub last_two : (n : ℕ) (b : List ℕ) → b ≡ to_be_bytes w64 n → get_or b 6 0 ∷ get_or b 7 0 ∷ [] ≡ bytes16 n
last_two n b e = λ i. get_or (e i) 6 0 ∷ get_or (e i) 7 0 ∷ []
