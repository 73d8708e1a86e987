-- Laws of the digest: a padded message is whole blocks, and a digest has as many bytes as its kind says. Assumes nothing.
use Prim.Native.Nat.{ℕ, zero, suc, ◌*◌, ◌/◌, ◌%◌, ◌≤◌, ◌<◌}
use mathlib.Core.Path.{◌≡◌, refl, ap, ◌∙◌}
use mathlib.Core.List.{List}
use mathlib.Core.Bool.{Bool, true, false, cond, ◌||◌, false≢true}
use lib.Dec.{ltb, eqb}
use borrow.Author.Tests.{ltb-true, ltb-false, eqb-true}
use native.Mathlib.Omega.{arith}
use native.Mathlib.Nat.{mod-eq_of_lt, one-mul, le-div_iff_mul-le}
use lib.ListN.{length, length-append}
use lib.Seq.{length-take-le}
use Rattle.limits.specs.Limits.{h_size}
use Rattle.sha_words.specs.Words.{Width}
use Rattle.sha_words.specs.Constants.{bits32, bits64, known, width_of, initial}
use Rattle.sha_words.specs.Blocks.{next, hash_after, after}
use Rattle.sha_words.specs.Message.{words_at, value_of, value_after, word_bytes, padding, padded, sha2}
use Rattle.sha_words.proofs.SizedLaws.{length_sized}
use Rattle.sha_words.proofs.PaddingLaws.{Sizes, sizes_of_lem, padded_whole}
use Rattle.sha_words.proofs.ValueLaws.{length_word_bytes, value_after_short, value_after_whole}

-- ---- eight words

length_hash : (p : Width) (H m : List ℕ) (n : ℕ) → 1 ≤ n → length (hash_after p H m n) ≡ 8
unfolding hash_after next
length_hash p H m zero h = absurd (omega arith)
length_hash p H m (suc n) h = refl

pub length_after : (p : Width) (H m : List ℕ) → 0 < p.block → p.block ≤ length m → length (after p H m) ≡ 8
unfolding after
length_after p H m pos h =
    let k : 1 * p.block ≤ length m = rw one-mul h in
    length_hash p H m (length m / p.block) ((le-div_iff_mul-le pos).1 k)

-- ---- one block at least

pub padded_least : (p : Width) (m : List ℕ) → 0 < p.block → p.block ≤ length (padded p m)
unfolding padding
padded_least p m pos = by_test (ltb (length (padded p m)) p.block) refl
  where
    some : 0 < length (padded p m)
    some = omega (arith, length-append m (padding p (length m)))

    by_test : (t : Bool) → ltb (length (padded p m)) p.block ≡ t → p.block ≤ length (padded p m)
    by_test true e =
        let l : length (padded p m) < p.block = ltb-true _ _ e in
        let z : length (padded p m) % p.block ≡ length (padded p m) = mod-eq_of_lt l in
        absurd (omega (arith, padded_whole p m pos, z, some))
    by_test false e = ltb-false _ _ e

-- ---- values

pub length_value_of : (p : Width) (H : List ℕ) → Sizes p → length H ≡ 8 → length (value_of p H) ≡ h_size
unfolding value_of
length_value_of p H sizes h =
    let l : length (word_bytes p.bytes H) ≡ p.bytes * 8 = length_word_bytes p.bytes H ∙ ap (λ (n : ℕ). p.bytes * n) h in
    length_sized h_size (word_bytes p.bytes H) (omega (arith, l, sizes.eight))

pub length_value_after : (p : Width) (v m : List ℕ) → Sizes p → length v ≡ h_size → length (value_after p v m) ≡ h_size
length_value_after p v m sizes h = by_test (ltb (length m) p.block) refl
  where
    by_test : (t : Bool) → ltb (length m) p.block ≡ t → length (value_after p v m) ≡ h_size
    by_test true e = ap length (value_after_short p v m (ltb-true _ _ e)) ∙ h
    by_test false e =
        let l : p.block ≤ length m = ltb-false _ _ e in
        ap length (value_after_whole p v m l) ∙ length_value_of p (after p (words_at v 0 p.bytes 8) m) sizes (length_after p (words_at v 0 p.bytes 8) m sizes.positive l)

-- ---- the digest

-- a kind's bytes are among those of its hash value
pub kind_most : (kind : ℕ) → known kind ≡ true → kind ≤ (width_of kind).bytes * 8
kind_most kind h = by_first (eqb kind 32) refl h
  where
    by_third : (t : Bool) → eqb kind 64 ≡ t → t ≡ true → kind ≤ 64
    by_third true e g = omega (arith, eqb-true kind 64 e)
    by_third false e g = absurd (false≢true g)

    by_second : (t : Bool) → eqb kind 48 ≡ t → (t || eqb kind 64) ≡ true → kind ≤ 64
    by_second true e g = omega (arith, eqb-true kind 48 e)
    by_second false e g = by_third (eqb kind 64) refl g

    by_first : (t : Bool) → eqb kind 32 ≡ t → (t || eqb kind 48 || eqb kind 64) ≡ true → kind ≤ (cond t bits32 bits64).bytes * 8
    by_first true e g = omega (arith, eqb-true kind 32 e)
    by_first false e g = by_second (eqb kind 48) refl g

pub length_sha2 : (kind : ℕ) (m : List ℕ) → known kind ≡ true → length (sha2 kind m) ≡ kind
unfolding sha2
length_sha2 kind m h =
    let p : Width = width_of kind in
    let pos : 0 < p.block = (sizes_of_lem kind).positive in
    let H : List ℕ = after p (initial kind) (padded p m) in
    let l : length (word_bytes p.bytes H) ≡ p.bytes * 8 =
    length_word_bytes p.bytes H ∙ ap (λ (n : ℕ). p.bytes * n) (length_after p (initial kind) (padded p m) pos (padded_least p m pos)) in
    length-take-le kind (word_bytes p.bytes H) (omega (arith, l, kind_most kind h))
