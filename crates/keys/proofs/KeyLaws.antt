-- Laws of `specs/Keys.antt`: lengths, how many blocks are enough, and the first blocks as the RFC writes them. Assumes nothing.
use Prim.Native.Nat.{ℕ, zero, suc, ◌+◌, ◌-◌, ◌*◌, ◌/◌, ◌≤◌, ◌<◌}
use mathlib.Core.Path.{◌≡◌, refl, sym, ap, ◌∙◌}
use mathlib.Core.List.{List, [], ◌∷◌, ◌++◌}
use mathlib.Core.Bool.{Bool, true, false, ◌||◌, false≢true}
use native.Mathlib.Omega.{arith}
use native.Mathlib.Nat.{zero-mul, suc-mul, add_comm, add-zero, add-suc, mod-lt, div-add-mod', le-div_iff_mul-le}
use lib.ListN.{length, take, length-append}
use lib.Seq.{length-take-le, take-append-le, take-take}
use lib.Dec.{eqb}
use borrow.Author.Tests.{eqb-true}
use Rattle.limits.specs.Limits.{h_size}
use Rattle.sha_words.specs.Constants.{known}
use Rattle.sha_words.specs.Message.{sha2}
use Rattle.sha_words.proofs.DigestLaws.{length_sha2}
use Rattle.keys.specs.Keys.{key_first, key_next, key_blocks, key_of}

-- ---- known

-- a digest is not empty, and fits where the longest does
pub kind_within : (kind : ℕ) → known kind ≡ true → (0 < kind) × (kind ≤ h_size)
kind_within kind h = by_first (eqb kind 32) refl h
  where
    by_third : (t : Bool) → eqb kind 64 ≡ t → t ≡ true → (0 < kind) × (kind ≤ h_size)
    by_third true e g = let q = eqb-true kind 64 e in (omega arith, omega arith)
    by_third false e g = absurd (false≢true g)

    by_second : (t : Bool) → eqb kind 48 ≡ t → (t || eqb kind 64) ≡ true → (0 < kind) × (kind ≤ h_size)
    by_second true e g = let q = eqb-true kind 48 e in (omega arith, omega arith)
    by_second false e g = by_third (eqb kind 64) refl g

    by_first : (t : Bool) → eqb kind 32 ≡ t → (t || eqb kind 48 || eqb kind 64) ≡ true → (0 < kind) × (kind ≤ h_size)
    by_first true e g = let q = eqb-true kind 32 e in (omega arith, omega arith)
    by_first false e g = by_second (eqb kind 48) refl g

module _ (kind : ℕ) (k h : List ℕ) (letter : ℕ) (id : List ℕ) where
  -- ---- the first blocks

  -- K1 || K2, as the RFC writes them
  pub key_two : (K1 K2 : List ℕ) → K1 ≡ sha2 kind (k ++ h ++ (letter ∷ []) ++ id) → K2 ≡ sha2 kind (k ++ h ++ K1)
      → key_blocks kind k h letter id 1 ≡ K1 ++ K2
  unfolding key_first key_next
  key_two K1 K2 e1 e2 = cc

  -- K1 || K2 || K3
  pub key_three : (K1 K2 K3 : List ℕ) → K1 ≡ sha2 kind (k ++ h ++ (letter ∷ []) ++ id) → K2 ≡ sha2 kind (k ++ h ++ K1)
      → K3 ≡ sha2 kind (k ++ h ++ (K1 ++ K2)) → key_blocks kind k h letter id 2 ≡ K1 ++ K2 ++ K3
  unfolding key_first key_next
  key_three K1 K2 K3 e1 e2 e3 = cc

  module _ (g : known kind ≡ true) where
    -- ---- key_blocks

    length_first : length (key_first kind k h letter id) ≡ kind
    unfolding key_first
    length_first = length_sha2 kind _ g

    length_next : (b : List ℕ) → length (key_next kind k h b) ≡ kind
    unfolding key_next
    length_next b = length_sha2 kind _ g

    -- every block has a digest's bytes
    pub length_key_blocks : (n : ℕ) → length (key_blocks kind k h letter id n) ≡ kind + n * kind
    length_key_blocks zero = omega (arith, length_first, zero-mul kind)
    length_key_blocks (suc n) =
        let b : List ℕ = key_blocks kind k h letter id n in
        omega (arith, length-append b (key_next kind k h b), length_key_blocks n, length_next b, suc-mul n kind)

    -- what is there stays, however often it is lengthened
    key_blocks_more : (len n m : ℕ) → len ≤ length (key_blocks kind k h letter id n)
        → take len (key_blocks kind k h letter id (n + m)) ≡ take len (key_blocks kind k h letter id n)
    key_blocks_more len n zero e = rw add-zero
    key_blocks_more len n (suc m) e =
        let b : List ℕ = key_blocks kind k h letter id (n + m) in
        let l : len ≤ length b = omega (arith, length_key_blocks (n + m), length_key_blocks n) in
        rw add-suc (take-append-le len b (key_next kind k h b) l ∙ key_blocks_more len n m e)

    -- ---- key_of

    enough : (len : ℕ) → len ≤ length (key_blocks kind k h letter id ((len - 1) / kind))
    enough len =
        omega (arith, length_key_blocks ((len - 1) / kind), div-add-mod' (len - 1) kind, mod-lt (len - 1) (kind_within kind g).0)

    -- a key has as many bytes as were asked for
    pub length_key_of : (len : ℕ) → length (key_of kind k h letter id len) ≡ len
    unfolding key_of
    length_key_of len = length-take-le len (key_blocks kind k h letter id ((len - 1) / kind)) (enough len)

    -- however often it is lengthened beyond enough
    pub key_enough : (len n : ℕ) → len ≤ length (key_blocks kind k h letter id n)
        → key_of kind k h letter id len ≡ take len (key_blocks kind k h letter id n)
    unfolding key_of
    key_enough len n e =
        let m : ℕ = (len - 1) / kind in
        sym (key_blocks_more len m n (enough len))
        ∙ ap (λ (j : ℕ). take len (key_blocks kind k h letter id j)) (add_comm m n)
        ∙ key_blocks_more len n m e

    -- fewer blocks are not enough
    pub key_least : (len n : ℕ) → n < (len - 1) / kind → length (key_blocks kind k h letter id n) < len
    key_least len n e =
        let p : 0 < kind = (kind_within kind g).0 in
        let s : suc n * kind ≤ len - 1 = (le-div_iff_mul-le p).0 e in
        omega (arith, length_key_blocks n, suc-mul n kind)

    -- fewer bytes are a beginning of what more bytes give
    pub key_beginning : (n m : ℕ) → n ≤ m → take n (key_of kind k h letter id m) ≡ key_of kind k h letter id n
    unfolding key_of
    key_beginning n m e =
        let j : ℕ = (m - 1) / kind in
        let b : List ℕ = key_blocks kind k h letter id j in
        take-take n m b e ∙ sym (key_enough n j (omega (arith, enough m)))
