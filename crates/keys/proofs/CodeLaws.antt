-- Laws that the code cites: bytes laid as far as an output goes, and how much of a key stands there after each block. Assumes nothing.
use Prim.Native.Nat.{ℕ, zero, suc, min, ◌+◌, ◌-◌, ◌*◌, ◌≤◌, ◌<◌}
use mathlib.Core.Path.{◌≡◌, refl, sym, ap, ◌∙◌}
use mathlib.Core.List.{List, [], ◌∷◌, ◌++◌, append_assoc, append-nil}
use mathlib.Core.Bool.{Bool, true, false}
use native.Mathlib.Omega.{arith}
use native.Mathlib.Nat.{zero-mul, suc-mul}
use lib.ListN.{length, take, drop, length-append, length-drop}
use lib.Seq.{length-take-le, take_all, take_at, take-nil, take-append-le, take-append-add, drop-length}
use lib.Dec.{ltb}
use borrow.Author.Tests.{ltb-true, ltb-false}
use Rattle.limits.specs.Limits.{h_size}
use Rattle.buffers.specs.Bytes.{zeros, over, laid}
use Rattle.buffers.proofs.ByteLaws.{laid_fits, length_over}
use Rattle.sha_words.specs.Constants.{known}
use Rattle.sha_words.specs.Message.{sha2, sized}
use Rattle.sha_words.proofs.SizedLaws.{take_sized, joined_sized}
use Rattle.sha_words.proofs.DigestLaws.{length_sha2}
use Rattle.keys.specs.Keys.{key_first, key_next, key_blocks, key_of}
use Rattle.keys.proofs.KeyLaws.{length_key_blocks, key_enough}

-- ---- laid as far as it goes

take_comm : (m n : ℕ) (l : List ℕ) → take m (take n l) ≡ take n (take m l)
take_comm zero n l = sym (take-nil n)
take_comm (suc m) zero l = refl
take_comm (suc m) (suc n) [] = refl
take_comm (suc m) (suc n) (x ∷ l) = ap (λ (t : List ℕ). x ∷ t) (take_comm m n l)

module _ (l : List ℕ) (at : ℕ) (b : List ℕ) (h : at ≤ length l) where
  -- whole
  truncated_whole : length b ≤ length l - at → laid l at b ≡ take (length l) (over l at b)
  truncated_whole e =
      let f : at + length b ≤ length l = omega arith in
      laid_fits l at b f ∙ sym (take_all (length l) (over l at b) (omega (arith, length_over l at b f)))

  -- its beginning
  truncated_part : (n : ℕ) → n ≡ length l - at → n < length b → laid l at (take n b) ≡ take (length l) (over l at b)
  unfolding over
  truncated_part n e less =
      let t : List ℕ = take at l in
      let s : length (take n b) ≡ n = length-take-le n b (omega arith) in
      let i : length t ≡ at = length-take-le at l h in
      let d : at + length (take n b) ≡ length l = omega arith in
      let j : length l ≡ length t + n = omega arith in
      laid_fits l at (take n b) (omega arith)
      ∙ ap (λ (m : ℕ). t ++ take n b ++ drop m l) d
      ∙ ap (λ (r : List ℕ). t ++ take n b ++ r) (drop-length l)
      ∙ append-nil (t ++ take n b)
      ∙ ap (λ (r : List ℕ). t ++ r) (sym (take-append-le n b (drop (at + length b) l) (omega arith)))
      ∙ sym (take-append-add t (b ++ drop (at + length b) l) n)
      ∙ ap (λ (m : ℕ). take m (t ++ (b ++ drop (at + length b) l))) (sym j)
      ∙ ap (take (length l)) (sym (append_assoc t b (drop (at + length b) l)))

  -- either, by the shorter of the two
  pub truncated : (n : ℕ) → n ≡ min (length b) (length l - at) → laid l at (take n b) ≡ take (length l) (over l at b)
  truncated n e = by_test (ltb (length l - at) (length b)) refl
    where
      by_test : (t : Bool) → ltb (length l - at) (length b) ≡ t → laid l at (take n b) ≡ take (length l) (over l at b)
      by_test true w = let k = ltb-true (length l - at) (length b) w in truncated_part n (omega arith) (omega arith)
      by_test false w =
          let k = ltb-false (length l - at) (length b) w in
          ap (laid l at) (take_all n b (omega arith)) ∙ truncated_whole k

  length_truncated : length (take (length l) (over l at b)) ≡ length l
  unfolding over
  length_truncated =
      length-take-le (length l) (over l at b)
      (omega (arith, length-append (take at l ++ b) (drop (at + length b) l), length-append (take at l) b, length-take-le at l h, length-drop (at + length b) l))

  -- what then stands up to its end
  take_truncated : take (at + length b) (take (length l) (over l at b)) ≡ take (length l) (take at l ++ b)
  unfolding over
  take_truncated =
      take_comm (at + length b) (length l) (over l at b)
      ∙ ap (take (length l)) (take_at (take at l ++ b) (drop (at + length b) l) (at + length b)
      (length-append (take at l) b ∙ ap (λ (m : ℕ). m + length b) (length-take-le at l h)))

-- ---- a key so far

-- of a key `at` bytes are laid, which are whole blocks; or the output is full
pub record Laid (kind : ℕ) (kh rest out : List ℕ) (at : ℕ) : Type 0 where
  pub more : ℕ
  pub ends : at ≡ kind + more * kind
  pub begins : (k h : List ℕ) (letter : ℕ) (id : List ℕ) → kh ≡ k ++ h → rest ≡ letter ∷ id
      → take at out ≡ take (length out) (key_blocks kind k h letter id more)

module _ (kind : ℕ) (kh rest : List ℕ) (g : known kind ≡ true) where
  -- a digest, as it is taken out of its array
  block : (d m : List ℕ) → d ≡ sized h_size (sha2 kind m) → take (kind - 0) d ≡ sha2 kind m
  block d m e =
      let z : kind - 0 ≡ kind = omega arith in
      ap (λ (n : ℕ). take n d) z ∙ ap (take kind) e ∙ take_sized h_size kind (sha2 kind m) (length_sha2 kind m g)

  -- K1
  pub laid_first : (d l out : List ℕ) → d ≡ sized h_size (sha2 kind (kh ++ rest)) → out ≡ take (length l) (over l 0 (take (kind - 0) d))
      → Laid kind kh rest out kind
  unfolding key_first
  laid_first d l out e f =
      let m : List ℕ = sha2 kind (kh ++ rest) in
      let o : out ≡ take (length l) (over l 0 m) = f ∙ ap (λ (b : List ℕ). take (length l) (over l 0 b)) (block d (kh ++ rest) e) in
      let n : length l ≡ length out = sym (ap length o ∙ length_truncated l 0 m (omega arith)) in
      let s : kind ≡ 0 + length m = omega (arith, length_sha2 kind (kh ++ rest) g) in
      record {
        more = 0;
        ends = omega (arith, zero-mul kind);
        begins = λ k h letter id ek er.
            let w : m ≡ key_first kind k h letter id =
            (λ i. sha2 kind (ek i ++ er i)) ∙ ap (sha2 kind) (sym (append_assoc (k ++ h) (letter ∷ []) id)) in
            (λ i. take (s i) (o i)) ∙ take_truncated l 0 m (omega arith) ∙ (λ i. take (n i) (w i));
      }

  -- one block more
  pub laid_next : (d l out : List ℕ) (at : ℕ) → at < length l → Laid kind kh rest l at → d ≡ sized h_size (sha2 kind (kh ++ take (at - 0) l))
      → out ≡ take (length l) (over l at (take (kind - 0) d)) → Laid kind kh rest out (at + kind)
  unfolding key_next
  laid_next d l out at less before e f =
      let z : at - 0 ≡ at = omega arith in
      let m : List ℕ = sha2 kind (kh ++ take at l) in
      let o : out ≡ take (length l) (over l at m) =
      f ∙ ap (λ (b : List ℕ). take (length l) (over l at b)) (block d (kh ++ take at l) (e ∙ ap (λ (n : ℕ). sized h_size (sha2 kind (kh ++ take n l))) z)) in
      let n : length l ≡ length out = sym (ap length o ∙ length_truncated l at m (omega arith)) in
      let s : at + kind ≡ at + length m = ap (λ (j : ℕ). at + j) (sym (length_sha2 kind (kh ++ take at l) g)) in
      record {
        more = suc before.more;
        ends = omega (arith, before.ends, suc-mul before.more kind);
        begins = λ k h letter id ek er.
            let b : List ℕ = key_blocks kind k h letter id before.more in
            let w : take at l ≡ b =
            before.begins k h letter id ek er
            ∙ take_all (length l) b (omega (arith, length_key_blocks kind k h letter id g before.more, before.ends)) in
            (λ i. take (s i) (o i)) ∙ take_truncated l at m (omega arith) ∙ (λ i. take (n i) (w i ++ sha2 kind (ek i ++ w i)));
      }

  -- the output is full
  pub laid_all : (out : List ℕ) (at len : ℕ) → length out ≡ len → len ≤ at → Laid kind kh rest out at
      → (k h : List ℕ) (letter : ℕ) (id : List ℕ) → kh ≡ k ++ h → rest ≡ letter ∷ id → out ≡ key_of kind k h letter id len
  laid_all out at len n full before k h letter id ek er =
      let b : List ℕ = key_blocks kind k h letter id before.more in
      sym (take_all at out (omega arith)) ∙ before.begins k h letter id ek er ∙ ap (λ (j : ℕ). take j b) n
      ∙ sym (key_enough kind k h letter id g len before.more (omega (arith, length_key_blocks kind k h letter id g before.more, before.ends)))

-- ---- two lists in an array

-- a and then b, cut out of the zeros that they were laid over
pub both_cut : (n m : ℕ) (a b l : List ℕ) → length a + length b ≤ n → m ≡ length a + length b → l ≡ laid (laid (zeros n) 0 a) (length a) b
    → take (m - 0) l ≡ a ++ b
both_cut n m a b l h e f =
    let z : m - 0 ≡ length (a ++ b) = omega (arith, length-append a b) in
    ap (λ (j : ℕ). take j l) z ∙ ap (take (length (a ++ b))) (f ∙ joined_sized n a b h) ∙ take_sized n (length (a ++ b)) (a ++ b) refl
