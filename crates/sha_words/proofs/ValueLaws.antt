-- Laws of a hash value as bytes, over the width: words written and read again, and a value that goes from part to part of a message. Assumes nothing.
use Prim.Native.Nat.{ℕ, zero, suc, ◌+◌, ◌*◌, ◌/◌, ◌%◌, ◌≤◌, ◌<◌, ◌^◌}
use mathlib.Core.Path.{◌≡◌, refl, sym, ap, subst, ◌∙◌}
use mathlib.Core.List.{List, [], ◌∷◌, ◌++◌, append_assoc, append-nil}
use mathlib.Core.Bool.{Bool, true, false}
use lib.Dec.{ltb}
use borrow.Author.Tests.{ltb-true, ltb-false, lt-ltb, le-ltb}
use native.Mathlib.Omega.{arith}
use native.Mathlib.Numerals.{add-one}
use native.Mathlib.Nat.{mod-lt, mul-suc, one-mul, pow-suc, le-div_iff_mul-le}
use lib.ListN.{length, get_or, take, drop, length-append, take-append-drop}
use lib.Pow.{pow_pos}
use lib.Seq.{take_at, take-suc, get_or_at, length-take-le}
use Rattle.buffers.specs.Bytes.{laid}
use Rattle.sha_words.specs.Words.{Width}
use Rattle.sha_words.specs.Blocks.{word_at, Working, sums, next, hash_after, after}
use Rattle.sha_words.specs.Message.{bytes_of, word_bytes, words_at, behind, sized, value_of, value_after}
use Rattle.sha_words.proofs.SizedLaws.{laid_sized, joined_sized}
use Rattle.sha_words.proofs.ChainLaws.{after_parts, after_short, behind_short, behind_block}
use Rattle.sha_words.proofs.PaddingLaws.{Sizes, length_bytes_of}

-- ---- word_bytes

word_bytes_append : (k : ℕ) (s t : List ℕ) → word_bytes k (s ++ t) ≡ word_bytes k s ++ word_bytes k t
word_bytes_append k [] t = refl
word_bytes_append k (x ∷ s) t = ap (λ (l : List ℕ). bytes_of k x ++ l) (word_bytes_append k s t) ∙ sym (append_assoc (bytes_of k x) (word_bytes k s) (word_bytes k t))

pub length_word_bytes : (k : ℕ) (s : List ℕ) → length (word_bytes k s) ≡ k * length s
length_word_bytes k [] = omega arith
length_word_bytes k (x ∷ s) =
    length-append (bytes_of k x) (word_bytes k s) ∙ omega (arith, length_bytes_of k x, length_word_bytes k s, mul-suc k (length s))

-- one word more
pub word_laid : (k : ℕ) (s out b : List ℕ) (at i : ℕ) → i < length s → k * i + k ≤ 64 → at ≡ k * i → out ≡ sized 64 (word_bytes k (take i s))
    → b ≡ bytes_of k (get_or s i 0) → laid out at b ≡ sized 64 (word_bytes k (take (i + 1) s))
word_laid k s out b at i h g a e q =
    let x : List ℕ = word_bytes k (take i s) in
    let v : List ℕ = bytes_of k (get_or s i 0) in
    let n : length x ≡ k * i = length_word_bytes k (take i s) ∙ ap (λ (m : ℕ). k * m) (length-take-le i s (omega arith)) in
    let r : word_bytes k (take (i + 1) s) ≡ x ++ v =
    ap (λ (m : ℕ). word_bytes k (take m s)) (add-one i) ∙ ap (word_bytes k) (take-suc s i 0 h)
    ∙ word_bytes_append k (take i s) (get_or s i 0 ∷ []) ∙ ap (λ (l : List ℕ). x ++ l) (append-nil v) in
    rw (q, e, a, ← n, r)
    (ap (λ (l : List ℕ). laid l (length x) v) (sym (laid_sized 64 x (omega arith)))
    ∙ joined_sized 64 x v (omega (arith, length_bytes_of k (get_or s i 0))))

-- the first words are the first bytes
pub take_word_bytes : (k : ℕ) (s : List ℕ) (i n : ℕ) → i ≤ length s → n ≡ k * i → take n (word_bytes k s) ≡ word_bytes k (take i s)
take_word_bytes k s i n h e =
    ap (λ (l : List ℕ). take n (word_bytes k l)) (sym (take-append-drop i s)) ∙ ap (take n) (word_bytes_append k (take i s) (drop i s))
    ∙ take_at (word_bytes k (take i s)) (word_bytes k (drop i s)) n
    (length_word_bytes k (take i s) ∙ ap (λ (m : ℕ). k * m) (length-take-le i s h) ∙ sym e)

-- ---- words read again

pub word_read : (n x : ℕ) (a b : List ℕ) → x < 256 ^ n → word_at (a ++ (bytes_of n x ++ b)) (length a) n ≡ x
word_read zero x a b h = omega arith
word_read (suc n) x a b h =
    let u : List ℕ = bytes_of n (x / 256) in
    let d : ℕ = x % 256 in
    let l : List ℕ = a ++ (u ++ (d ∷ b)) in
    let e : a ++ ((u ++ (d ∷ [])) ++ b) ≡ l = ap (λ (t : List ℕ). a ++ t) (append_assoc u (d ∷ []) b) in
    let g : x < 256 ^ n * 256 = rw pow-suc at h in
    let i : word_at l (length a) n ≡ x / 256 = word_read n (x / 256) a (d ∷ b) (omega arith) in
    let s : length (a ++ u) ≡ length a + n = length-append a u ∙ ap (λ (k : ℕ). length a + k) (length_bytes_of n (x / 256)) in
    let j : get_or l (length a + n) 0 ≡ d =
    ap (λ (t : List ℕ). get_or t (length a + n) 0) (sym (append_assoc a u (d ∷ b))) ∙ get_or_at (a ++ u) d b 0 (length a + n) s in
    ap (λ (t : List ℕ). word_at t (length a) n * 256 + get_or t (length a + n) 0) e
    ∙ ap (λ (k : ℕ). k * 256 + get_or l (length a + n) 0) i
    ∙ ap (λ (k : ℕ). x / 256 * 256 + k) j
    ∙ omega arith

-- every word is below n
abbrev pub Below : ℕ → List ℕ → Type 0
Below n [] = Unit {0}
Below n (x ∷ ws) = (x < n) × Below n ws

pub words_read : (n : ℕ) (ws a b : List ℕ) → Below (256 ^ n) ws → words_at (a ++ (word_bytes n ws ++ b)) (length a) n (length ws) ≡ ws
words_read n [] a b h = refl
words_read n (x ∷ ws) a b h =
    let u : List ℕ = bytes_of n x in
    let r : List ℕ = word_bytes n ws in
    let e : a ++ ((u ++ r) ++ b) ≡ a ++ (u ++ (r ++ b)) = ap (λ (t : List ℕ). a ++ t) (append_assoc u r b) in
    let f : a ++ (u ++ (r ++ b)) ≡ (a ++ u) ++ (r ++ b) = sym (append_assoc a u (r ++ b)) in
    let s : length a + n ≡ length (a ++ u) = sym (length-append a u ∙ ap (λ (k : ℕ). length a + k) (length_bytes_of n x)) in
    ap (λ (t : List ℕ). word_at t (length a) n ∷ words_at t (length a + n) n (length ws)) e
    ∙ ap (λ (k : ℕ). k ∷ words_at (a ++ (u ++ (r ++ b))) (length a + n) n (length ws)) (word_read n x a (r ++ b) h.0)
    ∙ ap (λ (t : List ℕ). x ∷ words_at t (length a + n) n (length ws)) f
    ∙ ap (λ (k : ℕ). x ∷ words_at ((a ++ u) ++ (r ++ b)) k n (length ws)) s
    ∙ ap (λ (t : List ℕ). x ∷ t) (words_read n ws (a ++ u) b h.1)

-- sums are words
sums_below : (p : Width) (H : List ℕ) (v : Working) → Sizes p → Below (256 ^ p.bytes) (sums p.w H v)
sums_below p H v sizes =
    let less : (x : ℕ) → x % 2 ^ p.w < 256 ^ p.bytes = λ x. subst (λ (n : ℕ). x % 2 ^ p.w < n) sizes.power (mod-lt x (pow_pos p.w)) in (
      less (v.a + get_or H 0 0),
      (
        less (v.b + get_or H 1 0),
        (
          less (v.c + get_or H 2 0),
          (
            less (v.d + get_or H 3 0),
            (less (v.e + get_or H 4 0), (less (v.f + get_or H 5 0), (less (v.g + get_or H 6 0), (less (v.h + get_or H 7 0), tt)))),
          ),
        ),
      ),
    )

-- the words of a hash value that blocks made
read_hash : (p : Width) (H m : List ℕ) (n : ℕ) → Sizes p → 1 ≤ n
    → words_at (value_of p (hash_after p H m n)) 0 p.bytes 8 ≡ hash_after p H m n
unfolding value_of sized hash_after next
read_hash p H m zero sizes h = absurd (omega arith)
read_hash p H m (suc n) sizes h = words_read p.bytes _ [] _ (sums_below p (hash_after p H m n) _ sizes)

pub read_after : (p : Width) (H m : List ℕ) → Sizes p → p.block ≤ length m
    → words_at (value_of p (after p H m)) 0 p.bytes 8 ≡ after p H m
unfolding after
read_after p H m sizes h =
    let k : 1 * p.block ≤ length m = rw one-mul h in
    read_hash p H m (length m / p.block) sizes ((le-div_iff_mul-le sizes.positive).1 k)

-- ---- a value from part to part

pub value_after_short : (p : Width) (v m : List ℕ) → length m < p.block → value_after p v m ≡ v
unfolding value_after
value_after_short p v m h = rw (lt-ltb (length m) p.block h)

pub value_after_whole : (p : Width) (v m : List ℕ) → p.block ≤ length m → value_after p v m ≡ value_of p (after p (words_at v 0 p.bytes 8) m)
unfolding value_after
value_after_whole p v m h = rw (le-ltb (length m) p.block h)

pub value_after_parts : (p : Width) (v a b : List ℕ) → Sizes p → value_after p (value_after p v a) (behind p a ++ b) ≡ value_after p v (a ++ b)
value_after_parts p v a b sizes = by_first (ltb (length a) p.block) refl
  where
    H : List ℕ
    H = words_at v 0 p.bytes 8

    by_second : p.block ≤ length a → (t : Bool) → ltb (length (behind p a ++ b)) p.block ≡ t
        → value_after p (value_of p (after p H a)) (behind p a ++ b) ≡ value_of p (after p (after p H a) (behind p a ++ b))
    by_second l true e =
        let s : length (behind p a ++ b) < p.block = ltb-true _ _ e in
        value_after_short p (value_of p (after p H a)) (behind p a ++ b) s
        ∙ ap (value_of p) (sym (after_short p (after p H a) (behind p a ++ b) s))
    by_second l false e =
        value_after_whole p (value_of p (after p H a)) (behind p a ++ b) (ltb-false _ _ e)
        ∙ ap (λ (t : List ℕ). value_of p (after p t (behind p a ++ b))) (read_after p H a sizes l)

    by_first : (t : Bool) → ltb (length a) p.block ≡ t → value_after p (value_after p v a) (behind p a ++ b) ≡ value_after p v (a ++ b)
    by_first true e =
        let s : length a < p.block = ltb-true _ _ e in
        ap (λ (t : List ℕ). value_after p t (behind p a ++ b)) (value_after_short p v a s)
        ∙ ap (λ (t : List ℕ). value_after p v (t ++ b)) (behind_short p a s)
    by_first false e =
        let l : p.block ≤ length a = ltb-false _ _ e in
        ap (λ (t : List ℕ). value_after p t (behind p a ++ b)) (value_after_whole p v a l)
        ∙ by_second l (ltb (length (behind p a ++ b)) p.block) refl
        ∙ ap (value_of p) (after_parts p H a b sizes.positive)
        ∙ sym (value_after_whole p v (a ++ b) (omega (arith, length-append a b)))

-- whole blocks, and then the rest
pub value_after_then : (p : Width) (v u m : List ℕ) → Sizes p → length u ≡ p.block → value_after p (value_after p v u) m ≡ value_after p v (u ++ m)
value_after_then p v u m sizes h =
    ap (λ (t : List ℕ). value_after p (value_after p v u) (t ++ m)) (sym (behind_block p u h)) ∙ value_after_parts p v u m sizes
