-- Words as numbers: a list of words at a place, and a hash value's words laid one behind the other. Assumes nothing.
use Rattle.std.proofs.Common.{◌≡◌, ℕ, ◌*◌, ◌<◌, ◌≤◌, List, [], ◌∷◌, ◌++◌, length, map, get_or, take, drop, take_all, refl, sym, ap, ◌∙◌, arith}
use Rattle.std.proofs.lemmas.List.{get_or-map}
use Rattle.buffers.specs.Bytes.{laid, zeros}
use Rattle.sha_words.specs.Words.{Width}
use Rattle.sha_words.specs.Blocks.{next, hash_after, after}
use Rattle.sha_words.proofs.ChainLaws.{after_front}
use Rattle.sha_words.specs.Message.{bytes_of, word_bytes, sized}
use Rattle.sha_words.proofs.SizedLaws.{sized_none}
use Rattle.sha_words.proofs.ValueLaws.{word_laid}

-- the number of a word that was read of a list
pub number_at : {A : Type 0} (n : A → ℕ) (xs : List A) (i : ℕ) (x : A) → i < length xs → x ≡ get_or xs i x → n x ≡ get_or (map n xs) i 0
number_at n xs i x h e = ap n e ∙ sym (get_or-map n xs i x 0 h)

-- eight words laid
pub eight_laid : (k p a b c d e f g h : ℕ) (o1 o2 o3 o4 o5 o6 o7 o8 : List ℕ) → p ≡ k → k ≤ 8
    → o1 ≡ laid (zeros 64) 0 (bytes_of p a) → o2 ≡ laid o1 k (bytes_of p b)
    → o3 ≡ laid o2 (2 * k) (bytes_of p c) → o4 ≡ laid o3 (3 * k) (bytes_of p d)
    → o5 ≡ laid o4 (4 * k) (bytes_of p e) → o6 ≡ laid o5 (5 * k) (bytes_of p f)
    → o7 ≡ laid o6 (6 * k) (bytes_of p g) → o8 ≡ laid o7 (7 * k) (bytes_of p h)
    → o8 ≡ sized 64 (word_bytes p (a ∷ b ∷ c ∷ d ∷ e ∷ f ∷ g ∷ h ∷ []))
eight_laid k p a b c d e f g h o1 o2 o3 o4 o5 o6 o7 o8 z most e1 e2 e3 e4 e5 e6 e7 e8 =
    let s : List ℕ = a ∷ b ∷ c ∷ d ∷ e ∷ f ∷ g ∷ h ∷ [] in
    let w1 : o1 ≡ sized 64 (word_bytes p (take 1 s)) = e1 ∙ word_laid p s (zeros 64) (bytes_of p a) 0 0 (omega arith) (omega arith) (omega arith) (sized_none 64) refl in
    let w2 : o2 ≡ sized 64 (word_bytes p (take 2 s)) = e2 ∙ word_laid p s o1 (bytes_of p b) k 1 (omega arith) (omega arith) (omega arith) w1 refl in
    let w3 : o3 ≡ sized 64 (word_bytes p (take 3 s)) = e3 ∙ word_laid p s o2 (bytes_of p c) (2 * k) 2 (omega arith) (omega arith) (omega arith) w2 refl in
    let w4 : o4 ≡ sized 64 (word_bytes p (take 4 s)) = e4 ∙ word_laid p s o3 (bytes_of p d) (3 * k) 3 (omega arith) (omega arith) (omega arith) w3 refl in
    let w5 : o5 ≡ sized 64 (word_bytes p (take 5 s)) = e5 ∙ word_laid p s o4 (bytes_of p e) (4 * k) 4 (omega arith) (omega arith) (omega arith) w4 refl in
    let w6 : o6 ≡ sized 64 (word_bytes p (take 6 s)) = e6 ∙ word_laid p s o5 (bytes_of p f) (5 * k) 5 (omega arith) (omega arith) (omega arith) w5 refl in
    let w7 : o7 ≡ sized 64 (word_bytes p (take 7 s)) = e7 ∙ word_laid p s o6 (bytes_of p g) (6 * k) 6 (omega arith) (omega arith) (omega arith) w6 refl in
    e8 ∙ word_laid p s o7 (bytes_of p h) (7 * k) 7 (omega arith) (omega arith) (omega arith) w7 refl

-- ---- blocks in front

-- one more is hashed
pub one_more : (p : Width) (s b r m : List ℕ) → 0 < p.block → length b ≡ p.block → r ≡ b ++ m → after p s r ≡ after p (next p s b) m
unfolding hash_after
one_more p s b r m pos h e =
    let z : p.block * 0 ≡ 0 = omega arith in
    let t : take p.block (drop (p.block * 0) b) ≡ b = rw z (take_all p.block b (omega arith)) in
    ap (after p s) e ∙ after_front p s b m 1 pos (omega arith) ∙ ap (λ (l : List ℕ). after p (next p s l) m) t
