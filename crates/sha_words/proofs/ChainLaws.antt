-- Laws of `specs/Message.antt`, over the parameters: whole blocks in front, and a message that comes in two parts. Assumes nothing.
use Prim.Native.Nat.{ℕ, zero, suc, ◌+◌, ◌-◌, ◌*◌, ◌/◌, ◌%◌, ◌≤◌, ◌<◌}
use mathlib.Core.Path.{◌≡◌, refl, sym, ap, ◌∙◌}
use mathlib.Core.List.{List, [], ◌++◌, append_assoc}
use native.Mathlib.Omega.{arith}
use native.Mathlib.Nat.{add-zero, add-suc, mul-suc, mul-add, mul-add-div, mul-add-mod_self_left, div-add-mod, mod-le, div-eq_of_lt, mod-eq_of_lt, mod_self}
use lib.ListN.{length, take, drop, length-append, length-drop, take-append-drop}
use lib.Seq.{drop-length, drop-append-le, take-append-le, drop-append-add, length-take-le}
use Rattle.sha_words.specs.Words.{Width}
use Rattle.sha_words.specs.Blocks.{hash_after, after}
use Rattle.sha_words.specs.Message.{behind}

-- ---- hash_after

-- blocks that lie in the first of two lists
pub hash_after_front : (p : Width) (s u y : List ℕ) (i : ℕ) → p.block * i ≤ length u → hash_after p s (u ++ y) i ≡ hash_after p s u i
unfolding hash_after
hash_after_front p s u y zero h = refl
hash_after_front p s u y (suc i) h =
    let g : p.block * i + p.block ≤ length u = rw mul-suc at h in
    let k : p.block ≤ length (drop (p.block * i) u) = omega (arith, length-drop (p.block * i) u) in
    rw (
      hash_after_front p s u y i (omega arith),
      drop-append-le (p.block * i) u y (omega arith),
      take-append-le p.block (drop (p.block * i) u) y k,
    )

-- whole blocks, and then those of a second list
pub hash_after_then : (p : Width) (s u y : List ℕ) (n j : ℕ) → length u ≡ p.block * n → hash_after p s (u ++ y) (n + j) ≡ hash_after p (hash_after p s u n) y j
unfolding hash_after
hash_after_then p s u y n zero h = rw add-zero (hash_after_front p s u y n (omega arith))
hash_after_then p s u y n (suc j) h =
    let d : drop (p.block * (n + j)) (u ++ y) ≡ drop (p.block * j) y =
    ap (λ (k : ℕ). drop k (u ++ y)) (mul-add p.block n j ∙ ap (λ (k : ℕ). k + p.block * j) (sym h)) ∙ drop-append-add u y (p.block * j) in
    rw add-suc (rw (hash_after_then p s u y n j h, d))

-- ---- whole blocks in front

pub after_front : (p : Width) (s u y : List ℕ) (n : ℕ) → 0 < p.block → length u ≡ p.block * n → after p s (u ++ y) ≡ after p (hash_after p s u n) y
unfolding after
after_front p s u y n pos h = rw (length-append u y, h, mul-add-div pos n (length y)) (hash_after_then p s u y n (length y / p.block) h)

pub behind_front : (p : Width) (u y : List ℕ) (n : ℕ) → length u ≡ p.block * n → behind p (u ++ y) ≡ behind p y
unfolding behind
behind_front p u y n h =
    let m : (p.block * n + length y) % p.block ≡ length y % p.block = mul-add-mod_self_left p.block n (length y) in
    let e : length u + length y - (length u + length y) % p.block ≡ length u + (length y - length y % p.block) =
    rw (h, m) (omega (arith, mod-le (length y) p.block)) in
    rw (length-append u y, e) (drop-append-add u y (length y - length y % p.block))

-- ---- less than a block

pub after_short : (p : Width) (s m : List ℕ) → length m < p.block → after p s m ≡ s
unfolding after hash_after
after_short p s m h = rw (div-eq_of_lt h)

pub behind_short : (p : Width) (m : List ℕ) → length m < p.block → behind p m ≡ m
unfolding behind
behind_short p m h =
    let e : length m - length m % p.block ≡ 0 = rw (mod-eq_of_lt h) (omega arith) in
    rw e

-- ---- one block

pub behind_block : (p : Width) (m : List ℕ) → length m ≡ p.block → behind p m ≡ []
unfolding behind
behind_block p m h =
    let e : length m - length m % p.block ≡ length m = rw (h, mod_self p.block) (omega arith) in
    rw e (drop-length m)

-- ---- two parts

-- a message's whole blocks, and what is behind them
module _ (p : Width) (m : List ℕ) where
  abbrev front : List ℕ
  front = take (length m - length m % p.block) m

  split : front ++ behind p m ≡ m
  unfolding behind
  split = take-append-drop (length m - length m % p.block) m

  length_front : length front ≡ p.block * (length m / p.block)
  length_front =
      length-take-le (length m - length m % p.block) m (omega arith)
      ∙ omega (arith, div-add-mod (length m) p.block)

pub length_behind : (p : Width) (m : List ℕ) → length (behind p m) ≡ length m % p.block
unfolding behind
length_behind p m = length-drop (length m - length m % p.block) m ∙ omega (arith, mod-le (length m) p.block)

after_whole : (p : Width) (s m : List ℕ) → after p s m ≡ hash_after p s (front p m) (length m / p.block)
unfolding after
after_whole p s m =
    ap (λ (x : List ℕ). hash_after p s x (length m / p.block)) (sym (split p m))
    ∙ hash_after_front p s (front p m) (behind p m) (length m / p.block) (omega (arith, length_front p m))

pub after_parts : (p : Width) (s a b : List ℕ) → 0 < p.block → after p (after p s a) (behind p a ++ b) ≡ after p s (a ++ b)
after_parts p s a b pos =
    let n : ℕ = length a / p.block in
    let l : length (front p a) ≡ p.block * n = length_front p a in
    ap (λ (x : List ℕ). after p x (behind p a ++ b)) (after_whole p s a)
    ∙ sym (after_front p s (front p a) (behind p a ++ b) n pos l)
    ∙ ap (after p s) (sym (append_assoc (front p a) (behind p a) b) ∙ ap (λ (x : List ℕ). x ++ b) (split p a))

pub behind_parts : (p : Width) (a b : List ℕ) → behind p (behind p a ++ b) ≡ behind p (a ++ b)
behind_parts p a b =
    sym (behind_front p (front p a) (behind p a ++ b) (length a / p.block) (length_front p a))
    ∙ ap (behind p) (sym (append_assoc (front p a) (behind p a) b) ∙ ap (λ (x : List ℕ). x ++ b) (split p a))
