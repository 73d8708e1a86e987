-- Laws of `specs/Blocks.antt`, over the parameters: what a turn of each loop does, at either width. Assumes nothing.
use Prim.Native.Nat.{ℕ, zero, suc, ◌+◌, ◌-◌, ◌*◌, ◌≤◌, ◌<◌}
use mathlib.Core.Path.{◌≡◌, refl, sym, ap, ◌∙◌}
use mathlib.Core.List.{List, [], ◌∷◌}
use native.Mathlib.Omega.{arith}
use native.Mathlib.Numerals.{add-one}
use lib.ListN.{length, get_or, take, drop, set, length-append}
use lib.Seq.{take-suc-set, get_or-take}
use borrow.Author.Tests.{lt-ltb, le-ltb}
use Rattle.sha_words.specs.Words.{Width}
use Rattle.sha_words.specs.Blocks.{word_at, mixed, W, schedule, Working, round, rounds_of, working, sums, next, hash_after}

-- ---- schedule

pub length_schedule : (p : Width) (b : List ℕ) (t : ℕ) → length (schedule p b t) ≡ t
unfolding schedule
length_schedule p b zero = refl
length_schedule p b (suc t) = length-append (schedule p b t) (W p b t (schedule p b t) ∷ []) ∙ ap (λ (n : ℕ). n + 1) (length_schedule p b t) ∙ add-one t

pub schedule_none : (p : Width) (b : List ℕ) → [] ≡ schedule p b 0
unfolding schedule
schedule_none p b = refl

-- one word more stored
word_stored : (p : Width) (b m : List ℕ) (t v : ℕ) → t < length m → take t m ≡ schedule p b t → v ≡ W p b t (schedule p b t)
    → take (t + 1) (set m t v) ≡ schedule p b (t + 1)
unfolding schedule
word_stored p b m t v h e q = rw add-one (take-suc-set m t v h ∙ rw (e, q))

-- one of the block's own sixteen
pub word_first : (p : Width) (b m : List ℕ) (t v : ℕ) → t < length m → t < 16 → take t m ≡ schedule p b t
    → v ≡ word_at b (p.bytes * t) p.bytes → take (t + 1) (set m t v) ≡ schedule p b (t + 1)
unfolding W
word_first p b m t v h l e q = word_stored p b m t v h e (q ∙ rw (lt-ltb t 16 l))

-- one of those mixed from the words before it
pub word_mixed : (p : Width) (b m : List ℕ) (t v : ℕ) → t < length m → 16 ≤ t → take t m ≡ schedule p b t
    → v ≡ mixed p (get_or m (t - 2) 0) (get_or m (t - 7) 0) (get_or m (t - 15) 0) (get_or m (t - 16) 0)
    → take (t + 1) (set m t v) ≡ schedule p b (t + 1)
unfolding W
word_mixed p b m t v h l e q =
    let at : (k : ℕ) → 0 < k → get_or (schedule p b t) (t - k) 0 ≡ get_or m (t - k) 0 =
    λ k g. ap (λ (x : List ℕ). get_or x (t - k) 0) (sym e) ∙ get_or-take t m (t - k) 0 (omega arith) in
    word_stored p b m t v h e
    (q ∙ rw (le-ltb t 16 l, at 2 (omega arith), at 7 (omega arith), at 15 (omega arith), at 16 (omega arith)))

-- ---- rounds_of

pub rounds_none : (p : Width) (m : List ℕ) (v : Working) → v ≡ rounds_of p m v 0
unfolding rounds_of
rounds_none p m v = refl

-- one round more
pub round_done : (p : Width) (m : List ℕ) (v x y : Working) (t : ℕ) → x ≡ rounds_of p m v t → y ≡ round p (get_or p.K t 0) (get_or m t 0) x
    → y ≡ rounds_of p m v (t + 1)
unfolding rounds_of
round_done p m v x y t e q = rw add-one (q ∙ rw e)

-- ---- next

pub next_of : (p : Width) (s b m r : List ℕ) (v : Working) → m ≡ schedule p b p.rounds → v ≡ rounds_of p m (working s) p.rounds
    → r ≡ sums p.w s v → r ≡ next p s b
unfolding next
next_of p s b m r v d e q = q ∙ rw (e, d)
