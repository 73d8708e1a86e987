-- FIPS 180-4, sections 6.2.2 and 6.4.2: a block's words, the message schedule, the rounds, and the hash values that follow one another.
-- Assumes nothing.
use Rattle.std.specs.Prelude.{ℕ, zero, suc, ◌+◌, ◌-◌, ◌*◌, ◌/◌, List, [], ◌∷◌, ◌++◌, cond, length, get_or, take, drop, ltb}
use Rattle.sha_words.specs.Words.{Width, add, Ch, Maj, Σ0, Σ1, σ0, σ1}

-- 3.1: the word of n bytes of b from `at` on, the highest byte first
abbrev pub word_at : List ℕ → ℕ → ℕ → ℕ
word_at b at zero = 0
word_at b at (suc n) = word_at b at n * 256 + get_or b (at + n) 0

-- ---- step 1: the message schedule

-- σ1(W_t-2) + W_t-7 + σ0(W_t-15) + W_t-16
unfoldable pub mixed : Width → ℕ → ℕ → ℕ → ℕ → ℕ
mixed p w2 w7 w15 w16 = add p.w (add p.w (add p.w (σ1 p w2) w7) (σ0 p w15)) w16

-- W_t, of the block b and of W_0 to W_t-1
unfoldable pub W : Width → List ℕ → ℕ → List ℕ → ℕ
W p b t before =
    cond (ltb t 16)
    (word_at b (p.bytes * t) p.bytes)
    (mixed p (get_or before (t - 2) 0) (get_or before (t - 7) 0) (get_or before (t - 15) 0) (get_or before (t - 16) 0))

-- W_0 to W_t, of those ahead of it
abbrev pub longer : Width → List ℕ → ℕ → List ℕ → List ℕ
longer p b t before = before ++ (W p b t before ∷ [])

-- W_0 to W_t-1
unfoldable pub schedule : Width → List ℕ → ℕ → List ℕ
schedule p b zero = []
schedule p b (suc t) = longer p b t (schedule p b t)

-- ---- step 2: the working variables

pub record Working : Type 0 where
  pub a : ℕ
  pub b : ℕ
  pub c : ℕ
  pub d : ℕ
  pub e : ℕ
  pub f : ℕ
  pub g : ℕ
  pub h : ℕ

-- of the words H_0 to H_7
abbrev pub working : List ℕ → Working
working H = record { a = get_or H 0 0; b = get_or H 1 0; c = get_or H 2 0; d = get_or H 3 0; e = get_or H 4 0; f = get_or H 5 0; g = get_or H 6 0; h = get_or H 7 0 }

-- ---- step 3: the rounds

-- T1 = h + Σ1(e) + Ch(e, f, g) + K_t + W_t
abbrev pub T1 : Width → ℕ → ℕ → Working → ℕ
T1 p k w v = add p.w (add p.w (add p.w (add p.w v.h (Σ1 p v.e)) (Ch p.w v.e v.f v.g)) k) w

-- T2 = Σ0(a) + Maj(a, b, c)
abbrev pub T2 : Width → Working → ℕ
T2 p v = add p.w (Σ0 p v.a) (Maj v.a v.b v.c)

-- one round
unfoldable pub round : Width → ℕ → ℕ → Working → Working
round p k w v = record {
  a = add p.w (T1 p k w v) (T2 p v);
  b = v.a;
  c = v.b;
  d = v.c;
  e = add p.w v.d (T1 p k w v);
  f = v.e;
  g = v.f;
  h = v.g;
}

-- the first t rounds
unfoldable pub rounds_of : Width → List ℕ → Working → ℕ → Working
rounds_of p ws v zero = v
rounds_of p ws v (suc t) = round p (get_or p.K t 0) (get_or ws t 0) (rounds_of p ws v t)

-- ---- step 4: the next hash value

-- a + H_0, b + H_1, ..
abbrev pub sums : ℕ → List ℕ → Working → List ℕ
sums w H v =
    add w v.a (get_or H 0 0) ∷ add w v.b (get_or H 1 0) ∷ add w v.c (get_or H 2 0) ∷ add w v.d (get_or H 3 0)
    ∷ add w v.e (get_or H 4 0) ∷ add w v.f (get_or H 5 0) ∷ add w v.g (get_or H 6 0) ∷ add w v.h (get_or H 7 0) ∷ []

-- H^(i), of H^(i-1) and block i
unfoldable pub next : Width → List ℕ → List ℕ → List ℕ
next p H b = sums p.w H (rounds_of p (schedule p b p.rounds) (working H) p.rounds)

-- the hash value after the first i blocks of m, from H on
unfoldable pub hash_after : Width → List ℕ → List ℕ → ℕ → List ℕ
hash_after p H m zero = H
hash_after p H m (suc i) = next p (hash_after p H m i) (take p.block (drop (p.block * i) m))

-- the hash value after the whole blocks of m, from H on
unfoldable pub after : Width → List ℕ → List ℕ → List ℕ
after p H m = hash_after p H m (length m / p.block)
