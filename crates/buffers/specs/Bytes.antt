-- Lists of bytes, as a slice holds them: compared, and laid into one another. Assumes nothing.
use Rattle.std.specs.Prelude.{ℕ, zero, suc, ◌+◌, ◌<◌, List, [], ◌∷◌, ◌++◌, Bool, true, false, cond, ◌&&◌, length, get_or, set, take, drop, replicate, leb, eqb}

-- every element is a byte
abbrev pub Bytes : List ℕ → Type 0
Bytes l = (i : ℕ) → get_or l i 0 < 256

-- n zero bytes
abbrev pub zeros : ℕ → List ℕ
zeros n = replicate n 0

-- whether two lists are the same
abbrev pub same : List ℕ → List ℕ → Bool
same [] [] = true
same [] (b ∷ m) = false
same (a ∷ l) [] = false
same (a ∷ l) (b ∷ m) = eqb a b && same l m

-- l with b laid over its beginning
unfoldable pub onto : List ℕ → List ℕ → List ℕ
onto l b = b ++ drop (length b) l

-- l with b laid over it from `at` on
unfoldable pub over : List ℕ → ℕ → List ℕ → List ℕ
over l at b = take at l ++ b ++ drop (at + length b) l

-- the same where b fits there, else l
unfoldable pub laid : List ℕ → ℕ → List ℕ → List ℕ
laid l at b = cond (leb (at + length b) (length l)) (over l at b) l

-- n bytes of s from i + k on, stored one by one into l, as far behind `at`
abbrev pub stored : ℕ → List ℕ → ℕ → ℕ → ℕ → List ℕ → List ℕ
stored at s i k zero l = l
stored at s i k (suc n) l = stored at s i (suc k) n (set l (at + (i + k)) (get_or s (i + k) 0))

-- eight bytes of s from i on
abbrev pub eight : ℕ → List ℕ → ℕ → List ℕ → List ℕ
eight at s i l = stored at s i 1 7 (set l (at + i) (get_or s i 0))
