-- The working variables and a hash value as the code holds them: numbers, of words of any type. Assumes nothing.
use Rattle.std.specs.Prelude.{ℕ, List, [], ◌∷◌}
use Rattle.sha_words.specs.Blocks.{Working}
use Rattle.sha_blocks.specs.declared.Variables.{Variables}

abbrev pub working : {A : Type 0} → (A → ℕ) → Variables A → Working
working n v = record { a = n v.a; b = n v.b; c = n v.c; d = n v.d; e = n v.e; f = n v.f; g = n v.g; h = n v.h }

-- H_0 to H_7
abbrev pub listed : {A : Type 0} → (A → ℕ) → Variables A → List ℕ
listed n v = n v.a ∷ n v.b ∷ n v.c ∷ n v.d ∷ n v.e ∷ n v.f ∷ n v.g ∷ n v.h ∷ []
