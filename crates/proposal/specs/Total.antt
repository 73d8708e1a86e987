-- The writer's running total, kept from passing the most bytes by more than one. Assumes nothing.
use Rattle.std.specs.Prelude.{ℕ, ◌+◌, List, [], ◌∷◌, Option, Some, None, cond, ◌&&◌, length, leb}
use Rattle.std.specs.Borrow.{Bor}
use Rattle.limits.specs.Limits.{kexinit_most}
use Rattle.names.specs.Names.{good_list}

-- the lists that are lent
abbrev pub bodies : List (Bor (List ℕ)) → List (List ℕ)
bodies [] = []
bodies (b ∷ bs) = b.now ∷ bodies bs

-- a total and one list more; one above the most stands for anything above it, and for a bad list
unfoldable pub with_list : ℕ → List ℕ → ℕ
with_list total list = cond (leb (total + 4 + length list) kexinit_most && good_list list) (total + 4 + length list) (kexinit_most + 1)

-- the running total over a run of lists
abbrev pub total : ℕ → List (List ℕ) → ℕ
total t [] = t
total t (l ∷ ls) = total (with_list t l) ls

-- a total where it is none above the most
abbrev pub some_total : ℕ → Option ℕ
some_total t = cond (leb t kexinit_most) (Some t) None
