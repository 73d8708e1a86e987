-- A name-list as a list of names (RFC 4251, sections 5 and 6; SPECIFICATION 3.3): empty, or names parted by single commas. Of the lists of languages
-- it asks more than the RFC: a name has at most 64 bytes there, too. Assumes nothing.
use Rattle.std.specs.Prelude.{ℕ, List, [], ◌∷◌, ◌++◌, Bool, cond, not, ◌&&◌, length, eqb}
use Rattle.limits.specs.Limits.{name_most}
use Rattle.limits.specs.Range.{within}
use Rattle.limits.specs.Every.{every}

-- a byte of a name: 33 to 126, no comma
abbrev pub name_byte : ℕ → Bool
name_byte b = within 33 126 b && not (eqb b 44)

-- a name: 1 to 64 such bytes
unfoldable pub good_name : List ℕ → Bool
good_name n = within 1 name_most (length n) && every name_byte n

-- what stands ahead of the first comma
abbrev pub first_name : List ℕ → List ℕ
first_name [] = []
first_name (b ∷ l) = cond (eqb b 44) [] (b ∷ first_name l)

-- what stands behind each comma, up to the next
abbrev pub later_names : List ℕ → List (List ℕ)
later_names [] = []
later_names (b ∷ l) = cond (eqb b 44) (first_name l ∷ later_names l) (later_names l)

-- what the commas part, good names or bad; `a,` has an empty one at its end
abbrev pub parted : List ℕ → List (List ℕ)
parted l = first_name l ∷ later_names l

-- the names of a list: none if it is empty
abbrev pub names_of : List ℕ → List (List ℕ)
names_of [] = []
names_of (b ∷ l) = parted (b ∷ l)

-- the list of some names: a comma between two
abbrev pub joined : List (List ℕ) → List ℕ
joined [] = []
joined (n ∷ []) = n
joined (n ∷ m ∷ ns) = n ++ 44 ∷ joined (m ∷ ns)

-- a list whose names are all good
abbrev pub good_list : List ℕ → Bool
good_list l = every good_name (names_of l)

-- the names ahead of the first bad one
abbrev pub up_to_bad : List (List ℕ) → List (List ℕ)
up_to_bad [] = []
up_to_bad (n ∷ ns) = cond (good_name n) (n ∷ up_to_bad ns) []
