-- What a client's list of names has in common with a server's: the first of the client's that counts and stands in the server's.
-- Over lists of names; nothing here knows of payloads. Assumes nothing.
use Rattle.std.specs.Prelude.{ℕ, ◌+◌, List, [], ◌∷◌, Bool, true, false, cond, ◌&&◌, ◌||◌, Option, Some, None, length, ltb, eqb}
use Rattle.buffers.specs.Bytes.{same}
use Rattle.wire.specs.Parts.{part, nothing}
use Rattle.wire.specs.declared.Part.{Part}
use Rattle.methods.specs.Rows.{number_of}

-- whether a name stands in a list
abbrev pub has : List ℕ → List (List ℕ) → Bool
has n [] = false
has n (m ∷ ms) = same n m || has n ms

-- the first of the client's names that counts and stands in the server's list; the empty name with none
abbrev pub common : (List ℕ → Bool) → List (List ℕ) → List (List ℕ) → List ℕ
common counts [] server = []
common counts (n ∷ ns) server = cond (counts n && has n server) n (common counts ns server)

-- every method is allowed
abbrev pub any : ℕ → Bool
any m = true

-- a name counts for the method where it is one of the methods' and that is allowed
abbrev pub is_method : (ℕ → Bool) → List ℕ → Bool
is_method allowed n = ltb 0 (number_of n) && allowed (number_of n)

-- the method: the number of the first such name, 0 with none
unfoldable pub method_in : (ℕ → Bool) → List (List ℕ) → List (List ℕ) → ℕ
method_in allowed client server = number_of (common (is_method allowed) client server)

-- a method's number where there is one: 0 is none
abbrev pub some_method : ℕ → Option ℕ
some_method m = cond (eqb m 0) None (Some m)

-- every name counts for the host key
abbrev pub every_name : List ℕ → Bool
every_name n = true

-- its place: the client's names stand one behind another from `at` on, a comma between two
abbrev pub common_part : ℕ → List (List ℕ) → List (List ℕ) → Part
common_part at [] server = nothing
common_part at (n ∷ ns) server = cond (has n server) (part at (length n)) (common_part (at + length n + 1) ns server)

-- a name's place where there is one: no name is empty
abbrev pub some_place : Part → Option Part
some_place p = cond (eqb p.len 0) None (Some p)

-- the first name of a list; the empty name with none
abbrev pub first_of : List (List ℕ) → List ℕ
first_of [] = []
first_of (n ∷ ns) = n
