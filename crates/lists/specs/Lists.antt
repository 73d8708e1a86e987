-- Ten lists in one buffer, told by a table of their ends. Assumes nothing.
use Rattle.std.specs.Prelude.{ℕ, zero, suc, ◌+◌, ◌-◌, List, [], ◌∷◌, ◌++◌, Bool, cond, ◌&&◌, length, get_or, take, drop, leb, eqb}
use Rattle.limits.specs.Limits.{string_most, list_count}
use Rattle.wire.specs.Causes.{cause_unless}
use Rattle.names.specs.Names.{good_list}
use Rattle.arguments.specs.Arguments.{is_yes}
use Rattle.proposal.specs.Proposal.{Kexinit, kexinit_of, write_cause}

-- a list that stands from one place to another in the buffer
abbrev pub stands : List ℕ → ℕ → ℕ → Bool
stands s from to = leb from to && leb to (length s)

unfoldable pub list_at : List ℕ → ℕ → ℕ → List ℕ
list_at s from to = cond (stands s from to) (take (to - from) (drop from s)) []

-- the next n lists, the first of which begins at a place and has the table's end i
abbrev pub lists_at : List ℕ → List ℕ → ℕ → ℕ → ℕ → List (List ℕ)
lists_at s ends at i zero = []
lists_at s ends at i (suc n) = list_at s at (get_or ends i 0) ∷ lists_at s ends (get_or ends i 0) (i + 1) n

-- a name-list stands there
unfoldable pub good_at : List ℕ → ℕ → ℕ → Bool
good_at s from to = stands s from to && good_list (list_at s from to)

-- the number, 1 to 10, of the first among them that does not stand in the buffer or is no name-list; 0 with none
unfoldable pub bad_at : List ℕ → List ℕ → ℕ → ℕ → ℕ → ℕ
bad_at s ends at i zero = 0
bad_at s ends at i (suc n) = cond (good_at s at (get_or ends i 0)) (bad_at s ends (get_or ends i 0) (i + 1) n) (i + 1)

abbrev pub first_bad : List ℕ → List ℕ → ℕ
first_bad s ends = bad_at s ends 0 0 list_count

-- the KEXINIT that is asked for
unfoldable pub proposed : List ℕ → List ℕ → List ℕ → ℕ → ℕ → Kexinit
proposed cookie s ends follows reserved = kexinit_of cookie (lists_at s ends 0 0 list_count) (is_yes follows) reserved

-- no list is bad, the last ends with the buffer, and the reserved number has 32 bits: else 4; then why the KEXINIT is not written
unfoldable pub table_ok : List ℕ → List ℕ → ℕ → Bool
table_ok s ends reserved = eqb (first_bad s ends) 0 && eqb (get_or ends 9 0) (length s) && leb reserved string_most

unfoldable pub table_cause : ℕ → List ℕ → List ℕ → List ℕ → ℕ → ℕ → ℕ
table_cause size cookie s ends follows reserved =
    cause_unless (table_ok s ends reserved) 4 (write_cause size (proposed cookie s ends follows reserved))

-- ---- lists as castulfrisa_join lays them: one behind another, with the place where each ends

abbrev pub joined : List (List ℕ) → List ℕ
joined [] = []
joined (l ∷ ls) = l ++ joined ls

abbrev pub ends_from : ℕ → List (List ℕ) → List ℕ
ends_from at [] = []
ends_from at (l ∷ ls) = (at + length l) ∷ ends_from (at + length l) ls
