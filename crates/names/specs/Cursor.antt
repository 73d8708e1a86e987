-- A cursor over a list inside a payload: the names that it has ahead, and what it yields next (SPECIFICATION 4.4). Assumes nothing.
use Rattle.std.specs.Prelude.{ℕ, ◌+◌, ◌-◌, List, [], ◌∷◌, true, false, cond, ◌&&◌, length, take, drop, leb, eqb}
use Rattle.limits.specs.Every.{every}
use Rattle.wire.specs.Parts.{part, nothing}
use Rattle.wire.specs.declared.Part.{Part}
use Rattle.names.specs.Names.{good_name, parted}
use Rattle.names.specs.declared.Cursor.{Cursor}
use Rattle.names.specs.Next.{Next}

-- a cursor that has nothing ahead
abbrev pub exhausted : Cursor
exhausted = record { at = 1; end = 0 }

-- the cursor at the beginning of the list that stands at a place
abbrev pub cursor_of : Part → Cursor
cursor_of p = cond (eqb p.len 0) exhausted (record { at = p.start; end = p.start + p.len })

-- the names that a cursor has ahead: none behind the last, nor where its list passes the payload's end
unfoldable pub ahead : List ℕ → Cursor → List (List ℕ)
ahead s c = cond (leb c.end (length s) && leb c.at c.end) (parted (take (c.end - c.at) (drop c.at s))) []

-- what a cursor yields: a good name and the cursor behind it and its comma; else nothing, with 19 for a bad name, and it stays
abbrev pub yield : Cursor → List (List ℕ) → Next
yield c [] = record { number = 0; found = false; name = nothing; cursor = c }
yield c (n ∷ ns) =
    cond (good_name n)
    (record { number = 0; found = true; name = part c.at (length n); cursor = record { at = c.at + length n + 1; end = c.end } })
    (record { number = 19; found = false; name = nothing; cursor = c })

unfoldable pub next_name : List ℕ → Cursor → Next
next_name s c = yield c (ahead s c)

-- 19 where a name ahead is bad
abbrev pub bad_name : List (List ℕ) → ℕ
bad_name ns = cond (every good_name ns) 0 19

unfoldable pub names_cause : List ℕ → Cursor → ℕ
names_cause s c = bad_name (ahead s c)
