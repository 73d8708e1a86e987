-- A part of an input: which bytes it has, and where it stands. Assumes nothing.
use Rattle.std.specs.Prelude.{ℕ, ◌+◌, List, cond, take, drop, leb}
use Rattle.wire.specs.declared.Part.{Part}

-- the part from `start` on, `len` bytes long
abbrev pub part : ℕ → ℕ → Part
part start len = record { start = start; len = len }

-- the empty part at the input's start: every part of a refusal
abbrev pub nothing : Part
nothing = part 0 0

-- a part's bytes
abbrev pub bytes_at : List ℕ → Part → List ℕ
bytes_at s p = take p.len (drop p.start s)

-- a part's place: in the input's memory, so many bytes past the input's own place
abbrev pub place_at : ℕ × ℕ → Part → ℕ × ℕ
place_at at p = (at.0, p.start + at.1)

-- a place where it lies within an input of n bytes, else the empty part
unfoldable pub inside : ℕ → Part → Part
inside n p = cond (leb (p.start + p.len) n) p nothing
