-- Fields of the transcript as they stand in the room. Assumes nothing.
use Rattle.std.specs.Prelude.{ℕ, ◌+◌, List, [], ◌∷◌, ◌++◌, cond, length, take, drop, leb, eqb}
use Rattle.buffers.specs.Bytes.{over}
use Rattle.wire.specs.Strings.{string}

-- a field's string; nothing where the field is missing
unfoldable pub field : List ℕ → List ℕ
field [] = []
field (b ∷ f) = string (b ∷ f)

-- its length, from the field's
unfoldable pub field_length : ℕ → ℕ
field_length n = cond (eqb n 0) 0 (4 + n)

-- the greatest number that the code's sums can be
abbrev pub size_most : ℕ
size_most = 18446744073709551615

-- its length as the code counts it: the greatest number where the sum would pass it
unfoldable pub field_size : ℕ → ℕ
field_size n = cond (leb (4 + n) size_most) (field_length n) size_most

-- two sizes together, likewise
unfoldable pub size_sum : ℕ → ℕ → ℕ
size_sum a b = cond (leb (a + b) size_most) (a + b) size_most

-- the room with one field put in ahead of the len bytes that stand at `at` and another behind them; as it was where they do not fit
unfoldable pub around : List ℕ → ℕ → ℕ → List ℕ → List ℕ → List ℕ
around room at len ahead behind =
    cond (leb (at + length (field ahead) + len + length (field behind)) (length room))
    (over room at (field ahead ++ take len (drop at room) ++ field behind))
    room
