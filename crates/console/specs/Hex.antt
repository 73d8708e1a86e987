-- Bytes in hexadecimal.
use Rattle.std.specs.Prelude.{ℕ, List, [], ◌∷◌, ◌/◌, ◌%◌, false}
use Rattle.std.specs.List.{flat_map}
use Rattle.std.specs.Fmt.{digit_glyph}

-- the two digits of a byte, the high one first, in lower case
abbrev pub digits_of : ℕ → List ℕ
digits_of b = digit_glyph false (b / 16) ∷ digit_glyph false (b % 16) ∷ []

-- those of each byte in a row
abbrev pub hex_of : List ℕ → List ℕ
hex_of bs = flat_map digits_of bs
