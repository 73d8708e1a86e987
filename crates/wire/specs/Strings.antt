-- The SSH string: a big-endian 32-bit length and that many bytes (RFC 4251, section 5). Assumes nothing.
use Rattle.std.specs.Prelude.{ℕ, zero, suc, ◌+◌, ◌-◌, ◌*◌, ◌/◌, ◌%◌, List, [], ◌∷◌, ◌++◌, Bool, cond, ◌&&◌, length, get_or, drop, leb}
use Rattle.wire.specs.Parts.{part, nothing}
use Rattle.wire.specs.declared.Part.{Part}

-- a string inside an input: 0 and its body's place, or 12
pub record Field : Type 0 where
  pub number : ℕ
  pub start : ℕ
  pub len : ℕ

-- where a run of strings ends, with 0; or 12 and where the one that passes the end begins
pub record Walk : Type 0 where
  pub number : ℕ
  pub place : ℕ

-- the string at the front of an input: 0 with its body and what follows it, or 12
pub record StringRead : Type 0 where
  pub number : ℕ
  pub body : Part
  pub rest : Part

-- the four bytes of a 32-bit number, the highest first
abbrev pub bytes32 : ℕ → List ℕ
bytes32 n = n / 16777216 % 256 ∷ n / 65536 % 256 ∷ n / 256 % 256 ∷ n % 256 ∷ []

-- the number in the first four bytes
abbrev pub number32 : List ℕ → ℕ
number32 s = get_or s 0 0 * 16777216 + get_or s 1 0 * 65536 + get_or s 2 0 * 256 + get_or s 3 0

-- the number in the four bytes from `at` on; 0 where they pass the end
unfoldable pub number_at : List ℕ → ℕ → ℕ
number_at s at = cond (leb (at + 4) (length s)) (number32 (drop at s)) 0

-- the string with this body
unfoldable pub string : List ℕ → List ℕ
string body =
    -- uint32 length
    bytes32 (length body)
    -- byte[length]
    ++ body

-- strings with these bodies, one after another
abbrev pub strings : List (List ℕ) → List ℕ
strings [] = []
strings (b ∷ bs) = string b ++ strings bs

-- whether a whole string stands at the front: neither its four length bytes nor its body pass the end
unfoldable pub whole : List ℕ → Bool
whole s = leb 4 (length s) && leb (4 + number32 s) (length s)

-- the string whose length bytes begin at `at`: the place of its body; 12 where it passes the end
unfoldable pub field_at : List ℕ → ℕ → Field
field_at s at =
    cond (whole (drop at s))
    (record { number = 0; start = at + 4; len = number32 (drop at s) })
    (record { number = 12; start = 0; len = 0 })

-- k strings, the first of which begins at `at`: where the last ends; 12 and where the first that passes the end begins
abbrev pub walk : List ℕ → ℕ → ℕ → Walk
walk s at zero = record { number = 0; place = at }
walk s at (suc k) = cond (whole (drop at s)) (walk s (at + 4 + number32 (drop at s)) k) (record { number = 12; place = at })

-- the place of string i, counted from 0, of those that begin at `at`
unfoldable pub string_part : List ℕ → ℕ → ℕ → Part
string_part s at i = part (field_at s (walk s at i).place).start (field_at s (walk s at i).place).len

-- the string at the front: its body and what follows it; 12 where it passes the end, for an empty input too
unfoldable pub read_string : List ℕ → StringRead
read_string s =
    cond (whole s)
    (record { number = 0; body = part 4 (number32 s); rest = part (4 + number32 s) (length s - (4 + number32 s)) })
    (record { number = 12; body = nothing; rest = nothing })
