-- The SSH mpint: a string whose body is the shortest two's complement, the highest byte first; zero has an empty body
-- (RFC 4251, section 5). Assumes nothing.
use Rattle.std.specs.Prelude.{ℕ, List, [], ◌∷◌, Bool, false, Result, Ok, Err, cond, ℤ, pos, negsuc, ltb, leb, eqb}
use Rattle.limits.specs.Refusals.{number_of}
use Rattle.limits.specs.declared.Refusal.{Refusal}
use Rattle.wire.specs.Parts.{nothing, bytes_at}
use Rattle.wire.specs.Strings.{string, whole, read_string}
use Rattle.wire.specs.declared.Part.{Part}
use Rattle.mpint.specs.declared.MpintAndRest.{MpintAndRest}

-- the mpint at the front of an input: 0 with its sign, its body and what follows it, or 12 or 22
pub record MpintRead : Type 0 where
  pub number : ℕ
  pub sign : ℤ
  pub body : Part
  pub rest : Part

-- whether two's complement bytes stay the same number without the first: it is 00 or ff, and the next bit says so again
abbrev pub excess : List ℕ → Bool
excess [] = false
excess (a ∷ []) = eqb a 0
excess (a ∷ b ∷ r) = cond (eqb a 0) (ltb b 128) (cond (eqb a 255) (leb 128 b) false)

-- the shortest two's complement of the same number
unfoldable pub shortest : List ℕ → List ℕ
shortest [] = []
shortest (a ∷ r) = cond (excess (a ∷ r)) (shortest r) (a ∷ r)

-- the mpint of the number that two's complement bytes stand for
abbrev pub mpint : List ℕ → List ℕ
mpint bytes = string (shortest bytes)

-- the sign of shortest two's complement bytes
abbrev pub sign_of : List ℕ → ℤ
sign_of [] = pos 0
sign_of (a ∷ r) = cond (ltb a 128) (pos 1) (negsuc 0)

-- the body of the string at the front
abbrev pub body_of : List ℕ → List ℕ
body_of s = bytes_at s (read_string s).body

-- a refusal: no sign, and empty parts
abbrev pub mpint_refused : ℕ → MpintRead
mpint_refused n = record { number = n; sign = pos 0; body = nothing; rest = nothing }

-- the same by what a reader answers
abbrev pub mpint_told : Result MpintAndRest Refusal → MpintRead
mpint_told (Ok r) = record { number = 0; sign = r.sign; body = r.body; rest = r.rest }
mpint_told (Err e) = mpint_refused (number_of e)

-- the mpint at the front: 12 where it passes the end, then 22 where its body could be shorter
unfoldable pub read_mpint : List ℕ → MpintRead
read_mpint s =
    cond (whole s)
    (cond (excess (body_of s))
    (mpint_refused 22)
    (record { number = 0; sign = sign_of (body_of s); body = (read_string s).body; rest = (read_string s).rest }))
    (mpint_refused 12)
