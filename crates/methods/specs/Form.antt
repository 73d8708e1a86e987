-- The form that a row wants of a public value, ours or the peer's (SPECIFICATION 5.2). Assumes nothing.
use Rattle.std.specs.Prelude.{ℕ, List, Bool, true, cond, ◌&&◌, length, get_or, eqb}
use Rattle.methods.specs.declared.Shape.{Shape}

-- a length that the value may have
unfoldable pub length_fits : Shape → ℕ → Bool
length_fits h n = eqb n h.len

-- a NIST point begins with byte 4, at the classical part
unfoldable pub lead_fits : Shape → List ℕ → Bool
lead_fits h v = cond h.point (eqb (get_or v h.classical 0) 4) true

-- both
unfoldable pub formed : Shape → List ℕ → Bool
formed h v = length_fits h (length v) && lead_fits h v
