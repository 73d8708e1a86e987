-- The integer that two's complement bytes stand for, the highest byte first. Before the first byte stands its sign, 0, or -1
-- where its top bit is set; each byte takes the number so far times 256 and adds itself. Assumes nothing.
use Rattle.std.specs.Prelude.{ℕ, zero, suc, ◌+◌, ◌*◌, List, [], ◌∷◌, cond, ℤ, pos, negsuc, ◌+ℤ◌, ◌*ℤ◌, ltb}

-- the integer v followed by bytes
abbrev pub go_on : ℤ → List ℕ → ℤ
go_on v [] = v
go_on v (b ∷ r) = go_on (v *ℤ pos 256 +ℤ pos b) r

-- the integer of two's complement bytes, none meaning zero
abbrev pub value : List ℕ → ℤ
value [] = pos 0
value (a ∷ r) = go_on (cond (ltb a 128) (pos 0) (negsuc 0)) (a ∷ r)

-- the number v followed by bytes
abbrev pub go_on_ℕ : ℕ → List ℕ → ℕ
go_on_ℕ v [] = v
go_on_ℕ v (b ∷ r) = go_on_ℕ (v * 256 + b) r

-- the number of unsigned bytes
abbrev pub unsigned : List ℕ → ℕ
unsigned x = go_on_ℕ 0 x

-- the sign of an integer
abbrev pub sgn : ℤ → ℤ
sgn (pos zero) = pos 0
sgn (pos (suc n)) = pos 1
sgn (negsuc n) = negsuc 0
