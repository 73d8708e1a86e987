-- FIPS 180-4, sections 2.2, 3.2 and 4.1: operations on words of w bits, and the functions on them. A word is a number below 2 ^ w. SHA-256
-- differs from SHA-384 and SHA-512 by the width of its words, by the amounts of its rotations, by its rounds and their constants; so each
-- definition stands once, over these. Assumes nothing.
use Rattle.std.specs.Prelude.{ℕ, ◌+◌, ◌-◌, ◌*◌, ◌/◌, ◌%◌, ◌^◌, List}
use Rattle.std.specs.Int.Bits.{bit_and, bit_or, bit_xor}

-- by how much a function rotates, twice, and then rotates or shifts
pub record Turns : Type 0 where
  pub first : ℕ
  pub second : ℕ
  pub third : ℕ

-- what the algorithms of one width are told by (figure 1, 4.1.2 and 4.1.3, 4.2.2 and 4.2.3)
pub record Width : Type 0 where
  -- w, and a word's bytes
  pub w : ℕ
  pub bytes : ℕ
  -- the bytes of a block, which is sixteen words
  pub block : ℕ
  -- the rounds, and K_0, K_1, ..
  pub rounds : ℕ
  pub K : List ℕ
  pub Σ0-by : Turns
  pub Σ1-by : Turns
  pub σ0_by : Turns
  pub σ1_by : Turns

-- ---- 3.2: operations on words

-- addition modulo 2 ^ w
abbrev pub add : ℕ → ℕ → ℕ → ℕ
add w x y = (x + y) % 2 ^ w

-- ¬x
abbrev pub complement : ℕ → ℕ → ℕ
complement w x = 2 ^ w - 1 - x

-- x << n
abbrev pub shift_left : ℕ → ℕ → ℕ → ℕ
shift_left w n x = x * 2 ^ n % 2 ^ w

-- SHR^n(x) = x >> n
abbrev pub SHR : ℕ → ℕ → ℕ
SHR n x = x / 2 ^ n

-- ROTR^n(x) = (x >> n) ∨ (x << (w - n))
abbrev pub ROTR : ℕ → ℕ → ℕ → ℕ
ROTR w n x = bit_or (SHR n x) (shift_left w (w - n) x)

-- ---- 4.1.2 and 4.1.3: the functions

-- (x ∧ y) ⊕ (¬x ∧ z)
abbrev pub Ch : ℕ → ℕ → ℕ → ℕ → ℕ
Ch w x y z = bit_xor (bit_and x y) (bit_and (complement w x) z)

-- (x ∧ y) ⊕ (x ∧ z) ⊕ (y ∧ z)
abbrev pub Maj : ℕ → ℕ → ℕ → ℕ
Maj x y z = bit_xor (bit_xor (bit_and x y) (bit_and x z)) (bit_and y z)

-- ROTR ⊕ ROTR ⊕ ROTR
abbrev pub turned : ℕ → Turns → ℕ → ℕ
turned w by x = bit_xor (bit_xor (ROTR w by.first x) (ROTR w by.second x)) (ROTR w by.third x)

-- ROTR ⊕ ROTR ⊕ SHR
abbrev pub shifted : ℕ → Turns → ℕ → ℕ
shifted w by x = bit_xor (bit_xor (ROTR w by.first x) (ROTR w by.second x)) (SHR by.third x)

abbrev pub Σ0 : Width → ℕ → ℕ
Σ0 p x = turned p.w p.Σ0-by x

abbrev pub Σ1 : Width → ℕ → ℕ
Σ1 p x = turned p.w p.Σ1-by x

abbrev pub σ0 : Width → ℕ → ℕ
σ0 p x = shifted p.w p.σ0_by x

abbrev pub σ1 : Width → ℕ → ℕ
σ1 p x = shifted p.w p.σ1_by x
