-- The first cause in an order (SPECIFICATION 2.1.1): a number above 0 is given exactly when its cause is the first to hold, else 0.
-- Assumes nothing.
use Rattle.std.specs.Prelude.{ℕ, Bool, cond, eqb}

-- n where the test holds, else what the rest says
unfoldable pub cause_if : Bool → ℕ → ℕ → ℕ
cause_if t n rest = cond t n rest

-- n where the test fails, else what the rest says
unfoldable pub cause_unless : Bool → ℕ → ℕ → ℕ
cause_unless t n rest = cond t rest n

-- the cause of a first judgement, else that of a second
unfoldable pub or_else : ℕ → ℕ → ℕ
or_else first second = cond (eqb first 0) second first
