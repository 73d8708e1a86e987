-- What is told of a method, as its row has it. Assumes nothing.
use Rattle.std.specs.Prelude.{ℕ, List, [], ◌∷◌, cond, length, ltb, eqb}
use Rattle.wire.specs.Causes.{cause_if}
use Rattle.methods.specs.Rows.{hybrid, row_of, name_of}

-- 2 for a number that is no method
unfoldable pub method_cause : ℕ → ℕ
method_cause m = cause_if (eqb (row_of m).number 0) 2 0

-- C's length and where its classical part begins, S's likewise, X's length, the digest's; whether it is a hybrid, and whether an all-zero
-- X is refused
unfoldable pub sizes_of : ℕ → List ℕ
sizes_of m =
    (row_of m).c.len
    ∷ (row_of m).c.classical
    ∷ (row_of m).s.len
    ∷ (row_of m).s.classical
    ∷ (row_of m).x_len
    ∷ (row_of m).digest_len
    ∷ cond (hybrid (row_of m).k_form) 1 0
    ∷ cond (row_of m).zero_check 1 0
    ∷ []

-- why a method's name is not written to an output of `size` bytes
unfoldable pub name_cause : ℕ → ℕ → ℕ
name_cause size m = cause_if (eqb (row_of m).number 0) 2 (cause_if (ltb size (length (name_of (row_of m)))) 5 0)
