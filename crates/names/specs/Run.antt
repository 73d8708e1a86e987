-- A cursor's run: `next_name` again and again. Assumes nothing.
use Rattle.std.specs.Prelude.{ℕ, ◌≡◌, List, [], ◌∷◌, true, false}
use Rattle.wire.specs.Parts.{bytes_at}
use Rattle.names.specs.Cursor.{next_name}
use Rattle.names.specs.declared.Cursor.{Cursor}

-- from a cursor on: the names that were yielded, and the number that ended it, 0 for the end and 19 for a bad name. There the cursor
-- stays, whatever is asked after
pub data Run (s : List ℕ) : Cursor → List (List ℕ) → ℕ → Type 0 where
  ends : {c : Cursor} → (next_name s c).found ≡ false → (next_name s c).cursor ≡ c → Run s c [] (next_name s c).number
  yields : {c : Cursor} {ns : List (List ℕ)} {k : ℕ} → (next_name s c).found ≡ true → Run s (next_name s c).cursor ns k
      → Run s c (bytes_at s (next_name s c).name ∷ ns) k
