-- Laws of the names: their lengths, and what a comparison of one tells. Assumes nothing.
use Prim.Native.Nat.{ℕ}
use mathlib.Core.Path.{◌≡◌, sym, ap, ◌∙◌}
use mathlib.Core.Logic.{⊎_elim}
use lib.ListN.{length}
use lib.Seq.{length-take-le}
use Rattle.methods.specs.Rows.{no_row, name_of, row_of}
use Rattle.methods.specs.declared.Method.{Method}
use Rattle.methods.proofs.MethodLaws.{row_known, row_none, sound}

-- of any number, the empty row's too
pub name_size : (n : ℕ) → length (name_of (row_of n)) ≡ (row_of n).name_len
name_size n =
    ⊎_elim
    (λ h. length-take-le (row_of n).name_len (row_of n).name (sound n h.0 h.1).name_fits)
    (λ e. ap (λ (r : Method). length (name_of r)) (sym e) ∙ ap (λ (r : Method). r.name_len) e)
    (row_known n)

-- what a `match` with an arm for each method's number leaves to its last arm: the empty row
abbrev pub Other : ℕ → Type 0
Other n =
    ((((((((Unit × (n ≡ 1 → ⊥)) × (n ≡ 2 → ⊥)) × (n ≡ 3 → ⊥)) × (n ≡ 4 → ⊥)) × (n ≡ 5 → ⊥)) × (n ≡ 6 → ⊥)) × (n ≡ 7 → ⊥)) × (n ≡ 8 → ⊥)) × (n ≡ 9 → ⊥)

pub row_other : (n : ℕ) → Other n → no_row ≡ row_of n
row_other n r =
    row_none n r.0.0.0.0.0.0.0.0.1 r.0.0.0.0.0.0.0.1 r.0.0.0.0.0.0.1 r.0.0.0.0.0.1 r.0.0.0.0.1 r.0.0.0.1 r.0.0.1 r.0.1 r.1
