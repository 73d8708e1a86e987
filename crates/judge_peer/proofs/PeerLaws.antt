-- A field of INIT or REPLY as `part_of` hands it back. Assumes nothing.
use Prim.Native.Nat.{ℕ}
use mathlib.Core.Path.{◌≡◌, ap, ◌∙◌}
use mathlib.Core.List.{List}
use lib.ListN.{length}
use Rattle.wire.specs.Parts.{inside, bytes_at}
use Rattle.wire.specs.declared.Part.{Part}
use Rattle.wire.proofs.PartLaws.{inside_fits}
use Rattle.wire.proofs.StringsLaws.{part_within}
use Rattle.messages.specs.Messages.{field_part, field_of}

-- what `part_of` hands back of a field
pub field_read : (p : List ℕ) (i : ℕ) (q : Part) (v : List ℕ) → q ≡ field_part p i → v ≡ bytes_at p (inside (length p) q) → v ≡ field_of p i
field_read p i q v e h = h ∙ ap (bytes_at p) (ap (inside (length p)) e ∙ inside_fits (length p) (field_part p i) (part_within p 1 i))
