-- `changes::put_u64` meets its contract. Assumes nothing.
use mathlib.Core.Path.{ap, ◌∙◌}
use native.Mathlib.Omega.{arith}
use Rattle.buffers.specs.Bytes.{laid}
use Rattle.buffers.proofs.ByteLaws.{laid_fits}
use Rattle.stored.specs.Stored.{bytes64}
use Rattle.stored.proofs.StoredLaws.{all_eight}
use Rattle.changes.proofs.put_u64.Goals as goal

pub returns : goal.returns
returns c =
    let a = c.args in
    c.put_array.ensures ∙ ap (laid a.b.now a.at) (c.to_be_bytes.ensures ∙ all_eight a.n) ∙ laid_fits a.b.now a.at (bytes64 a.n) (omega arith)
