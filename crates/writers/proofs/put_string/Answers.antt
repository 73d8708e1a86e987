-- `writers::put_string` meets its contract. Assumes nothing.
use Prim.Native.Nat.{ℕ, ◌+◌}
use mathlib.Core.Path.{sym, ap, ◌∙◌}
use mathlib.Core.List.{List}
use native.Mathlib.Omega.{arith}
use Rattle.buffers.specs.Bytes.{laid}
use Rattle.wire.specs.Strings.{string}
use Rattle.buffers.proofs.ByteLaws.{laid_kept}
use Rattle.wire.proofs.StringLaws.{length_string}
use Rattle.writers.proofs.WriterLaws.{laid_string}
use Rattle.writers.proofs.put_string.Goals as goal

pub returns-then-saturating_sub-body : goal.returns-then-saturating_sub-body
returns-then-saturating_sub-body c =
    let a = c.args in
    let n = length_string a.body.now in
    sym (laid_kept a.out.now a.at (string a.body.now) (omega arith))

pub returns : goal.returns
returns c =
    let a = c.args in
    let n = length_string a.body.now in
    c.put_bytes.ensures
    ∙ ap (λ (l : List ℕ). laid l (a.at + 4) a.body.now) c.put_u32.ensures
    ∙ laid_string a.out.now a.at a.body.now (omega arith)
