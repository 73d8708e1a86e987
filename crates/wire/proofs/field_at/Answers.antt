-- `wire::field_at` meets its contract. Assumes nothing.
use mathlib.Core.Path.{ap, ◌∙◌}
use native.Mathlib.Omega.{arith}
use Rattle.wire.specs.Told.{field_told}
use Rattle.wire.proofs.StringLaws.{field_past, field_no_body, field_found}
use Rattle.wire.proofs.field_at.Goals as goal

pub returns-in_err-len : goal.returns-in_err-len
returns-in_err-len c = let a = c.args in ap field_told c.from_residual.ensures ∙ field_past a.s.now a.at c.in_err-len.ensures

pub returns-then-len-s : goal.returns-then-len-s
returns-then-len-s c =
    let a = c.args in
    let e = c.in_ok-len.ensures in
    field_found a.s.now a.at _ e.1 e.0 (omega arith)

pub returns-else-len-s : goal.returns-else-len-s
returns-else-len-s c =
    let a = c.args in
    let e = c.in_ok-len.ensures in
    field_no_body a.s.now a.at _ e.1 e.0 (omega arith)
