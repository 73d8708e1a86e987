-- `wire::string_part` meets its contract. Assumes nothing.
use mathlib.Core.Path.{ap, ◌∙◌}
use Rattle.wire.specs.Parts.{part}
use Rattle.wire.specs.Strings.{Walk, field_at, string_part}
use Rattle.wire.proofs.StringLaws.{part_found}
use Rattle.wire.proofs.WalkLaws.{part_lost}
use Rattle.wire.proofs.string_part.Goals as goal

pub returns-in-Ok : goal.returns-in-Ok
unfolding string_part
returns-in-Ok c =
    let s = c.args.s.now in
    part_found s c.in-Ok.place _ _ c.unwrap_or_default.ensures c.field_at.ensures
    ∙ ap (λ (w : Walk). part (field_at s w.place).start (field_at s w.place).len) c.in-Ok.ensures

pub returns-in-Err : goal.returns-in-Err
returns-in-Err c =
    let a = c.args in
    let d = c.default.ensures in
    (λ i. part (d.0 i) (d.1 i)) ∙ part_lost a.s.now a.at a.i _ c.in-Err.ensures
