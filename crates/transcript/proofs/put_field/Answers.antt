-- `transcript::put_field` meets its contract. Assumes nothing.
use mathlib.Core.Path.{sym, ap, ◌∙◌}
use native.Mathlib.Omega.{arith}
use lib.ListN.{length}
use borrow.Author.Tests.{eqb-true, eqb-false}
use Rattle.buffers.specs.Bytes.{laid}
use Rattle.transcript.proofs.RoomLaws.{field_some}
use Rattle.transcript.proofs.FieldLaws.{laid_missing}
use Rattle.transcript.proofs.put_field.Goals as goal

pub returns-then-not-is_empty : goal.returns-then-not-is_empty
returns-then-not-is_empty c =
    let a = c.args in
    let n = eqb-false (length a.f.now) 0 (sym c.if-not-is_empty.ensures) in
    c.put_string.ensures ∙ sym (ap (laid a.room.now a.at) (field_some a.f.now (omega arith)))

pub returns-else-not-is_empty : goal.returns-else-not-is_empty
returns-else-not-is_empty c =
    let a = c.args in
    laid_missing a.room.now a.at a.f.now (eqb-true (length a.f.now) 0 (sym c.if-not-is_empty.ensures))
