-- `kexinit::list_cursor` meets its contract. Assumes nothing.
use mathlib.Core.Path.{ap, ◌∙◌}
use native.Mathlib.Omega.{arith}
use Rattle.wire.specs.declared.Part.{Part}
use Rattle.wire.proofs.StringsLaws.{part_within}
use Rattle.names.specs.Cursor.{cursor_of}
use Rattle.kexinit.proofs.ReaderLaws.{cursor_empty, cursor_some}
use Rattle.kexinit.proofs.list_cursor.Goals as goal

pub returns-then-p-eq0 : goal.returns-then-p-eq0
returns-then-p-eq0 c =
    cursor_empty c.string_part-p.result c.if-p-eq0.true ∙ ap cursor_of c.string_part-p.ensures

pub overflow_add-result : goal.overflow_add-result
overflow_add-result c =
    let e = c.string_part-p.ensures in
    let w = part_within c.args.payload.now 17 c.args.i in
    omega (arith, ap (λ (x : Part). x.start) e, ap (λ (x : Part). x.len) e)

pub returns : goal.returns
returns c =
    cursor_some c.string_part-p.result c.if-p-eq0.false ∙ ap cursor_of c.string_part-p.ensures
