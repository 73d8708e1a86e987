-- `lookups::method_name` meets its contract. Assumes nothing.
use mathlib.Core.Path.{ap, ◌∙◌}
use native.Mathlib.Omega.{arith}
use lib.ListN.{length}
use Rattle.buffers.specs.Bytes.{laid}
use Rattle.buffers.proofs.ByteLaws.{laid_fits, over_zero}
use Rattle.writers.proofs.WriterLaws.{told_refused, told_done}
use Rattle.methods.specs.Rows.{row_of, name_of}
use Rattle.methods.specs.declared.Method.{Method}
use Rattle.arguments.proofs.ArgumentLaws.{row_wide}
use Rattle.lookups.proofs.LookupLaws.{name_none, name_short, name_written}
use Rattle.lookups.proofs.method_name.Goals as goal

pub returns-then-len-eq0 : goal.returns-then-len-eq0
returns-then-len-eq0 c =
    let m = c.args.method in
    let o = c.args.out.now in
    let e = ap row_of c.byte_of-m.ensures ∙ row_wide m in
    told_refused _ (name_of (row_of m)) o 2 (omega arith) (name_none m _ e _ c.name_len-len.ensures (length o) c.if-len-eq0.true)

pub returns-then-out-len : goal.returns-then-out-len
returns-then-out-len c =
    let m = c.args.method in
    let o = c.args.out.now in
    let e = ap row_of c.byte_of-m.ensures ∙ row_wide m in
    told_refused _ (name_of (row_of m)) o 5 (omega arith) (name_short m _ e _ c.name_len-len.ensures (length o) c.if-len-eq0.false c.if-out-len.true)

pub returns : goal.returns
returns c =
    let m = c.args.method in
    let o = c.args.out.now in
    let e = ap row_of c.byte_of-m.ensures ∙ row_wide m in
    let w = name_written m _ e _ c.name_len-len.ensures (length o) c.if-len-eq0.false c.if-out-len.false in
    let n = name_of (row_of m) in
    told_done _ n o _ _ w.0 w.1
    (c.put_name.ensures ∙ ap (λ (r : Method). laid o 0 (name_of r)) e ∙ laid_fits o 0 n (omega (arith, w.1)) ∙ over_zero o n)
