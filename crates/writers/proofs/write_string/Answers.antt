-- `writers::write_string` meets its contract. Assumes nothing.
use native.Mathlib.Omega.{arith}
use mathlib.Core.Path.{◌∙◌}
use lib.ListN.{length}
use Rattle.wire.specs.Strings.{string}
use Rattle.buffers.proofs.ByteLaws.{laid_fits, over_zero}
use Rattle.wire.proofs.StringLaws.{length_string}
use Rattle.writers.proofs.WriterLaws.{writer_refused, writer_done, string_long, string_short, string_fits}
use Rattle.writers.proofs.write_string.Goals as goal

pub returns-then-n-gt-STRING_MOST : goal.returns-then-n-gt-STRING_MOST
returns-then-n-gt-STRING_MOST c =
    let o = c.args.out.now in
    let b = c.args.body.now in
    writer_refused _ (string b) o 4 (omega arith) (string_long (length o) b (omega arith))

pub returns-then-out-n : goal.returns-then-out-n
returns-then-out-n c =
    let o = c.args.out.now in
    let b = c.args.body.now in
    writer_refused _ (string b) o 5 (omega arith) (string_short (length o) b (omega arith) (omega arith))

pub returns : goal.returns
returns c =
    let o = c.args.out.now in
    let b = c.args.body.now in
    let n = length_string b in
    writer_done _ (string b) o _ _ (string_fits (length o) b (omega arith) (omega arith)) (omega arith)
    (c.put_string.ensures ∙ laid_fits o 0 (string b) (omega arith) ∙ over_zero o (string b))
