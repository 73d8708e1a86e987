-- `lent_again::put_proposals` meets its contract. Assumes nothing.
use mathlib.Core.Path.{ap, ◌∙◌}
use Rattle.buffers.specs.Bytes.{laid}
use Rattle.transcript.specs.Fields.{field, size_sum}
use Rattle.lent_again.proofs.put_proposals.Goals as goal

pub returns : goal.returns
returns c =
    let a = c.args in
    c.put_field-2.ensures
    ∙ (λ i. laid (c.put_field.ensures i) ((c.add_sizes-next.ensures ∙ ap (size_sum a.at) c.field_size.ensures) i) (field a.is.now))
