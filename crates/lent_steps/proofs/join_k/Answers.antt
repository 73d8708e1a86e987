-- `lent_steps::join_k` meets its contract. Assumes nothing.
use mathlib.Core.Path.{ap, ◌∙◌}
use Rattle.buffers.specs.Bytes.{laid}
use Rattle.exchange.specs.Steps.{fields_size}
use Rattle.lent_steps.proofs.join_k.Goals as goal

pub returns : goal.returns
returns c =
    let a = c.args in (
      c.fields_end-end.ensures ∙ ap fields_size c.lengths_in-l.ensures.0,
      c.put_bytes.ensures ∙ ap (laid a.room.now c.fields_end-end.result) c.part_of.ensures.0,
      c.put_k.ensures,
    )
