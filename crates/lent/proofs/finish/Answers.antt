-- `lent::finish` meets its contract. Assumes nothing.
use Rattle.std.proofs.Common.{ℕ, ◌+◌, List, ap, ◌∙◌}
use Rattle.buffers.specs.Bytes.{laid}
use Rattle.wire.specs.Strings.{number_at}
use Rattle.lent.proofs.LentLaws.{last_stage}
use Rattle.lent.proofs.finish.Goals as goal

pub returns : goal.returns
returns c =
    let a = c.args in (
      ap (λ (n : ℕ). 4 + n) (c.u32_at-size.ensures ∙ ap (λ (k : List ℕ). number_at k 0) c.k_in-k.ensures),
      last_stage a.ex.now _ _ c.one_more.ensures c.put_stage.ensures,
      c.put_bytes.ensures ∙ ap (laid a.k_out.now 0) c.k_in-k.ensures,
    )
