-- `wire::u32_at` meets its contract. Assumes nothing.
use mathlib.Core.Path.{◌∙◌}
use Rattle.wire.proofs.StringLaws.{number_told}
use Rattle.wire.proofs.u32_at.Goals as goal

pub returns : goal.returns
returns c = let a = c.args in c.unwrap_or.ensures ∙ number_told a.s.now a.at _ c.length_at.ensures
