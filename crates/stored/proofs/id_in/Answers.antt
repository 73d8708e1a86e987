-- `stored::id_in` meets its contract. Assumes nothing.
use mathlib.Core.Path.{◌∙◌}
use Rattle.stored.proofs.StoredLaws.{tail_kept}
use Rattle.stored.proofs.id_in.Goals as goal

pub returns : goal.returns
returns c = c.part.ensures ∙ tail_kept c.args.b.now
