-- `keys::put_truncated` meets its contract. Assumes nothing.
use mathlib.Core.Path.{◌∙◌}
use Rattle.keys.proofs.CodeLaws.{truncated}
use Rattle.keys.proofs.put_truncated.Goals as goal

pub returns : goal.returns
returns c = c.put_bytes.ensures ∙ truncated c.args.out.now c.args.at c.args.src.now c.requires _ c.min-fits.ensures
