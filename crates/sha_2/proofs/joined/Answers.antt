-- `sha_2::joined` meets its contract. Assumes nothing.
use mathlib.Core.Path.{◌∙◌}
use Rattle.limits.specs.Limits.{block_most}
use Rattle.sha_words.proofs.SizedLaws.{joined_sized}
use Rattle.sha_2.proofs.joined.Goals as goal

pub returns : goal.returns
returns c = c.put_both.ensures ∙ joined_sized block_most c.args.before.now c.args.part.now c.requires
