-- `sha_blocks::round` meets its contract. Assumes nothing.
use Rattle.sha_words.specs.Blocks.{round}
use Rattle.sha_blocks.proofs.round.Goals as goal

pub returns : goal.returns
unfolding round
returns g c = cc
