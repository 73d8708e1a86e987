-- `sha_2::Hash::blank` meets its contract. Assumes nothing.
use Rattle.sha_2.specs.Hash.{fresh, initial_value}
use Rattle.sha_2.proofs.Hash.blank.Goals as goal

pub returns : goal.returns
unfolding fresh initial_value
returns c = c.made.ensures
