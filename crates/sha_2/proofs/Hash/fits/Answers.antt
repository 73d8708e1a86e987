-- `sha_2::Hash::fits` meets its contract. Assumes nothing.
use Rattle.std.proofs.Common.{◌%◌, arith}
use mathlib.Core.Bool.{◌&&◌}
use lib.Dec.{leb, eqb}
use Rattle.limits.specs.Limits.{hash_most}
use Rattle.sha_words.proofs.PaddingLaws.{sizes_of_lem}
use Rattle.sha_2.specs.Hash.{fits}
use Rattle.sha_2.proofs.Hash.fits.Goals as goal

pub nonzero_rem-result : goal.nonzero_rem-result
nonzero_rem-result c = omega (arith, c.block_of-size.ensures, (sizes_of_lem c.args.self.now.kind).positive)

pub returns : goal.returns
unfolding fits
returns c =
    let s = c.args.self.now in
    λ i. c.is_known.ensures i && leb s.total hash_most && eqb s.held (s.total % c.block_of-size.ensures i)
