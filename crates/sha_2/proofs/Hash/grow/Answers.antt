-- `sha_2::Hash::grow` meets its contract. Assumes nothing.
use Prim.Native.Nat.{ℕ, ◌+◌, ◌%◌}
use mathlib.Core.Path.{ap}
use lib.ListN.{length}
use Rattle.sha_2.proofs.CodeLaws.{grown_of}
use Rattle.sha_2.proofs.Hash.grow.Goals as goal

pub returns : goal.returns
returns c =
    let n : ℕ = length c.args.before.now + length c.args.part.now in
    grown_of c.args.self.now c.args.before.now c.args.part.now _ _ _ c.requires.waits (ap (λ (k : ℕ). n % k) c.block_of.ensures) c.absorb.ensures c.tail_of.ensures
