-- `lent_hash::load` meets its contract. Assumes nothing.
use Rattle.std.proofs.Common.{rules, ◌≡◌, take, drop, get_or}
use Rattle.limits.specs.Limits.{h_size}
use Rattle.buffers.proofs.ByteLaws.{tail_part}
use Rattle.lent_hash.specs.LentHash.{state_in}
use Rattle.lent_hash.proofs.load.Goals as goal

pub returns : goal.returns
unfolding state_in
returns c =
    let h = c.args.h.now in
    let value : c.unwrap.result.now ≡ take h_size (drop 17 h) = search rules in
    let tail : c.unwrap-2.result.now ≡ drop 81 h = search (rules, tail_part h 81) in
    λ i. record { kind = get_or h 0 0; total = c.number_in.ensures i; held = c.number_in-2.ensures i; value = value i; tail = tail i }
