-- `lent_hash::finish` meets its contract. Assumes nothing.
use Rattle.std.proofs.Common.{ℕ, ap, ◌∙◌}
use Rattle.lent_hash.specs.LentHash.{hash_left, hash_finish_left}
use Rattle.lent_hash.proofs.LentHashLaws.{size_taken, size_left}
use Rattle.sha_2.specs.Hash.{Digest, finished}
use Rattle.lent_hash.proofs.finish.Goals as goal

pub returns-then-h-ne-HASH_SIZE : goal.returns-then-h-ne-HASH_SIZE
unfolding hash_finish_left
returns-then-h-ne-HASH_SIZE c = ap (λ (n : ℕ). hash_left n _) c.number.ensures ∙ size_left c.args.h.now _ _ c.if-h-ne-HASH_SIZE.true

pub returns-in-Ok : goal.returns-in-Ok
unfolding hash_finish_left
returns-in-Ok c =
    ap (λ (d : Digest). hash_left d.number d.bytes) (c.in-Ok.ensures ∙ ap finished c.load.ensures) ∙ size_taken c.args.h.now _ _ c.if-h-ne-HASH_SIZE.false

pub returns-in-Err : goal.returns-in-Err
unfolding hash_finish_left
returns-in-Err c =
    ap (λ (n : ℕ). hash_left n _) c.number-in-Err.ensures
    ∙ ap (λ (d : Digest). hash_left d.number d.bytes) (c.in-Err.ensures ∙ ap finished c.load.ensures) ∙ size_taken c.args.h.now _ _ c.if-h-ne-HASH_SIZE.false
