-- `lent_hash::start` meets its contract. Assumes nothing.
use Rattle.std.proofs.Common.{ℕ, ap, ◌∙◌}
use Rattle.lent_hash.specs.LentHash.{hash_left, state_bytes, hash_start_left}
use Rattle.lent_hash.proofs.LentHashLaws.{size_taken, size_left}
use Rattle.sha_2.specs.Hash.{Fed}
use Rattle.lent_hash.proofs.start.Goals as goal

pub returns-then-h-ne-HASH_SIZE : goal.returns-then-h-ne-HASH_SIZE
unfolding hash_start_left
returns-then-h-ne-HASH_SIZE c =
    let b = c.args.h.now in
    ap (λ (n : ℕ). hash_left n b) c.number.ensures ∙ size_left b _ _ c.if-h-ne-HASH_SIZE.true

pub returns-in-Ok : goal.returns-in-Ok
unfolding hash_start_left
returns-in-Ok c =
    ap (hash_left 0) c.store.ensures ∙ ap (λ (f : Fed). hash_left f.number (state_bytes f.hash)) c.in-Ok.ensures
    ∙ size_taken c.args.h.now _ _ c.if-h-ne-HASH_SIZE.false

pub returns-in-Err : goal.returns-in-Err
unfolding hash_start_left
returns-in-Err c =
    (λ i. hash_left (c.number-in-Err.ensures i) ((c.store-in-Err.ensures ∙ ap state_bytes c.blank.ensures) i))
    ∙ ap (λ (f : Fed). hash_left f.number (state_bytes f.hash)) c.in-Err.ensures
    ∙ size_taken c.args.h.now _ _ c.if-h-ne-HASH_SIZE.false
