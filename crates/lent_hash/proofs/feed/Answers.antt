-- `lent_hash::feed` meets its contract. Assumes nothing.
use Rattle.std.proofs.Common.{ℕ, List, sym, ap, ◌∙◌}
use mathlib.Core.Bool.{cond}
use lib.Dec.{eqb}
use Rattle.lent_hash.specs.LentHash.{HashLeft, hash_left, state_bytes, hash_feed_left}
use Rattle.lent_hash.proofs.LentHashLaws.{size_taken, size_left, refused}
use Rattle.sha_2.specs.Hash.{Fed, fed}
use Rattle.sha_2.specs.declared.Hash.{Hash}
use Rattle.lent_hash.proofs.feed.Goals as goal

pub returns-then-h-ne-HASH_SIZE : goal.returns-then-h-ne-HASH_SIZE
unfolding hash_feed_left
returns-then-h-ne-HASH_SIZE c =
    let b = c.args.h.now in
    ap (λ (n : ℕ). hash_left n b) c.number.ensures ∙ size_left b _ _ c.if-h-ne-HASH_SIZE.true

-- what is left, by what feeding answers
abbrev left : List ℕ → Fed → HashLeft
left b d = hash_left d.number (cond (eqb d.number 0) (state_bytes d.hash) b)

pub returns-in-Err : goal.returns-in-Err
unfolding hash_feed_left
returns-in-Err c =
    let a = c.args in
    let b = a.h.now in
    (λ i. hash_left (c.number-in-Err.ensures i) (cond (sym (refused c.in-Err.e) i) (state_bytes c.load.result) b))
    ∙ ap (left b) (c.in-Err.ensures ∙ ap (λ (s : Hash). fed s a.part.now) c.load.ensures)
    ∙ size_taken b _ _ c.if-h-ne-HASH_SIZE.false

pub returns : goal.returns
unfolding hash_feed_left
returns c =
    let a = c.args in
    let b = a.h.now in
    ap (hash_left 0) c.store.ensures ∙ ap (left b) (c.in-Ok.ensures ∙ ap (λ (s : Hash). fed s a.part.now) c.load.ensures)
    ∙ size_taken b _ _ c.if-h-ne-HASH_SIZE.false
