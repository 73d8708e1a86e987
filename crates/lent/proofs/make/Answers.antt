-- `lent::make` meets its contract. Assumes nothing.
use Rattle.std.proofs.Common.{ℕ, List, ◌++◌, drop, sym, ap, ◌∙◌, arith, length-append, length-drop, length-take-le}
use Rattle.buffers.specs.Bytes.{zeros}
use Rattle.stored.specs.Stored.{by_size}
use Rattle.changes.specs.Changes.{put_head}
use Rattle.stored.proofs.StoredLaws.{size_taken, size_left}
use Rattle.lent.proofs.make.Goals as goal

pub returns-then-ex-ne-EXCHANGE_SIZE : goal.returns-then-ex-ne-EXCHANGE_SIZE
returns-then-ex-ne-EXCHANGE_SIZE c =
    let a = c.args in
    size_left a.ex.now a.ex.now (put_head (zeros 154 ++ drop 154 a.ex.now) a.head.stage a.head.fail a.head.role a.head.method a.head.vc a.head.vs a.head.ic a.head.is) c.if-ex-ne-EXCHANGE_SIZE.true

pub returns : goal.returns
returns c =
    let a = c.args in
    let b = a.ex.now in
    let n = c.if-ex-ne-EXCHANGE_SIZE.false in
    let F : List ℕ → List ℕ = λ (l : List ℕ). put_head l a.head.stage a.head.fail a.head.role a.head.method a.head.vc a.head.vs a.head.ic a.head.is in
    let w = c.wipe.ensures ∙ ap zeros (length-take-le 154 b (omega (arith, n))) in
    c.put_head.ensures
    ∙ ap (λ (l : List ℕ). by_size (l ++ drop 154 b) (F (l ++ drop 154 b)) (l ++ drop 154 b)) w
    ∙ sym (size_taken (zeros 154 ++ drop 154 b) (zeros 154 ++ drop 154 b) (F (zeros 154 ++ drop 154 b)) (length-append (zeros 154) (drop 154 b) ∙ omega (arith, length-drop 154 b)))
    ∙ size_taken b b (F (zeros 154 ++ drop 154 b)) n
