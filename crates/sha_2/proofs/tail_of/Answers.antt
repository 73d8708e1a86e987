-- `sha_2::tail_of` meets its contract. Assumes nothing.
use Prim.Native.Nat.{ℕ, ◌-◌}
use mathlib.Core.Path.{sym, ap, ◌∙◌}
use native.Mathlib.Omega.{arith}
use mathlib.Core.List.{List, ◌++◌}
use lib.ListN.{length}
use Rattle.limits.specs.Limits.{block_most}
use Rattle.buffers.proofs.ByteLaws.{tail_part}
use Rattle.sha_words.specs.Message.{sized}
use Rattle.sha_2.proofs.CodeLaws.{last_right, last_left}
use Rattle.sha_2.proofs.tail_of.Goals as goal

pub returns-then-n-part : goal.returns-then-n-part
returns-then-n-part c =
    let a = c.args in
    let from : ℕ = length a.part.now - a.n in
    c.joined.ensures
    ∙ ap (sized block_most) (tail_part a.part.now from ∙ sym (last_right a.before.now a.part.now a.n (omega arith)))

pub returns : goal.returns
returns c =
    let a = c.args in
    let from : ℕ = length a.before.now - (a.n - length a.part.now) in
    c.joined-2.ensures
    ∙ ap (sized block_most)
    (ap (λ (l : List ℕ). l ++ a.part.now) (tail_part a.before.now from)
    ∙ sym (last_left a.before.now a.part.now a.n (omega arith) (omega arith)))
