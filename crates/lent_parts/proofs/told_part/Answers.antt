-- `lent_parts::told_part` meets its contract. Assumes nothing.
use Prim.Native.Nat.{ℕ}
use mathlib.Core.Path.{sym, ap, ◌∙◌}
use lib.ListN.{length}
use borrow.Author.Tests.{ne_eqb}
use Rattle.exchange.specs.Steps.{step_number}
use Rattle.stored.specs.Stored.{decoded, by_fit}
use Rattle.lent.specs.Lent.{place_of}
use Rattle.lent_parts.proofs.told_part.Goals as goal

pub returns-then-number-ne0 : goal.returns-then-number-ne0
returns-then-number-ne0 c =
    let a = c.args in
    let n = c.step_number-number.ensures.0 ∙ ap (λ (k : ℕ). by_fit a.ex.now (step_number a.n (decoded a.ex.now) (length a.room.now) k) 1) c.number_told.ensures in
    (n, rw (ne_eqb c.step_number-number.result 0 c.if-number-ne0.true))

pub returns : goal.returns
returns c =
    let a = c.args in
    let n = c.step_number-number.ensures.0 ∙ ap (λ (k : ℕ). by_fit a.ex.now (step_number a.n (decoded a.ex.now) (length a.room.now) k) 1) c.number_told.ensures in
    (sym c.if-number-ne0.false ∙ n, ap place_of c.string_part-p.ensures)
