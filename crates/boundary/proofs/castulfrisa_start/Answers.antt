-- `boundary::castulfrisa_start` meets its contract. Assumes nothing.
use mathlib.Core.Path.{◌∙◌}
use mathlib.Core.List.{[]}
use Rattle.arguments.proofs.ArgumentLaws.{start_wide}
use Rattle.stored.specs.Stored.{by_size}
use Rattle.lent.specs.Lent.{untouched, start_left, lent_start}
use Rattle.boundary.proofs.castulfrisa_start.Goals as goal

pub returns : goal.returns
unfolding lent_start
returns c =
    let a = c.args in
    let w = start_wide a.vc.now a.vs.now a.ic.now a.is.now a.role a.method a.room.now in
    c.start.ensures
    ∙ (λ i. lent_start a.ex.now (c.byte_of-r.ensures i) (c.byte_of-m.ensures i) a.vc.now a.vs.now a.ic.now a.is.now a.room.now)
    ∙ (λ i. by_size a.ex.now (start_left (w.0 i) (w.1 i)) (untouched a.ex.now a.room.now 0 []))
