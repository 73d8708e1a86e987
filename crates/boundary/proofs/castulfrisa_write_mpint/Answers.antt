-- `boundary::castulfrisa_write_mpint` meets its contract. Assumes nothing.
use mathlib.Core.Path.{ap, ◌∙◌}
use Rattle.writers.specs.Writers.{Written, wrote}
use Rattle.boundary.proofs.castulfrisa_write_mpint.Goals as goal

pub returns-in-Ok : goal.returns-in-Ok
unfolding wrote
returns-in-Ok c =
    let e = c.in-Ok.ensures in
    (ap (λ (x : Written). x.number) e.0, ap (λ (x : Written). x.count) e.0, e.1)

pub returns-in-Err : goal.returns-in-Err
unfolding wrote
returns-in-Err c =
    let e = c.in-Err.ensures in
    (c.number.ensures ∙ ap (λ (x : Written). x.number) e.0, ap (λ (x : Written). x.count) e.0, e.1)
