-- `lent_steps::join_own` meets its contract. Assumes nothing.
use native.Mathlib.Omega.{arith}
use mathlib.Core.Path.{◌∙◌}
use borrow.Author.Tests.{eq-eqb, ne_eqb}
use Rattle.limits.specs.Limits.{server}
use Rattle.lent_steps.proofs.join_own.Goals as goal

pub returns-then-role-ne-SERVER : goal.returns-then-role-ne-SERVER
returns-then-role-ne-SERVER c =
    let a = c.args in
    (rw (ne_eqb a.role server c.if-role-ne-SERVER.true), rw (ne_eqb a.role server c.if-role-ne-SERVER.true))

pub returns : goal.returns
returns c =
    let a = c.args in
    (c.with_s.ensures.0 ∙ rw (eq-eqb a.role server (omega arith)), c.with_s.ensures.1 ∙ rw (eq-eqb a.role server (omega arith)))
