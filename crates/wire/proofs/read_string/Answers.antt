-- `wire::read_string` meets its contract. Assumes nothing.
use Prim.Native.Nat.{◌+◌, ◌-◌}
use mathlib.Core.Path.{◌≡◌, ap, ◌∙◌}
use native.Mathlib.Omega.{arith}
use lib.ListN.{length}
use Rattle.wire.specs.Parts.{part}
use Rattle.wire.specs.Strings.{number32}
use Rattle.wire.specs.Told.{read_told}
use Rattle.wire.proofs.StringLaws.{field_some, field_none, read_found, read_refused}
use Rattle.wire.proofs.read_string.Goals as goal

pub returns-in_err-body : goal.returns-in_err-body
returns-in_err-body c =
    let s = c.args.s.now in ap read_told c.from_residual.ensures ∙ read_refused s (field_none s 0 c.in_err-body.ensures)

pub overflow_add-start : goal.overflow_add-start
overflow_add-start c = let f = field_some c.args.s.now 0 _ c.in_ok-body.ensures in omega arith

pub overflow_sub-result : goal.overflow_sub-result
overflow_sub-result c = (field_some c.args.s.now 0 _ c.in_ok-body.ensures).3

pub returns : goal.returns
returns c =
    let s = c.args.s.now in
    let b = c.in_ok-body.body in
    let f = field_some s 0 _ c.in_ok-body.ensures in
    let p : b.start + b.len ≡ 4 + number32 s = omega arith in
    (λ i. record { number = 0; body = part (f.1 i) (f.2 i); rest = part (p i) (length s - p i) }) ∙ read_found s f.0
