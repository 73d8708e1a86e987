-- `messages::breaks_at` meets its contract. Assumes nothing.
use Prim.Native.Nat.{ℕ, ◌+◌}
use mathlib.Core.Path.{ap, ◌∙◌}
use native.Mathlib.Omega.{arith}
use Rattle.wire.proofs.WalkLaws.{walk_within}
use Rattle.messages.proofs.PayloadLaws.{walk_passed, walk_cut_short}
use Rattle.messages.proofs.PositionLaws.{breaks_ahead, breaks_string, breaks_boolean, breaks_number, breaks_none}
use Rattle.messages.proofs.breaks_at.Goals as goal

pub returns-then-payload-l : goal.returns-then-payload-l
returns-then-payload-l c = let a = c.args in breaks_ahead a.l a.payload.now (omega arith)

pub returns-in-Err : goal.returns-in-Err
returns-in-Err c =
    let a = c.args in
    let w = walk_cut_short a.l a.payload.now _ c.in-Err.ensures in
    w.1 ∙ breaks_string a.l a.payload.now (omega arith) w.0

pub overflow_sub-left : goal.overflow_sub-left
overflow_sub-left c =
    let a = c.args in
    omega (arith, (walk_passed a.l a.payload.now _ c.in-Ok.ensures).1, walk_within a.payload.now a.l.first a.l.count (omega arith))

pub returns-then-left-l : goal.returns-then-left-l
returns-then-left-l c =
    let a = c.args in
    let w = walk_passed a.l a.payload.now _ c.in-Ok.ensures in
    w.1 ∙ breaks_boolean a.l a.payload.now (omega arith) w.0 (omega arith)

pub returns-then-left-l-2 : goal.returns-then-left-l-2
returns-then-left-l-2 c =
    let a = c.args in
    let w = walk_passed a.l a.payload.now _ c.in-Ok.ensures in
    let n = walk_within a.payload.now a.l.first a.l.count (omega arith) in
    ap (λ (x : ℕ). x + a.l.boolean) w.1
    ∙ breaks_number a.l a.payload.now (omega arith) w.0 (omega arith) (omega arith)

pub returns-else-left-l-2 : goal.returns-else-left-l-2
returns-else-left-l-2 c =
    let a = c.args in
    let w = walk_passed a.l a.payload.now _ c.in-Ok.ensures in
    let n = walk_within a.payload.now a.l.first a.l.count (omega arith) in
    ap (λ (x : ℕ). x + a.l.behind) w.1
    ∙ breaks_none a.l a.payload.now (omega arith) w.0 (omega arith) (omega arith)
