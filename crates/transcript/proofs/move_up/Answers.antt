-- `transcript::move_up` meets its contract. Assumes nothing.
use Prim.Native.Nat.{ℕ, ◌+◌, ◌-◌}
use mathlib.Core.Path.{◌≡◌, refl, ap, ◌∙◌}
use native.Mathlib.Omega.{arith}
use Rattle.transcript.proofs.FieldLaws.{shifted, shifted_none, shifted_some, shifted_rest}
use Rattle.transcript.proofs.move_up.Goals as goal

pub loop-left-init : goal.loop-left-init
loop-left-init c =
    let a = c.args in (omega arith, shifted_none a.room.now a.at a.len a.by c.requires, refl)

pub move_sixteen-requires : goal.move_sixteen-requires
move_sixteen-requires c = (omega arith, omega arith)

pub loop-left-preserved : goal.loop-left-preserved
loop-left-preserved c =
    let l = c.loop-left in
    let a = c.args in
    let r = a.room.now in
    let j : ℕ = l.left - 16 in
    let n : l.left ≡ j + 16 = omega arith in
    let e : l.room ≡ shifted r a.at a.len a.by (j + 16) = l.invariant.1 ∙ ap (shifted r a.at a.len a.by) n in
    let s : c.move_sixteen.new.room ≡ shifted r a.at a.len a.by j =
    c.move_sixteen.ensures ∙ shifted_some r l.room a.at a.len a.by j 16 e c.requires (omega arith) in
    (omega arith, s, omega arith)

pub returns : goal.returns
returns c =
    let l = c.loop-left in
    let a = c.args in
    c.copy_within.ensures.after
    ∙ shifted_rest a.room.now l.room a.at a.len a.by l.left _ l.invariant.1 c.requires l.invariant.0 l.invariant.2 (omega arith)
