-- `transcript::put_eight` meets its contract. Assumes nothing.
use mathlib.Core.Path.{refl}
use native.Mathlib.Omega.{arith}
use lib.ListN.{length-set}
use Rattle.transcript.proofs.FieldLaws.{over_eight}
use Rattle.transcript.proofs.put_eight.Goals as goal

pub bounds-room-at-2 : goal.bounds-room-at-2
bounds-room-at-2 c = simp length-set (omega arith)

pub bounds-room-at-3 : goal.bounds-room-at-3
bounds-room-at-3 c = simp length-set (omega arith)

pub bounds-room-at-4 : goal.bounds-room-at-4
bounds-room-at-4 c = simp length-set (omega arith)

pub bounds-room-at-5 : goal.bounds-room-at-5
bounds-room-at-5 c = simp length-set (omega arith)

pub bounds-room-at-6 : goal.bounds-room-at-6
bounds-room-at-6 c = simp length-set (omega arith)

pub bounds-room-at-7 : goal.bounds-room-at-7
bounds-room-at-7 c = simp length-set (omega arith)

pub bounds-room-at-8 : goal.bounds-room-at-8
bounds-room-at-8 c = simp length-set (omega arith)

pub shape_of-room : goal.shape_of-room
shape_of-room c = simp length-set refl

pub returns : goal.returns
returns c =
    let a = c.args in
    over_eight a.room.now a.at a.b0 a.b1 a.b2 a.b3 a.b4 a.b5 a.b6 a.b7 c.requires
