-- `transcript::put_around` meets its contract. Assumes nothing.
use borrow.Author.Rules.{rules}
use native.Mathlib.Omega.{arith}
use Rattle.transcript.proofs.FieldLaws.{size_of, around_kept, around_laid}
use Rattle.transcript.proofs.put_around.Goals as goal

pub returns-then-room-at : goal.returns-then-room-at
returns-then-room-at c =
    let a = c.args in
    let s = size_of a.ahead.now _ c.field_size-a.ensures (search rules) in
    let t = size_of a.behind.now _ c.field_size-b.ensures (search rules) in
    around_kept a.room.now a.at a.len a.ahead.now a.behind.now (omega arith)

pub returns-then-left-a : goal.returns-then-left-a
returns-then-left-a c =
    let a = c.args in
    let s = size_of a.ahead.now _ c.field_size-a.ensures (search rules) in
    let t = size_of a.behind.now _ c.field_size-b.ensures (search rules) in
    around_kept a.room.now a.at a.len a.ahead.now a.behind.now (omega arith)

pub returns-then-left-a-2 : goal.returns-then-left-a-2
returns-then-left-a-2 c =
    let a = c.args in
    let s = size_of a.ahead.now _ c.field_size-a.ensures (search rules) in
    let t = size_of a.behind.now _ c.field_size-b.ensures (search rules) in
    around_kept a.room.now a.at a.len a.ahead.now a.behind.now (omega arith)

pub returns-then-left-a-3 : goal.returns-then-left-a-3
returns-then-left-a-3 c =
    let a = c.args in
    let s = size_of a.ahead.now _ c.field_size-a.ensures (search rules) in
    let t = size_of a.behind.now _ c.field_size-b.ensures (search rules) in
    around_kept a.room.now a.at a.len a.ahead.now a.behind.now (omega arith)

pub returns : goal.returns
returns c =
    let a = c.args in
    let g = c.well_formed in
    let s = size_of a.ahead.now _ c.field_size-a.ensures (search rules) in
    let t = size_of a.behind.now _ c.field_size-b.ensures (search rules) in
    around_laid a.room.now a.at a.len c.field_size-a.result a.ahead.now a.behind.now _ _ _ s.0 (omega arith)
    c.move_up.ensures c.put_field.ensures c.put_field-2.ensures
