-- `lent_steps::start` meets its contract. Assumes nothing.
use mathlib.Core.Path.{refl, sym, ap, ◌∙◌}
use mathlib.Core.List.{◌++◌}
use lib.ListN.{length, drop}
use Rattle.limits.proofs.RefusalLaws.{number_some}
use Rattle.buffers.specs.Bytes.{zeros}
use Rattle.exchange.specs.Record.{no_session, ended}
use Rattle.exchange.specs.declared.Stage.TheVariants.{Started, Failed}
use Rattle.stored.specs.Stored.{by_size}
use Rattle.changes.specs.Changes.{put_head}
use Rattle.lent.proofs.LentLaws.{start_taken, start_left_lem}
use Rattle.lent_steps.proofs.StartLaws.{made_fresh, start_refused, start_fits, start_accepted}
use Rattle.lent_steps.proofs.start.Goals as goal

pub returns-then-ex-ne-EXCHANGE_SIZE : goal.returns-then-ex-ne-EXCHANGE_SIZE
returns-then-ex-ne-EXCHANGE_SIZE c =
    let a = c.args in
    rw c.number.ensures (start_left_lem a.ex.now a.role a.method a.vc.now a.vs.now a.ic.now a.is.now a.room.now c.if-ex-ne-EXCHANGE_SIZE.true)

pub returns-in-Err : goal.returns-in-Err
unfolding ended
returns-in-Err c =
    let a = c.args in
    let b = a.ex.now in
    let h = c.if-ex-ne-EXCHANGE_SIZE.false in
    let n = c.number-n.result in
    let d = c.default.ensures.1.1 in
    let m = c.make.ensures ∙ (λ i. by_size c.wipe.new.room (put_head (zeros 154 ++ drop 154 c.wipe.new.room) 6 n (d.0 i) (d.1.0 i) (d.1.1.0 i) (d.1.1.1.0 i) (d.1.1.1.1.0 i) (d.1.1.1.1.1 i)) c.wipe.new.room) in
    let s = start_refused a.role a.method a.vc.now a.vs.now a.ic.now a.is.now a.room.now _ (c.number-n.ensures ∙ c.in-Err.ensures) (ended n 0 0 no_session) (λ z. number_some c.in-Err.e (sym c.number-n.ensures ∙ z)) refl in
    start_taken b a.role a.method a.vc.now a.vs.now a.ic.now a.is.now a.room.now h _ _ _ _ s.0 (made_fresh (Failed n) 0 0 0 0 0 0 _ _ (c.wipe.ensures ∙ ap zeros h) m) s.1

pub put_head-requires : goal.put_head-requires
put_head-requires c =
    let a = c.args in
    start_fits a.role a.method a.vc.now a.vs.now a.ic.now a.is.now a.room.now _ c.in_default.ensures refl

pub returns : goal.returns
returns c =
    let a = c.args in
    let b = a.ex.now in
    let h = c.if-ex-ne-EXCHANGE_SIZE.false in
    let s = start_accepted a.role a.method a.vc.now a.vs.now a.ic.now a.is.now a.room.now _ c.in_default.ensures refl _ c.put_head.ensures in
    start_taken b a.role a.method a.vc.now a.vs.now a.ic.now a.is.now a.room.now h _ _ _ _ s.0 (made_fresh Started a.role a.method (length a.vc.now) (length a.vs.now) (length a.ic.now) (length a.is.now) _ _ (c.wipe.ensures ∙ ap zeros h) c.make-2.ensures) s.1
