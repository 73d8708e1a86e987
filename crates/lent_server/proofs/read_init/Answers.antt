-- `lent_server::read_init` meets its contract. Assumes nothing.
use Prim.Native.Nat.{ℕ}
use mathlib.Core.Path.{refl, sym, ap, ◌∙◌}
use mathlib.Core.List.{[]}
use Rattle.messages.specs.Position.{position}
use Rattle.messages.specs.Messages.{init_layout}
use Rattle.messages.proofs.PositionLaws.{position_none}
use Rattle.judge_peer.proofs.PeerLaws.{field_read}
use Rattle.exchange.specs.Steps.{init, fed_cause}
use Rattle.exchange.specs.declared.Stage.TheVariants.{InitRead}
use Rattle.stored.specs.Stored.{decoded}
use Rattle.lent.proofs.AsStep.{position_behind}
use Rattle.lent.proofs.LentLaws.{number_lent, call_refused, fault_read, call_accepted, opened, c_changed}
use Rattle.lent_server.proofs.ServerLaws.{init_room, init_taken, init_tells}
use Rattle.lent_server.proofs.read_init.Goals as goal

pub returns-then-n-ne0 : goal.returns-then-n-ne0
unfolding fed_cause
returns-then-n-ne0 c =
    let a = c.args in
    let b = a.ex.now in
    let r = a.room.now in
    let p = a.payload.now in
    let m = number_lent b r (init p) [] _ _ _ _ c.step_number-n.ensures.0 refl c.byte_in-method.ensures (c.number_told-fed.ensures ∙ c.init_cause.ensures) in
    position_behind
    (call_refused b r (init p) [] _ m (fault_read _ b c.step_number-n.ensures.1) c.if-n-ne0.true _ _ _ c.refuse.ensures.0 c.refuse.ensures.1 c.refuse.ensures.2)
    (c.position.ensures ∙ ap (λ (x : ℕ). position x init_layout p) (sym c.refuse.ensures.0))

pub returns : goal.returns
unfolding fed_cause
returns c =
    let a = c.args in
    let b = a.ex.now in
    let r = a.room.now in
    let p = a.payload.now in
    let q = init p in
    let m = number_lent b r q [] _ _ _ _ c.step_number-n.ensures.0 refl c.byte_in-method.ensures (c.number_told-fed.ensures ∙ c.init_cause.ensures) in
    let o = opened b r q _ m c.step_number-n.ensures.1 c.if-n-ne0.false in
    let e = decoded b in
    let z = o.accepts in
    let f = field_read p 0 _ _ c.string_part-c.ensures c.part_of.ensures.0 in
    position_behind
    (call_accepted b r q [] o.fitting z _ _ _ _
    (init_tells e r p z _ c.string_part-c.ensures)
    (c_changed b r q o InitRead _ _ refl c.with_c.ensures.0 ∙ init_taken e r p z _ f)
    (c.with_c.ensures.1 ∙ init_room e r p z _ _ o.lens_are f)
    refl)
    (position_none init_layout p 0 refl)
