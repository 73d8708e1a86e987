-- `lent_client::read_reply` meets its contract. Assumes nothing.
use Prim.Native.Nat.{ℕ}
use mathlib.Core.Path.{refl, sym, ap, ◌∙◌}
use mathlib.Core.List.{[]}
use Rattle.messages.specs.Position.{position}
use Rattle.messages.specs.Messages.{reply_layout}
use Rattle.messages.proofs.PositionLaws.{position_none}
use Rattle.judge_peer.proofs.PeerLaws.{field_read}
use Rattle.exchange.specs.Steps.{reply, fed_cause}
use Rattle.exchange.specs.declared.Stage.TheVariants.{ReplyRead}
use Rattle.stored.specs.Stored.{decoded}
use Rattle.lent.proofs.AsStep.{position_behind}
use Rattle.lent.proofs.LentLaws.{number_lent, call_refused, fault_read, call_accepted, opened, s_changed}
use Rattle.lent_client.proofs.ClientLaws.{reply_room, reply_taken, reply_tells}
use Rattle.lent_client.proofs.read_reply.Goals as goal

pub returns-then-n-ne0 : goal.returns-then-n-ne0
unfolding fed_cause
returns-then-n-ne0 c =
    let a = c.args in
    let b = a.ex.now in
    let r = a.room.now in
    let p = a.payload.now in
    let m = number_lent b r (reply p) [] _ _ _ _ c.step_number-n.ensures.0 refl c.byte_in-method.ensures (c.number_told-fed.ensures ∙ c.reply_cause.ensures) in
    position_behind
    (call_refused b r (reply p) [] _ m (fault_read _ b c.step_number-n.ensures.1) c.if-n-ne0.true _ _ _ c.refuse.ensures.0 c.refuse.ensures.1 c.refuse.ensures.2)
    (c.position.ensures ∙ ap (λ (x : ℕ). position x reply_layout p) (sym c.refuse.ensures.0))

pub returns : goal.returns
unfolding fed_cause
returns c =
    let a = c.args in
    let b = a.ex.now in
    let r = a.room.now in
    let p = a.payload.now in
    let q = reply p in
    let m = number_lent b r q [] _ _ _ _ c.step_number-n.ensures.0 refl c.byte_in-method.ensures (c.number_told-fed.ensures ∙ c.reply_cause.ensures) in
    let o = opened b r q _ m c.step_number-n.ensures.1 c.if-n-ne0.false in
    let e = decoded b in
    let z = o.accepts in
    let f = field_read p 0 _ _ c.string_part-k.ensures c.part_of.ensures.0 in
    let g = field_read p 1 _ _ c.string_part-v.ensures c.part_of-2.ensures.0 in
    position_behind
    (call_accepted b r q [] o.fitting z _ _ _ _
    (reply_tells e r p z _ _ _ c.string_part-k.ensures c.string_part-v.ensures c.string_part-g.ensures)
    (s_changed b r q o ReplyRead _ _ _ refl c.with_s.ensures.0 ∙ reply_taken e r p z _ _ f g)
    (c.with_s.ensures.1 ∙ reply_room e r p z _ _ _ o.lens_are f g)
    refl)
    (position_none reply_layout p 0 refl)
