-- `lent_client::own_c` meets its contract. Assumes nothing.
use mathlib.Core.Path.{refl, ◌∙◌}
use mathlib.Core.List.{[], ◌∷◌}
use lib.ListN.{length}
use Rattle.messages.specs.Messages.{init_bytes}
use Rattle.exchange.specs.Steps.{own_c, fed_cause}
use Rattle.exchange.specs.declared.Stage.TheVariants.{CSent}
use Rattle.exchange.proofs.StepLaws.{output_accepted}
use Rattle.stored.specs.Stored.{decoded}
use Rattle.lent.proofs.LentLaws.{number_lent, call_refused, fault_read, call_accepted, opened, c_changed}
use Rattle.lent_client.proofs.ClientLaws.{own_c_fits, own_c_tells, own_c_taken, own_c_room}
use Rattle.lent_client.proofs.own_c.Goals as goal

pub returns-then-n-ne0 : goal.returns-then-n-ne0
unfolding fed_cause
returns-then-n-ne0 c =
    let a = c.args in
    let b = a.ex.now in
    let r = a.room.now in
    let q = own_c a.c.now (length a.out.now) in
    let m = number_lent b r q [] _ _ _ _ c.step_number-n.ensures.0 refl c.byte_in-method.ensures (c.number_told-fed.ensures ∙ c.own_c_cause.ensures) in
    call_refused b r q (a.out.now ∷ []) _ m (fault_read _ b c.step_number-n.ensures.1) c.if-n-ne0.true _ _ _ c.refuse.ensures.0 c.refuse.ensures.1 c.refuse.ensures.2

pub put_init-requires : goal.put_init-requires
unfolding fed_cause
put_init-requires c =
    let a = c.args in
    let b = a.ex.now in
    let r = a.room.now in
    let q = own_c a.c.now (length a.out.now) in
    let m = number_lent b r q [] _ _ _ _ c.step_number-n.ensures.0 refl c.byte_in-method.ensures (c.number_told-fed.ensures ∙ c.own_c_cause.ensures) in
    let o = opened b r q _ m c.step_number-n.ensures.1 c.if-n-ne0.false in
    let e = decoded b in
    let z = o.accepts in
    own_c_fits e r a.c.now a.out.now z

pub returns : goal.returns
unfolding fed_cause
returns c =
    let a = c.args in
    let b = a.ex.now in
    let r = a.room.now in
    let q = own_c a.c.now (length a.out.now) in
    let m = number_lent b r q [] _ _ _ _ c.step_number-n.ensures.0 refl c.byte_in-method.ensures (c.number_told-fed.ensures ∙ c.own_c_cause.ensures) in
    let o = opened b r q _ m c.step_number-n.ensures.1 c.if-n-ne0.false in
    let e = decoded b in
    let z = o.accepts in
    call_accepted b r q (a.out.now ∷ []) o.fitting z _ _ _ _
    (own_c_tells e r a.c.now a.out.now z)
    (c_changed b r q o CSent (length a.c.now) _ refl c.with_c.ensures.0 ∙ own_c_taken e r a.c.now a.out.now z)
    (c.with_c.ensures.1 ∙ own_c_room e r a.c.now a.out.now z _ o.lens_are)
    (λ i. (c.put_init.ensures ∙ output_accepted _ a.out.now (init_bytes a.c.now) z) i ∷ [])
