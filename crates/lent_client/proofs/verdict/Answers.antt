-- `lent_client::verdict` meets its contract. Assumes nothing.
use mathlib.Core.Path.{refl, ap, ◌∙◌}
use mathlib.Core.List.{[], ◌∷◌}
use lib.ListN.{length}
use Rattle.exchange.specs.Steps.{verdict, fed_cause}
use Rattle.exchange.proofs.StepLaws.{output_accepted}
use Prim.Native.Nat.{ℕ}
use mathlib.Core.List.{List}
use Rattle.wire.specs.Strings.{number_at}
use Rattle.buffers.specs.Bytes.{laid}
use Rattle.lent.proofs.RoomLaws.{k_laid, k_length_lem}
use Rattle.stored.specs.Stored.{decoded}
use Rattle.lent.proofs.LentLaws.{number_lent, call_refused, fault_read, call_accepted, Opened, opened, completed}
use Rattle.lent_client.proofs.ClientLaws.{verdict_fits, verdict_tells, verdict_taken, verdict_room}
use Rattle.lent_client.proofs.verdict.Goals.{Else-n-ne0}
use Rattle.lent_client.proofs.verdict.Goals as goal

-- where the step is accepted: what its number tells of the bytes
accepts : (c : Else-n-ne0) → let a = c.args in Opened a.ex.now a.room.now (verdict a.signature a.host_key (length a.k_out.now))
unfolding fed_cause
accepts c =
    let a = c.args in
    let b = a.ex.now in
    let r = a.room.now in
    let q = verdict a.signature a.host_key (length a.k_out.now) in
    opened b r q _ (number_lent b r q [] _ _ _ _ c.step_number-n.ensures.0 refl refl (c.number_told-fed.ensures ∙ c.verdict_cause.ensures)) c.step_number-n.ensures.1 c.if-n-ne0.false

pub returns-then-n-ne0 : goal.returns-then-n-ne0
unfolding fed_cause
returns-then-n-ne0 c =
    let a = c.args in
    let b = a.ex.now in
    let r = a.room.now in
    let q = verdict a.signature a.host_key (length a.k_out.now) in
    let m = number_lent b r q [] _ _ _ _ c.step_number-n.ensures.0 refl refl (c.number_told-fed.ensures ∙ c.verdict_cause.ensures) in
    call_refused b r q (a.k_out.now ∷ []) _ m (fault_read _ b c.step_number-n.ensures.1) c.if-n-ne0.true _ _ _ c.refuse.ensures.0 c.refuse.ensures.1 c.refuse.ensures.2

pub returns : goal.returns
returns c =
    let a = c.args in
    let b = a.ex.now in
    let r = a.room.now in
    let q = verdict a.signature a.host_key (length a.k_out.now) in
    let o = accepts (goal.at.returns c).Else-n-ne0 in
    let e = decoded b in
    let z = o.accepts in
    call_accepted b r q (a.k_out.now ∷ []) o.fitting z _ _ _ _
    (verdict_tells e r a.signature a.host_key a.k_out.now z _ (c.finish.ensures.0 ∙ k_length_lem e.k _ o.k_size_is (ap (λ (k : List ℕ). number_at k 0) o.k_is)))
    (completed b r q o _ c.finish.ensures.1 ∙ verdict_taken e r a.signature a.host_key a.k_out.now z)
    (verdict_room e r a.signature a.host_key a.k_out.now z)
    (λ i. (c.finish.ensures.2 ∙ ap (laid a.k_out.now 0) o.k_is ∙ k_laid a.k_out.now e.k o.k_size_is (verdict_fits e r a.signature a.host_key a.k_out.now z) ∙ output_accepted _ a.k_out.now e.k z) i ∷ [])
