-- `kexinit::open_head` meets its contract. Assumes nothing.
use Prim.Native.Nat.{ℕ}
use mathlib.Core.Path.{◌≡◌, ap, ◌∙◌}
use native.Mathlib.Omega.{arith}
use borrow.Author.Rules.{rules}
use Rattle.std.specs.Prelude.{Ok, Err}
use Rattle.limits.specs.Refusals.{number_of}
use Rattle.limits.proofs.RefusalLaws.{number_some}
use Rattle.messages.specs.Payload.{judged_told, judged}
use Rattle.messages.specs.Position.{position}
use Rattle.messages.proofs.PayloadLaws.{cause_known, told_cause, told_place}
use Rattle.kexinit.specs.Reader.{kexinit_layout, kexinit_cause, boolean_at, head_refused, head_by}
use Rattle.kexinit.proofs.ReaderLaws.{head_refused_lem, head_read}
use Rattle.kexinit.proofs.open_head.Goals.{In_ok-place}
use Rattle.kexinit.proofs.open_head.Goals as goal

-- where the strings end
place-is : (k : In_ok-place) → (kexinit_cause k.args.payload.now ≡ 0) × (k.in_ok-place.place ≡ boolean_at k.args.payload.now)
place-is k =
    let e : judged_told (Ok k.in_ok-place.place) ≡ judged kexinit_layout k.args.payload.now = search rules in
    told_place kexinit_layout k.args.payload.now _ e

pub returns-in_err-place : goal.returns-in_err-place
returns-in_err-place c =
    let p = c.args.payload.now in
    let r = c.in_err-place.field-0.0 in
    let e : judged_told (Err r.cause) ≡ judged kexinit_layout p = search rules in
    let q : r.position ≡ position (number_of r.cause) kexinit_layout p = search rules in
    let h = ap (head_refused _) q ∙ head_refused_lem _ p (number_some r.cause) ∙ ap (λ (k : ℕ). head_by k p) (told_cause kexinit_layout p (Err r.cause) e) in
    search (rules, h)

pub bounds-payload-place : goal.bounds-payload-place
bounds-payload-place c =
    let p = c.args.payload.now in
    let e = place-is (goal.at.bounds-payload-place c).In_ok-place in
    let g = cause_known kexinit_layout p e.0 in
    omega (arith, e.1, g.ends)

pub overflow_add-place : goal.overflow_add-place
overflow_add-place c =
    let p = c.args.payload.now in
    let e = place-is (goal.at.overflow_add-place c).In_ok-place in
    let g = cause_known kexinit_layout p e.0 in
    omega (arith, e.1, g.ends, g.most)

pub returns : goal.returns
returns c =
    let p = c.args.payload.now in
    let e = place-is (goal.at.returns c).In_ok-place in
    head_read p _ _ e.0 e.1 c.u32_at.ensures
