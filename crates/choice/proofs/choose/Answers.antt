-- `choice::choose` meets its contract. Assumes nothing.
use mathlib.Core.Path.{sym, ap, ◌∙◌}
use Rattle.std.specs.Prelude.{Err}
use Rattle.std.proofs.lemmas.Result.{err_from_is_err_and}
use Rattle.limits.proofs.RefusalLaws.{number_some}
use Rattle.common.specs.Common.{any}
use Rattle.choice.specs.Choice.{choice_told}
use Rattle.choice.proofs.ChoiceLaws.{head_cause, follows_is, choice_client, choice_server, chosen_refused}
use Rattle.choice.proofs.choose.Goals as goal

pub returns-in_err-a : goal.returns-in_err-a
returns-in_err-a c =
    let a = c.args.client.now in
    let s = c.args.server.now in
    let r = err_from_is_err_and c.from_residual.result c.from_residual.ensures.1 in
    let q = head_cause a _ c.in_err-a.ensures in
    ap choice_told (r.1 ∙ ap Err r.2) ∙ chosen_refused any a s _ (choice_client any a s (λ x. number_some c.in_err-a.field-0.0.cause (q ∙ x)) ∙ sym q) (number_some c.in_err-a.field-0.0.cause)

pub returns-in_err-b : goal.returns-in_err-b
returns-in_err-b c =
    let a = c.args.client.now in
    let s = c.args.server.now in
    let r = err_from_is_err_and c.from_residual-in_err-b.result c.from_residual-in_err-b.ensures.1 in
    let d = sym (head_cause a _ c.in_ok-a.ensures) in
    let q = head_cause s _ c.in_err-b.ensures in
    ap choice_told (r.1 ∙ ap Err r.2) ∙ chosen_refused any a s _ (choice_server any a s d (λ x. number_some c.in_err-b.field-0.0.cause (q ∙ x)) ∙ sym q) (number_some c.in_err-b.field-0.0.cause)

pub match_lists-requires : goal.match_lists-requires
match_lists-requires c =
    let a = c.args.client.now in
    let s = c.args.server.now in
    let x = c.in_ok-a.ensures in
    let y = c.in_ok-b.ensures in
    let d = sym (head_cause a _ x) in
    let e = sym (head_cause s _ y) in
    (d, e, follows_is a _ x d, follows_is s _ y e)
