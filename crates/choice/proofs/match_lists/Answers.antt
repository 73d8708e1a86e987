-- `choice::match_lists` meets its contract. Assumes nothing.
use mathlib.Core.Path.{◌≡◌, sym, ap, ◌∙◌, refl}
use mathlib.Core.Bool.{not}
use native.Mathlib.Omega.{arith}
use borrow.Author.Rules.{rules}
use Rattle.wire.specs.declared.Part.{Part}
use Rattle.common.specs.Common.{any}
use Rattle.common.proofs.CommonLaws.{number_none, number_is, part_none, part_is}
use Rattle.choice.specs.Choice.{method_from, guessed_wrong}
use Rattle.choice.proofs.ChoiceLaws.{method_list, part_list, first_list, guess_method, guess_host_key, choice_method, choice_host_key, chosen_refused, chosen_is}
use Rattle.choice.proofs.match_lists.Goals.{In_ok-method, then-not-same_first, else-not-same_first}
use Rattle.choice.proofs.match_lists.Goals as goal

-- the method that was found
method-is : (k : In_ok-method) →
    let a = k.args in
    (k.in_ok-method.method ≡ method_from any a.client.now a.server.now) × (k.in_ok-method.method ≡ 0 → ⊥)
method-is k =
    let n = number_is _ _ (sym k.in_ok-method.ensures.ok_part ∙ k.common_method.ensures) in
    (method_list k.args.client.now k.args.server.now k.requires.0 k.requires.1 1 (omega arith) (omega arith) _ _ k.list_cursor-kc.ensures k.list_cursor-ks.ensures _ n.0, n.1)

pub returns-in_err-method : goal.returns-in_err-method
returns-in_err-method c =
    let a = c.args.client.now in
    let s = c.args.server.now in
    let z = number_none _ (sym c.in_err-method.ensures.ok_part ∙ c.common_method.ensures) in
    let m = method_list a s c.requires.0 c.requires.1 1 (omega arith) (omega arith) _ _ c.list_cursor-kc.ensures c.list_cursor-ks.ensures 0 (sym z) in
    let r = chosen_refused any a s 20 (choice_method any a s c.requires.0 c.requires.1 (sym m)) (λ q. omega arith) in
    search (rules, r)

pub returns-in_err-host_key : goal.returns-in_err-host_key
returns-in_err-host_key c =
    let a = c.args.client.now in
    let s = c.args.server.now in
    let m = method-is (goal.at.returns-in_err-host_key c).In_ok-method in
    let p = part_list a s c.requires.0 c.requires.1 2 (omega arith) (omega arith) _ _ c.list_cursor-hc.ensures c.list_cursor-hs.ensures _ refl in
    let z = part_none _ (sym c.in_err-host_key.ensures.ok_part ∙ c.common_name.ensures) in
    let r = chosen_refused any a s 21 (choice_host_key any a s c.requires.0 c.requires.1 (λ q. m.1 (m.0 ∙ q)) (sym (ap (λ (r : Part). r.len) p) ∙ z)) (λ q. omega arith) in
    search (rules, r)

pub returns : goal.returns
returns c =
    let a = c.args.client.now in
    let s = c.args.server.now in
    let m = method-is (goal.at.returns c).In_ok-method in
    let h = part_is _ _ (sym c.in_ok-host_key.ensures.ok_part ∙ c.common_name.ensures) in
    let p = part_list a s c.requires.0 c.requires.1 2 (omega arith) (omega arith) _ _ c.list_cursor-hc.ensures c.list_cursor-hs.ensures _ h.0 in
    let x = first_list a s c.requires.0 c.requires.1 1 (omega arith) (omega arith) _ _ c.list_cursor-kc.ensures c.list_cursor-ks.ensures _ c.same_first.ensures in
    let g : c.if-not-same_first.wrong ≡ guessed_wrong a s =
    elim c.if-not-same_first.branch [
      | then-not-same_first w ↦ w.wrong-is ∙ ap not w.if-not-same_first.true ∙ sym (guess_method a s (x ∙ w.if-not-same_first.true))
      | else-not-same_first w ↦
          let y = first_list a s c.requires.0 c.requires.1 2 (omega arith) (omega arith) _ _ c.list_cursor-hc.ensures c.list_cursor-hs.ensures _ w.same_first-else-not-same_first.ensures in
          w.wrong-is ∙ sym (guess_host_key a s (x ∙ w.if-not-same_first.false) ∙ ap not y)
    ] in
    chosen_is any a s _ _ _ _ _ c.requires.0 c.requires.1 m.0 m.1 p h.1 c.requires.2 c.requires.3 g
