-- `common::common_name` meets its contract. Assumes nothing.
use Rattle.std.proofs.Common.{ℕ, List, ◌∙◌, sym, ap}
use Rattle.common.specs.Common.{has, common_part, some_place}
use Rattle.common.proofs.CommonLaws.{names_from, name_read, name_less, name_some, good_found, good_none, common_here, common_later, some_part}
use Rattle.common.proofs.common_name.Goals as goal

pub returns-then-among : goal.returns-then-among
returns-then-among c =
    let a = c.args in
    let k = a.client.now in
    let u = names_from a.server.now a.s in
    let f = good_found k c.loop-n.at _ c.in-Some.ensures in
    let e = sym (c.among.ensures ∙ ap (λ (m : List ℕ). has m u) (c.part_of.ensures.0 ∙ name_read k c.loop-n.at _ f)) in
    some_part c.in-Some.n.name (name_some k c.loop-n.at _ f) ∙ ap some_place (sym (common_here u k c.loop-n.at _ f (e ∙ c.if-among.true)) ∙ c.loop-n.invariant)

pub loop-n-smaller : goal.loop-n-smaller
loop-n-smaller c =
    let k = c.args.client.now in
    name_less k c.loop-n.at _ (good_found k c.loop-n.at _ c.in-Some.ensures)

pub loop-n-preserved : goal.loop-n-preserved
loop-n-preserved c =
    let a = c.args in
    let k = a.client.now in
    let u = names_from a.server.now a.s in
    let f = good_found k c.loop-n.at _ c.in-Some.ensures in
    let e = sym (c.among.ensures ∙ ap (λ (m : List ℕ). has m u) (c.part_of.ensures.0 ∙ name_read k c.loop-n.at _ f)) in
    common_later u k c.loop-n.at _ f (e ∙ c.if-among.false) ∙ c.loop-n.invariant

pub returns : goal.returns
returns c =
    let a = c.args in
    let u = names_from a.server.now a.s in
    let n = good_none a.client.now c.loop-n.at c.in_default.ensures in
    ap some_place (sym (ap (λ (l : List (List ℕ)). common_part c.loop-n.at.at l u) n) ∙ c.loop-n.invariant)
