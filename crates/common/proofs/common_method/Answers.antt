-- `common::common_method` meets its contract. Assumes nothing.
use Rattle.std.proofs.Common.{ℕ, List, ◌∷◌, ◌≡◌, ◌∙◌, sym, ap, arith}
use Rattle.buffers.specs.Bytes.{same}
use Rattle.methods.specs.Rows.{number_of}
use Rattle.common.specs.Common.{any, has, method_in, some_method}
use Rattle.common.proofs.CommonLaws.{names_from, name_first, name_read, name_less, good_found, good_none, has_here, has_later, method_none, method_here, method_other, method_absent, some_number}
use Rattle.common.proofs.common_method.Goals.{then-method-ne0+in_default-next_good, else-method-ne0}
use Rattle.common.proofs.common_method.Goals as goal

pub loop-m-smaller : goal.loop-m-smaller
loop-m-smaller c =
    let v = c.args.server.now in
    name_less v c.loop-m.to _ (good_found v c.loop-m.to _ c.in-Some-next_good.ensures)

pub loop-m-preserved : goal.loop-m-preserved
loop-m-preserved c =
    let v = c.args.server.now in
    let n = c.part_of-name.result.now in
    let g = good_found v c.loop-m.to _ c.in-Some-next_good.ensures in
    let e = sym (c.equal.ensures ∙ ap (same n) (c.part_of.ensures.0 ∙ name_read v c.loop-m.to _ g)) in
    has_later n v c.loop-m.to _ g (e ∙ c.if-equal.false) ∙ c.loop-m.invariant

pub search-smaller : goal.search-smaller
search-smaller c =
    let k = c.args.client.now in
    name_less k c.search.at _ (good_found k c.search.at _ c.in-Some.ensures)

pub search-preserved : goal.search-preserved
search-preserved c =
    let a = c.args in
    let k = a.client.now in
    let f = good_found k c.search.at _ c.in-Some.ensures in
    let v = a.server.now in
    let u = names_from v a.s in
    let n = c.part_of-name.result.now in
    let e = c.part_of-name.ensures.0 ∙ name_read k c.search.at _ f in
    let q : number_of f.name ≡ c.number_of-method.result = sym (c.number_of-method.ensures ∙ ap number_of e) in
    let d : method_in any (f.name ∷ names_from k c.in-Some.n.cursor) u ≡ method_in any (names_from k c.in-Some.n.cursor) u =
    elim c.if-method-ne0.branch [
      | then-method-ne0+in_default-next_good w ↦ method_absent u f.name _ (ap (λ (m : List ℕ). has m u) (sym e) ∙ sym w.loop-m.invariant ∙ ap (has n) (good_none v w.loop-m.to w.in_default-next_good.ensures))
      | else-method-ne0 w ↦ method_other u f.name _ (q ∙ w.if-method-ne0.false)
    ] in
    sym (ap (λ (l : List (List ℕ)). method_in any l u) (name_first k c.search.at _ f) ∙ d) ∙ c.search.invariant

pub returns-in_default : goal.returns-in_default
returns-in_default c =
    let a = c.args in
    let u = names_from a.server.now a.s in
    let n = good_none a.client.now c.search.at c.in_default.ensures in
    ap some_method (sym (ap (λ (l : List (List ℕ)). method_in any l u) n ∙ method_none u) ∙ c.search.invariant)

pub returns-then-equal : goal.returns-then-equal
returns-then-equal c =
    let a = c.args in
    let k = a.client.now in
    let v = a.server.now in
    let u = names_from v a.s in
    let n = c.part_of-name.result.now in
    let f = good_found k c.search.at _ c.in-Some.ensures in
    let g = good_found v c.loop-m.to _ c.in-Some-next_good.ensures in
    let e = sym (c.equal.ensures ∙ ap (same n) (c.part_of.ensures.0 ∙ name_read v c.loop-m.to _ g)) in
    let h = has_here n v c.loop-m.to _ g (e ∙ c.if-equal.true) in
    let x = c.part_of-name.ensures.0 ∙ name_read k c.search.at _ f in
    let q = c.number_of-method.ensures ∙ ap number_of x in
    some_number c.number_of-method.result (λ z. omega arith)
    ∙ ap some_method
    (q
    ∙ sym (ap (λ (m : List (List ℕ)). method_in any m u) (name_first k c.search.at _ f)
    ∙ method_here u f.name _ (λ z. omega arith) (ap (λ (m : List ℕ). has m u) (sym x) ∙ sym c.loop-m.invariant ∙ h)) ∙ c.search.invariant)
