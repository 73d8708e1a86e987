-- `names::next_name` meets its contract. Assumes nothing.
use Rattle.std.proofs.Common.{◌∙◌, sym, arith}
use Rattle.names.proofs.CursorLaws.{none_ahead, name_fits, name_length, name_found, name_bad}
use Rattle.names.proofs.next_name.Goals as goal

pub returns-in_default : goal.returns-in_default
returns-in_default c =
    let l = c.in_default.ensures.lookup in
    none_ahead c.args.s.now c.args.c l.0

pub slice_bounds-good_name-end : goal.slice_bounds-good_name-end
slice_bounds-good_name-end c =
    let l = c.in-Some.ensures.lookup.0 in
    name_length c.args.s.now c.args.c _ _ l.0 l.1 l.2 c.first_len-len.ensures

pub returns-then-not-good_name : goal.returns-then-not-good_name
returns-then-not-good_name c =
    let l = c.in-Some.ensures.lookup.0 in
    name_bad c.args.s.now c.args.c _ _ l.0 l.1 l.2 c.first_len-len.ensures (sym c.good_name.ensures ∙ c.if-not-good_name.true)

pub overflow_add-result : goal.overflow_add-result
overflow_add-result c =
    let l = c.in-Some.ensures.lookup.0 in
    omega (arith, name_fits c.args.s.now c.args.c _ _ l.0 l.1 l.2 c.first_len-len.ensures)

pub overflow_add-result-2 : goal.overflow_add-result-2
overflow_add-result-2 c =
    let l = c.in-Some.ensures.lookup.0 in
    omega (arith, name_fits c.args.s.now c.args.c _ _ l.0 l.1 l.2 c.first_len-len.ensures)

pub returns : goal.returns
returns c =
    let l = c.in-Some.ensures.lookup.0 in
    name_found c.args.s.now c.args.c _ _ l.0 l.1 l.2 c.first_len-len.ensures (sym c.good_name.ensures ∙ c.if-not-good_name.false)
