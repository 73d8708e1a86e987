-- `names::good_name` meets its contract. Assumes nothing.
use Rattle.std.proofs.Common.{◌∙◌, Bool, ◌&&◌, sym, ap, rules, tests}
use Rattle.std.proofs.lemmas.Iterator.{YieldsList-from_slice}
use Rattle.std.proofs.lemmas.Iterator.Search.{all_from_yields_List}
use Rattle.limits.specs.Every.{every}
use Rattle.names.specs.Names.{name_byte, good_name}
use Rattle.names.proofs.NameLaws.{every_all}
use Rattle.names.proofs.good_name.Goals as goal

pub returns-then-in_range : goal.returns-then-in_range
unfolding good_name
returns-then-in_range c =
    let s = c.args.s.now in
    all_from_yields_List name_byte _ _ _ c.all.ensures.ran (YieldsList-from_slice s cc) (λ x b q k. search (rules, tests))
    ∙ sym (every_all name_byte s)
    ∙ ap (λ (t : Bool). t && every name_byte s) (sym c.if-in_range.true ∙ c.in_range.ensures)

pub returns-else-in_range : goal.returns-else-in_range
unfolding good_name
returns-else-in_range c =
    let s = c.args.s.now in
    c.if-in_range.false ∙ ap (λ (t : Bool). t && every name_byte s) (sym c.if-in_range.false ∙ c.in_range.ensures)
