-- `common::first` meets its contract. Assumes nothing.
use Rattle.std.proofs.Common.{◌∙◌, sym, ap}
use Rattle.common.specs.Common.{first_of}
use Rattle.common.proofs.CommonLaws.{name_first, name_read, good_found, good_none}
use Rattle.common.proofs.first.Goals as goal

pub returns : goal.returns
returns c =
    let f = good_found c.args.list.now c.args.c c.in-Some.n c.in-Some.ensures in
    c.part_of.ensures.0 ∙ name_read c.args.list.now c.args.c _ f ∙ ap first_of (sym (name_first c.args.list.now c.args.c _ f))

pub returns-in_default : goal.returns-in_default
returns-in_default c = ap first_of (sym (good_none c.args.list.now c.args.c c.in_default.ensures))
