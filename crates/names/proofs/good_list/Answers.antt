-- `names::good_list` meets its contract. Assumes nothing.
use Rattle.std.proofs.Common.{◌∙◌, sym}
use Rattle.names.proofs.CursorLaws.{good_judged}
use Rattle.names.proofs.good_list.Goals as goal

pub returns : goal.returns
returns c =
    c.is_ok.ensures.value ∙ good_judged c.args.s.now _ (sym c.is_empty.ensures ∙ c.if-is_empty.false) c.judge_names.ensures
