-- `sha_2::Hash::start` meets its contract. Assumes nothing.
use mathlib.Core.Path.{sym, ◌∙◌}
use Rattle.sha_2.proofs.StateLaws.{start_unknown, start_known}
use Rattle.sha_2.proofs.Hash.start.Goals as goal

pub returns-then-not-is_known : goal.returns-then-not-is_known
returns-then-not-is_known c = start_unknown c.args.kind (sym c.is_known.ensures ∙ c.if-not-is_known.true)

pub returns : goal.returns
returns c =
    start_known c.args.kind c.initial_of.result c.made.result (sym c.is_known.ensures ∙ c.if-not-is_known.false) c.initial_of.ensures c.made.ensures
