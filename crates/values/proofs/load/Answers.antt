-- `values::load` meets its contract. Assumes nothing.
use mathlib.Core.Path.{ap, ◌∙◌}
use Rattle.limits.specs.Limits.{k_size, h_size}
use Rattle.buffers.specs.Bytes.{zeros, laid}
use Rattle.values.proofs.LoadLaws.{loaded_blank, loaded_whole}
use Rattle.values.proofs.load.Goals as goal

pub returns-then-b-ne-EXCHANGE_SIZE : goal.returns-then-b-ne-EXCHANGE_SIZE
returns-then-b-ne-EXCHANGE_SIZE c =
    loaded_blank c.args.b.now _ _ _ _ c.lengths_in.ensures.0
    (c.in_zeros.ensures ∙ ap (laid (zeros k_size) 0) c.k_in.ensures)
    (c.in_zeros-2.ensures ∙ ap (laid (zeros h_size) 0) c.h_in.ensures)
    c.load_session.ensures
    c.if-b-ne-EXCHANGE_SIZE.true

pub returns : goal.returns
returns c =
    loaded_whole c.args.b.now _ _ _ _ c.lengths_in.ensures.0
    (c.in_zeros.ensures ∙ ap (laid (zeros k_size) 0) c.k_in.ensures)
    (c.in_zeros-2.ensures ∙ ap (laid (zeros h_size) 0) c.h_in.ensures)
    c.load_session.ensures
    _ c.if-b-ne-EXCHANGE_SIZE.false c.stage_in-e.ensures
