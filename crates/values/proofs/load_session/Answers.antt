-- `values::load_session` meets its contract. Assumes nothing.
use mathlib.Core.Path.{ap, ◌∙◌}
use Rattle.limits.specs.Limits.{h_size}
use Rattle.buffers.specs.Bytes.{zeros, laid}
use Rattle.values.proofs.LoadLaws.{loaded_session}
use Rattle.values.proofs.load_session.Goals as goal

pub returns : goal.returns
returns c =
    loaded_session c.args.b.now _ _ _ (c.in_zeros.ensures ∙ ap (laid (zeros h_size) 0) c.id_in.ensures) c.id_len_in.ensures.0 c.count_in.ensures.0
