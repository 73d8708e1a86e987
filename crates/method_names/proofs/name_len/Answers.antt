-- `method_names::name_len` meets its contract. Assumes nothing.
use mathlib.Core.Path.{ap}
use Rattle.methods.specs.declared.Method.{Method}
use Rattle.method_names.proofs.NameLaws.{row_other}
use Rattle.method_names.proofs.name_len.Goals as goal

pub returns-in_default : goal.returns-in_default
returns-in_default c = ap (λ (r : Method). r.name_len) (row_other _ c.in_default.in_default-own.rest)
