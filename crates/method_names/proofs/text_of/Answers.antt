-- `method_names::text_of` meets its contract. Assumes nothing.
use mathlib.Core.Path.{ap}
use Rattle.methods.specs.Rows.{name_of}
use Rattle.method_names.proofs.NameLaws.{row_other}
use Rattle.method_names.proofs.text_of.Goals as goal

pub returns-in_default : goal.returns-in_default
returns-in_default c = ap name_of (row_other _ c.in_default.in_default-own.rest)
