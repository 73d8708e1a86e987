use Prim.Native.Nat.{◌-◌}
use mathlib.Core.Path.{◌≡◌}
use lib.ListN.{drop}
use Rattle.methods.specs.Rows.{rows, named, number_of}
use Rattle.method_names.proofs.number_of.Given as goal

abbrev pub invariant-loop-number : goal.invariant-loop-number
invariant-loop-number l = named l.name (drop (l.number - 1) rows) ≡ number_of l.name
