use Prim.Native.Nat.{◌-◌}
use mathlib.Core.Path.{◌≡◌}
use Rattle.wire.specs.Strings.{walk}
use Rattle.wire.proofs.skip_strings.Given as goal

abbrev pub invariant-loop : goal.invariant-loop
invariant-loop l = walk l.s l.place (l.k - l.counter) ≡ walk l.s l.at l.k
