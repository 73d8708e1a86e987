-- The parts of INIT and REPLY: a law for each `return`. Assumes nothing.
use Prim.Native.Nat.{ℕ, ◌+◌, ◌≤◌}
use mathlib.Core.Path.{◌≡◌, sym}
use mathlib.Core.List.{List}
use native.Mathlib.Omega.{arith}
use lib.ListN.{length}
use Rattle.wire.specs.Parts.{nothing}
use Rattle.wire.proofs.StringsLaws.{part_within}
use Rattle.messages.specs.Messages.{field_part}
use Rattle.exchange.specs.Numbers.{Kind, accepted, refused, fault, kind, by_kind}
use Rattle.exchange.specs.Steps.{Call, number, step_part}
use Rattle.exchange.specs.declared.Exchange.{Exchange}
use Rattle.exchange.proofs.KindLaws.{kind_same}

-- a refusal has no part
pub none_refused : (n : ℕ) (p : List ℕ) (i : ℕ) → (n ≡ 0 → ⊥) → nothing ≡ by_kind (kind n) (field_part p i) nothing nothing
none_refused n p i h = sym (kind_same n (field_part p i) nothing h)

-- accepted or not, the part lies within the payload
pub step_part_within : (e : Exchange) (room : List ℕ) (q : Call) (p : List ℕ) (i : ℕ) → (step_part e room q p i).start + (step_part e room q p i).len ≤ length p
unfolding step_part
step_part_within e room q p i = by_kind_lem (kind (number e room q))
  where
    by_kind_lem : (t : Kind) → (by_kind t (field_part p i) nothing nothing).start + (by_kind t (field_part p i) nothing nothing).len ≤ length p
    by_kind_lem accepted = part_within p 1 i
    by_kind_lem refused = omega arith
    by_kind_lem fault = omega arith
