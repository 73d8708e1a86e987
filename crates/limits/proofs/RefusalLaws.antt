-- Laws of `specs/Refusals.antt`. Assumes nothing.
use mathlib.Core.Path.{◌≡◌}
use native.Mathlib.Omega.{arith}
use Rattle.limits.specs.Refusals.{number_of}
use Rattle.limits.specs.declared.Refusal.{Refusal}
use Rattle.limits.specs.declared.Refusal.TheVariants.{NotDue, NoMethod, RoomTooShort, BadInput, OutputTooShort, PayloadSize, OtherMessage, FieldPastEnd, BytesLeft, FieldLength, PointLead, ClassicalFailed, KemFailed, VerdictNo, BadName, NoCommonMethod, NoCommonHostKey, LongMpint, CountSpent}

-- no refusal has the number 0
pub number_some : (e : Refusal) → number_of e ≡ 0 → ⊥
number_some NotDue z = omega arith
number_some NoMethod z = omega arith
number_some RoomTooShort z = omega arith
number_some BadInput z = omega arith
number_some OutputTooShort z = omega arith
number_some PayloadSize z = omega arith
number_some OtherMessage z = omega arith
number_some FieldPastEnd z = omega arith
number_some BytesLeft z = omega arith
number_some FieldLength z = omega arith
number_some PointLead z = omega arith
number_some ClassicalFailed z = omega arith
number_some KemFailed z = omega arith
number_some VerdictNo z = omega arith
number_some BadName z = omega arith
number_some NoCommonMethod z = omega arith
number_some NoCommonHostKey z = omega arith
number_some LongMpint z = omega arith
number_some CountSpent z = omega arith
