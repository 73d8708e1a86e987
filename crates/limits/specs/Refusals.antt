-- The numbers of refusals (SPECIFICATION 2.2), and what an answer with a refusal in it tells. Assumes nothing.
use Rattle.std.specs.Prelude.{ℕ, Result, Ok, Err}
use Rattle.limits.specs.declared.Refusal.{Refusal}
use Rattle.limits.specs.declared.Refusal.TheVariants.{NotDue, NoMethod, RoomTooShort, BadInput, OutputTooShort, PayloadSize, OtherMessage, FieldPastEnd, BytesLeft, FieldLength, PointLead, ClassicalFailed, KemFailed, VerdictNo, BadName, NoCommonMethod, NoCommonHostKey, LongMpint, CountSpent}

-- the number of a refusal
abbrev pub number_of : Refusal → ℕ
number_of NotDue = 1
number_of NoMethod = 2
number_of RoomTooShort = 3
number_of BadInput = 4
number_of OutputTooShort = 5
number_of PayloadSize = 10
number_of OtherMessage = 11
number_of FieldPastEnd = 12
number_of BytesLeft = 13
number_of FieldLength = 14
number_of PointLead = 15
number_of ClassicalFailed = 16
number_of KemFailed = 17
number_of VerdictNo = 18
number_of BadName = 19
number_of NoCommonMethod = 20
number_of NoCommonHostKey = 21
number_of LongMpint = 22
number_of CountSpent = 23

-- the number that an answer tells: 0, or its refusal's
abbrev pub told : {A : Type 0} → Result A Refusal → ℕ
told (Ok x) = 0
told (Err e) = number_of e
