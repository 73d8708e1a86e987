-- Beginning again, once an exchange is complete: what it answers and leaves (SPECIFICATION 11). And the calls of a list: those of the steps, and those to begin again.
-- Assumes nothing.
use Rattle.std.specs.Prelude.{ℕ, ◌+◌, List, ◌++◌, cond, length, eqb}
use Rattle.limits.specs.Limits.{h_size, k_size}
use Rattle.buffers.specs.Bytes.{zeros, over}
use Rattle.wire.specs.Causes.{cause_unless}
use Rattle.transcript.specs.Fields.{field, field_length}
use Rattle.exchange.specs.Causes.{again_cause}
use Rattle.exchange.specs.Record.{completed}
use Rattle.exchange.specs.Steps.{Call, number, exchange_after, room_after}
use Rattle.exchange.specs.declared.Stage.TheVariants.{Started}
use Rattle.exchange.specs.declared.Lengths.{Lengths}
use Rattle.exchange.specs.declared.Exchange.{Exchange}
use Rattle.exchange.specs.declared.Step.{Step}

-- 1 unless the exchange is complete, then what it is fed and the count
unfoldable pub again_number : Exchange → ℕ → ℕ → List ℕ → List ℕ → ℕ
again_number e room m ic is = cause_unless (completed e) 1 (again_cause m ic is room e.session.count)

-- where both V end in the room, by the recorded lengths
abbrev pub versions_end : Lengths → ℕ
versions_end l = field_length l.vc + field_length l.vs

-- begun again: both V as they are recorded, the new I_C and I_S, and no other length; no K and no H; its role and session kept
abbrev pub again_lengths : Lengths → ℕ → ℕ → Lengths
again_lengths l ic is = record { vc = l.vc; vs = l.vs; ic = ic; is = is; ks = 0; c = 0; s = 0 }

abbrev pub begun_again : Exchange → ℕ → ℕ → ℕ → Exchange
begun_again e m ic is = record {
  stage = Started;
  role = e.role;
  method = m;
  lens = again_lengths e.lens ic is;
  k = zeros k_size;
  h = zeros h_size;
  session = e.session;
}

-- refused, nothing changes
unfoldable pub again_after : Exchange → ℕ → ℕ → List ℕ → List ℕ → Exchange
again_after e room m ic is = cond (eqb (again_number e room m ic is) 0) (begun_again e m (length ic) (length is)) e

-- both V stay where they stand, both I follow, and the bytes behind them stay as they were
unfoldable pub again_room : Exchange → List ℕ → ℕ → List ℕ → List ℕ → List ℕ
again_room e room m ic is = cond (eqb (again_number e (length room) m ic is) 0) (over room (versions_end e.lens) (field ic ++ field is)) room

-- its answer: nothing is counted
unfoldable pub again_answered : Exchange → ℕ → ℕ → List ℕ → List ℕ → Step
again_answered e room m ic is = record { number = again_number e room m ic is; count = 0; second = 0; exchange = again_after e room m ic is; position = 0 }

-- ---- a call of a list

pub data Turn : Type 0 where
  step : (q : Call) → Turn
  again : (m : ℕ) (ic is : List ℕ) → Turn

abbrev pub turn_number : Exchange → List ℕ → Turn → ℕ
turn_number e room (step q) = number e room q
turn_number e room (again m ic is) = again_number e (length room) m ic is

abbrev pub turn_after : Exchange → List ℕ → Turn → Exchange
turn_after e room (step q) = exchange_after e room q
turn_after e room (again m ic is) = again_after e (length room) m ic is

abbrev pub turn_room : Exchange → List ℕ → Turn → List ℕ
turn_room e room (step q) = room_after e room q
turn_room e room (again m ic is) = again_room e room m ic is
