-- An accepted start, and then a history. The start is told by `Reads.Learnt` of its own function, as the history tells the steps: its
-- arguments a are role, method, V_C, V_S, I_C, I_S and the room. Assumes nothing.
use Rattle.std.specs.Prelude.{ℕ, ◌≡◌, List}
use contract.Lifetimes.{Lfts}
use denote.Triple.Clauses.{AtExit}
use borrow.Fn.World.{ArgsD}
use Rattle.exchange.specs.Again.{Turn}
use Rattle.exchange.specs.Book.{Book, opened}
use Rattle.exchange.specs.declared.Step.{Step}
use Rattle.exchange.specs.declared.Exchange.{Exchange}
use Rattle.steps.specs.contracts.start as start-fn
use Rattle.steps.proofs.start.Reads as start-reads
use Rattle.demand.specs.History.{History}

-- the book that the start opened and the room as it was lent; the calls, and the numbers that they answered; the exchange and the room
-- that they left
pub data Told : Book → List ℕ → List Turn → List ℕ → Exchange → List ℕ → Type 0 where
  start_then : {calls : List Turn} {numbers : List ℕ} {e : Exchange} {room : List ℕ}
      (κs : Lfts 5) (a : ArgsD start-fn.signature κs) (r : Step) (s : AtExit start-fn.ended κs) → start-reads.Learnt κs a r s → r.number ≡ 0 →
      History r.exchange s.1.1.1.1.1.1.0.now calls numbers e room →
      Told (opened a.0 a.1.0 a.1.1.0.now a.1.1.1.0.now a.1.1.1.1.0.now a.1.1.1.1.1.0.now)
      a.1.1.1.1.1.1.0.now calls numbers e room
