-- An accepted start, and then a history, where the host stands. The start is told by `Reads.Learnt` of its export: its arguments a are the
-- exchange's bytes, whatever they held, role, method, V_C, V_S, I_C, I_S and the room. Assumes nothing.
use Rattle.std.specs.Prelude.{ℕ, ◌≡◌, List}
use contract.Lifetimes.{Lfts}
use denote.Triple.Clauses.{AtExit}
use borrow.Fn.World.{ArgsD}
use Rattle.exchange.specs.Again.{Turn}
use Rattle.exchange.specs.Book.{Book, opened}
use Rattle.boundary.specs.contracts.castulfrisa_start as start-fn
use Rattle.boundary.proofs.castulfrisa_start.Reads as start-reads
use Rattle.demand_host.specs.History.{History}

-- the book that the start opened and the room as it was lent; the calls, and the numbers that they answered; the exchange's bytes and
-- the room that they left
pub data Told : Book → List ℕ → List Turn → List ℕ → List ℕ → List ℕ → Type 0 where
  start_then : {calls : List Turn} {numbers ex room : List ℕ}
      (κs : Lfts 6) (a : ArgsD start-fn.signature κs) (r : ℕ) (s : AtExit start-fn.ended κs) → start-reads.Learnt κs a r s → r ≡ 0 →
      History a.1.1.0 s.0.now s.1.1.1.1.1.1.1.0.now calls numbers ex room →
      Told (opened a.1.0 a.1.1.0 a.1.1.1.0.now a.1.1.1.1.0.now a.1.1.1.1.1.0.now a.1.1.1.1.1.1.0.now)
      a.1.1.1.1.1.1.1.0.now calls numbers ex room
