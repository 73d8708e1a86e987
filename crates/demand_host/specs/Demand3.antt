-- Demand 3 where the host stands (SPECIFICATION 12, 13). After every accepted start, whatever the lent bytes held before it, in every room, and after every list
-- of calls of the six steps' exports and of the one that begins again: what `Held` says of the book holds of the numbers that they returned, of the exchange in the
-- bytes that the host holds, and of the room; and each of those bytes is told by the book and the numbers. So after a fault every number is
-- 1, the room is zeros, and of the exchange only role, method, session and the fault's number are left. Assumes nothing.
use Rattle.std.specs.Prelude.{ℕ, ◌≡◌, List, true, length}
use Rattle.exchange.specs.Again.{Turn}
use Rattle.exchange.specs.Book.{Book, last_book}
use Rattle.exchange.specs.ExchangeTold.{exchange_told}
use Rattle.exchange.specs.Demand.{Held}
use Rattle.stored.specs.Stored.{encoded, fits, decoded}
use Rattle.demand_host.specs.Told.{Told}

pub record HeldAtHost (b₀ : Book) (room₀ : List ℕ) (calls : List Turn) (numbers ex room : List ℕ) : Type 0 where
  -- what demand 3 says
  pub held : Held b₀ room₀ calls numbers (decoded ex) room
  -- the bytes are those of the exchange that the book tells, and an exchange's
  pub bytes_are : ex ≡ encoded (exchange_told (last_book (length room₀) b₀ calls) numbers)
  pub fitting : fits ex ≡ true

abbrev pub Demand3 : Type 0
Demand3 =
    (b₀ : Book) (room₀ : List ℕ) (calls : List Turn) (numbers ex room : List ℕ)
    → Told b₀ room₀ calls numbers ex room → HeldAtHost b₀ room₀ calls numbers ex room
