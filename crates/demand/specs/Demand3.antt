-- Demand 3 (SPECIFICATION 12). Whatever the peer, the primitives and the caller put in: after every accepted start, in every room, and after every list of
-- calls of the steps and calls to begin again, in any order and with refused ones and those of the other role among them, what `Held` says of the book
-- holds of their answers, of the exchange and of the room. Assumes nothing.
use Rattle.std.specs.Prelude.{ℕ, List}
use Rattle.exchange.specs.Again.{Turn}
use Rattle.exchange.specs.Book.{Book}
use Rattle.exchange.specs.Demand.{Held}
use Rattle.exchange.specs.declared.Exchange.{Exchange}
use Rattle.demand.specs.Told.{Told}

abbrev pub Demand3 : Type 0
Demand3 =
    (b₀ : Book) (room₀ : List ℕ) (calls : List Turn) (numbers : List ℕ) (e : Exchange) (room : List ℕ)
    → Told b₀ room₀ calls numbers e room → Held b₀ room₀ calls numbers e room
