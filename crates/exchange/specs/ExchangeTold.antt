-- The exchange that a book tells, all of it: as the room, it is told by the calls alone. Assumes nothing.
use Rattle.std.specs.Prelude.{ℕ, List, [], ◌∷◌, cond, length, get_or, eqb}
use Rattle.limits.specs.Limits.{client}
use Rattle.exchange.specs.Numbers.{is_fault}
use Rattle.exchange.specs.Record.{ended}
use Rattle.exchange.specs.Steps.{k_record}
use Rattle.exchange.specs.Book.{Fields, Book, finished, h_told, session_of}
use Rattle.exchange.specs.declared.Stage.{Stage}
use Rattle.exchange.specs.declared.Stage.TheVariants.{Started, CSent, InitRead, ReplyRead, SecretDone, Complete}
use Rattle.exchange.specs.declared.Lengths.{Lengths}
use Rattle.exchange.specs.declared.Exchange.{Exchange}

-- the stage of a role after so many steps
abbrev pub stages_of : ℕ → List Stage
stages_of role = cond (eqb role client) (Started ∷ CSent ∷ ReplyRead ∷ SecretDone ∷ Complete ∷ []) (Started ∷ InitRead ∷ SecretDone ∷ Complete ∷ [])

-- the lengths that an exchange with these fields records
abbrev pub lengths_in : Fields → Lengths
lengths_in f = record { vc = length f.vc; vs = length f.vs; ic = length f.ic; is = length f.is; ks = length f.ks; c = length f.c; s = length f.s }

-- without a fault: stage, lengths, K and H by the steps done and the fields, and the session by the exchanges that were completed
abbrev pub exchange_of : Book → Exchange
exchange_of b = record {
  stage = get_or (stages_of b.role) b.done Complete;
  role = b.role;
  method = b.method;
  lens = lengths_in b.fields;
  k = k_record b.fields.k;
  h = h_told b;
  session = session_of (finished b);
}

-- the first peer's fault among the numbers that the calls answered; 0 with none
abbrev pub first_fault : List ℕ → ℕ
first_fault [] = 0
first_fault (n ∷ ns) = cond (is_fault n) n (first_fault ns)

-- after a fault: role, method, session and that number, and nothing else
unfoldable pub exchange_told : Book → List ℕ → Exchange
exchange_told b numbers = cond b.faulted (ended (first_fault numbers) b.role b.method (session_of (finished b))) (exchange_of b)
