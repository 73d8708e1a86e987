-- Demand 3 (SPECIFICATION 12.4) over the definitions that the contracts cite; the crate demand states it over the functions' own contracts. Assumes nothing.
use Rattle.std.specs.Prelude.{ℕ, ◌≤◌, ◌≡◌, List, [], ◌∷◌, true, length}
use Rattle.limits.specs.Limits.{count_most, room_least}
use Rattle.exchange.specs.Numbers.{is_fault}
use Rattle.exchange.specs.Causes.{h_of}
use Rattle.exchange.specs.Record.{is_complete}
use Rattle.exchange.specs.Steps.{k_record}
use Rattle.exchange.specs.Again.{Turn, turn_number, turn_after, turn_room}
use Rattle.exchange.specs.Book.{Book, causes, last_book, has_all, finished, room_told, h_told, hash_input, session_of}
use Rattle.exchange.specs.declared.Exchange.{Exchange}

-- a list of calls, each with the exchange and the room as the last left them
abbrev pub numbers_of : Exchange → List ℕ → List Turn → List ℕ
numbers_of e room [] = []
numbers_of e room (q ∷ qs) = turn_number e room q ∷ numbers_of (turn_after e room q) (turn_room e room q) qs

abbrev pub last_exchange : Exchange → List ℕ → List Turn → Exchange
last_exchange e room [] = e
last_exchange e room (q ∷ qs) = last_exchange (turn_after e room q) (turn_room e room q) qs

abbrev pub last_room : Exchange → List ℕ → List Turn → List ℕ
last_room e room [] = room
last_room e room (q ∷ qs) = last_room (turn_after e room q) (turn_room e room q) qs

-- none of the numbers is n; all of them are 1
abbrev pub Never : ℕ → List ℕ → Type 0
Never n [] = Unit {0}
Never n (m ∷ ms) = (m ≡ n → ⊥) × Never n ms

abbrev pub AllOnes : List ℕ → Type 0
AllOnes [] = Unit {0}
AllOnes (n ∷ ns) = (n ≡ 1) × AllOnes ns

-- after a peer's fault every number is 1
abbrev pub SilentAfterFault : List ℕ → Type 0
SilentAfterFault [] = Unit {0}
SilentAfterFault (n ∷ ns) = (is_fault n ≡ true → AllOnes ns) × SilentAfterFault ns

-- what holds after an accepted start from a room, which opened the book b₀, and a list of calls, those to begin again among them: of the numbers that
-- they answered and of the exchange and the room that they left
pub record Held (b₀ : Book) (room : List ℕ) (calls : List Turn) (numbers : List ℕ) (e : Exchange) (room' : List ℕ) : Type 0 where
  -- each call's number is the book's first cause, or 0 with none
  pub answers : numbers ≡ causes (length room) b₀ calls
  -- never 3
  pub room_enough : Never 3 numbers
  -- after a fault no further step is ever accepted
  pub after_fault : SilentAfterFault numbers
  -- the record says complete exactly when the book has every step of its role since the latest beginning
  pub complete : is_complete e.stage ≡ has_all (last_book (length room) b₀ calls)
  -- the room begins with the book's fields in hash order, the rest as the latest beginning found it; or it is all zeros after a fault
  pub room_is : room' ≡ room_told (last_book (length room) b₀ calls) room
  -- the fields never pass the least room
  pub fields_most : length (hash_input (last_book (length room) b₀ calls).fields) ≤ room_least
  -- the K record is the book's K, zeros after it: all zeros until the secret step, and after a fault
  pub k_is : e.k ≡ k_record (last_book (length room) b₀ calls).fields.k
  -- H in the record is the book's: all zeros until the secret step, and after a fault
  pub h_is : e.h ≡ h_told (last_book (length room) b₀ calls)
  -- on a complete exchange it is the hash of the book's hash input
  pub h_whole : is_complete e.stage ≡ true → e.h ≡ h_of (last_book (length room) b₀ calls).method (hash_input (last_book (length room) b₀ calls).fields)
  -- over the whole history: the identifier is the hash of the hash input of the first exchange that was completed, whatever came after, its length the
  -- digest's, and the count how often the book had every step
  pub session_is : e.session ≡ session_of (finished (last_book (length room) b₀ calls))
  -- the count never passes 4,294,967,295
  pub count_most : e.session.count ≤ count_most
