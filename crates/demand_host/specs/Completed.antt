-- An exchange that an accepted start and a list of calls of the exports leave complete: what demand 3 speaks of is not nothing. Assumes nothing.
use Rattle.std.specs.Prelude.{ℕ, ◌≡◌, List, ◌++◌, true, length}
use Rattle.methods.specs.Rows.{row_of}
use Rattle.exchange.specs.Again.{Turn}
use Rattle.exchange.specs.Record.{is_complete}
use Rattle.exchange.specs.Causes.{h_of}
use Rattle.exchange.specs.Book.{Book, last_book, hash_input}
use Rattle.stored.specs.Stored.{decoded}
use Rattle.demand_host.specs.Told.{Told}

-- with this role and method, from this room
pub record Completed (role m : ℕ) (room : List ℕ) : Type 0 where
  pub book : Book
  pub role_is : book.role ≡ role
  pub method_is : book.method ≡ m
  pub calls : List Turn
  pub numbers : List ℕ
  pub exchange : List ℕ
  pub room_left : List ℕ
  pub told : Told book room calls numbers exchange room_left
  pub complete : is_complete (decoded exchange).stage ≡ true

-- with this role, and one exchange after another in these two methods, the first by the first of the calls: the session is that one's
pub record CompletedTwice (role m m' : ℕ) (room : List ℕ) : Type 0 where
  pub book : Book
  pub role_is : book.role ≡ role
  pub method_is : book.method ≡ m
  pub first : List Turn
  pub rest : List Turn
  pub calls : List Turn
  pub calls_are : calls ≡ first ++ rest
  pub numbers : List ℕ
  pub exchange : List ℕ
  pub room_left : List ℕ
  pub told : Told book room calls numbers exchange room_left
  pub complete : is_complete (decoded exchange).stage ≡ true
  pub method_left : (decoded exchange).method ≡ m'
  pub count_is : (decoded exchange).session.count ≡ 2
  pub length_is : (decoded exchange).session.len ≡ (row_of m).digest_len
  pub id_is : (decoded exchange).session.id ≡ h_of m (hash_input (last_book (length room) book first).fields)
