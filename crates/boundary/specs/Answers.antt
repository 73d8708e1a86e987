-- Answers as the numbers that go through lent ones. Assumes nothing.
use Rattle.std.specs.Prelude.{ℕ, List, [], ◌∷◌, ◌++◌, cond, get_or}
use Rattle.names.specs.declared.Cursor.{Cursor}
use Rattle.kexinit.specs.Reader.{Opened}
use Rattle.choice.specs.Choice.{Choice}
use Rattle.lent.specs.Lent.{place_of}

-- a cursor as two numbers, and the cursor of two
abbrev pub cursor_numbers : Cursor → List ℕ
cursor_numbers c = c.at ∷ c.end ∷ []

abbrev pub cursor_of : List ℕ → Cursor
cursor_of n = record { at = get_or n 0 0; end = get_or n 1 0 }

-- an opened KEXINIT: the cookie's place, the boolean, the reserved number, the cursor, the position
abbrev pub opened_numbers : Opened → List ℕ
opened_numbers r = place_of r.head.cookie ++ cond r.head.follows 1 0 ∷ r.head.reserved ∷ cursor_numbers r.cursor ++ r.head.position ∷ []

-- a choice: the method, the host key name's place, whether the client's and whether the server's next packet is ignored
abbrev pub choice_numbers : Choice → List ℕ
choice_numbers r = r.method ∷ place_of r.host_key ++ cond r.ignore_client 1 0 ∷ cond r.ignore_server 1 0 ∷ []
