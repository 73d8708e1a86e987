-- A view over a lent payload: how it is opened for a list, and what a step leaves of it. Assumes nothing.
use Rattle.std.specs.Prelude.{ℕ, List}
use Rattle.std.specs.Borrow.{Bor}
use Rattle.names.specs.Cursor.{next_name}
use Rattle.names.specs.Next.{Next}
use Rattle.names.specs.declared.Cursor.{Cursor}
use Rattle.kexinit.specs.Reader.{Head, Opened, head_told}
use Rattle.views.specs.declared as code

-- the payload, a cursor that yields the list's names one at a time, and what opening gave beside it
pub record View : Type 0 where
  pub payload : Bor (List ℕ)
  pub cursor : Cursor
  pub head : Head

-- the same by the code's
abbrev pub view_told : code.View.View → View
view_told v = record { payload = v.payload; cursor = v.cursor; head = head_told v.head }

-- a view at the beginning of what opening gave: a refused one has only the end ahead
abbrev pub opened_by : Bor (List ℕ) → Opened → View
opened_by s o = record { payload = s; cursor = o.cursor; head = o.head }

-- what a view yields
abbrev pub yielded : View → Next
yielded v = next_name v.payload.now v.cursor

-- what a step leaves: the view at the answer's cursor, which at the end and at a bad name is its own
abbrev pub left_by : View → Next → View
left_by v n = record { payload = v.payload; cursor = n.cursor; head = v.head }
