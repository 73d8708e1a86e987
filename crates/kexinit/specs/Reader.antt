-- KEXINIT as it is read (RFC 4253, section 7.1): judged whole, then opened for one list. Names are judged only as they are yielded. Stricter
-- than the RFC, as SPECIFICATION 4.1.3 says: 4,096 bytes at most. Assumes nothing.
use Rattle.std.specs.Prelude.{ℕ, ◌+◌, ◌-◌, List, Bool, false, Result, Ok, Err, cond, not, get_or, eqb}
use Rattle.limits.specs.Limits.{kexinit_most, cookie_size, list_count}
use Rattle.limits.specs.Range.{within}
use Rattle.limits.specs.Refusals.{number_of}
use Rattle.wire.specs.Causes.{cause_unless}
use Rattle.wire.specs.Parts.{part, nothing, bytes_at}
use Rattle.wire.specs.Strings.{number_at, string_part}
use Rattle.wire.specs.declared.Part.{Part}
use Rattle.messages.specs.Payload.{strings_end, message_cause}
use Rattle.messages.specs.Position.{position}
use Rattle.messages.specs.declared.Layout.{Layout}
use Rattle.names.specs.Names.{names_of}
use Rattle.names.specs.Cursor.{exhausted, cursor_of}
use Rattle.names.specs.declared.Cursor.{Cursor}
use Rattle.kexinit.specs.declared.Fixed.{Fixed}
use Rattle.kexinit.specs.declared.Refused.{Refused}
use Rattle.kexinit.specs.declared.OpenList.{OpenList}

-- a payload judged whole: 0 with its cookie, boolean and reserved number, or 4 or 10 to 13 and none of them; of 12 and 13 also where the
-- payload breaks
pub record Head : Type 0 where
  pub number : ℕ
  pub cookie : Part
  pub follows : Bool
  pub reserved : ℕ
  pub position : ℕ

-- a payload opened for one list, with a cursor at the list's beginning; a refusal's cursor yields only the end
pub record Opened : Type 0 where
  pub head : Head
  pub cursor : Cursor

-- byte 20, 16 cookie bytes, ten name-lists; a boolean and a 32-bit number behind them
abbrev pub kexinit_layout : Layout
kexinit_layout = record { most = kexinit_most; byte = 20; first = 1 + cookie_size; count = list_count; behind = 5; boolean = 1 }

-- why a payload is refused
abbrev pub kexinit_cause : List ℕ → ℕ
kexinit_cause p = message_cause kexinit_layout p

-- where the boolean stands
abbrev pub boolean_at : List ℕ → ℕ
boolean_at p = strings_end kexinit_layout p

-- the place of list n, and its names
abbrev pub list_part : List ℕ → ℕ → Part
list_part p n = string_part p kexinit_layout.first (n - 1)

abbrev pub list_names : List ℕ → ℕ → List (List ℕ)
list_names p n = names_of (bytes_at p (list_part p n))

-- cookie, boolean and reserved number: any boolean byte but 0 is true, and the reserved number is as found
abbrev pub head_at : List ℕ → Head
head_at p = record {
  number = 0;
  cookie = part 1 cookie_size;
  follows = not (eqb (get_or p (boolean_at p) 0) 0);
  reserved = number_at p (boolean_at p + 1);
  position = 0;
}

-- a refusal, with the position that its answer has
abbrev pub head_refused : ℕ → ℕ → Head
head_refused k at = record { number = k; cookie = nothing; follows = false; reserved = 0; position = at }

-- what an answer tells of a payload judged, and of one opened for a list
abbrev pub head_told : Result Fixed Refused → Head
head_told (Ok f) = record { number = 0; cookie = f.cookie; follows = f.follows; reserved = f.reserved; position = 0 }
head_told (Err r) = head_refused (number_of r.cause) r.position

abbrev pub opened_told : Result OpenList Refused → Opened
opened_told (Ok o) = record { head = head_told (Ok o.fixed); cursor = o.cursor }
opened_told (Err r) = record { head = head_told (Err r); cursor = exhausted }

-- a payload opened, by the first cause against it
unfoldable pub head_by : ℕ → List ℕ → Head
head_by k p = cond (eqb k 0) (head_at p) (head_refused k (position k kexinit_layout p))

abbrev pub open_head : List ℕ → Head
open_head p = head_by (kexinit_cause p) p

-- why opening a payload for list n is refused
unfoldable pub open_cause : List ℕ → ℕ → ℕ
open_cause p n = cause_unless (within 1 list_count n) 4 (kexinit_cause p)

-- a payload opened for list n; a refused one yields only the end
unfoldable pub open_list : List ℕ → ℕ → Opened
open_list p n = record {
  head = head_by (open_cause p n) p;
  cursor = cond (eqb (open_cause p n) 0) (cursor_of (list_part p n)) exhausted;
}
