-- What a cursor finds, told as a record, and what an answer tells of it. Assumes nothing.
use Rattle.std.specs.Prelude.{ℕ, Bool, true, false, Option, Some, None, Result, Ok, Err}
use Rattle.limits.specs.Refusals.{number_of}
use Rattle.limits.specs.declared.Refusal.{Refusal}
use Rattle.wire.specs.Parts.{nothing}
use Rattle.wire.specs.declared.Part.{Part}
use Rattle.names.specs.declared.Cursor.{Cursor}
use Rattle.names.specs.declared.Named.{Named}

-- 0 with a name's place and the cursor behind it; at the end 0 and the same cursor; at a bad name 19 and the same cursor
pub record Next : Type 0 where
  pub number : ℕ
  pub found : Bool
  pub name : Part
  pub cursor : Cursor

-- what an answer to a cursor tells
abbrev pub next_told : Cursor → Result (Option Named) Refusal → Next
next_told c (Ok (Some n)) = record { number = 0; found = true; name = n.name; cursor = n.cursor }
next_told c (Ok None) = record { number = 0; found = false; name = nothing; cursor = c }
next_told c (Err e) = record { number = number_of e; found = false; name = nothing; cursor = c }
