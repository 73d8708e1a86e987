-- The record of `specs/Strings.antt` that an answer tells. Assumes nothing.
use Rattle.std.specs.Prelude.{ℕ, Option, None, Some, Result, Ok, Err}
use Rattle.wire.specs.Parts.{nothing}
use Rattle.wire.specs.Strings.{Field, Walk, StringRead}
use Rattle.wire.specs.declared.Part.{Part}
use Rattle.wire.specs.declared.StringAndRest.{StringAndRest}

-- a string's body that was found
abbrev pub field_told : Option Part → Field
field_told None = record { number = 12; start = 0; len = 0 }
field_told (Some p) = record { number = 0; start = p.start; len = p.len }

-- where a run of strings ends, or where the one that passes the end begins
abbrev pub walk_told : Result ℕ ℕ → Walk
walk_told (Ok at) = record { number = 0; place = at }
walk_told (Err at) = record { number = 12; place = at }

-- the string at the front of an input
abbrev pub read_told : Option StringAndRest → StringRead
read_told None = record { number = 12; body = nothing; rest = nothing }
read_told (Some r) = record { number = 0; body = r.body; rest = r.rest }
