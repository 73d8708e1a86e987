-- A payload of fixed bytes and a run of strings: its message number and fixed bytes, strings, fixed bytes behind them. INIT, REPLY and
-- KEXINIT are read as such. Assumes nothing.
use Rattle.std.specs.Prelude.{ℕ, ◌+◌, List, Bool, Result, Ok, Err, cond, ◌&&◌, length, get_or, ltb, leb, eqb}
use Rattle.limits.specs.Range.{within}
use Rattle.limits.specs.Refusals.{number_of}
use Rattle.limits.specs.declared.Refusal.{Refusal}
use Rattle.wire.specs.Causes.{cause_if, cause_unless}
use Rattle.wire.specs.Strings.{walk}
use Rattle.messages.specs.declared.Layout.{Layout}

-- a payload judged whole: 0 and where its strings end, or 10 to 13 and 0
pub record Judged : Type 0 where
  pub number : ℕ
  pub place : ℕ

-- the same by the place or a refusal
abbrev pub judged_told : Result ℕ Refusal → Judged
judged_told (Ok place) = record { number = 0; place = place }
judged_told (Err e) = record { number = number_of e; place = 0 }

-- where the strings end
abbrev pub strings_end : Layout → List ℕ → ℕ
strings_end l p = (walk p l.first l.count).place

-- whether no field passes the end: the strings, with the bytes ahead of them, and then the bytes behind them
unfoldable pub fields_fit : Layout → List ℕ → Bool
fields_fit l p = eqb (walk p l.first l.count).number 0 && leb (strings_end l p + l.behind) (length p)

-- why a payload is no message of this layout: its size; its number; a field passes the end; bytes are left over
unfoldable pub message_cause : Layout → List ℕ → ℕ
message_cause l p =
    cause_unless (within 1 l.most (length p)) 10
    (cause_unless (eqb (get_or p 0 0) l.byte) 11
    (cause_unless (fields_fit l p) 12
    (cause_if (ltb (strings_end l p + l.behind) (length p)) 13 0)))

-- the number, and where the strings end: 0 on a refusal
unfoldable pub judged : Layout → List ℕ → Judged
judged l p = record { number = message_cause l p; place = cond (eqb (message_cause l p) 0) (strings_end l p) 0 }
