-- What a writer answers and leaves, given its first cause, 0 for none, and the bytes that it is to write. Assumes nothing.
use Rattle.std.specs.Prelude.{ℕ, List, Result, Ok, Err, cond, length, take, ltb, eqb}
use Rattle.limits.specs.Limits.{string_most}
use Rattle.limits.specs.Refusals.{number_of}
use Rattle.limits.specs.declared.Refusal.{Refusal}
use Rattle.buffers.specs.Bytes.{onto}
use Rattle.wire.specs.Causes.{cause_if}
use Rattle.wire.specs.Strings.{string}

-- what a writer answers: 0 and the bytes written, or the number of a refusal and 0
pub record Written : Type 0 where
  pub number : ℕ
  pub count : ℕ

-- the same by a count or a refusal
abbrev pub written_told : Result ℕ Refusal → Written
written_told (Ok n) = record { number = 0; count = n }
written_told (Err e) = record { number = number_of e; count = 0 }

-- the number, and how many bytes were written: none on a refusal
unfoldable pub wrote : ℕ → List ℕ → Written
wrote cause b = record { number = cause; count = cond (eqb cause 0) (length b) 0 }

-- the output: it begins with the bytes, and those past them stay; all stay on a refusal
unfoldable pub leaves : ℕ → List ℕ → List ℕ → List ℕ
leaves cause b out = cond (eqb cause 0) (onto out b) out

-- as many of the output's bytes as are counted
abbrev pub front : ℕ → List ℕ → List ℕ → List ℕ
front cause b out = take (wrote cause b).count (leaves cause b out)

-- why a string with this body is not written to an output of `size` bytes: its length does not fit its four bytes, or it does not fit the output
unfoldable pub string_cause : ℕ → List ℕ → ℕ
string_cause size body = cause_if (ltb string_most (length body)) 4 (cause_if (ltb size (length (string body))) 5 0)
