-- A key of an exchange: what is judged, and what is derived (SPECIFICATION 10). Assumes nothing.
use Rattle.std.specs.Prelude.{ℕ, List, ◌&&◌, take, ltb}
use Rattle.limits.specs.Limits.{key_most, letter_first, letter_last}
use Rattle.limits.specs.Range.{within}
use Rattle.wire.specs.Causes.{cause_if, cause_unless}
use Rattle.methods.specs.Rows.{row_of}
use Rattle.exchange.specs.Record.{k_length, completed}
use Rattle.exchange.specs.declared.Exchange.{Exchange}
use Rattle.keys.specs.Keys.{key_of}

-- 4 for a letter that is not A to F, or a length that is not 1 to 128; 5 for an output of fewer bytes
abbrev pub derive_fed : ℕ → ℕ → ℕ → ℕ
derive_fed letter len out = cause_unless (within letter_first letter_last letter && within 1 key_most len) 4 (cause_if (ltb out len) 5 0)

-- 1 unless the exchange is complete and its record fits; then what it is fed
unfoldable pub derive_cause : Exchange → ℕ → ℕ → ℕ → ℕ
derive_cause e letter len out = cause_unless (completed e) 1 (derive_fed letter len out)

-- K as it is recorded, by its own length and with its four length bytes; H, by the digest's length
abbrev pub recorded_k : Exchange → List ℕ
recorded_k e = take (k_length e.k) e.k

abbrev pub recorded_h : Exchange → List ℕ
recorded_h e = take (row_of e.method).digest_len e.h

-- the session identifier as it is recorded, by its own length: that of the method whose exchange was the first to complete
abbrev pub identifier : Exchange → List ℕ
identifier e = take e.session.len e.session.id

-- the key, by the hash of the method
unfoldable pub key_in : Exchange → ℕ → ℕ → List ℕ
key_in e letter len = key_of (row_of e.method).digest_len (recorded_k e) (recorded_h e) letter (identifier e) len
