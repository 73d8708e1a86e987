-- A key by the book, which never sees the exchange (SPECIFICATION 12.5). Assumes nothing.
use Rattle.std.specs.Prelude.{ℕ, List, []}
use Rattle.sha_words.specs.Message.{sha2}
use Rattle.wire.specs.Causes.{cause_unless}
use Rattle.methods.specs.Rows.{row_of}
use Rattle.exchange.specs.Book.{Past, Book, has_all, finished, hash_input, by_first}
use Rattle.keys.specs.Keys.{key_of}
use Rattle.keys.specs.Derived.{derive_fed}

-- the digest of the hash input, by the book's method
abbrev pub digest_told : Book → List ℕ
digest_told b = sha2 (row_of b.method).digest_len (hash_input b.fields)

-- the session identifier: that of the first exchange that was completed, by its own method
abbrev pub id_told : Book → List ℕ
id_told b = by_first [] (λ (x : Past). sha2 (row_of x.method).digest_len (hash_input x.fields)) (finished b)

-- the six keys are a function of the book: K is its K, H the digest of its hash input, and the session identifier that of the first to complete
abbrev pub key_told : Book → ℕ → ℕ → List ℕ
key_told b letter len = key_of (row_of b.method).digest_len b.fields.k (digest_told b) letter (id_told b) len

-- and so is the number: 1 unless the book has every step of its role
abbrev pub cause_told : Book → ℕ → ℕ → ℕ → ℕ
cause_told b letter len out = cause_unless (has_all b) 1 (derive_fed letter len out)
