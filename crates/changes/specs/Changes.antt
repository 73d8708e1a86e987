-- What a step changes in an exchange's bytes. Assumes nothing.
use Rattle.std.specs.Prelude.{ℕ, ◌+◌, List, [], ◌∷◌, cond, get_or, take, drop, eqb}
use Rattle.limits.specs.Limits.{h_size, exchange_mark}
use Rattle.buffers.specs.Bytes.{over}
use Rattle.methods.specs.Rows.{row_of}
use Rattle.stored.specs.Stored.{bytes16, bytes64, number64}

-- a length in its two bytes from `at` on
abbrev pub put16 : List ℕ → ℕ → ℕ → List ℕ
put16 b at n = over b at (bytes16 n)

-- the count in its eight bytes
abbrev pub put_count : List ℕ → ℕ → List ℕ
put_count b n = over b 156 (bytes64 n)

-- the session identifier: H as it stands in the bytes, and its length
abbrev pub put_id : List ℕ → ℕ → List ℕ
put_id b len = put16 (over b 164 (take h_size (drop 90 b))) 154 len

-- one more exchange completed: the count, and with the first the identifier, by the digest of the method that stands in the bytes
abbrev pub put_more : List ℕ → List ℕ
put_more b = put_count (cond (eqb (number64 b 156) 0) (put_id b (row_of (get_or b 4 0)).digest_len) b) (number64 b 156 + 1)

-- the five single bytes
abbrev pub put_marks : List ℕ → ℕ → ℕ → ℕ → ℕ → List ℕ
put_marks b stage fail role m = over b 0 (exchange_mark ∷ stage ∷ fail ∷ role ∷ m ∷ [])

-- all that stands ahead of the length of K_S
abbrev pub put_head : List ℕ → ℕ → ℕ → ℕ → ℕ → ℕ → ℕ → ℕ → ℕ → List ℕ
put_head b stage fail role m vc vs ic is = put16 (put16 (put16 (put16 (put_marks b stage fail role m) 5 vc) 7 vs) 9 ic) 11 is
