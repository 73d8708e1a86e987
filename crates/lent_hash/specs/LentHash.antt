-- A hash in the bytes that a host lends for it, and what the calls on them answer and leave, by the definitions of those by value. Assumes
-- nothing.
use Rattle.std.specs.Prelude.{ℕ, ◌≡◌, List, [], ◌∷◌, ◌++◌, cond, length, get_or, take, drop, eqb}
use Rattle.limits.specs.Limits.{h_size, hash_size}
use Rattle.buffers.specs.Bytes.{zeros}
use Rattle.sha_words.specs.Blocks.{word_at}
use Rattle.sha_words.specs.Message.{bytes_of}
use Rattle.sha_2.specs.Hash.{started, fed, finished}
use Rattle.sha_2.specs.declared.Hash.{Hash}

-- ---- the bytes: the kind, both counts in eight bytes each, the hash value, what waits

unfoldable pub state_bytes : Hash → List ℕ
state_bytes s = (s.kind ∷ []) ++ bytes_of 8 s.total ++ bytes_of 8 s.held ++ s.value ++ s.tail

unfoldable pub state_in : List ℕ → Hash
state_in b = record { kind = get_or b 0 0; total = word_at b 1 8; held = word_at b 9 8; value = take h_size (drop 17 b); tail = drop 81 b }

-- ---- the calls: on as many bytes as a hash has; on others 4, and they stay

abbrev pub by_hash_size {ℓ} : {A : Type ℓ} → List ℕ → A → A → A
by_hash_size b sized others = cond (eqb (length b) hash_size) sized others

-- the number, and the bytes as they are left: a hash's state, or a digest
pub record HashLeft : Type 0 where
  pub number : ℕ
  pub bytes : List ℕ

abbrev pub hash_left : ℕ → List ℕ → HashLeft
hash_left n b = record { number = n; bytes = b }

unfoldable pub hash_start_left : List ℕ → ℕ → HashLeft
hash_start_left b kind = by_hash_size b (hash_left (started kind).number (state_bytes (started kind).hash)) (hash_left 4 b)

-- a refused part leaves every byte
unfoldable pub hash_feed_left : List ℕ → List ℕ → HashLeft
hash_feed_left b part =
    by_hash_size b
    (hash_left (fed (state_in b) part).number (cond (eqb (fed (state_in b) part).number 0) (state_bytes (fed (state_in b) part).hash) b))
    (hash_left 4 b)

-- the digest, or zeros
unfoldable pub hash_finish_left : List ℕ → HashLeft
hash_finish_left b = by_hash_size b (hash_left (finished (state_in b)).number (finished (state_in b)).bytes) (hash_left 4 (zeros h_size))

-- the bytes that a list of parts leaves, fed one after the other
abbrev pub hash_feed_all_left : List ℕ → List (List ℕ) → List ℕ
hash_feed_all_left b [] = b
hash_feed_all_left b (part ∷ parts) = hash_feed_all_left (hash_feed_left b part).bytes parts

-- each of them is answered 0
abbrev pub HashAllTaken : List ℕ → List (List ℕ) → Type 0
HashAllTaken b [] = Unit {0}
HashAllTaken b (part ∷ parts) = ((hash_feed_left b part).number ≡ 0) × HashAllTaken (hash_feed_left b part).bytes parts
