-- FIPS 180-4, sections 5.1, 5.2 and 6: a message of whole bytes padded, parsed into blocks, and hashed; and a hash value as bytes.
-- Assumes nothing.
use Rattle.std.specs.Prelude.{ℕ, zero, suc, ◌+◌, ◌-◌, ◌*◌, ◌/◌, ◌%◌, ◌≡◌, List, [], ◌∷◌, ◌++◌, cond, length, take, drop, ltb}
use Rattle.limits.specs.Limits.{h_size}
use Rattle.buffers.specs.Bytes.{zeros}
use Rattle.sha_words.specs.Words.{Width}
use Rattle.sha_words.specs.Constants.{width_of, initial}
use Rattle.sha_words.specs.Blocks.{word_at, after}

-- ---- 3.1: numbers and words as bytes

-- the n bytes of v, the highest first
abbrev pub bytes_of : ℕ → ℕ → List ℕ
bytes_of zero v = []
bytes_of (suc n) v = bytes_of n (v / 256) ++ (v % 256 ∷ [])

-- words of n bytes each
abbrev pub word_bytes : ℕ → List ℕ → List ℕ
word_bytes n [] = []
word_bytes n (x ∷ ws) = bytes_of n x ++ word_bytes n ws

-- so many words of n bytes each, from `at` on
abbrev pub words_at : List ℕ → ℕ → ℕ → ℕ → List ℕ
words_at b at n zero = []
words_at b at n (suc k) = word_at b at n ∷ words_at b (at + n) n k

-- ---- 5.1: padding

-- k zero bits behind the bit 1 pad a message of l bits: l + 1 + k ≡ 448 mod 512, for words of 64 bits 896 mod 1024
abbrev pub Pads : Width → ℕ → ℕ → Type 0
Pads p l k = (l + 1 + k) % (8 * p.block) ≡ 8 * p.block - 2 * p.w

-- the fewest zero bytes after which n bytes, the byte that begins with the bit 1, and two words end with a block
unfoldable pub zero_bytes : Width → ℕ → ℕ
zero_bytes p n = (p.block - (n + 1 + 2 * p.bytes) % p.block) % p.block

-- the bit 1, the zeros, and the length in bits as two words, which hold it below 2 ^ 64 or 2 ^ 128
unfoldable pub padding : Width → ℕ → List ℕ
padding p n = (128 ∷ []) ++ zeros (zero_bytes p n) ++ bytes_of (2 * p.bytes) (8 * n)

abbrev pub padded : Width → List ℕ → List ℕ
padded p m = m ++ padding p (length m)

-- ---- 5.2: blocks

-- what of m stands behind its whole blocks
unfoldable pub behind : Width → List ℕ → List ℕ
behind p m = drop (length m - length m % p.block) m

-- ---- 6.2 to 6.5: the digest

-- of a message: the first bytes of its last hash value, as many as its kind says
unfoldable pub sha2 : ℕ → List ℕ → List ℕ
sha2 kind m = take kind (word_bytes (width_of kind).bytes (after (width_of kind) (initial kind) (padded (width_of kind) m)))

-- ---- in arrays

-- n bytes that begin with l; zeros follow
unfoldable pub sized : ℕ → List ℕ → List ℕ
sized n l = l ++ zeros (n - length l)

-- a hash value in 64 bytes
unfoldable pub value_of : Width → List ℕ → List ℕ
value_of p H = sized h_size (word_bytes p.bytes H)

-- the value after the whole blocks of m, from v on; less than a block leaves it as it is
unfoldable pub value_after : Width → List ℕ → List ℕ → List ℕ
value_after p v m = cond (ltb (length m) p.block) v (value_of p (after p (words_at v 0 p.bytes 8) m))
