-- A hash that is fed in parts: which states fit, and what starting, feeding and finishing answer (SPECIFICATION 8.2 to 8.5). Assumes nothing.
use Rattle.std.specs.Prelude.{ℕ, ◌+◌, ◌%◌, ◌≤◌, ◌<◌, ◌≡◌, List, [], ◌∷◌, ◌++◌, Bool, cond, ◌&&◌, length, take, leb, eqb, Result, Ok, Err}
use Rattle.limits.specs.Limits.{hash_most, block_most, h_size}
use Rattle.limits.specs.Refusals.{number_of}
use Rattle.limits.specs.declared.Refusal.{Refusal}
use Rattle.buffers.specs.Bytes.{zeros}
use Rattle.sha_words.specs.Constants.{known, width_of, initial}
use Rattle.sha_words.specs.Message.{padding, behind, sha2, sized, value_of, value_after}
use Rattle.sha_2.specs.declared.Hash.{Hash}

-- ---- what is answered

-- 0 and the hash started or fed; or 4, and a state that fits nothing or the hash as it was
pub record Fed : Type 0 where
  pub number : ℕ
  pub hash : Hash

-- 0 and the digest, zeros behind it; or 4 and zeros
pub record Digest : Type 0 where
  pub number : ℕ
  pub bytes : List ℕ

-- a hash that is answered; where that is refused, the one that stands
abbrev pub fed_of : Hash → Result Hash Refusal → Fed
fed_of stands (Ok h) = record { number = 0; hash = h }
fed_of stands (Err e) = record { number = number_of e; hash = stands }

abbrev pub digest_of : Result (List ℕ) Refusal → Digest
digest_of (Ok b) = record { number = 0; bytes = b }
digest_of (Err e) = record { number = number_of e; bytes = zeros h_size }

-- ---- start

-- the initial hash value of a kind, as bytes; zeros where there is none
unfoldable pub initial_value : ℕ → List ℕ
initial_value kind = cond (known kind) (value_of (width_of kind) (initial kind)) (zeros h_size)

-- a hash that was fed nothing
unfoldable pub fresh : ℕ → Hash
fresh kind = record { kind = kind; total = 0; held = 0; value = initial_value kind; tail = zeros block_most }

-- a state that fits nothing
abbrev pub blank : Hash
blank = fresh 0

unfoldable pub started : ℕ → Fed
started kind = cond (known kind) (record { number = 0; hash = fresh kind }) (record { number = 4; hash = blank })

-- ---- feed

-- the kind is one of three, no more was fed than may be, and as many bytes wait as the total leaves behind whole blocks
unfoldable pub fits : Hash → Bool
fits s = known s.kind && leb s.total hash_most && eqb s.held (s.total % (width_of s.kind).block)

-- the bytes that wait for a block, and then a part
abbrev pub waiting : Hash → List ℕ → List ℕ
waiting s part = take s.held s.tail ++ part

-- with a part taken in: whole blocks are hashed, and what is behind them waits, zeros behind it
unfoldable pub grown : Hash → List ℕ → Hash
grown s part = record {
  kind = s.kind;
  total = s.total + length part;
  held = length (behind (width_of s.kind) (waiting s part));
  value = value_after (width_of s.kind) s.value (waiting s part);
  tail = sized block_most (behind (width_of s.kind) (waiting s part));
}

-- an empty part changes nothing
abbrev pub taken : Hash → List ℕ → Hash
taken s [] = s
taken s (b ∷ part) = grown s (b ∷ part)

unfoldable pub fed : Hash → List ℕ → Fed
fed s part =
    cond (fits s && leb (s.total + length part) hash_most)
    (record { number = 0; hash = taken s part })
    (record { number = 4; hash = s })

-- ---- finish

-- the hash value of what was fed, padded
abbrev pub last_value : Hash → List ℕ
last_value s = value_after (width_of s.kind) s.value (waiting s (padding (width_of s.kind) s.total))

unfoldable pub finished : Hash → Digest
finished s =
    cond (fits s)
    (record { number = 0; bytes = sized h_size (take s.kind (last_value s)) })
    (record { number = 4; bytes = zeros h_size })

-- ---- a whole message

unfoldable pub digested : ℕ → List ℕ → Digest
digested kind m =
    cond (known kind && leb (length m) hash_most)
    (record { number = 0; bytes = sized h_size (sha2 kind m) })
    (record { number = 4; bytes = zeros h_size })

-- a list of parts, fed one after the other
abbrev pub fed_all : Hash → List (List ℕ) → Hash
fed_all s [] = s
fed_all s (part ∷ parts) = fed_all (fed s part).hash parts

-- each of them is answered 0
abbrev pub AllTaken : Hash → List (List ℕ) → Type 0
AllTaken s [] = Unit {0}
AllTaken s (part ∷ parts) = ((fed s part).number ≡ 0) × AllTaken (fed s part).hash parts

abbrev pub all_of : List (List ℕ) → List ℕ
all_of [] = []
all_of (part ∷ parts) = part ++ all_of parts

-- ---- what holds inside

-- a part is taken in: `before` waits, less than a block, and the sum fits
pub record Growing (s : Hash) (before part : List ℕ) : Type 0 where
  pub waits : before ≡ take s.held s.tail
  pub less : length before < (width_of s.kind).block
  pub sum : s.total + length part ≤ hash_most

-- a message of `total` bytes ends: `before` is behind its last whole block
pub record Ending (kind : ℕ) (before : List ℕ) (total : ℕ) : Type 0 where
  pub waits : length before ≡ total % (width_of kind).block
  pub most : total ≤ hash_most
