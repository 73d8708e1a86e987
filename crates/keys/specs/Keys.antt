-- RFC 4253, section 7.2: a key, by K, H, a letter and the session identifier. K stands as in the hash input, its four length bytes included; HASH is named
-- by its digest's length. Assumes nothing.
use Rattle.std.specs.Prelude.{ℕ, zero, suc, ◌-◌, ◌/◌, List, [], ◌∷◌, ◌++◌, take}
use Rattle.sha_words.specs.Message.{sha2}

-- K1 = HASH(K || H || X || session_id), where the RFC's X is the letter, one byte
unfoldable pub key_first : ℕ → List ℕ → List ℕ → ℕ → List ℕ → List ℕ
key_first kind k h letter id = sha2 kind (k ++ h ++ (letter ∷ []) ++ id)

-- K2 = HASH(K || H || K1), K3 = HASH(K || H || K1 || K2), ..: by the key so far
unfoldable pub key_next : ℕ → List ℕ → List ℕ → List ℕ → List ℕ
key_next kind k h so_far = sha2 kind (k ++ h ++ so_far)

-- K1 || K2 || ..: K1, lengthened so many times
abbrev pub key_blocks : ℕ → List ℕ → List ℕ → ℕ → List ℕ → ℕ → List ℕ
key_blocks kind k h letter id zero = key_first kind k h letter id
key_blocks kind k h letter id (suc n) = key_blocks kind k h letter id n ++ key_next kind k h (key_blocks kind k h letter id n)

-- the key: lengthened as few times as give so many bytes (KeyLaws: key_enough, key_least), and of that the beginning
unfoldable pub key_of : ℕ → List ℕ → List ℕ → ℕ → List ℕ → ℕ → List ℕ
key_of kind k h letter id len = take len (key_blocks kind k h letter id ((len - 1) / kind))
