-- The examples that NIST publishes for FIPS 180-4, by the definitions alone: a message of one block for each digest, and one of two blocks. By
-- computing a test, which fails at once where a definition is wrong. Assumes nothing.
use Prim.Native.Nat.{ℕ}
use mathlib.Core.Path.{◌≡◌, refl}
use mathlib.Core.List.{List, [], ◌∷◌}
use Rattle.buffers.proofs.ByteLaws.{same_sound}
use Rattle.sha_words.specs.Constants.{K256, K512, H256, H384, H512}
use Rattle.sha_words.specs.Blocks.{mixed, W, schedule, round, rounds_of, next, hash_after, after}
use Rattle.sha_words.specs.Message.{zero_bytes, padding, sha2}

-- "abc"
abbrev pub abc : List ℕ
abc = 97 ∷ 98 ∷ 99 ∷ []

pub sha256_abc : sha2 32 abc
    ≡ 186 ∷ 120 ∷ 22 ∷ 191 ∷ 143 ∷ 1 ∷ 207 ∷ 234 ∷ 65 ∷ 65 ∷ 64 ∷ 222 ∷ 93 ∷ 174 ∷ 34 ∷ 35
    ∷ 176 ∷ 3 ∷ 97 ∷ 163 ∷ 150 ∷ 23 ∷ 122 ∷ 156 ∷ 180 ∷ 16 ∷ 255 ∷ 97 ∷ 242 ∷ 0 ∷ 21 ∷ 173 ∷ []
unfolding sha2 after hash_after next rounds_of round schedule W mixed padding zero_bytes K256 H256
sha256_abc = same_sound (sha2 32 abc) _ refl

pub sha384_abc : sha2 48 abc
    ≡ 203 ∷ 0 ∷ 117 ∷ 63 ∷ 69 ∷ 163 ∷ 94 ∷ 139 ∷ 181 ∷ 160 ∷ 61 ∷ 105 ∷ 154 ∷ 198 ∷ 80 ∷ 7
    ∷ 39 ∷ 44 ∷ 50 ∷ 171 ∷ 14 ∷ 222 ∷ 209 ∷ 99 ∷ 26 ∷ 139 ∷ 96 ∷ 90 ∷ 67 ∷ 255 ∷ 91 ∷ 237
    ∷ 128 ∷ 134 ∷ 7 ∷ 43 ∷ 161 ∷ 231 ∷ 204 ∷ 35 ∷ 88 ∷ 186 ∷ 236 ∷ 161 ∷ 52 ∷ 200 ∷ 37 ∷ 167 ∷ []
unfolding sha2 after hash_after next rounds_of round schedule W mixed padding zero_bytes K512 H384
sha384_abc = same_sound (sha2 48 abc) _ refl

pub sha512_abc : sha2 64 abc
    ≡ 221 ∷ 175 ∷ 53 ∷ 161 ∷ 147 ∷ 97 ∷ 122 ∷ 186 ∷ 204 ∷ 65 ∷ 115 ∷ 73 ∷ 174 ∷ 32 ∷ 65 ∷ 49
    ∷ 18 ∷ 230 ∷ 250 ∷ 78 ∷ 137 ∷ 169 ∷ 126 ∷ 162 ∷ 10 ∷ 158 ∷ 238 ∷ 230 ∷ 75 ∷ 85 ∷ 211 ∷ 154
    ∷ 33 ∷ 146 ∷ 153 ∷ 42 ∷ 39 ∷ 79 ∷ 193 ∷ 168 ∷ 54 ∷ 186 ∷ 60 ∷ 35 ∷ 163 ∷ 254 ∷ 235 ∷ 189
    ∷ 69 ∷ 77 ∷ 68 ∷ 35 ∷ 100 ∷ 60 ∷ 232 ∷ 14 ∷ 42 ∷ 154 ∷ 201 ∷ 79 ∷ 165 ∷ 76 ∷ 164 ∷ 159 ∷ []
unfolding sha2 after hash_after next rounds_of round schedule W mixed padding zero_bytes K512 H512
sha512_abc = same_sound (sha2 64 abc) _ refl

-- "abcdbcdecdefdefgefghfghighijhijkijkljklmklmnlmnomnopnopq", of 448 bits
abbrev pub two_blocks : List ℕ
two_blocks =
    97 ∷ 98 ∷ 99 ∷ 100 ∷ 98 ∷ 99 ∷ 100 ∷ 101 ∷ 99 ∷ 100 ∷ 101 ∷ 102 ∷ 100 ∷ 101 ∷ 102 ∷ 103
    ∷ 101 ∷ 102 ∷ 103 ∷ 104 ∷ 102 ∷ 103 ∷ 104 ∷ 105 ∷ 103 ∷ 104 ∷ 105 ∷ 106 ∷ 104 ∷ 105 ∷ 106 ∷ 107
    ∷ 105 ∷ 106 ∷ 107 ∷ 108 ∷ 106 ∷ 107 ∷ 108 ∷ 109 ∷ 107 ∷ 108 ∷ 109 ∷ 110 ∷ 108 ∷ 109 ∷ 110 ∷ 111
    ∷ 109 ∷ 110 ∷ 111 ∷ 112 ∷ 110 ∷ 111 ∷ 112 ∷ 113 ∷ []

pub sha256_two_blocks : sha2 32 two_blocks
    ≡ 36 ∷ 141 ∷ 106 ∷ 97 ∷ 210 ∷ 6 ∷ 56 ∷ 184 ∷ 229 ∷ 192 ∷ 38 ∷ 147 ∷ 12 ∷ 62 ∷ 96 ∷ 57
    ∷ 163 ∷ 60 ∷ 228 ∷ 89 ∷ 100 ∷ 255 ∷ 33 ∷ 103 ∷ 246 ∷ 236 ∷ 237 ∷ 212 ∷ 25 ∷ 219 ∷ 6 ∷ 193 ∷ []
unfolding sha2 after hash_after next rounds_of round schedule W mixed padding zero_bytes K256 H256
sha256_two_blocks = same_sound (sha2 32 two_blocks) _ refl
