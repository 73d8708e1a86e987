-- The specification's sizes (docs/SPECIFICATION.md, 6) and the boundary's own, one table for every definition above. Assumes nothing.
use Rattle.std.specs.Prelude.{ℕ}

-- a version, V_C or V_S: at most so many bytes
abbrev pub version_most : ℕ
version_most = 253

-- a KEXINIT payload, and I_C and I_S in the hash input
abbrev pub kexinit_most : ℕ
kexinit_most = 4096

-- the payload of INIT or REPLY
abbrev pub payload_most : ℕ
payload_most = 32768

-- K_S, and a signature
abbrev pub blob_most : ℕ
blob_most = 2048

-- a name of a name-list
abbrev pub name_most : ℕ
name_most = 64

-- a string's body: what its four length bytes can say
abbrev pub string_most : ℕ
string_most = 4294967295

-- the cookie of a KEXINIT, and how many name-lists follow it
abbrev pub cookie_size : ℕ
cookie_size = 16

abbrev pub list_count : ℕ
list_count = 10

-- the K record, and the least output for K
abbrev pub k_size : ℕ
k_size = 71

-- what one hash may be fed in all; a block at its longest, and so what can wait for one; H, and a digest, zeros after it
abbrev pub hash_most : ℕ
hash_most = 65536

abbrev pub block_most : ℕ
block_most = 128

abbrev pub h_size : ℕ
h_size = 64

-- what a KEM gives, K_PQ
abbrev pub k_pq_size : ℕ
k_pq_size = 32

-- a hash as it is lent at the boundary: its kind, two counts of eight bytes, the hash value, what waits for a block
abbrev pub hash_size : ℕ
hash_size = 209

-- a length that an exchange records: what its two bytes can say
abbrev pub length_most : ℕ
length_most = 65535

-- a key, of 1 byte or more; its letter, from A to F
abbrev pub key_most : ℕ
key_most = 128

abbrev pub letter_first : ℕ
letter_first = 65

abbrev pub letter_last : ℕ
letter_last = 70

-- exchanges that one session completes
abbrev pub count_most : ℕ
count_most = 4294967295

-- an exchange as it is lent at the boundary: the mark of its layout, stage, fail number, role and method, seven lengths of two bytes, K, H; and what
-- lasts over the exchanges of a session: the identifier's length in two bytes, the count in eight, the identifier
abbrev pub exchange_size : ℕ
exchange_size = 228

-- the mark: another layout takes another
abbrev pub exchange_mark : ℕ
exchange_mark = 3

-- the boundary's own number, which the header repeats
abbrev pub library_version : ℕ
library_version = 6

-- the room, the specification's word for the buffer that is lent for the hash input: at least 32 + 506 + 8,192 + 2,048 + 3,330 + 48 bytes
abbrev pub room_least : ℕ
room_least = 14156

-- the least outputs for INIT and for REPLY
abbrev pub init_least : ℕ
init_least = 1670

abbrev pub reply_least : ℕ
reply_least = 5774

-- the methods are 1 to this
abbrev pub method_last : ℕ
method_last = 9

-- the two roles
abbrev pub client : ℕ
client = 1

abbrev pub server : ℕ
server = 2
