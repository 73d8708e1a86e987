-- KEXINIT (RFC 4253, section 7.1) as a record and as bytes, and why it is not written. Stricter than the RFC, as SPECIFICATION 4.1.3 says: 4,096 bytes at most.
-- Assumes nothing.
use Rattle.std.specs.Prelude.{ℕ, List, [], ◌∷◌, ◌++◌, Bool, cond, ◌&&◌, length, ltb, leb, eqb}
use Rattle.limits.specs.Limits.{kexinit_most, cookie_size}
use Rattle.wire.specs.Causes.{cause_if, cause_unless}
use Rattle.wire.specs.Strings.{bytes32, strings}
use Rattle.limits.specs.Every.{every}
use Rattle.names.specs.Names.{good_list}

pub record Kexinit : Type 0 where
  pub cookie : List ℕ
  -- kex_algorithms, server_host_key_algorithms, then encryption, mac, compression and languages, each client to server first
  pub lists : List (List ℕ)
  pub follows : Bool
  pub reserved : ℕ

abbrev pub kexinit_of : List ℕ → List (List ℕ) → Bool → ℕ → Kexinit
kexinit_of cookie lists follows reserved = record { cookie = cookie; lists = lists; follows = follows; reserved = reserved }

-- its bytes
unfoldable pub kexinit : Kexinit → List ℕ
kexinit k =
    -- byte SSH_MSG_KEXINIT
    (20 ∷ [])
    -- byte[16] cookie
    ++ k.cookie
    -- name-list, ten times
    ++ strings k.lists
    -- boolean first_kex_packet_follows
    ++ (cond k.follows 1 0 ∷ [])
    -- uint32 reserved for future extension
    ++ bytes32 k.reserved

-- why it is not written to an output of `size` bytes
unfoldable pub write_cause : ℕ → Kexinit → ℕ
write_cause size k =
    cause_unless (eqb (length k.cookie) cookie_size && every good_list k.lists && leb (length (kexinit k)) kexinit_most) 4
    (cause_if (ltb size (length (kexinit k))) 5 0)
