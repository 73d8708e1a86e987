-- INIT and REPLY (RFC 5656, section 4; RFC 8731): their bytes, and their fields as they are read. Stricter than the RFC, as SPECIFICATION
-- 6 says: 32,768 bytes at most. Assumes nothing.
use Rattle.std.specs.Prelude.{ℕ, List, [], ◌∷◌, ◌++◌}
use Rattle.limits.specs.Limits.{payload_most}
use Rattle.wire.specs.Parts.{bytes_at}
use Rattle.wire.specs.Strings.{strings, string_part}
use Rattle.wire.specs.declared.Part.{Part}
use Rattle.messages.specs.declared.Layout.{Layout}

-- INIT is byte 30, string C
unfoldable pub init_bytes : List ℕ → List ℕ
init_bytes c = (30 ∷ []) ++ strings (c ∷ [])

-- REPLY is byte 31, strings K_S, S, signature
unfoldable pub reply_bytes : List ℕ → List ℕ → List ℕ → List ℕ
reply_bytes ks s signature = (31 ∷ []) ++ strings (ks ∷ s ∷ signature ∷ [])

-- both as layouts: a byte, strings, nothing behind them
abbrev pub init_layout : Layout
init_layout = record { most = payload_most; byte = 30; first = 1; count = 1; behind = 0; boolean = 0 }

abbrev pub reply_layout : Layout
reply_layout = record { most = payload_most; byte = 31; first = 1; count = 3; behind = 0; boolean = 0 }

-- the place of field i of either, counted from 0, and its body
abbrev pub field_part : List ℕ → ℕ → Part
field_part p i = string_part p 1 i

abbrev pub field_of : List ℕ → ℕ → List ℕ
field_of p i = bytes_at p (field_part p i)
