-- SPECIFICATION 14, worked examples: 14.1 to 14.12, a line of one table each (14.3 has two). An example that leaves bytes open holds for every
-- blanks of them. Assumes nothing.
use Rattle.std.specs.Prelude.{ℕ, ◌+◌, ◌-◌, ◌≤◌, ◌≡◌, List, [], ◌∷◌, ◌++◌, length, take, drop, negsuc}
use Rattle.limits.specs.Limits.{payload_most, client}
use Rattle.buffers.specs.Bytes.{Bytes, zeros}
use Rattle.wire.specs.Strings.{string, strings}
use Rattle.messages.specs.Position.{position}
use Rattle.messages.specs.Messages.{reply_layout}
use Rattle.mpint.specs.Mpint.{mpint, read_mpint}
use Rattle.mpint.specs.Value.{value}
use Rattle.methods.specs.Ascii.{ascii}
use Rattle.exchange.specs.Causes.{reply_cause, secret_cause, k_of}
use Rattle.exchange.specs.declared.Classical.TheVariants.{Given}
use Rattle.exchange.specs.declared.Kem.TheVariants.{Absent, Done}

-- what an example is about: bytes; a body's length and how it begins; a refusal's number; and with a position
pub data Result : Type 0 where
  bytes : List ℕ → Result
  body : ℕ → List ℕ → Result
  refused : ℕ → Result
  broken : (number position : ℕ) → Result

-- a line of the table: what the definitions say, and what the specification says
pub record Example : Type 0 where
  pub found : Result
  pub stated : Result

-- what the examples leave open: K_PQ in 14.3; the other bytes of X, 31 in 14.4 and 14.5 and 30 in 14.6 and 14.7; the two's complement bytes
-- that stand for -128 and for -129; in 14.12 the method, K_S, S and what is left of the third length
pub record Blanks : Type 0 where
  pub b : ℕ
  pub r : List ℕ
  pub r_length : length r ≡ 30
  pub low : List ℕ
  pub low_bytes : Bytes low
  pub low_value : value low ≡ negsuc 127
  pub lower : List ℕ
  pub lower_bytes : Bytes lower
  pub lower_value : value lower ≡ negsuc 128
  pub k_pq : List ℕ
  pub k_pq_length : length k_pq ≡ 32
  pub method : ℕ
  pub ks : List ℕ
  pub s : List ℕ
  pub cut : List ℕ
  pub cut_length : length cut ≤ 3
  pub reply_length : length ((31 ∷ []) ++ (strings (ks ∷ s ∷ []) ++ cut)) ≤ payload_most

-- K from X in a method of numbers
abbrev pub k_in : ℕ → List ℕ → List ℕ
k_in method x = k_of method x []

-- the length of a string's body, and its first n bytes
abbrev pub body_is : ℕ → List ℕ → Result
body_is n k = body (length k - 4) (take n (drop 4 k))

-- a REPLY as it is judged
abbrev pub judged_reply : ℕ → List ℕ → Result
judged_reply method p = broken (reply_cause method p) (position (reply_cause method p) reply_layout p)

abbrev pub examples : Blanks → List Example
examples o =
    -- 14.1: X of 32 bytes, all zero but a last 1
    record { found = bytes (k_in 4 (zeros 31 ++ 1 ∷ [])); stated = bytes (0 ∷ 0 ∷ 0 ∷ 1 ∷ 1 ∷ []) }
    -- 14.2: X of 32 zero bytes
    ∷ record { found = bytes (k_in 4 (zeros 32)); stated = bytes (0 ∷ 0 ∷ 0 ∷ 0 ∷ []) }
    -- 14.3: X of 32 zero bytes, methods 1 and 9
    ∷ record { found = refused (secret_cause client 1 (Given 32) (zeros 32) Absent [] [] []); stated = refused 16 }
    ∷ record { found = refused (secret_cause client 9 (Given 32) (zeros 32) Done o.k_pq [] []); stated = refused 16 }
    -- 14.4: first byte 7f
    ∷ record { found = body_is 1 (k_in 4 (0x7f ∷ o.b ∷ o.r)); stated = body 32 (0x7f ∷ []) }
    -- 14.5: first byte 80
    ∷ record { found = body_is 2 (k_in 4 (0x80 ∷ o.b ∷ o.r)); stated = body 33 (0x00 ∷ 0x80 ∷ []) }
    -- 14.6: first bytes 00 7f
    ∷ record { found = body_is 1 (k_in 4 (0x00 ∷ 0x7f ∷ o.r)); stated = body 31 (0x7f ∷ []) }
    -- 14.7: first bytes 00 80
    ∷ record { found = body_is 2 (k_in 4 (0x00 ∷ 0x80 ∷ o.r)); stated = body 32 (0x00 ∷ 0x80 ∷ []) }
    -- 14.8: the mpint -128
    ∷ record { found = bytes (mpint o.low); stated = bytes (0 ∷ 0 ∷ 0 ∷ 1 ∷ 0x80 ∷ []) }
    -- 14.9: the mpint -129
    ∷ record { found = bytes (mpint o.lower); stated = bytes (0 ∷ 0 ∷ 0 ∷ 2 ∷ 0xff ∷ 0x7f ∷ []) }
    -- 14.10: an mpint with the body 00 7f
    ∷ record { found = refused (read_mpint (0 ∷ 0 ∷ 0 ∷ 2 ∷ 0x00 ∷ 0x7f ∷ [])).number; stated = refused 22 }
    -- 14.11: the string "ab"
    ∷ record { found = bytes (string (ascii "ab")); stated = bytes (0 ∷ 0 ∷ 0 ∷ 2 ∷ 0x61 ∷ 0x62 ∷ []) }
    -- 14.12: a REPLY cut in its third length
    ∷ record { found = judged_reply o.method ((31 ∷ []) ++ (strings (o.ks ∷ o.s ∷ []) ++ o.cut)); stated = broken 12 (1 + (4 + length o.ks) + (4 + length o.s)) }
    ∷ []
