-- The shared secret K: its bytes in the hash input, and the K record (SPECIFICATION 5.3 to 5.5). Assumes nothing.
use Rattle.std.specs.Prelude.{ℕ, zero, suc, ◌-◌, ◌≡◌, List, [], ◌∷◌, ◌++◌, Option, Some, None, cond, length, pos, leb}
use Rattle.limits.specs.Limits.{k_size}
use Rattle.buffers.specs.Bytes.{zeros}
use Rattle.wire.specs.Parts.{bytes_at}
use Rattle.wire.specs.Strings.{string, read_string}
use Rattle.mpint.specs.Mpint.{mpint, read_mpint}
use Rattle.mpint.specs.Value.{value, unsigned}
use Rattle.methods.specs.declared.KForm.{KForm}
use Rattle.methods.specs.declared.KForm.TheVariants.{Mpint, Digest}
use Rattle.secret.specs.declared.Secret.{Secret as Held}

-- K's bytes, by the method's form: X read as an unsigned number, which is two's complement with a zero byte in front, as an mpint;
-- or the digest as a string
abbrev pub k_bytes : KForm → List ℕ → List ℕ → List ℕ
k_bytes Mpint x digest = mpint (0 ∷ x)
k_bytes Digest x digest = string digest

-- a list that begins with K, read: 0, and X's number or the digest
abbrev pub ReadsAs : KForm → List ℕ → List ℕ → List ℕ → Type 0
ReadsAs Mpint out x digest = ((read_mpint out).number ≡ 0) × (value (bytes_at out (read_mpint out).body) ≡ pos (unsigned x))
ReadsAs Digest out x digest = ((read_string out).number ≡ 0) × (bytes_at out (read_string out).body ≡ digest)

-- the K record with a number: 0 and K's length, or 4 where there is none
pub record Secret : Type 0 where
  pub number : ℕ
  pub len : ℕ
  pub bytes : List ℕ

-- an answer, told so
abbrev pub told_by : Option Held → Secret
told_by None = record { number = 4; len = 0; bytes = zeros k_size }
told_by (Some s) = record { number = 0; len = s.len; bytes = s.bytes }

-- the K record of K's bytes: filled from the start, zeros after their end; 4 and zeros where they do not fit it
unfoldable pub kept : List ℕ → Secret
kept k =
    cond (leb (length k) k_size)
    (record { number = 0; len = length k; bytes = k ++ zeros (k_size - length k) })
    (record { number = 4; len = 0; bytes = zeros k_size })

-- how many zeros stand in front
abbrev pub leading_zeros : List ℕ → ℕ
leading_zeros [] = 0
leading_zeros (zero ∷ r) = suc (leading_zeros r)
leading_zeros (suc a ∷ r) = 0
