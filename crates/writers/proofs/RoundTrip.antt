-- Demand 2 for the string, over the writer's own cause and output. Assumes nothing.
use Prim.Native.Nat.{ℕ, ◌+◌, ◌≤◌}
use mathlib.Core.Path.{◌≡◌, refl, sym, ap, ◌∙◌}
use mathlib.Core.List.{List, [], ◌++◌, append-nil}
use native.Mathlib.Omega.{arith}
use lib.ListN.{length}
use lib.Dec.{ltb}
use borrow.Author.Tests.{ltb-false}
use Rattle.limits.specs.Limits.{string_most}
use Rattle.buffers.specs.Bytes.{Bytes}
use Rattle.wire.specs.Parts.{bytes_at}
use Rattle.wire.specs.Strings.{string, read_string}
use Rattle.wire.specs.Strings.{StringRead}
use Rattle.wire.proofs.CauseLaws.{if_none}
use Rattle.wire.proofs.StringLaws.{read_zero}
use Rattle.wire.proofs.RoundTrip.{string_complete, body_string, length_body, string_sound}
use Rattle.writers.specs.Writers.{wrote, front, string_cause}
use Rattle.writers.proofs.WriterLaws.{writer_front, string_fits}

-- a body that is written is short enough for its length bytes
pub written_most : (size : ℕ) (b : List ℕ) → string_cause size b ≡ 0 → length b ≤ string_most
unfolding string_cause
written_most size b z = ltb-false string_most (length b) (if_none (ltb string_most (length b)) 4 _ (omega arith) z).0

-- what the writer takes and writes is read back: 0, and the same body
pub string_back : (b out : List ℕ) → string_cause (length out) b ≡ 0
    → ((read_string (front (string_cause (length out) b) (string b) out)).number ≡ 0) × (bytes_at (front (string_cause (length out) b) (string b) out) (read_string (front (string_cause (length out) b) (string b) out)).body ≡ b)
string_back b out z =
    let h = written_most (length out) b z in
    let e : front (string_cause (length out) b) (string b) out ≡ string b ++ [] = writer_front (string_cause (length out) b) (string b) out z ∙ sym (append-nil (string b)) in (
      ap (λ (s : List ℕ). (read_string s).number) e ∙ ap (λ (r : StringRead). r.number) (string_complete b [] h),
      ap (λ (s : List ℕ). bytes_at s (read_string s).body) e ∙ body_string b [] h,
    )

-- a body that was read is short enough to be written
pub body_most : (s : List ℕ) → Bytes s → (read_string s).number ≡ 0 → length (bytes_at s (read_string s).body) ≤ string_most
body_most s y z =
    let n = length_body s (read_zero s (read_string s) refl z) in
    omega (arith, y 0, y 1, y 2, y 3)

-- what was read with 0 the writer takes again, into any output that is as long: the bytes are those that were read
pub string_again : (s out : List ℕ) → Bytes s → (read_string s).number ≡ 0 → 4 + length (bytes_at s (read_string s).body) ≤ length out
    → ((wrote (string_cause (length out) (bytes_at s (read_string s).body)) (string (bytes_at s (read_string s).body))).number ≡ 0)
    × (front (string_cause (length out) (bytes_at s (read_string s).body)) (string (bytes_at s (read_string s).body)) out ++ bytes_at s (read_string s).rest ≡ s)
unfolding wrote
string_again s out y z h =
    let c = string_fits (length out) (bytes_at s (read_string s).body) (body_most s y z) h in
    (c, ap (λ (x : List ℕ). x ++ bytes_at s (read_string s).rest) (writer_front (string_cause (length out) (bytes_at s (read_string s).body)) (string (bytes_at s (read_string s).body)) out c) ∙ sym (string_sound s y z))
