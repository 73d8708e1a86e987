-- Demand 2 for the mpint: what is written is read back as the same integer, and what was read is written again as the same
-- bytes. Assumes nothing.
use Prim.Native.Nat.{ℕ, ◌+◌, ◌≤◌}
use mathlib.Core.Path.{◌≡◌, sym, ap, ◌∙◌}
use mathlib.Core.List.{List, [], ◌++◌, append-nil}
use native.Mathlib.Omega.{arith}
use lib.ListN.{length}
use Rattle.limits.specs.Limits.{string_most}
use Rattle.buffers.specs.Bytes.{Bytes}
use Rattle.wire.specs.Parts.{part, bytes_at}
use Rattle.wire.specs.Strings.{string, read_string}
use Rattle.wire.specs.Strings.{StringRead}
use Rattle.wire.proofs.StringLaws.{read_found}
use Rattle.wire.proofs.RoundTrip.{whole_string, string_complete, body_string, string_sound}
use Rattle.writers.specs.Writers.{front, string_cause}
use Rattle.writers.proofs.WriterLaws.{writer_front, string_fits}
use Rattle.writers.proofs.RoundTrip.{written_most, body_most, string_again}
use Rattle.mpint.specs.Mpint.{excess, sign_of, shortest, mpint, body_of, read_mpint}
use Rattle.mpint.specs.Value.{value, sgn}
use Rattle.mpint.specs.Mpint.{MpintRead}
use Rattle.mpint.proofs.MpintLaws.{shortest_done, shortest_shortest, shortest_bytes, mpint_found, mpint_zero}
use Rattle.mpint.proofs.ValueLaws.{value_shortest, sgn_value}

-- two's complement bytes l, written, with anything after them
module _ (l t : List ℕ) (h : length (shortest l) ≤ string_most) where
  body_is : body_of (mpint l ++ t) ≡ shortest l
  body_is = body_string (shortest l) t h

  -- the reader accepts them: their sign, the shortest body, and what follows it
  pub mpint_complete : read_mpint (mpint l ++ t) ≡ record { number = 0; sign = sign_of (shortest l); body = part 4 (length (shortest l)); rest = part (4 + length (shortest l)) (length t) }
  mpint_complete =
      let e = body_is in
      let c = string_complete (shortest l) t h in
      sym (mpint_found (mpint l ++ t) (whole_string (shortest l) t h) (ap excess e ∙ shortest_shortest l))
      ∙ (λ i. record { number = 0; sign = sign_of (e i); body = (c i).body; rest = (c i).rest })

  -- and the integer that is read is the one that was written, with its sign
  pub value_mpint : value (bytes_at (mpint l ++ t) (read_mpint (mpint l ++ t)).body) ≡ value l
  value_mpint =
      let c = string_complete (shortest l) t h in
      ap (λ (r : MpintRead). value (bytes_at (mpint l ++ t) r.body)) mpint_complete
      ∙ ap (λ (r : StringRead). value (bytes_at (mpint l ++ t) r.body)) (sym c)
      ∙ ap value body_is
      ∙ value_shortest l

  pub sign_mpint : Bytes l → (read_mpint (mpint l ++ t)).sign ≡ sgn (value l)
  sign_mpint y =
      ap (λ (r : MpintRead). r.sign) mpint_complete
      ∙ sym (sgn_value (shortest l) (shortest_bytes l y) (shortest_shortest l))
      ∙ ap sgn (value_shortest l)

-- an input that the reader answers with 0 is the mpint of its body, and then its rest
pub mpint_sound : (s : List ℕ) → Bytes s → (read_mpint s).number ≡ 0
    → s ≡ mpint (bytes_at s (read_mpint s).body) ++ bytes_at s (read_mpint s).rest
mpint_sound s y z =
    let k = mpint_zero s z in
    let f = mpint_found s k.0 k.1 in
    string_sound s y (ap (λ (r : StringRead). r.number) (sym (read_found s k.0)))
    ∙ ap (λ (c : List ℕ). string c ++ bytes_at s (read_string s).rest) (sym (shortest_done (body_of s) k.1))
    ∙ ap (λ (r : MpintRead). mpint (bytes_at s r.body) ++ bytes_at s r.rest) f

-- ---- over the writer's own cause and output

-- what the writer takes and writes is read back: 0, and the same integer
pub mpint_back : (l out : List ℕ) → string_cause (length out) (shortest l) ≡ 0
    → ((read_mpint (front (string_cause (length out) (shortest l)) (mpint l) out)).number ≡ 0)
    × (value (bytes_at (front (string_cause (length out) (shortest l)) (mpint l) out) (read_mpint (front (string_cause (length out) (shortest l)) (mpint l) out)).body) ≡ value l)
mpint_back l out z =
    let h = written_most (length out) (shortest l) z in
    let e : front (string_cause (length out) (shortest l)) (mpint l) out ≡ mpint l ++ [] = writer_front (string_cause (length out) (shortest l)) (mpint l) out z ∙ sym (append-nil (mpint l)) in (
      ap (λ (s : List ℕ). (read_mpint s).number) e ∙ ap (λ (r : MpintRead). r.number) (mpint_complete l [] h),
      ap (λ (s : List ℕ). value (bytes_at s (read_mpint s).body)) e ∙ value_mpint l [] h,
    )

-- what was read with 0 the writer takes again, into any output that is as long: the bytes are those that were read
pub mpint_again : (s out : List ℕ) → Bytes s → (read_mpint s).number ≡ 0 → 4 + length (bytes_at s (read_mpint s).body) ≤ length out
    → (string_cause (length out) (shortest (bytes_at s (read_mpint s).body)) ≡ 0)
    × (front (string_cause (length out) (shortest (bytes_at s (read_mpint s).body))) (mpint (bytes_at s (read_mpint s).body)) out ++ bytes_at s (read_mpint s).rest ≡ s)
mpint_again s out y z h =
    let k = mpint_zero s z in
    let f = mpint_found s k.0 k.1 in
    let q : (read_string s).number ≡ 0 = ap (λ (r : StringRead). r.number) (sym (read_found s k.0)) in
    let b : bytes_at s (read_mpint s).body ≡ body_of s = sym (ap (λ (r : MpintRead). bytes_at s r.body) f) in
    let m : shortest (bytes_at s (read_mpint s).body) ≡ body_of s = ap shortest b ∙ shortest_done (body_of s) k.1 in
    let t : bytes_at s (read_mpint s).rest ≡ bytes_at s (read_string s).rest = sym (ap (λ (r : MpintRead). bytes_at s r.rest) f) in
    let g = string_again s out y q (omega (arith, h, ap length b)) in
    let c = string_fits (length out) (body_of s) (body_most s y q) (omega (arith, h, ap length b)) in
    (ap (string_cause (length out)) m ∙ c, (λ i. front (string_cause (length out) (m i)) (string (m i)) out ++ t i) ∙ g.1)
