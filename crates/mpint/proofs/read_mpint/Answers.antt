-- `mpint::read_mpint` meets its contract. Assumes nothing.
use borrow.Author.Rules.{rules, sfits_of}
use mathlib.Core.Path.{◌≡◌, refl, sym, ap, ◌∙◌}
use mathlib.Core.List.{List}
use mathlib.Core.Bool.{true}
use Prim.Native.Nat.{ℕ}
use lib.ListN.{length}
use native.Mathlib.Omega.{arith}
use mir.Facts.{to_z-of_z}
use mir.Val.{to_z, of_z}
use mir.Syntax.{w8}
use Rattle.std.specs.Prelude.{Some}
use Rattle.wire.specs.Parts.{bytes_at, inside}
use Rattle.wire.specs.Strings.{StringRead, whole, read_string}
use Rattle.wire.specs.Told.{read_told}
use Rattle.wire.specs.declared.StringAndRest.{StringAndRest}
use Rattle.wire.proofs.PartLaws.{inside_fits}
use Rattle.wire.proofs.StringLaws.{read_zero, read_nonzero, read_within}
use Rattle.mpint.specs.Mpint.{excess, sign_of, body_of}
use Rattle.mpint.proofs.MpintLaws.{mpint_cut, mpint_long, mpint_found}
use Rattle.mpint.proofs.read_mpint.Goals as goal

-- a string was read, and the part that was taken is its body
module _ (s : List ℕ) (r : StringAndRest) (e : read_told (Some r) ≡ read_string s) where
  is_whole : whole s ≡ true
  is_whole = read_zero s _ e refl

  body_bytes : (b : List ℕ) → b ≡ bytes_at s (inside (length s) r.body) → b ≡ body_of s
  body_bytes b q =
      q
      ∙ ap (λ (x : StringRead). bytes_at s (inside (length s) x.body)) e
      ∙ ap (bytes_at s) (inside_fits (length s) (read_string s).body (read_within s).0)

pub returns-in_err-body : goal.returns-in_err-body
returns-in_err-body c =
    let s = c.args.s.now in
    let w = mpint_cut s (read_nonzero s _ (ap read_told (sym c.in_err-body.ensures.ok_part) ∙ c.read_string.ensures) (λ z. omega arith)) in
    search (rules, w)

pub returns-then-has_excess : goal.returns-then-has_excess
returns-then-has_excess c =
    let s = c.args.s.now in
    let e = ap read_told (sym c.in_ok-body.ensures.ok_part) ∙ c.read_string.ensures in
    let b = body_bytes s _ e _ c.part_of-bytes.ensures.0 in
    mpint_long s (is_whole s _ e) (ap excess (sym b) ∙ sym c.if-has_excess.ensures)

pub returns : goal.returns
returns c =
    let s = c.args.s.now in
    let e = ap read_told (sym c.in_ok-body.ensures.ok_part) ∙ c.read_string.ensures in
    let b = body_bytes s _ e _ c.part_of-bytes.ensures.0 in
    let z = to_z-of_z {w = w8} {z = c.sign_of.result} (sfits_of {w = w8} c.sign_of.type_inv) in
    let g : to_z w8 (of_z w8 c.sign_of.result) ≡ sign_of (body_of s) = z ∙ c.sign_of.ensures ∙ ap sign_of b in
    (λ i. record { number = 0; sign = g i; body = (e i).body; rest = (e i).rest })
    ∙ mpint_found s (is_whole s _ e) (ap excess (sym b) ∙ sym c.if-has_excess.ensures)
