-- `secret::k_from_x` meets its contract. Assumes nothing.
use Prim.Native.Nat.{ℕ}
use mathlib.Core.Path.{◌≡◌, sym, ap, ◌∙◌}
use mathlib.Core.List.{List, ◌∷◌}
use native.Mathlib.Omega.{arith}
use lib.ListN.{drop}
use Rattle.wire.specs.Strings.{string}
use Rattle.buffers.proofs.ByteLaws.{tail_part}
use Rattle.mpint.specs.Mpint.{shortest}
use Rattle.secret.specs.Secret.{kept}
use Rattle.secret.proofs.SecretLaws.{zeros_within, k_zero, k_low, k_high}
use Rattle.secret.proofs.k_from_x.Goals.{else-k-x-via-then-k-x+else-x-k-ge128, else-k-x-via-else-k-x}
use Rattle.secret.proofs.k_from_x.Goals as goal

pub returns-then-x-k-ge128 : goal.returns-then-x-k-ge128
returns-then-x-k-ge128 c =
    let x = c.args.x.now in
    let k = c.leading_zeros-k in
    c.keep.ensures ∙ ap (λ (b : List ℕ). kept (string b)) (ap (λ (y : List ℕ). 0 ∷ y) (tail_part x k.result) ∙ sym (k_high x k.result k.ensures c.if-k-x.true c.if-x-k-ge128.true))

pub slice_bounds-keep-count-2 : goal.slice_bounds-keep-count-2
slice_bounds-keep-count-2 c =
    let h = zeros_within c.args.x.now in omega (arith, c.leading_zeros-k.ensures)

pub slice_bounds-keep-start-2 : goal.slice_bounds-keep-start-2
slice_bounds-keep-start-2 c =
    let h = zeros_within c.args.x.now in omega (arith, c.leading_zeros-k.ensures)

pub returns : goal.returns
returns c =
    let x = c.args.x.now in
    let k = c.leading_zeros-k in
    let h = zeros_within x in
    let body : shortest (0 ∷ x) ≡ drop k.result x =
    elim c.else-k-x.branch [
      | else-k-x-via-then-k-x+else-x-k-ge128 w ↦ k_low x k.result k.ensures w.if-k-x.true w.if-x-k-ge128.false
      | else-k-x-via-else-k-x w ↦ k_zero x k.result k.ensures (omega (arith, k.ensures, w.if-k-x.false))
    ] in
    c.keep-2.ensures ∙ ap (λ (b : List ℕ). kept (string b)) (tail_part x k.result ∙ sym body)
