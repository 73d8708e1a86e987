-- `secret::keep` meets its contract. Assumes nothing.
use Prim.Native.Nat.{ℕ, ◌+◌}
use mathlib.Core.Path.{ap, ◌∙◌}
use mathlib.Core.List.{List}
use native.Mathlib.Omega.{arith}
use Rattle.buffers.specs.Bytes.{laid}
use Rattle.secret.proofs.SecretLaws.{kept_no_digits, kept_digits}
use Rattle.secret.proofs.keep.Goals as goal

pub returns-then-n : goal.returns-then-n
returns-then-n c = let a = c.args in kept_no_digits a.pad a.digits.now c.if-n.true

pub returns : goal.returns
returns c =
    let a = c.args in
    kept_digits a.pad a.digits.now (omega arith) _
    (c.put_bytes.ensures ∙ ap (λ (l : List ℕ). laid l (4 + a.pad) a.digits.now) c.put_u32.ensures)
