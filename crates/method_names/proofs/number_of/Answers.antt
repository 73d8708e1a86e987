-- `method_names::number_of` meets its contract. Assumes nothing.
use Prim.Native.Nat.{ℕ, ◌+◌, ◌-◌}
use mathlib.Core.Path.{◌≡◌, refl, sym, ap, ◌∙◌}
use mathlib.Core.List.{List}
use mathlib.Core.Bool.{Bool, false, cond}
use native.Mathlib.Omega.{arith}
use lib.ListN.{length, drop}
use Rattle.buffers.specs.Bytes.{same}
use Rattle.buffers.proofs.ByteLaws.{same_lengths}
use Rattle.method_names.proofs.NameLaws.{name_size}
use Rattle.method_names.proofs.number_of.Goals.{else-name-name_len-via-then-name-name_len+else-is_name, else-name-name_len-via-else-name-name_len}
use Rattle.methods.specs.Rows.{rows, row_of, name_of, named, number_of}
use Rattle.methods.proofs.MethodLaws.{named_at, named_end}
use Rattle.method_names.proofs.number_of.Goals as goal

pub loop-number-init : goal.loop-number-init
unfolding number_of
loop-number-init c = refl

pub returns-then-is_name : goal.returns-then-is_name
returns-then-is_name c =
    let name = c.args.name.now in
    let n = c.loop-number.number in
    sym (sym c.loop-number.invariant ∙ named_at name n c.loop-number.auto.number c.loop-number-test.true ∙ ap (λ (t : Bool). cond t n (named name (drop (n + 1 - 1) rows))) (sym c.is_name.ensures ∙ c.if-is_name.true))

-- of another length it is another name
missed : (name : List ℕ) (n : ℕ) → (length name ≡ (row_of n).name_len → ⊥) → same name (name_of (row_of n)) ≡ false
missed name n h = same_lengths name (name_of (row_of n)) (λ e. h (e ∙ name_size n))

pub loop-number-preserved : goal.loop-number-preserved
loop-number-preserved c =
    let name = c.args.name.now in
    let n = c.loop-number.number in
    let f : same name (name_of (row_of n)) ≡ false =
    elim c.else-name-name_len.branch [
      | else-name-name_len-via-then-name-name_len+else-is_name w ↦ sym w.is_name.ensures ∙ w.if-is_name.false
      | else-name-name_len-via-else-name-name_len w ↦ missed name n (λ e. w.if-name-name_len.false (e ∙ sym c.name_len.ensures))
    ] in
    sym (named_at name n c.loop-number.auto.number c.loop-number-test.true ∙ ap (λ (t : Bool). cond t n (named name (drop (n + 1 - 1) rows))) f) ∙ c.loop-number.invariant

pub returns : goal.returns
returns c = named_end c.args.name.now c.loop-number.number (omega arith) ∙ c.loop-number.invariant
