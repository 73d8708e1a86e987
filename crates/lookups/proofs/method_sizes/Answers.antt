-- `lookups::method_sizes` meets its contract. Assumes nothing.
use Prim.Native.Nat.{ℕ}
use mathlib.Core.Path.{ap, ◌∙◌}
use mathlib.Core.Bool.{Bool, cond}
use Rattle.methods.specs.Rows.{hybrid, row_of}
use Rattle.arguments.proofs.ArgumentLaws.{row_wide}
use Rattle.lookups.proofs.LookupLaws.{sizes_told, no_method, is_method}
use Rattle.lookups.proofs.method_sizes.Goals as goal

abbrev flag : Bool → ℕ
flag t = cond t 1 0

pub returns-then-x-eq0 : goal.returns-then-x-eq0
returns-then-x-eq0 c =
    let m = c.args.method in
    let e = ap row_of c.byte_of-m.ensures ∙ row_wide m in
    let h = c.told.ensures ∙ ap flag (c.is_hybrid.ensures ∙ ap hybrid c.k_form.ensures) in
    let z = c.told-2.ensures ∙ ap flag c.zero_check.ensures in
    (no_method m _ e _ c.x_len-x.ensures c.if-x-eq0.true, sizes_told m _ e _ _ _ _ _ _ c.c_shape-c.ensures c.s_shape-s.ensures c.x_len-x.ensures c.digest_len.ensures h z)

pub returns : goal.returns
returns c =
    let m = c.args.method in
    let e = ap row_of c.byte_of-m.ensures ∙ row_wide m in
    let h = c.told.ensures ∙ ap flag (c.is_hybrid.ensures ∙ ap hybrid c.k_form.ensures) in
    let z = c.told-2.ensures ∙ ap flag c.zero_check.ensures in
    (is_method m _ e _ c.x_len-x.ensures c.if-x-eq0.false, sizes_told m _ e _ _ _ _ _ _ c.c_shape-c.ensures c.s_shape-s.ensures c.x_len-x.ensures c.digest_len.ensures h z)
