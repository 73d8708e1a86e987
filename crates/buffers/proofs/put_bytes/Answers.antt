-- `buffers::put_bytes` meets its contract. Assumes nothing.
use Prim.Native.Nat.{ℕ, suc, ◌+◌, ◌≤◌, ◌<◌}
use mathlib.Core.Path.{◌≡◌, refl, sym, ap, ◌∙◌}
use native.Mathlib.Omega.{arith}
use mathlib.Core.List.{List}
use lib.ListN.{length, get_or, set, length-set}
use lib.Seq.{paste, paste-zero, paste-suc, length-paste}
use Rattle.buffers.specs.Bytes.{eight}
use Rattle.buffers.proofs.ByteLaws.{laid_fits, laid_kept, over_paste, sixteen_paste}
use Rattle.buffers.proofs.put_bytes.Goals as goal

pub returns-then-out-at : goal.returns-then-out-at
returns-then-out-at c = let a = c.args in sym (laid_kept a.out.now a.at a.src.now (omega arith))

pub returns-then-out-at-2 : goal.returns-then-out-at-2
returns-then-out-at-2 c = let a = c.args in sym (laid_kept a.out.now a.at a.src.now (omega arith))

pub loop-i-init : goal.loop-i-init
loop-i-init c = let a = c.args in (omega arith, omega arith, paste-zero a.out.now a.at a.src.now, refl)

pub put_sixteen-requires : goal.put_sixteen-requires
put_sixteen-requires c = (omega arith, omega arith)

pub loop-i-preserved : goal.loop-i-preserved
loop-i-preserved c =
    let l = c.loop-i in
    let a = c.args in
    let d = a.out.now in
    let s = a.src.now in
    let h : a.at + (l.i + 16) ≤ length d = omega arith in
    let g : l.i + 16 ≤ length s = omega arith in
    let e : c.put_sixteen.new.out ≡ paste d a.at s (l.i + 16) =
    c.put_sixteen.ensures
    ∙ ap (λ (o : List ℕ). eight a.at s (l.i + 8) (eight a.at s l.i o)) l.invariant.2
    ∙ sixteen_paste d a.at s l.i h g in
    (g, l.invariant.1, e, ap length e ∙ length-paste d a.at s (l.i + 16) (omega arith) g)

pub loop-i-2-init : goal.loop-i-2-init
loop-i-2-init c =
    let v = c.loop-i.invariant in
    (v.0, omega arith, (λ d h e. e), refl)

pub loop-i-2-preserved : goal.loop-i-2-preserved
loop-i-2-preserved c =
    let l = c.loop-i-2 in
    let a = c.args in
    let s = a.src.now in
    let k : l.i < length s = omega arith in (
      omega arith,
      l.invariant.1,
      (λ d h e.
          let b : a.at + l.i < length d = omega arith in
          let n : suc l.i ≡ l.i + 1 = omega arith in
          ap (λ (o : List ℕ). set o (a.at + l.i) (get_or s l.i 0)) (l.invariant.2 d h e) ∙ paste-suc d a.at s l.i 0 b k ∙ ap (paste d a.at s) n),
      simp length-set l.invariant.3,
    )

pub shape_of-out : goal.shape_of-out
shape_of-out c = c.loop-i-2.invariant.3 ∙ c.loop-i.invariant.3

pub returns : goal.returns
returns c =
    let l = c.loop-i-2 in
    let v = c.loop-i.invariant in
    let a = c.args in
    let d = a.out.now in
    let s = a.src.now in
    let e : l.i ≡ length s = omega arith in
    l.invariant.2 d v.1 v.2 ∙ ap (paste d a.at s) e ∙ over_paste d a.at s ∙ sym (laid_fits d a.at s v.1)
