-- Bytes laid into a buffer from its beginning, one piece behind another. Assumes nothing.
use Rattle.std.proofs.Common.{◌≡◌, ℕ, ◌+◌, ◌≤◌, List, [], ◌∷◌, ◌++◌, length, set, refl, ap, ◌∙◌, arith, length-append}
use Rattle.buffers.specs.Bytes.{onto, over, laid}
use Rattle.buffers.proofs.ByteLaws.{over_zero, length_over, over_one, over_over, laid_fits}

-- l is out with x at its beginning, and x ends at `at`
pub record Begun (out : List ℕ) (at : ℕ) (x l : List ℕ) : Type 0 where
  pub bytes : l ≡ over out 0 x
  pub place : at ≡ length x

-- y is laid behind it
pub then_laid : (out x l : List ℕ) (at : ℕ) → Begun out at x l → (y o : List ℕ) (next : ℕ) → o ≡ laid l at y → next ≡ at + length y → next ≤ length out
    → Begun out next (x ++ y) o
then_laid out x l at b y o next e n h =
    let p = b.place in
    let f : 0 + length x ≤ length out = omega arith in
    let z : at ≡ 0 + length x = omega arith in
    let m : at + length y ≤ length (over out 0 x) = omega (arith, length_over out 0 x f) in
    record {
      bytes = e ∙ ap (λ (o : List ℕ). laid o at y) b.bytes ∙ laid_fits (over out 0 x) at y m ∙ ap (λ (k : ℕ). over (over out 0 x) k y) z ∙ over_over out 0 x y f;
      place = n ∙ omega (arith, length-append x y);
    }

pub begun_onto : (out x l : List ℕ) (at : ℕ) → Begun out at x l → l ≡ onto out x
begun_onto out x l at b = b.bytes ∙ over_zero out x

pub begun_store : (out : List ℕ) (a : ℕ) → 1 ≤ length out → Begun out 1 (a ∷ []) (set out 0 a)
begun_store out a h = record { bytes = over_one out 0 a (omega arith); place = refl }

pub begun_laid : (out y o : List ℕ) (next : ℕ) → o ≡ laid out 0 y → next ≡ length y → next ≤ length out → Begun out next y o
begun_laid out y o next e n h = record { bytes = e ∙ laid_fits out 0 y (omega arith); place = n }
