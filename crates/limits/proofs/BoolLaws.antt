-- Laws of `and`. Assumes nothing.
use mathlib.Core.Path.{◌≡◌, refl, sym, ◌∙◌}
use mathlib.Core.Bool.{Bool, true, false, not, ◌&&◌, false≢true}
use borrow.Author.Tests.{not-true, not-false}

pub and_true : (a b : Bool) → a && b ≡ true → (a ≡ true) × (b ≡ true)
and_true true b e = (refl, e)
and_true false b e = absurd (false≢true e)

pub and_false : (t : Bool) → t && false ≡ false
and_false true = refl
and_false false = refl

pub both : {t u : Bool} → t ≡ true → u ≡ true → t && u ≡ true
both p q = λ i. p i && q i

-- what `if !f(..)` tells of f's definition
module _ {t s : Bool} (e : t ≡ s) where
  pub holds : not t ≡ false → s ≡ true
  holds h = sym e ∙ not-false t h

  pub fails : not t ≡ true → s ≡ false
  fails h = sym e ∙ not-true t h
