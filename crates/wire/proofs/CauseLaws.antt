-- Laws of `specs/Causes.antt`: a cause that holds is the answer, one that does not leaves it to the rest. Assumes nothing.
use Prim.Native.Nat.{ℕ, zero, suc, ◌<◌}
use mathlib.Core.Path.{◌≡◌, refl, sym, ◌∙◌}
use mathlib.Core.Bool.{Bool, true, false}
use native.Mathlib.Omega.{arith}
use lib.Dec.{eqb-suc-zero}
use borrow.Author.Tests.{ne_eqb}
use Rattle.wire.specs.Causes.{cause_if, cause_unless, or_else}

pub if_holds : (t : Bool) (n rest : ℕ) → t ≡ true → cause_if t n rest ≡ n
unfolding cause_if
if_holds t n rest e = rw e

pub if_fails : (t : Bool) (n rest : ℕ) → t ≡ false → cause_if t n rest ≡ rest
unfolding cause_if
if_fails t n rest e = rw e

pub unless_holds : (t : Bool) (n rest : ℕ) → t ≡ true → cause_unless t n rest ≡ rest
unfolding cause_unless
unless_holds t n rest e = rw e

pub unless_fails : (t : Bool) (n rest : ℕ) → t ≡ false → cause_unless t n rest ≡ n
unfolding cause_unless
unless_fails t n rest e = rw e

-- no cause at all: each test failed, or held, and the rest has none
pub if_none : (t : Bool) (n rest : ℕ) → 0 < n → cause_if t n rest ≡ 0 → (t ≡ false) × (rest ≡ 0)
unfolding cause_if
if_none true n rest h e = let w : ⊥ = omega arith in absurd w
if_none false n rest h e = (refl, e)

pub unless_none : (t : Bool) (n rest : ℕ) → 0 < n → cause_unless t n rest ≡ 0 → (t ≡ true) × (rest ≡ 0)
unfolding cause_unless
unless_none true n rest h e = (refl, e)
unless_none false n rest h e = let w : ⊥ = omega arith in absurd w

pub or_else_first : (a b : ℕ) → (a ≡ 0 → ⊥) → or_else a b ≡ a
unfolding or_else
or_else_first a b h = rw (ne_eqb a 0 h)

pub or_else_second : (a b : ℕ) → a ≡ 0 → or_else a b ≡ b
unfolding or_else
or_else_second a b h = rw h

pub or_else_none : (a b : ℕ) → or_else a b ≡ 0 → (a ≡ 0) × (b ≡ 0)
unfolding or_else
or_else_none zero b e = (refl, e)
or_else_none (suc a) b e = let z : suc a ≡ 0 = sym (rw (eqb-suc-zero a)) ∙ e in let w : ⊥ = omega arith in absurd w
