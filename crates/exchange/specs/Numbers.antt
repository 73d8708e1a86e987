-- The numbers given back (SPECIFICATION 2.2, 2.3): which of them are a peer's fault, and what kind of answer each is. Steps and book share these. Assumes nothing.
use Rattle.std.specs.Prelude.{ℕ, Bool, cond, eqb}
use Rattle.limits.specs.Range.{within}

-- a peer's fault: 10 to 18 in the table of numbers
abbrev pub is_fault : ℕ → Bool
is_fault n = within 10 18 n

-- what kind of answer a number is: any but 0 and a peer's fault changes nothing
pub data Kind : Type 0 where
  accepted refused fault : Kind

unfoldable pub kind : ℕ → Kind
kind n = cond (eqb n 0) accepted (cond (is_fault n) fault refused)

abbrev pub by_kind {ℓ} : {A : Type ℓ} → Kind → A → A → A → A
by_kind accepted a r f = a
by_kind refused a r f = r
by_kind fault a r f = f
