-- A host's numbers as the values that the steps take. Assumes nothing.
use Rattle.std.specs.Prelude.{ℕ, Bool, cond, leb, eqb}
use Rattle.methods.specs.Rows.{row_of}
use Rattle.methods.specs.declared.KForm.{KForm}
use Rattle.methods.specs.declared.KForm.TheVariants.{Mpint, Digest}
use Rattle.exchange.specs.declared.Classical.{Classical}
use Rattle.exchange.specs.declared.Classical.TheVariants.{Failed as NoX, Given}
use Rattle.exchange.specs.declared.Kem.{Kem}
use Rattle.exchange.specs.declared.Kem.TheVariants.{Absent, Failed as NoKem, Done}

-- a yes/no: 1 is yes, and every other number, 2 among them, is no
unfoldable pub is_yes : ℕ → Bool
is_yes n = eqb n 1

-- a role or a method: 0, which is neither, for a number that is no byte
unfoldable pub byte_of : ℕ → ℕ
byte_of n = cond (leb n 255) n 0

-- the classical outcome: a yes, and the stated number of bytes
unfoldable pub classical_of : ℕ → ℕ → Classical
classical_of given count = cond (is_yes given) (Given count) NoX

-- the presence that is wrong for a method
abbrev pub wrong_by : KForm → Kem
wrong_by Mpint = Done
wrong_by Digest = Absent

-- the KEM: 0 absent, 1 failed, 2 done; any other is an outcome of a wrong form
unfoldable pub kem_of : ℕ → ℕ → Kem
kem_of method kem = cond (eqb kem 0) Absent (cond (eqb kem 1) NoKem (cond (eqb kem 2) Done (wrong_by (row_of method).k_form)))
