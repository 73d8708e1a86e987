-- The causes in what the secret step is handed, where the rest is right: an X of zeros, and one that is not refused for them. Assumes nothing.
use Prim.Native.Nat.{ℕ}
use mathlib.Core.Path.{◌≡◌, sym, ap, ◌∙◌}
use mathlib.Core.List.{List}
use mathlib.Core.Bool.{true, false, ◌&&◌}
use lib.ListN.{length}
use lib.Dec.{eqb}
use borrow.Author.Tests.{eq-eqb}
use Rattle.wire.specs.Causes.{cause_if, cause_unless}
use Rattle.wire.proofs.CauseLaws.{if_holds, if_fails, unless_holds}
use Rattle.methods.specs.Rows.{row_of}
use Rattle.exchange.specs.Causes.{x_ok, x_bad, all_zero, kem_bad, rest_ok, secret_cause}
use Rattle.exchange.specs.declared.Classical.{Classical}
use Rattle.exchange.specs.declared.Classical.TheVariants.{Given}
use Rattle.exchange.specs.declared.Kem.{Kem}

-- ---- secret_cause

module _ (role m : ℕ) (cl : Classical) (x : List ℕ) (kem : Kem) (k_pq ks s : List ℕ) where
  module _ (n : ℕ) (e : cl ≡ Given n) where
    given : secret_cause role m cl x kem k_pq ks s
        ≡ cause_unless (eqb n (row_of m).x_len && eqb (length x) (row_of m).x_len && rest_ok role (row_of m) kem k_pq ks s) 4
        (cause_if ((row_of m).zero_check && all_zero x) 16 (cause_if (kem_bad kem) 17 0))
    unfolding secret_cause
    given =
        let t = rest_ok role (row_of m) kem k_pq ks s in
        ap (λ (k : Classical). cause_unless (x_ok (row_of m) k x && t) 4 (cause_if (x_bad (row_of m) k x) 16 (cause_if (kem_bad kem) 17 0))) e

    module _ (a : n ≡ (row_of m).x_len) where
      module _ (b : length x ≡ (row_of m).x_len) where
        module _ (r : rest_ok role (row_of m) kem k_pq ks s ≡ true) where
          handed : secret_cause role m cl x kem k_pq ks s ≡ cause_if ((row_of m).zero_check && all_zero x) 16 (cause_if (kem_bad kem) 17 0)
          handed =
              given ∙ unless_holds _ 4 _ (rw (eq-eqb n (row_of m).x_len a, eq-eqb (length x) (row_of m).x_len b, r))

          pub secret-zero : ((row_of m).zero_check && all_zero x) ≡ true → 16 ≡ secret_cause role m cl x kem k_pq ks s
          secret-zero h = sym (handed ∙ if_holds _ 16 _ h)

          -- an X that is not refused leaves the KEM to look at
          pub secret-left : ((row_of m).zero_check && all_zero x) ≡ false → cause_if (kem_bad kem) 17 0 ≡ secret_cause role m cl x kem k_pq ks s
          secret-left z = sym (handed ∙ if_fails _ 16 _ z)
