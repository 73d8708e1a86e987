-- Laws of `specs/Writers.antt`: what a writer owes at each of its returns, given its first cause. Assumes nothing.
use Prim.Native.Nat.{ℕ, ◌+◌, ◌≤◌, ◌<◌}
use mathlib.Core.Path.{◌≡◌, sym, ◌∙◌}
use mathlib.Core.List.{List}
use mathlib.Core.Bool.{false}
use native.Mathlib.Omega.{arith}
use lib.ListN.{length, drop}
use lib.Seq.{take-append_seam}
use lib.Dec.{eqb}
use borrow.Author.Tests.{ne_eqb, lt-ltb, le-ltb}
use Rattle.limits.specs.Limits.{string_most}
use Rattle.buffers.specs.Bytes.{onto, laid}
use Rattle.buffers.proofs.ByteLaws.{laid_laid}
use Rattle.wire.specs.Strings.{bytes32, string}
use Rattle.wire.proofs.CauseLaws.{if_holds, if_fails}
use Rattle.wire.proofs.StringLaws.{length_string}
use Rattle.writers.specs.Writers.{wrote, leaves, front, string_cause}
use Rattle.writers.specs.Writers.{Written}

module _ (cause : ℕ) (b out : List ℕ) where
  -- a refusal: no count, the output as it was
  pub writer_refused : (n : ℕ) → 0 < n → cause ≡ n
      → (◌≡◌ {A = Written} (record { number = n; count = 0 }) (wrote cause b)) × (out ≡ leaves cause b out)
  unfolding wrote leaves
  writer_refused n h e = let z : eqb cause 0 ≡ false = ne_eqb cause 0 (λ q. omega arith) in (rw (z, e), rw z)

  -- success: the count, and the output begins with the bytes
  pub writer_done : (n : ℕ) (left : List ℕ) → cause ≡ 0 → n ≡ length b → left ≡ onto out b
      → (◌≡◌ {A = Written} (record { number = 0; count = n }) (wrote cause b)) × (left ≡ leaves cause b out)
  unfolding wrote leaves
  writer_done n left e m l = (rw (e, m), rw e l)

  -- the same where number and count are told apart
  pub told_refused : (n : ℕ) → 0 < n → cause ≡ n → (n ≡ cause) × (0 ≡ (wrote cause b).count) × (out ≡ leaves cause b out)
  unfolding wrote leaves
  told_refused n h e = let z : eqb cause 0 ≡ false = ne_eqb cause 0 (λ q. omega arith) in (sym e, rw z, rw z)

  pub told_done : (n : ℕ) (left : List ℕ) → cause ≡ 0 → n ≡ length b → left ≡ onto out b
      → (0 ≡ cause) × (n ≡ (wrote cause b).count) × (left ≡ leaves cause b out)
  unfolding wrote leaves
  told_done n left e m l = (sym e, rw e m, rw e l)

-- the front of what a writer leaves is what it wrote
pub writer_front : (cause : ℕ) (b out : List ℕ) → cause ≡ 0 → front cause b out ≡ b
unfolding wrote leaves onto
writer_front cause b out e = rw e (take-append_seam b (drop (length b) out))

-- ---- string

-- length bytes, and then the body
pub laid_string : (l : List ℕ) (at : ℕ) (b : List ℕ) → at + length (string b) ≤ length l
    → laid (laid l at (bytes32 (length b))) (at + 4) b ≡ laid l at (string b)
unfolding string
laid_string l at b h = laid_laid l at (bytes32 (length b)) b h

-- ---- string_cause

module _ (size : ℕ) (b : List ℕ) where
  pub string_long : string_most < length b → string_cause size b ≡ 4
  unfolding string_cause
  string_long h = if_holds _ 4 _ (lt-ltb string_most (length b) h)

  pub string_short : length b ≤ string_most → size < 4 + length b → string_cause size b ≡ 5
  unfolding string_cause
  string_short h k = if_fails _ 4 _ (le-ltb string_most (length b) h) ∙ if_holds _ 5 0 (lt-ltb size (length (string b)) (omega (arith, length_string b)))

  pub string_fits : length b ≤ string_most → 4 + length b ≤ size → string_cause size b ≡ 0
  unfolding string_cause
  string_fits h k = if_fails _ 4 _ (le-ltb string_most (length b) h) ∙ if_fails _ 5 0 (le-ltb size (length (string b)) (omega (arith, length_string b)))
