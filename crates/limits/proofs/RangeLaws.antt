-- Laws of `specs/Range.antt`. Assumes nothing.
use Prim.Native.Nat.{ℕ, ◌≤◌, ◌<◌}
use mathlib.Core.Path.{◌≡◌}
use mathlib.Core.Bool.{true, false}
use lib.Dec.{leb}
use borrow.Author.Tests.{le-leb, lt-leb, leb-true}
use Rattle.limits.specs.Range.{within}
use Rattle.limits.proofs.BoolLaws.{and_true, and_false}

pub within_is : (lo hi n : ℕ) → lo ≤ n → n ≤ hi → within lo hi n ≡ true
within_is lo hi n h k = rw (le-leb lo n h, le-leb n hi k)

pub within_low : (lo hi n : ℕ) → n < lo → within lo hi n ≡ false
within_low lo hi n h = rw (lt-leb lo n h)

pub within_high : (lo hi n : ℕ) → hi < n → within lo hi n ≡ false
within_high lo hi n h = rw (lt-leb n hi h) (and_false (leb lo n))

pub within_least : (lo hi n : ℕ) → within lo hi n ≡ true → lo ≤ n
within_least lo hi n e = leb-true lo n (and_true (leb lo n) (leb n hi) e).0

pub within_most : (lo hi n : ℕ) → within lo hi n ≡ true → n ≤ hi
within_most lo hi n e = leb-true n hi (and_true (leb lo n) (leb n hi) e).1
