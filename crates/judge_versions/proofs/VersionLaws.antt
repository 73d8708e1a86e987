-- V: a law for each `return`. Assumes nothing.
use Prim.Native.Nat.{ℕ, ◌≤◌, ◌<◌}
use mathlib.Core.Path.{◌≡◌}
use mathlib.Core.List.{List}
use mathlib.Core.Bool.{false}
use lib.ListN.{length}
use Rattle.limits.specs.Limits.{version_most}
use Rattle.limits.proofs.RangeLaws.{within_is, within_low, within_high}
use Rattle.exchange.specs.Causes.{plain, version_ok}

module _ (v : List ℕ) where
  pub version_empty : length v < 1 → false ≡ version_ok v
  unfolding version_ok
  version_empty h = rw (within_low 1 version_most (length v) h)

  pub version_long : version_most < length v → false ≡ version_ok v
  unfolding version_ok
  version_long h = rw (within_high 1 version_most (length v) h)

  pub version_plain : 1 ≤ length v → length v ≤ version_most → plain v ≡ version_ok v
  unfolding version_ok
  version_plain h k = rw (within_is 1 version_most (length v) h k)
