-- `wire::part_of` meets its contract. Assumes nothing.
use Prim.Native.Nat.{ℕ, ◌+◌, ◌-◌, ◌<◌, ◌≤◌}
use mathlib.Core.Path.{◌≡◌, sym, ap, ◌∙◌}
use mathlib.Core.List.{List, []}
use native.Mathlib.Omega.{arith}
use lib.ListN.{length, take, drop}
use Rattle.wire.specs.Parts.{inside, bytes_at, place_at}
use Rattle.wire.specs.declared.Part.{Part}
use Rattle.wire.proofs.PartLaws.{inside_fits, inside_past}
use Rattle.wire.proofs.part_of.Goals.{in_default-via-in-Some+else-end-s, in_default-via-in_default}
use Rattle.wire.proofs.part_of.Goals as goal

-- a place past the end: the empty part at the start
none : (s : List ℕ) (at : ℕ × ℕ) (p : Part) → length s < p.start + p.len
    → ([] ≡ bytes_at s (inside (length s) p)) × (at ≡ place_at at (inside (length s) p))
none s (at0, at1) p h =
    let e = inside_past (length s) p h in
    let z : at1 ≡ 0 + at1 = omega arith in
    (ap (bytes_at s) (sym e), ap (λ (k : ℕ). (at0, k)) z ∙ ap (place_at (at0, at1)) (sym e))

-- a place that the range up to `end` is
some : (s : List ℕ) (at : ℕ × ℕ) (p : Part) (end : ℕ) → end ≡ p.start + p.len → end ≤ length s
    → (take (end - p.start) (drop p.start s) ≡ bytes_at s (inside (length s) p)) × (◌≡◌ {A = ℕ × ℕ} (at.0, p.start + at.1) (place_at at (inside (length s) p)))
some s at p end e h =
    let i = inside_fits (length s) p (omega arith) in
    let n : end - p.start ≡ p.len = omega arith in
    (ap (λ (k : ℕ). take k (drop p.start s)) n ∙ ap (bytes_at s) (sym i), ap (place_at at) (sym i))

pub returns-in-Some : goal.returns-in-Some
returns-in-Some c = let a = c.args in some a.s.now a.s.ref_ptr a.p _ c.in-Some.ensures.1 (omega arith)

pub returns-in_default : goal.returns-in_default
returns-in_default c =
    let a = c.args in
    let k = c.type_inv.s in
    none a.s.now a.s.ref_ptr a.p (elim c.in_default.branch [ in_default-via-in-Some+else-end-s w ↦ omega arith | in_default-via-in_default w ↦ omega arith ])
