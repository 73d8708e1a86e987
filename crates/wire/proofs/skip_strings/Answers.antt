-- `wire::skip_strings` meets its contract. Assumes nothing.
use Prim.Native.Nat.{ℕ, ◌+◌, ◌-◌}
use mathlib.Core.Path.{◌≡◌, sym, ◌∙◌}
use native.Mathlib.Omega.{arith}
use lib.ListN.{drop}
use Rattle.wire.specs.Strings.{number32, walk}
use Rattle.wire.proofs.StringLaws.{field_some, field_none, walk_none, walk_cut, walk_more}
use Rattle.wire.proofs.skip_strings.Goals as goal

pub returns-in_default : goal.returns-in_default
returns-in_default c =
    let a = c.args in
    walk_cut a.s.now c.loop.place (a.k - c.loop.counter) (omega arith) (field_none a.s.now c.loop.place c.in_default.ensures) ∙ c.loop.invariant

pub overflow_add-place : goal.overflow_add-place
overflow_add-place c = let f = field_some c.args.s.now c.loop.place _ c.in-Some.ensures in omega (arith, f.3)

pub loop-preserved : goal.loop-preserved
loop-preserved c =
    let s = c.args.s.now in
    let left : ℕ = c.args.k - c.loop.counter in
    let f = field_some s c.loop.place _ c.in-Some.ensures in
    let n : c.args.k - (c.loop.counter + 1) ≡ left - 1 = omega arith in
    let p : c.in-Some.body.start + c.in-Some.body.len ≡ c.loop.place + 4 + number32 (drop c.loop.place s) = omega (arith, f.1, f.2) in
    (λ i. walk s (p i) (n i)) ∙ sym (walk_more s c.loop.place left (omega arith) f.0) ∙ c.loop.invariant

pub returns : goal.returns
returns c =
    let a = c.args in walk_none a.s.now c.loop.place (a.k - c.loop.counter) (omega arith) ∙ c.loop.invariant
