-- Laws of `specs/Parts.antt`. Assumes nothing.
use Prim.Native.Nat.{ℕ, ◌+◌, ◌≤◌, ◌<◌}
use mathlib.Core.Path.{◌≡◌, ap, ◌∙◌}
use mathlib.Core.List.{List}
use borrow.Author.Tests.{le-leb, lt-leb}
use denote.Ref.{Bor}
use Rattle.wire.specs.Parts.{nothing, inside, bytes_at, place_at}
use Rattle.wire.specs.declared.Part.{Part}

pub inside_fits : (n : ℕ) (p : Part) → p.start + p.len ≤ n → inside n p ≡ p
unfolding inside
inside_fits n p h = rw (le-leb (p.start + p.len) n h)

pub inside_past : (n : ℕ) (p : Part) → n < p.start + p.len → inside n p ≡ nothing
unfolding inside
inside_past n p h = rw (lt-leb (p.start + p.len) n h)

-- a part that a reader answered and that lies within its input: what `part_of` hands back is that part
pub part_read : (n : ℕ) (l : List ℕ) (s r : Bor (List ℕ)) (p q : Part) → p ≡ q → q.start + q.len ≤ n
    → (r.now ≡ bytes_at l (inside n p)) × (r.ref_ptr ≡ place_at s.ref_ptr (inside n p))
    → (r.now ≡ bytes_at l q) × (r.ref_ptr ≡ place_at s.ref_ptr q)
part_read n l s r p q e h f =
    let i = ap (inside n) e ∙ inside_fits n q h in
    (f.0 ∙ ap (bytes_at l) i, f.1 ∙ ap (place_at s.ref_ptr) i)
