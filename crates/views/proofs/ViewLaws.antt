-- Laws of `specs/View.antt`: where a view stays, and what a refused one yields. Assumes nothing.
use Prim.Native.Nat.{ℕ}
use mathlib.Core.Path.{◌≡◌, refl, sym, ap, ◌∙◌}
use mathlib.Core.List.{List}
use mathlib.Core.Bool.{false}
use native.Mathlib.Omega.{arith}
use denote.Ref.{Bor}
use Rattle.wire.specs.Parts.{nothing}
use Rattle.names.specs.Cursor.{exhausted, next_name}
use Rattle.names.proofs.CursorLaws.{stopped, no_name, ahead_end}
use Rattle.kexinit.specs.Reader.{Opened, open_cause, open_list}
use Rattle.kexinit.proofs.ReaderLaws.{open_refused, open_cause_lem}
use Rattle.views.specs.View.{View, opened_by, yielded, left_by}

-- a view that yields no name stays: at the end, and at a bad name
pub stays : (v : View) → (yielded v).found ≡ false → left_by v (yielded v) ≡ v
stays v e = λ i. record { payload = v.payload; cursor = (stopped v.payload.now v.cursor (yielded v) refl e).3 i; head = v.head }

-- a view that was refused yields the end
pub refused_ends : (s : Bor (List ℕ)) (n : ℕ) → ((open_list s.now n).head.number ≡ 0 → ⊥)
    → yielded (opened_by s (open_list s.now n)) ≡ record { number = 0; found = false; name = nothing; cursor = exhausted }
refused_ends s n h =
    let z : open_cause s.now n ≡ 0 → ⊥ = λ e. h (open_cause_lem s.now n ∙ e) in
    ap (λ (o : Opened). next_name s.now o.cursor) (sym (open_refused s.now n _ (open_cause s.now n) refl z refl)) ∙ sym (no_name s.now exhausted (ahead_end s.now exhausted (omega arith)))
