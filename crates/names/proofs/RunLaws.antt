-- The cursor's run over a list yields the list's names, ended by the end or by 19. Assumes nothing.
use Prim.Native.Nat.{ℕ, zero, suc, ◌+◌, ◌≤◌}
use mathlib.Core.Path.{◌≡◌, refl, sym, ap, ◌∙◌, subst}
use mathlib.Core.List.{List, [], ◌∷◌}
use mathlib.Core.Bool.{Bool, true, false, cond}
use native.Mathlib.Omega.{arith}
use lib.ListN.{length}
use Rattle.wire.specs.Parts.{bytes_at}
use Rattle.wire.specs.declared.Part.{Part}
use Rattle.limits.specs.Every.{every}
use Rattle.names.specs.Names.{good_name, names_of, up_to_bad}
use Rattle.names.specs.Cursor.{cursor_of, ahead, next_name, bad_name, names_cause}
use Rattle.names.specs.Run.{Run, ends, yields}
use Rattle.names.specs.declared.Cursor.{Cursor}
use Rattle.names.proofs.NameLaws.{up_to_bad_all}
use Rattle.names.proofs.CursorLaws.{found, stopped, judge_next, ahead_list}

-- a name that was yielded is the first ahead, and the others are ahead of the cursor behind it
next_ahead : (s : List ℕ) (c : Cursor) → (next_name s c).found ≡ true → bytes_at s (next_name s c).name ∷ up_to_bad (ahead s (next_name s c).cursor) ≡ up_to_bad (ahead s c)
next_ahead s c f =
    let g = found s c (next_name s c) refl f in
    (λ i. g.bytes i ∷ up_to_bad (g.left i))
    ∙ ap (λ (t : Bool). cond t (g.name ∷ up_to_bad g.later) []) (sym g.good)
    ∙ ap up_to_bad (sym g.was)

next_cause : (s : List ℕ) (c : Cursor) → (next_name s c).found ≡ true → names_cause s (next_name s c).cursor ≡ names_cause s c
next_cause s c f = judge_next s c (next_name s c) (found s c (next_name s c) refl f)

-- ---- every cursor has a run

-- what a run from the cursor behind the next name makes of a run from this one
step : (s : List ℕ) (c : Cursor) (t : Bool) → (next_name s c).found ≡ t
    → ((next_name s c).found ≡ true → Run s (next_name s c).cursor (up_to_bad (ahead s (next_name s c).cursor)) (names_cause s (next_name s c).cursor))
    → Run s c (up_to_bad (ahead s c)) (names_cause s c)
step s c true f k =
    subst (λ (l : List (List ℕ)). Run s c l (names_cause s c)) (next_ahead s c f)
    (subst (λ (n : ℕ). Run s c (bytes_at s (next_name s c).name ∷ up_to_bad (ahead s (next_name s c).cursor)) n) (next_cause s c f)
    (yields f (k f)))
step s c false f k =
    let e = stopped s c (next_name s c) refl f in
    subst (λ (l : List (List ℕ)). Run s c l (names_cause s c)) (sym e.1) (subst (λ (n : ℕ). Run s c [] n) e.0 (ends f e.3))

run_ahead : (s : List ℕ) (m : ℕ) (c : Cursor) → length (ahead s c) ≤ m → Run s c (up_to_bad (ahead s c)) (names_cause s c)
run_ahead s zero c h =
    step s c (next_name s c).found refl λ f.
    let g = found s c (next_name s c) refl f in
    let w : ⊥ = omega (arith, ap length g.was) in
    absurd w
run_ahead s (suc m) c h =
    step s c (next_name s c).found refl λ f.
    let g = found s c (next_name s c) refl f in
    run_ahead s m (next_name s c).cursor (omega (arith, ap length g.was, ap length g.left))

-- the run over the list that stands at a place
pub run_list : (s : List ℕ) (p : Part) → p.start + p.len ≤ length s
    → Run s (cursor_of p) (up_to_bad (names_of (bytes_at s p))) (bad_name (names_of (bytes_at s p)))
unfolding names_cause
run_list s p h =
    let e = ahead_list s p h in
    subst (λ (l : List (List ℕ)). Run s (cursor_of p) (up_to_bad l) (bad_name l)) e (run_ahead s (length (ahead s (cursor_of p))) (cursor_of p) (omega arith))

-- ---- and only one

-- the names of a run, and the number that ends it
pub run_names : (s : List ℕ) {c : Cursor} {ns : List (List ℕ)} {k : ℕ} → Run s c ns k → ns ≡ up_to_bad (ahead s c)
run_names s (ends {c} f e) = sym (stopped s c (next_name s c) refl f).1
run_names s (yields {c} f r) = ap (λ (l : List (List ℕ)). bytes_at s (next_name s c).name ∷ l) (run_names s r) ∙ next_ahead s c f

pub run_number : (s : List ℕ) {c : Cursor} {ns : List (List ℕ)} {k : ℕ} → Run s c ns k → k ≡ names_cause s c
run_number s (ends {c} f e) = (stopped s c (next_name s c) refl f).0
run_number s (yields {c} f r) = run_number s r ∙ next_cause s c f

-- a run that ends without 19 met all the names ahead, and they are good
pub run_good : (s : List ℕ) (c : Cursor) (ns : List (List ℕ)) → Run s c ns 0 → (every good_name (ahead s c) ≡ true) × (ns ≡ ahead s c)
unfolding names_cause
run_good s c ns r =
    let g = by_test (every good_name (ahead s c)) (sym (run_number s r)) in
    (g, run_names s r ∙ up_to_bad_all (ahead s c) g)
  where
    by_test : (t : Bool) → ◌≡◌ {A = ℕ} (cond t 0 19) 0 → t ≡ true
    by_test true e = refl
    by_test false e = let w : ⊥ = omega arith in absurd w
