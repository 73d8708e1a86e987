-- Laws of `specs/Cursor.antt`: what a caller of `next_name` knows by its answer. Assumes nothing.
use Prim.Native.Nat.{ℕ, zero, suc, ◌+◌, ◌-◌, ◌≤◌, ◌<◌}
use mathlib.Core.Path.{◌≡◌, refl, sym, ap, ◌∙◌}
use mathlib.Core.List.{List, [], ◌∷◌, ◌++◌}
use mathlib.Core.Bool.{Bool, true, false, cond, ◌&&◌, false≢true}
use native.Mathlib.Omega.{arith}
use lib.ListN.{length, take, drop, length-drop}
use lib.Seq.{take-add, take-take, take_all, length-take-le, drop_at, drop-drop}
use lib.Dec.{leb, ltb, eqb}
use borrow.Author.Tests.{le-leb, lt-leb, leb-true, ltb-true, ltb-false, eqb-true, eqb-false}
use Rattle.wire.specs.Parts.{part, nothing, bytes_at}
use Rattle.wire.specs.declared.Part.{Part}
use Rattle.limits.proofs.BoolLaws.{and_true}
use Rattle.limits.specs.Every.{every}
use Rattle.limits.specs.Refusals.{told}
use Rattle.limits.specs.declared.Refusal.{Refusal}
use Rattle.std.specs.Prelude.{Result, Ok, Err}
use Rattle.std.specs.Result.{is_ok}
use mathlib.Core.Logic.{◌⊎◌, inl, inr}
use Rattle.names.specs.Names.{good_name, good_list, first_name, later_names, parted, names_of, up_to_bad}
use Rattle.names.specs.Cursor.{exhausted, cursor_of, ahead, yield, next_name, bad_name, names_cause}
use Rattle.names.specs.declared.Cursor.{Cursor}
use Rattle.names.specs.Next.{Next}
use Rattle.limits.proofs.RefusalLaws.{number_some}
use Rattle.names.proofs.NameLaws.{first_within, take_first, later_some, later_none, names_some}

-- ---- ahead

module _ (s : List ℕ) (c : Cursor) where
  pub ahead_is : c.end ≤ length s → c.at ≤ c.end → ahead s c ≡ parted (take (c.end - c.at) (drop c.at s))
  unfolding ahead
  ahead_is h k = rw (le-leb c.end (length s) h, le-leb c.at c.end k)

  pub ahead_past : length s < c.end → ahead s c ≡ []
  unfolding ahead
  ahead_past h = rw (lt-leb c.end (length s) h)

  pub ahead_end : c.end < c.at → ahead s c ≡ []
  unfolding ahead
  ahead_end h = rw (lt-leb c.at c.end h) (by_test (leb c.end (length s)))
    where
      by_test : (t : Bool) → cond (t && false) (parted (take (c.end - c.at) (drop c.at s))) [] ≡ []
      by_test true = refl
      by_test false = refl

-- a cursor with something ahead stands within the payload
ahead_within : (s : List ℕ) (c : Cursor) (n : List ℕ) (ns : List (List ℕ)) → ahead s c ≡ n ∷ ns → (c.end ≤ length s) × (c.at ≤ c.end)
unfolding ahead
ahead_within s c n ns e = by_test (leb c.end (length s) && leb c.at c.end) refl e
  where
    by_test : (t : Bool) → leb c.end (length s) && leb c.at c.end ≡ t → cond t (parted (take (c.end - c.at) (drop c.at s))) [] ≡ n ∷ ns
        → (c.end ≤ length s) × (c.at ≤ c.end)
    by_test true p q = let a = and_true (leb c.end (length s)) (leb c.at c.end) p in (leb-true _ _ a.0, leb-true _ _ a.1)
    by_test false p q = let z : ◌≡◌ {A = ℕ} 0 1 = cc in let w : ⊥ = omega arith in absurd w

-- the text that a cursor has ahead, and its first name
abbrev text_at : List ℕ → ℕ → ℕ → List ℕ
text_at s at end = take (end - at) (drop at s)

abbrev first_at : List ℕ → ℕ → ℕ → List ℕ
first_at s at end = first_name (text_at s at end)

module _ (s : List ℕ) (at end : ℕ) (h : end ≤ length s) (k : at ≤ end) where
  pub text_length : length (text_at s at end) ≡ end - at
  text_length = length-take-le (end - at) (drop at s) (omega (arith, length-drop at s))

  pub first_fits : at + length (first_at s at end) ≤ end
  first_fits = let w = first_within (text_at s at end) in omega (arith, text_length)

  -- the name is the part of the payload that begins at `at`
  pub first_part : take (length (first_at s at end)) (drop at s) ≡ first_at s at end
  first_part =
      let f = first_fits in
      sym (take-take (length (first_at s at end)) (end - at) (drop at s) (omega arith)) ∙ take_first (text_at s at end)

  -- behind the name and its comma the cursor has the other names ahead
  pub ahead_behind : ahead s (record { at = at + length (first_at s at end) + 1; end = end }) ≡ later_names (text_at s at end)
  ahead_behind = by_test (ltb (length (first_at s at end)) (length (text_at s at end))) refl
    where
      by_test : (t : Bool) → ltb (length (first_at s at end)) (length (text_at s at end)) ≡ t → ahead s (record { at = at + length (first_at s at end) + 1; end = end }) ≡ later_names (text_at s at end)
      by_test true e =
          let l = ltb-true (length (first_at s at end)) (length (text_at s at end)) e in
          let tl = text_length in
          let m : ℕ = length (first_at s at end) + 1 in
          let r : ℕ = end - (at + length (first_at s at end) + 1) in
          let sum : (length (first_at s at end) + 1) + (end - (at + length (first_at s at end) + 1)) ≡ end - at = omega arith in
          let cut : take (end - at) (drop at s) ≡ take (length (first_at s at end) + 1) (drop at s) ++ take (end - (at + length (first_at s at end) + 1)) (drop (length (first_at s at end) + 1) (drop at s)) =
          ap (λ (j : ℕ). take j (drop at s)) (sym sum) ∙ take-add (length (first_at s at end) + 1) (end - (at + length (first_at s at end) + 1)) (drop at s) in
          let short : length (take (length (first_at s at end) + 1) (drop at s)) ≡ length (first_at s at end) + 1 = length-take-le (length (first_at s at end) + 1) (drop at s) (omega (arith, length-drop at s)) in
          let place : at + (length (first_at s at end) + 1) ≡ at + length (first_at s at end) + 1 = omega arith in
          let back : drop (length (first_at s at end) + 1) (take (end - at) (drop at s)) ≡ take (end - (at + length (first_at s at end) + 1)) (drop (at + length (first_at s at end) + 1) s) =
          ap (drop (length (first_at s at end) + 1)) cut
          ∙ drop_at (take (length (first_at s at end) + 1) (drop at s)) (take (end - (at + length (first_at s at end) + 1)) (drop (length (first_at s at end) + 1) (drop at s))) (length (first_at s at end) + 1) short
          ∙ ap (take (end - (at + length (first_at s at end) + 1))) (drop-drop (length (first_at s at end) + 1) at s ∙ ap (λ (j : ℕ). drop j s) place) in
          let one : suc (length (first_at s at end)) ≡ length (first_at s at end) + 1 = omega arith in
          ahead_is s (record { at = at + length (first_at s at end) + 1; end = end }) h (omega arith)
          ∙ ap parted (sym back ∙ ap (λ (j : ℕ). drop j (text_at s at end)) (sym one))
          ∙ sym (later_some (text_at s at end) l)
      by_test false e =
          let l = ltb-false (length (first_at s at end)) (length (text_at s at end)) e in
          let tl = text_length in
          let f = first_fits in
          ahead_end s (record { at = at + length (first_at s at end) + 1; end = end }) (omega arith)
          ∙ sym (later_none (text_at s at end) (omega arith))

-- ---- next_name

module _ (s : List ℕ) (c : Cursor) where
  pub no_name : ahead s c ≡ [] → ◌≡◌ {A = Next} (record { number = 0; found = false; name = nothing; cursor = c }) (next_name s c)
  unfolding next_name
  no_name e = ap (yield c) (sym e)

  pub none_ahead : (c.end < c.at) ⊎ (length s < c.end) → ◌≡◌ {A = Next} (record { number = 0; found = false; name = nothing; cursor = c }) (next_name s c)
  none_ahead (inl h) = no_name (ahead_end s c h)
  none_ahead (inr h) = no_name (ahead_past s c h)

-- a cursor whose text is t, and the first name in it
module _ (s : List ℕ) (c : Cursor) (t : List ℕ) (len : ℕ) (h : c.at ≤ c.end) (k : c.end ≤ length s) (is : t ≡ take (c.end - c.at) (drop c.at s)) (n : len ≡ length (first_name t)) where
  pub name_fits : c.at + len ≤ c.end
  name_fits = let f = first_fits s c.at c.end k h in omega (arith, ap (λ (x : List ℕ). length (first_name x)) is)

  pub name_length : len ≡ length (take len t)
  name_length = let f = first_within t in sym (length-take-le len t (omega arith))

  name_read : take len t ≡ first_name t
  name_read = ap (λ (m : ℕ). take m t) n ∙ take_first t

  names_ahead : ahead s c ≡ take len t ∷ later_names t
  names_ahead = ahead_is s c k h ∙ ap parted (sym is) ∙ ap (λ (x : List ℕ). x ∷ later_names t) (sym name_read)

  yields_if : (g : Bool) → good_name (take len t) ≡ g
      → ◌≡◌ {A = Next} (cond g (record { number = 0; found = true; name = part c.at len; cursor = record { at = c.at + len + 1; end = c.end } }) (record { number = 19; found = false; name = nothing; cursor = c })) (next_name s c)
  unfolding next_name
  yields_if g e =
      (λ i. cond (sym e i) (record { number = 0; found = true; name = part c.at (name_length i); cursor = record { at = c.at + name_length i + 1; end = c.end } }) (record { number = 19; found = false; name = nothing; cursor = c }))
      ∙ ap (yield c) (sym names_ahead)

  pub name_found : good_name (take len t) ≡ true
      → ◌≡◌ {A = Next} (record { number = 0; found = true; name = part c.at len; cursor = record { at = c.at + len + 1; end = c.end } }) (next_name s c)
  name_found e = yields_if true e

  pub name_bad : good_name (take len t) ≡ false → ◌≡◌ {A = Next} (record { number = 19; found = false; name = nothing; cursor = c }) (next_name s c)
  name_bad e = yields_if false e

-- what a cursor that found a name tells
pub record Found (s : List ℕ) (c : Cursor) (r : Next) : Type 0 where
  pub name : List ℕ
  pub later : List (List ℕ)
  pub was : ahead s c ≡ name ∷ later
  pub good : good_name name ≡ true
  pub place : r.name ≡ part c.at (length name)
  pub next : r.cursor ≡ record { at = c.at + length name + 1; end = c.end }
  pub left : ahead s r.cursor ≡ later
  pub bytes : bytes_at s r.name ≡ name
  pub within : r.name.start + r.name.len ≤ length s

pub found : (s : List ℕ) (c : Cursor) (r : Next) → r ≡ next_name s c → r.found ≡ true → Found s c r
unfolding next_name
found s c r e f = by_list (ahead s c) refl e
  where
    by_list : (l : List (List ℕ)) → ahead s c ≡ l → r ≡ yield c l → Found s c r
    by_list [] a q = absurd (false≢true (sym (ap (λ (x : Next). x.found) q) ∙ f))
    by_list (n ∷ ns) a q = by_test (good_name n) refl q
      where
        by_test : (t : Bool) → good_name n ≡ t
            → r ≡ cond t (record { number = 0; found = true; name = part c.at (length n); cursor = record { at = c.at + length n + 1; end = c.end } })
            (record { number = 19; found = false; name = nothing; cursor = c })
            → Found s c r
        by_test true g p =
            let w = ahead_within s c n ns a in
            let i = sym a ∙ ahead_is s c w.0 w.1 in
            let x : n ≡ first_name (take (c.end - c.at) (drop c.at s)) = cc in
            let y : ns ≡ later_names (take (c.end - c.at) (drop c.at s)) = cc in
            let pl : r.name ≡ part c.at (length n) = ap (λ (z : Next). z.name) p in
            let cu : r.cursor ≡ record { at = c.at + length n + 1; end = c.end } = ap (λ (z : Next). z.cursor) p in
            let fit = first_fits s c.at c.end w.0 w.1 in
            record {
              name = n;
              later = ns;
              was = a;
              good = g;
              place = pl;
              next = cu;
              left = ap (ahead s) (cu ∙ ap (λ (z : List ℕ). record { at = c.at + length z + 1; end = c.end }) x) ∙ ahead_behind s c.at c.end w.0 w.1 ∙ sym y;
              bytes = ap (bytes_at s) (pl ∙ ap (λ (z : List ℕ). part c.at (length z)) x) ∙ first_part s c.at c.end w.0 w.1 ∙ sym x;
              within = omega (arith, ap (λ (z : Part). z.start) pl, ap (λ (z : Part). z.len) pl, ap length x);
            }
        by_test false g p = absurd (false≢true (sym (ap (λ (x : Next). x.found) p) ∙ f))

-- what one that did not tells: it stays, with 19 exactly where the next name is bad
pub stopped : (s : List ℕ) (c : Cursor) (r : Next) → r ≡ next_name s c → r.found ≡ false
    → (r.number ≡ names_cause s c) × (up_to_bad (ahead s c) ≡ []) × (r.name ≡ nothing) × (r.cursor ≡ c)
unfolding next_name names_cause
stopped s c r e f = by_list (ahead s c) e
  where
    by_list : (l : List (List ℕ)) → r ≡ yield c l → (r.number ≡ bad_name l) × (up_to_bad l ≡ []) × (r.name ≡ nothing) × (r.cursor ≡ c)
    by_list [] q = (ap (λ (x : Next). x.number) q, refl, ap (λ (x : Next). x.name) q, ap (λ (x : Next). x.cursor) q)
    by_list (n ∷ ns) q = by_test (good_name n) q
      where
        by_test : (t : Bool)
            → r ≡ cond t (record { number = 0; found = true; name = part c.at (length n); cursor = record { at = c.at + length n + 1; end = c.end } })
            (record { number = 19; found = false; name = nothing; cursor = c })
            → (r.number ≡ cond (t && every good_name ns) 0 19) × (cond t (n ∷ up_to_bad ns) [] ≡ []) × (r.name ≡ nothing) × (r.cursor ≡ c)
        by_test true p = absurd (false≢true (sym f ∙ ap (λ (x : Next). x.found) p))
        by_test false p = (ap (λ (x : Next). x.number) p, refl, ap (λ (x : Next). x.name) p, ap (λ (x : Next). x.cursor) p)

-- the names behind a good one are judged as all of them
pub judge_next : (s : List ℕ) (c : Cursor) (r : Next) → Found s c r → names_cause s r.cursor ≡ names_cause s c
unfolding names_cause
judge_next s c r f =
    ap bad_name f.left
    ∙ ap (λ (t : Bool). cond (t && every good_name f.later) 0 19) (sym f.good)
    ∙ ap bad_name (sym f.was)

-- ---- cursor_of

some : (m n : ℕ) → (m ≡ 0 → ⊥) → n ≡ m → 0 < n
some m zero z e = absurd (z (sym e))
some m (suc n) z e = omega arith

-- a cursor at the beginning of a list has its names ahead
pub ahead_list : (s : List ℕ) (p : Part) → p.start + p.len ≤ length s → ahead s (cursor_of p) ≡ names_of (bytes_at s p)
ahead_list s p h = by_test (eqb p.len 0) refl
  where
    by_test : (t : Bool) → eqb p.len 0 ≡ t → ahead s (cond t exhausted (record { at = p.start; end = p.start + p.len })) ≡ names_of (bytes_at s p)
    by_test true e =
        let z = eqb-true p.len 0 e in
        ahead_end s exhausted (omega arith) ∙ ap (λ (n : ℕ). names_of (take n (drop p.start s))) (sym z)
    by_test false e =
        let n = length-take-le p.len (drop p.start s) (omega (arith, length-drop p.start s)) in
        let z : p.len ≡ 0 → ⊥ = eqb-false p.len 0 e in
        let m : p.start + p.len - p.start ≡ p.len = omega arith in
        ahead_is s (record { at = p.start; end = p.start + p.len }) h (omega arith)
        ∙ ap (λ (k : ℕ). parted (take k (drop p.start s))) m
        ∙ sym (names_some (bytes_at s p) (some p.len (length (bytes_at s p)) z n))

-- ---- good_list

pub good_none : (s : List ℕ) → length s ≡ 0 → true ≡ good_list s
good_none [] h = refl
good_none (a ∷ s) h = let w : ⊥ = omega arith in absurd w

-- a list that a cursor over all of it judges
pub good_judged : (s : List ℕ) (r : Result Unit Refusal) → eqb (length s) 0 ≡ false → told r ≡ names_cause s (record { at = 0; end = length s }) → is_ok r ≡ good_list s
unfolding names_cause
good_judged s r h e =
    let a : ahead s (record { at = 0; end = length s }) ≡ parted s =
    ahead_is s (record { at = 0; end = length s }) (omega arith) (omega arith) ∙ ap parted (take_all (length s - 0) s (omega arith)) in
    let n = names_some s (some (length s) (length s) (eqb-false (length s) 0 h) refl) in
    by_test (good_list s) r (e ∙ ap bad_name (a ∙ sym n))
  where
    by_test : (t : Bool) (x : Result Unit Refusal) → told x ≡ cond t 0 19 → is_ok x ≡ t
    by_test true (Ok u) k = refl
    by_test false (Ok u) k = let w : ◌≡◌ {A = ℕ} 0 19 = k in let z : ⊥ = omega arith in absurd z
    by_test true (Err f) k = absurd (number_some f k)
    by_test false (Err f) k = refl
