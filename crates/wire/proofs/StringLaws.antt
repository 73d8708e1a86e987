-- Laws of `specs/Strings.antt`. Assumes nothing.
use Prim.Native.Nat.{ℕ, zero, suc, ◌+◌, ◌-◌, ◌≤◌, ◌<◌}
use mathlib.Core.Path.{◌≡◌, refl, sym, ap, ◌∙◌}
use mathlib.Core.List.{List}
use mathlib.Core.Bool.{Bool, true, false, cond}
use native.Mathlib.Omega.{arith}
use lib.ListN.{length, drop, length-drop}
use lib.Dec.{leb}
use Rattle.std.specs.Prelude.{Option, None, Some, unwrap_or}
use Rattle.std.specs.Option.{MatchOption, UnwrapsOrElse}
use borrow.Author.Rules.{rules}
use borrow.Author.Tests.{leb-true, le-leb, lt-leb}
use Rattle.limits.proofs.BoolLaws.{and_true, and_false}
use Rattle.wire.specs.Parts.{part, nothing}
use Rattle.wire.specs.Strings.{number32, number_at, string, whole, field_at, walk, read_string}
use Rattle.wire.specs.Told.{field_told, read_told}
use Rattle.wire.specs.contracts.PartDefault.TheImpl.{is_default-value as PartIsDefault}
use Rattle.wire.specs.contracts.StringAndRestDefault.TheImpl.{is_default-value as BothAreDefault}
use Rattle.wire.specs.declared.Part.{Part}
use Rattle.wire.specs.declared.StringAndRest.{StringAndRest}
use Rattle.wire.specs.Strings.{Field}
use Rattle.wire.specs.Strings.{StringRead}
use Rattle.wire.specs.Strings.{Walk}

-- ---- string

pub length_string : (b : List ℕ) → length (string b) ≡ 4 + length b
unfolding string
length_string b = omega arith

-- ---- number_at

module _ (s : List ℕ) (at : ℕ) where
  pub number_past : length s < at + 4 → 0 ≡ number_at s at
  unfolding number_at
  number_past h = rw (lt-leb (at + 4) (length s) h)

  pub number_at_lem : at + 4 ≤ length s → number_at s at ≡ number32 (drop at s)
  unfolding number_at
  number_at_lem h = rw (le-leb (at + 4) (length s) h)

  -- the four bytes, where they were read, else 0
  pub number_told : (r : Option ℕ) → MatchOption r (length s < at + 4) (λ n. (at + 4 ≤ length s) × (n ≡ number32 (drop at s)))
      → unwrap_or r 0 ≡ number_at s at
  number_told None h = number_past h
  number_told (Some n) h = h.1 ∙ sym (number_at_lem h.0)

-- ---- whole

-- a whole string lies within the list
pub whole_within : (s : List ℕ) → whole s ≡ true → 4 + number32 s ≤ length s
unfolding whole
whole_within s w = leb-true (4 + number32 s) (length s) (and_true (leb 4 (length s)) _ w).1

pub whole_is : (s : List ℕ) → 4 ≤ length s → 4 + number32 s ≤ length s → whole s ≡ true
unfolding whole
whole_is s h k = rw (le-leb 4 (length s) h, le-leb (4 + number32 s) (length s) k)

pub whole_no_length : (s : List ℕ) → length s < 4 → whole s ≡ false
unfolding whole
whole_no_length s h = rw (lt-leb 4 (length s) h)

pub whole_no_body : (s : List ℕ) → length s < 4 + number32 s → whole s ≡ false
unfolding whole
whole_no_body s h = rw (lt-leb (4 + number32 s) (length s) h) (and_false (leb 4 (length s)))

-- ---- field_at

module _ (s : List ℕ) (at : ℕ) where
  rest_length : length (drop at s) ≡ length s - at
  rest_length = length-drop at s

  cut : whole (drop at s) ≡ false → ◌≡◌ {A = Field} (record { number = 12; start = 0; len = 0 }) (field_at s at)
  unfolding field_at
  cut w = rw w

  pub field_past : length s < at + 4 → ◌≡◌ {A = Field} (record { number = 12; start = 0; len = 0 }) (field_at s at)
  field_past h = let r = rest_length in cut (whole_no_length (drop at s) (omega arith))

  pub field_no_body : (n : ℕ) → n ≡ number32 (drop at s) → at + 4 ≤ length s → length s - (at + 4) < n
      → ◌≡◌ {A = Field} (record { number = 12; start = 0; len = 0 }) (field_at s at)
  field_no_body n e h k = let r = rest_length in cut (whole_no_body (drop at s) (omega arith))

  pub field_found : (n : ℕ) → n ≡ number32 (drop at s) → at + 4 ≤ length s → n ≤ length s - (at + 4)
      → ◌≡◌ {A = Field} (record { number = 0; start = at + 4; len = n }) (field_at s at)
  unfolding field_at
  field_found n e h k =
      let r = rest_length in
      rw (whole_is (drop at s) (omega arith) (omega arith)) λ i. record { number = 0; start = at + 4; len = e i }

-- what a caller knows of a field by its number
pub field_zero : (s : List ℕ) (at : ℕ) (f : Field) → f ≡ field_at s at → f.number ≡ 0
    → (whole (drop at s) ≡ true) × (f.start ≡ at + 4) × (f.len ≡ number32 (drop at s)) × (f.start + f.len ≤ length s)
unfolding field_at
field_zero s at f e z = by_test (whole (drop at s)) refl e
  where
    by_test : (t : Bool) → whole (drop at s) ≡ t
        → f ≡ cond t (record { number = 0; start = at + 4; len = number32 (drop at s) }) (record { number = 12; start = 0; len = 0 })
        → (whole (drop at s) ≡ true) × (f.start ≡ at + 4) × (f.len ≡ number32 (drop at s)) × (f.start + f.len ≤ length s)
    by_test true w q =
        let a : f.start ≡ at + 4 = ap (λ (x : Field). x.start) q in
        let b : f.len ≡ number32 (drop at s) = ap (λ (x : Field). x.len) q in
        let k = whole_within (drop at s) w in
        (w, a, b, omega (arith, length-drop at s))
    by_test false w q = let n : f.number ≡ 12 = ap (λ (x : Field). x.number) q in let v : ⊥ = omega arith in absurd v

pub field_refused : (s : List ℕ) (at : ℕ) (f : Field) → f ≡ field_at s at → (f.number ≡ 0 → ⊥) → whole (drop at s) ≡ false
unfolding field_at
field_refused s at f e z = by_test (whole (drop at s)) refl e
  where
    by_test : (t : Bool) → whole (drop at s) ≡ t
        → f ≡ cond t (record { number = 0; start = at + 4; len = number32 (drop at s) }) (record { number = 12; start = 0; len = 0 })
        → whole (drop at s) ≡ false
    by_test true w q = absurd (z (ap (λ (x : Field). x.number) q))
    by_test false w q = w

-- the same by what `field_at` answers
pub field_some : (s : List ℕ) (at : ℕ) (p : Part) → field_told (Some p) ≡ field_at s at
    → (whole (drop at s) ≡ true) × (p.start ≡ at + 4) × (p.len ≡ number32 (drop at s)) × (p.start + p.len ≤ length s)
field_some s at p e = field_zero s at _ e refl

pub field_none : (s : List ℕ) (at : ℕ) → field_told None ≡ field_at s at → whole (drop at s) ≡ false
field_none s at e = field_refused s at _ e (λ z. omega arith)

-- the part that a caller takes of that answer, the empty one where there is none
pub part_found : (s : List ℕ) (at : ℕ) (r : Option Part) (p : Part) → UnwrapsOrElse r PartIsDefault.it p → field_told r ≡ field_at s at
    → p ≡ part (field_at s at).start (field_at s at).len
part_found s at None p h e = let z : p ≡ nothing = search rules in z ∙ (λ i. part (e i).start (e i).len)
part_found s at (Some x) p h e = h ∙ (λ i. part (e i).start (e i).len)

-- a field lies within the list, a refusal's too
pub field_within : (s : List ℕ) (at : ℕ) → (field_at s at).start + (field_at s at).len ≤ length s
unfolding field_at
field_within s at = by_test (whole (drop at s)) refl
  where
    found : Bool → Field
    found t = cond t (record { number = 0; start = at + 4; len = number32 (drop at s) }) (record { number = 12; start = 0; len = 0 })

    by_test : (t : Bool) → whole (drop at s) ≡ t → (found t).start + (found t).len ≤ length s
    by_test true w = let k = whole_within (drop at s) w in omega (arith, length-drop at s)
    by_test false w = omega arith

-- ---- walk

module _ (s : List ℕ) where
  pub walk_none : (at k : ℕ) → k ≤ 0 → ◌≡◌ {A = Walk} (record { number = 0; place = at }) (walk s at k)
  walk_none at zero h = refl
  walk_none at (suc k) h = let w : ⊥ = omega arith in absurd w

  pub walk_cut : (at k : ℕ) → 0 < k → whole (drop at s) ≡ false → ◌≡◌ {A = Walk} (record { number = 12; place = at }) (walk s at k)
  walk_cut at zero h w = let v : ⊥ = omega arith in absurd v
  walk_cut at (suc k) h w = rw w

  pub walk_more : (at k : ℕ) → 0 < k → whole (drop at s) ≡ true → walk s at k ≡ walk s (at + 4 + number32 (drop at s)) (k - 1)
  walk_more at zero h w = let v : ⊥ = omega arith in absurd v
  walk_more at (suc k) h w = rw w (ap (walk s (at + 4 + number32 (drop at s))) (sym e))
    where
      e : suc k - 1 ≡ k
      e = omega arith

-- ---- read_string

pub read_found : (s : List ℕ) → whole s ≡ true
    → ◌≡◌ {A = StringRead} (record { number = 0; body = part 4 (number32 s); rest = part (4 + number32 s) (length s - (4 + number32 s)) }) (read_string s)
unfolding read_string
read_found s w = rw w

pub read_refused : (s : List ℕ) → whole s ≡ false
    → ◌≡◌ {A = StringRead} (record { number = 12; body = nothing; rest = nothing }) (read_string s)
unfolding read_string
read_refused s w = rw w

-- what a caller knows of an input by the number
pub read_zero : (s : List ℕ) (r : StringRead) → r ≡ read_string s → r.number ≡ 0 → whole s ≡ true
read_zero s r e z = by_test (whole s) refl
  where
    by_test : (t : Bool) → whole s ≡ t → whole s ≡ true
    by_test true w = w
    by_test false w =
        let n : r.number ≡ 12 = ap (λ (x : StringRead). x.number) (e ∙ sym (read_refused s w)) in
        let v : ⊥ = omega arith in
        absurd v

pub read_nonzero : (s : List ℕ) (r : StringRead) → r ≡ read_string s → (r.number ≡ 0 → ⊥) → whole s ≡ false
read_nonzero s r e z = by_test (whole s) refl
  where
    by_test : (t : Bool) → whole s ≡ t → whole s ≡ false
    by_test true w = absurd (z (ap (λ (x : StringRead). x.number) (e ∙ sym (read_found s w))))
    by_test false w = w

-- both parts lie within the input, a refusal's too
pub read_within : (s : List ℕ)
    → ((read_string s).body.start + (read_string s).body.len ≤ length s) × ((read_string s).rest.start + (read_string s).rest.len ≤ length s)
unfolding read_string
read_within s = by_test (whole s) refl
  where
    read : Bool → StringRead
    read t =
        cond t
        (record { number = 0; body = part 4 (number32 s); rest = part (4 + number32 s) (length s - (4 + number32 s)) })
        (record { number = 12; body = nothing; rest = nothing })

    by_test : (t : Bool) → whole s ≡ t
        → ((read t).body.start + (read t).body.len ≤ length s) × ((read t).rest.start + (read t).rest.len ≤ length s)
    by_test true w = let k = whole_within s w in (k, omega arith)
    by_test false w = (omega arith, omega arith)

-- the parts that a caller takes of what `read_string` answers, empty where there is none
pub parts_found : (s : List ℕ) (r : Option StringAndRest) (v : StringAndRest) → UnwrapsOrElse r BothAreDefault.it v → read_told r ≡ read_string s
    → (v.body ≡ (read_string s).body) × (v.rest ≡ (read_string s).rest)
parts_found s None v h e =
    let b : v.body ≡ nothing = search rules in
    let t : v.rest ≡ nothing = search rules in
    (b ∙ ap (λ (x : StringRead). x.body) e, t ∙ ap (λ (x : StringRead). x.rest) e)
parts_found s (Some x) v h e =
    (ap (λ (y : StringAndRest). y.body) h ∙ ap (λ (y : StringRead). y.body) e, ap (λ (y : StringAndRest). y.rest) h ∙ ap (λ (y : StringRead). y.rest) e)
