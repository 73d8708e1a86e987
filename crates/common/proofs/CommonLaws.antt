-- Laws of `specs/Common.antt` over the names that a cursor yields. Assumes nothing.
use Prim.Native.Nat.{ℕ, zero, suc, ◌+◌, ◌≤◌, ◌<◌}
use mathlib.Core.Path.{◌≡◌, refl, sym, ap, ◌∙◌}
use mathlib.Core.List.{List, [], ◌∷◌}
use mathlib.Core.Bool.{Bool, true, false, cond, ◌&&◌, ◌||◌, false≢true}
use native.Mathlib.Omega.{arith}
use lib.ListN.{length}
use borrow.Author.Tests.{lt-ltb, le-ltb, ne_eqb, eqb-true, eqb-false}
use Rattle.buffers.specs.Bytes.{same}
use Rattle.wire.specs.Parts.{part, nothing, inside, bytes_at}
use Rattle.wire.specs.declared.Part.{Part}
use Rattle.wire.proofs.PartLaws.{inside_fits}
use Rattle.limits.specs.Every.{every}
use Rattle.limits.proofs.BoolLaws.{and_false}
use Rattle.names.specs.Names.{good_name, up_to_bad}
use Rattle.std.specs.Prelude.{Option, Some, None, Result, Ok, Err}
use Rattle.std.specs.Option.{is_some, unwrap_or}
use Rattle.std.specs.Result.{result_unwrap_or}
use lib.Dec.{eqb}
use Rattle.limits.specs.declared.Refusal.{Refusal}
use Rattle.names.specs.Cursor.{ahead, yield, next_name}
use Rattle.names.specs.Next.{next_told}
use Rattle.names.specs.declared.Named.{Named}
use Rattle.names.specs.declared.Cursor.{Cursor}
use Rattle.names.specs.Next.{Next}
use Rattle.names.proofs.NameLaws.{up_to_bad_all}
use Rattle.names.proofs.JoinLaws.{good_known}
use Rattle.names.proofs.CursorLaws.{found, Found, stopped}
use Rattle.methods.specs.Rows.{number_of, rows}
use Rattle.common.specs.Common.{has, common, any, is_method, method_in, every_name, common_part, some_method, some_place}

-- ---- a name that a cursor found

-- the names that a cursor yields, up to a bad one
abbrev pub names_from : List ℕ → Cursor → List (List ℕ)
names_from s c = up_to_bad (ahead s c)

module _ (s : List ℕ) (c : Cursor) (r : Next) (f : Found s c r) where
  -- it comes first, and the others are yielded behind it
  pub name_first : names_from s c ≡ f.name ∷ names_from s r.cursor
  name_first =
      ap up_to_bad f.was
      ∙ ap (λ (t : Bool). cond t (f.name ∷ up_to_bad f.later) []) f.good
      ∙ ap (λ (l : List (List ℕ)). f.name ∷ up_to_bad l) (sym f.left)

  -- what `part_of` hands back is the name
  pub name_read : bytes_at s (inside (length s) r.name) ≡ f.name
  name_read = ap (bytes_at s) (inside_fits (length s) r.name f.within) ∙ f.bytes

  -- there are fewer names ahead than before
  pub name_less : length (ahead s r.cursor) < length (ahead s c)
  name_less = omega (arith, ap length f.was, ap length f.left)

  -- it is not empty
  pub name_some : r.name.len ≡ 0 → ⊥
  name_some e = let g = (good_known f.name f.good).0 in omega (arith, ap (λ (p : Part). p.len) f.place)

-- what an answer to a cursor tells of the names that it yields
module _ (s : List ℕ) (c : Cursor) where
  pub good_told : (r : Result (Option Named) Refusal) → next_told c r ≡ next_name s c → next_told c (Ok (result_unwrap_or r None)) ≡ yield c (names_from s c)
  unfolding next_name
  good_told (Ok (Some n)) e =
      let f = found s c (next_told c (Ok (Some n))) e refl in
      e ∙ ap (yield c) f.was ∙ sym (ap (yield c) (name_first s c (next_told c (Ok (Some n))) f))
  good_told (Ok None) e = sym (ap (yield c) (stopped s c (next_told c (Ok None)) e refl).1)
  good_told (Err x) e = sym (ap (yield c) (stopped s c (next_told c (Err x)) e refl).1)

  pub good_found : (n : Named) → next_told c (Ok (Some n)) ≡ yield c (names_from s c) → Found s c (next_told c (Ok (Some n)))
  unfolding next_name
  good_found n e = by_list (ahead s c) refl e
    where
      by_list : (l : List (List ℕ)) → ahead s c ≡ l → next_told c (Ok (Some n)) ≡ yield c (up_to_bad l) → Found s c (next_told c (Ok (Some n)))
      by_list [] a q = absurd (false≢true (sym (ap (λ (x : Next). x.found) q)))
      by_list (m ∷ ms) a q = by_test (good_name m) refl q
        where
          by_test : (t : Bool) → good_name m ≡ t → next_told c (Ok (Some n)) ≡ yield c (cond t (m ∷ up_to_bad ms) []) → Found s c (next_told c (Ok (Some n)))
          by_test true g p = found s c (next_told c (Ok (Some n))) (p ∙ sym (ap (yield c) a)) refl
          by_test false g p = absurd (false≢true (sym (ap (λ (x : Next). x.found) p)))

  pub good_none : next_told c (Ok None) ≡ yield c (names_from s c) → names_from s c ≡ []
  good_none e = by_list (ahead s c) e
    where
      by_list : (l : List (List ℕ)) → next_told c (Ok None) ≡ yield c (up_to_bad l) → up_to_bad l ≡ []
      by_list [] q = refl
      by_list (m ∷ ms) q = by_test (good_name m) refl q
        where
          by_test : (t : Bool) → good_name m ≡ t → next_told c (Ok None) ≡ yield c (cond t (m ∷ up_to_bad ms) []) → cond t (m ∷ up_to_bad ms) [] ≡ []
          by_test true g p = absurd (false≢true (ap (λ (x : Next). x.found) p ∙ ap (λ (u : Bool). (cond {A = Next} u (record { number = 0; found = true; name = part c.at (length m); cursor = record { at = c.at + length m + 1; end = c.end } }) (record { number = 19; found = false; name = nothing; cursor = c })).found) g))
          by_test false g p = refl

-- ---- has, along a cursor

module _ (n s : List ℕ) (c : Cursor) (r : Next) where
  pub has_here : (f : Found s c r) → same n f.name ≡ true → has n (names_from s c) ≡ true
  has_here f e = ap (has n) (name_first s c r f) ∙ ap (λ (t : Bool). t || has n (names_from s r.cursor)) e

  pub has_later : (f : Found s c r) → same n f.name ≡ false → has n (names_from s r.cursor) ≡ has n (names_from s c)
  has_later f e = sym (ap (has n) (name_first s c r f) ∙ ap (λ (t : Bool). t || has n (names_from s r.cursor)) e)

-- ---- method_in

number_empty : number_of [] ≡ 0
unfolding number_of rows
number_empty = refl

module _ (server : List (List ℕ)) where
  pub method_none : method_in any [] server ≡ 0
  unfolding method_in
  method_none = number_empty

  module _ (n : List ℕ) (ns : List (List ℕ)) where
    -- a name that is a method's and stands in the server's list
    pub method_here : (number_of n ≡ 0 → ⊥) → has n server ≡ true → method_in any (n ∷ ns) server ≡ number_of n
    unfolding method_in
    method_here h e = rw (lt-ltb 0 (number_of n) (omega arith), e)

    -- one that is no method's
    pub method_other : number_of n ≡ 0 → method_in any (n ∷ ns) server ≡ method_in any ns server
    unfolding method_in
    method_other h = rw (le-ltb 0 (number_of n) (omega arith))

    -- one that the server has not
    pub method_absent : has n server ≡ false → method_in any (n ∷ ns) server ≡ method_in any ns server
    unfolding method_in
    method_absent e =
        ap (λ (t : Bool). number_of (cond t n (common (is_method any) ns server)))
        (ap (λ (t : Bool). is_method any n && t) e ∙ and_false (is_method any n))

-- ---- a number and a place where there is one

none_some : {A : Type 0} {x : A} → None ≡ Some x → ⊥
none_some e = absurd (false≢true (ap is_some e))

some_inj : {A : Type 0} {x y : A} → Some x ≡ Some y → x ≡ y
some_inj {A} {x} {y} e = ap (λ (o : Option A). unwrap_or o x) e

pub some_number : (m : ℕ) → (m ≡ 0 → ⊥) → Some m ≡ some_method m
some_number m h = rw (ne_eqb m 0 h)

pub some_part : (p : Part) → (p.len ≡ 0 → ⊥) → Some p ≡ some_place p
some_part p h = rw (ne_eqb p.len 0 h)

-- none is 0, and some is a number above it
pub number_none : (m : ℕ) → None ≡ some_method m → m ≡ 0
number_none m = by_test (eqb m 0) refl
  where
    by_test : (t : Bool) → eqb m 0 ≡ t → None ≡ cond t None (Some m) → m ≡ 0
    by_test true e h = eqb-true m 0 e
    by_test false e h = absurd (none_some h)

pub number_is : (n m : ℕ) → Some n ≡ some_method m → (n ≡ m) × (n ≡ 0 → ⊥)
number_is n m = by_test (eqb m 0) refl
  where
    by_test : (t : Bool) → eqb m 0 ≡ t → Some n ≡ cond t None (Some m) → (n ≡ m) × (n ≡ 0 → ⊥)
    by_test true e h = absurd (none_some (sym h))
    by_test false e h = let s = some_inj h in (s, λ z. eqb-false m 0 e (sym s ∙ z))

pub part_none : (p : Part) → None ≡ some_place p → p.len ≡ 0
part_none p = by_test (eqb p.len 0) refl
  where
    by_test : (t : Bool) → eqb p.len 0 ≡ t → None ≡ cond t None (Some p) → p.len ≡ 0
    by_test true e h = eqb-true p.len 0 e
    by_test false e h = absurd (none_some h)

pub part_is : (q p : Part) → Some q ≡ some_place p → (q ≡ p) × (q.len ≡ 0 → ⊥)
part_is q p = by_test (eqb p.len 0) refl
  where
    by_test : (t : Bool) → eqb p.len 0 ≡ t → Some q ≡ cond t None (Some p) → (q ≡ p) × (q.len ≡ 0 → ⊥)
    by_test true e h = absurd (none_some (sym h))
    by_test false e h = let s = some_inj h in (s, λ z. eqb-false p.len 0 e (sym (ap (λ (x : Part). x.len) s) ∙ z))

-- ---- common_part

module _ (server : List (List ℕ)) (s : List ℕ) (c : Cursor) (r : Next) where
  pub common_none : r ≡ next_name s c → r.found ≡ false → common_part c.at (names_from s c) server ≡ nothing
  common_none e h = ap (λ (l : List (List ℕ)). common_part c.at l server) (stopped s c r e h).1

  pub common_here : (f : Found s c r) → has f.name server ≡ true → common_part c.at (names_from s c) server ≡ r.name
  common_here f e =
      ap (λ (l : List (List ℕ)). common_part c.at l server) (name_first s c r f)
      ∙ ap (λ (t : Bool). cond t (part c.at (length f.name)) (common_part (c.at + length f.name + 1) (names_from s r.cursor) server)) e
      ∙ sym f.place

  pub common_later : (f : Found s c r) → has f.name server ≡ false
      → common_part r.cursor.at (names_from s r.cursor) server ≡ common_part c.at (names_from s c) server
  common_later f e =
      ap (λ (x : Cursor). common_part x.at (names_from s r.cursor) server) f.next
      ∙ sym
      (ap (λ (l : List (List ℕ)). common_part c.at l server) (name_first s c r f)
      ∙ ap (λ (t : Bool). cond t (part c.at (length f.name)) (common_part (c.at + length f.name + 1) (names_from s r.cursor) server)) e)

-- what is true of a common name's place in an input: its bytes are the name, and it does not pass the end
pub record Placed (s : List ℕ) (p : Part) (name : List ℕ) : Type 0 where
  pub bytes : bytes_at s p ≡ name
  pub within : p.start + p.len ≤ length s

-- what it is at the cursor behind the next name makes of what it is at this one
step : (server : List (List ℕ)) (s : List ℕ) (c : Cursor) (t : Bool) → (next_name s c).found ≡ t
    → ((next_name s c).found ≡ true → Placed s (common_part (next_name s c).cursor.at (names_from s (next_name s c).cursor) server) (common every_name (names_from s (next_name s c).cursor) server))
    → Placed s (common_part c.at (names_from s c) server) (common every_name (names_from s c) server)
step server s c false h k =
    let p = common_none server s c (next_name s c) refl h in
    record {
      bytes = ap (bytes_at s) p ∙ ap (λ (l : List (List ℕ)). common every_name l server) (sym (stopped s c (next_name s c) refl h).1);
      within = omega (arith, ap (λ (q : Part). q.start) p, ap (λ (q : Part). q.len) p);
    }
step server s c true h k = by_has (has f.name server) refl
  where
    f : Found s c (next_name s c)
    f = found s c (next_name s c) refl h

    name_is : (t : Bool) → has f.name server ≡ t
        → common every_name (names_from s c) server ≡ cond t f.name (common every_name (names_from s (next_name s c).cursor) server)
    name_is t e =
        ap (λ (l : List (List ℕ)). common every_name l server) (name_first s c (next_name s c) f)
        ∙ ap (λ (u : Bool). cond u f.name (common every_name (names_from s (next_name s c).cursor) server)) e

    by_has : (t : Bool) → has f.name server ≡ t → Placed s (common_part c.at (names_from s c) server) (common every_name (names_from s c) server)
    by_has true e =
        let p = common_here server s c (next_name s c) f e in
        record {
          bytes = ap (bytes_at s) p ∙ f.bytes ∙ sym (name_is true e);
          within = omega (arith, f.within, ap (λ (q : Part). q.start) p, ap (λ (q : Part). q.len) p);
        }
    by_has false e =
        let p = common_later server s c (next_name s c) f e in
        record {
          bytes = ap (bytes_at s) (sym p) ∙ (k h).bytes ∙ sym (name_is false e);
          within = omega (arith, (k h).within, ap (λ (q : Part). q.start) p, ap (λ (q : Part). q.len) p);
        }

placed_from : (server : List (List ℕ)) (s : List ℕ) (m : ℕ) (c : Cursor) → length (ahead s c) ≤ m
    → Placed s (common_part c.at (names_from s c) server) (common every_name (names_from s c) server)
placed_from server s zero c h =
    step server s c (next_name s c).found refl λ f.
    let l = name_less s c (next_name s c) (found s c (next_name s c) refl f) in
    let w : ⊥ = omega arith in
    absurd w
placed_from server s (suc m) c h =
    step server s c (next_name s c).found refl λ f.
    placed_from server s m (next_name s c).cursor (omega (arith, name_less s c (next_name s c) (found s c (next_name s c) refl f)))

-- the place of the first common name among those that a cursor yields
pub common_placed : (server : List (List ℕ)) (s : List ℕ) (c : Cursor)
    → Placed s (common_part c.at (names_from s c) server) (common every_name (names_from s c) server)
common_placed server s c = placed_from server s (length (ahead s c)) c (omega arith)

-- where every name ahead is good, the place's bytes are the first common name
pub common_part_lem : (s : List ℕ) (c : Cursor) (server : List (List ℕ)) → every good_name (ahead s c) ≡ true
    → bytes_at s (common_part c.at (ahead s c) server) ≡ common every_name (ahead s c) server
common_part_lem s c server e =
    let u = up_to_bad_all (ahead s c) e in
    ap (λ (l : List (List ℕ)). bytes_at s (common_part c.at l server)) (sym u)
    ∙ (common_placed server s c).bytes
    ∙ ap (λ (l : List (List ℕ)). common every_name l server) u
