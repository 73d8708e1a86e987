-- Laws of `specs/Reader.antt`: a law for each answer, and what a caller knows by the number. Assumes nothing.
use Prim.Native.Nat.{ℕ, ◌+◌, ◌-◌, ◌≤◌, ◌<◌}
use mathlib.Core.Path.{◌≡◌, refl, sym, ap, subst, ◌∙◌}
use mathlib.Core.List.{List}
use mathlib.Core.Bool.{Bool, true, false, cond, not, ◌||◌}
use native.Mathlib.Omega.{arith}
use lib.ListN.{length, get_or}
use lib.Dec.{eqb}
use borrow.Author.Tests.{eq-eqb, ne_eqb, eqb-true, eqb-false}
use Rattle.limits.specs.Limits.{kexinit_most, cookie_size, list_count}
use Rattle.limits.specs.Range.{within}
use Rattle.limits.proofs.RangeLaws.{within_least, within_most}
use Rattle.buffers.specs.Bytes.{Bytes}
use Rattle.wire.specs.Causes.{cause_unless}
use Rattle.wire.specs.Parts.{part}
use Rattle.wire.specs.Strings.{number_at}
use Rattle.wire.specs.declared.Part.{Part}
use Rattle.wire.proofs.CauseLaws.{unless_holds, unless_fails, unless_none}
use Rattle.wire.proofs.StringsLaws.{part_within}
use Rattle.wire.proofs.WalkLaws.{whole_behind, walk_whole}
use Rattle.messages.specs.Position.{breaks_at, position, CutAt, LeftOverAt, Ordered, PositionTold}
use Rattle.messages.proofs.PayloadLaws.{cause_known}
use Rattle.messages.proofs.PositionLaws.{position_some, position_none}
use Rattle.messages.proofs.CutLaws.{cut_found, left_over_found, position_told}
use Rattle.names.specs.Cursor.{exhausted, cursor_of, ahead}
use Rattle.names.specs.declared.Cursor.{Cursor}
use Rattle.names.proofs.CursorLaws.{ahead_list}
use Rattle.kexinit.specs.Reader.{kexinit_layout, kexinit_cause, boolean_at, list_part, list_names, head_at, head_refused, head_by, open_head, open_cause, open_list, Head, Opened}

-- KEXINIT's layout, as a reader meets it
kexinit_ordered : Ordered kexinit_layout
kexinit_ordered = record { behind_number = omega arith; boolean_behind = omega arith }

-- ---- head_by

pub head_refused_lem : (k : ℕ) (p : List ℕ) → (k ≡ 0 → ⊥) → head_refused k (position k kexinit_layout p) ≡ head_by k p
unfolding head_by
head_refused_lem k p z = rw (ne_eqb k 0 z)

-- of another number than 12 and 13
pub head_other : (k : ℕ) (p : List ℕ) → (k ≡ 0 → ⊥) → eqb k 12 || eqb k 13 ≡ false → head_refused k 0 ≡ head_by k p
head_other k p z h = ap (head_refused k) (position_none kexinit_layout p k h) ∙ head_refused_lem k p z

pub head_found : (k : ℕ) (p : List ℕ) → k ≡ 0 → head_at p ≡ head_by k p
unfolding head_by
head_found k p z = rw z

-- the number is the cause
pub head_number : (k : ℕ) (p : List ℕ) → (head_by k p).number ≡ k
head_number k p = by_test (eqb k 0) refl
  where
    by_test : (t : Bool) → eqb k 0 ≡ t → (head_by k p).number ≡ k
    by_test true e = let z = eqb-true k 0 e in sym (ap (λ (h : Head). h.number) (head_found k p z)) ∙ sym z
    by_test false e = sym (ap (λ (h : Head). h.number) (head_refused_lem k p (eqb-false k 0 e)))

-- and the position is the number's
head_position : (k : ℕ) (p : List ℕ) → (head_by k p).position ≡ position k kexinit_layout p
head_position k p = by_test (eqb k 0) refl
  where
    by_test : (t : Bool) → eqb k 0 ≡ t → (head_by k p).position ≡ position k kexinit_layout p
    by_test true e =
        let z = eqb-true k 0 e in
        sym (ap (λ (h : Head). h.position) (head_found k p z)) ∙ position_none kexinit_layout p 0 refl ∙ ap (λ (m : ℕ). position m kexinit_layout p) (sym z)
    by_test false e = sym (ap (λ (h : Head). h.position) (head_refused_lem k p (eqb-false k 0 e)))

-- a head as the code answers it
pub head_read : (p : List ℕ) (place reserved : ℕ) → kexinit_cause p ≡ 0 → place ≡ boolean_at p → reserved ≡ number_at p (place + 1)
    → ◌≡◌ {A = Head} (record { number = 0; cookie = part 1 cookie_size; follows = not (eqb (get_or p place 0) 0); reserved = reserved; position = 0 }) (open_head p)
head_read p place reserved e h r =
    let v : reserved ≡ number_at p (boolean_at p + 1) = r ∙ ap (λ (x : ℕ). number_at p (x + 1)) h in
    (λ i. record { number = 0; cookie = part 1 cookie_size; follows = not (eqb (get_or p (h i) 0) 0); reserved = v i; position = 0 })
    ∙ head_found (kexinit_cause p) p e

-- ---- cursor_of a list

pub cursor_empty : (l : Part) → l.len ≡ 0 → exhausted ≡ cursor_of l
cursor_empty l z = rw (eq-eqb l.len 0 z)

pub cursor_some : (l : Part) → (l.len ≡ 0 → ⊥) → ◌≡◌ {A = Cursor} (record { at = l.start; end = l.start + l.len }) (cursor_of l)
cursor_some l z = rw (ne_eqb l.len 0 z)

-- it has the list's names ahead
pub list_ahead : (p : List ℕ) (n : ℕ) → ahead p (cursor_of (list_part p n)) ≡ list_names p n
list_ahead p n = ahead_list p (list_part p n) (part_within p 17 (n - 1))

-- it stands at the list's beginning, unless the list is empty
pub list_at : (p : List ℕ) (n : ℕ) → 0 < (list_part p n).len → (cursor_of (list_part p n)).at ≡ (list_part p n).start
list_at p n l = sym (ap (λ (x : Cursor). x.at) (cursor_some (list_part p n) (λ (z : (list_part p n).len ≡ 0). omega arith)))

-- ---- open_cause

module _ (p : List ℕ) (n : ℕ) where
  -- a list number outside 1 to 10
  pub open_other : within 1 list_count n ≡ false → open_cause p n ≡ 4
  unfolding open_cause
  open_other h = unless_fails _ 4 _ h

  -- for one of the ten lists the payload alone is judged
  pub open_good : within 1 list_count n ≡ true → open_cause p n ≡ kexinit_cause p
  unfolding open_cause
  open_good h = unless_holds _ 4 _ h

  cause_zero : open_cause p n ≡ 0 → (1 ≤ n) × (n ≤ list_count) × (kexinit_cause p ≡ 0)
  unfolding open_cause
  cause_zero e =
      let a = unless_none (within 1 list_count n) 4 _ (omega arith) e in
      (within_least 1 list_count n a.0, within_most 1 list_count n a.0, a.1)

  -- ---- open_list

  -- a refusal
  pub open_refused : (h : Head) (k : ℕ) → open_cause p n ≡ k → (k ≡ 0 → ⊥) → h ≡ head_by k p → ◌≡◌ {A = Opened} (record { head = h; cursor = exhausted }) (open_list p n)
  unfolding open_list
  open_refused h k e z q =
      let c : exhausted ≡ cond (eqb k 0) (cursor_of (list_part p n)) exhausted = rw (ne_eqb k 0 z) in
      (λ i. record { head = q i; cursor = c i }) ∙ ap (λ (m : ℕ). record { head = head_by m p; cursor = cond (eqb m 0) (cursor_of (list_part p n)) exhausted }) (sym e)

  -- all of an opened payload
  pub open_found : (h : Head) (c : Cursor) → open_cause p n ≡ 0 → h ≡ open_head p → c ≡ cursor_of (list_part p n) → ◌≡◌ {A = Opened} (record { head = h; cursor = c }) (open_list p n)
  unfolding open_list
  open_found h c e q r =
      let k : kexinit_cause p ≡ open_cause p n = (cause_zero e).2 ∙ sym e in
      let f : cursor_of (list_part p n) ≡ cond (eqb (open_cause p n) 0) (cursor_of (list_part p n)) exhausted = rw e in
      λ i. record { head = (q ∙ ap (λ (m : ℕ). head_by m p) k) i; cursor = (r ∙ f) i }

  -- the number that opening answers is its cause
  pub open_cause_lem : (open_list p n).head.number ≡ open_cause p n
  unfolding open_list
  open_cause_lem = head_number (open_cause p n) p

  -- what is known where opening answers 0
  pub open_zero : (open_list p n).head.number ≡ 0 → (1 ≤ n) × (n ≤ list_count) × (kexinit_cause p ≡ 0)
  open_zero e = cause_zero (sym open_cause_lem ∙ e)

  -- 12 and 13 are the payload's
  open_broken : 11 < open_cause p n → kexinit_cause p ≡ open_cause p n
  unfolding open_cause cause_unless
  open_broken a = by_test (within 1 list_count n) a
    where
      by_test : (t : Bool) → 11 < cond t (kexinit_cause p) 4 → kexinit_cause p ≡ cond t (kexinit_cause p) 4
      by_test true h = refl
      by_test false h = let w : ⊥ = omega arith in absurd w

  answered_so : (k at : ℕ) → within 1 list_count n ≡ true → eqb k 12 || eqb k 13 ≡ true → kexinit_cause p ≡ k → breaks_at kexinit_layout p ≡ at
      → ((open_list p n).head.number ≡ k) × ((open_list p n).head.position ≡ at)
  unfolding open_list
  answered_so k at w b e f =
      let g = open_good w ∙ e in
      (head_number (open_cause p n) p ∙ g, head_position (open_cause p n) p ∙ ap (λ (m : ℕ). position m kexinit_layout p) g ∙ sym (position_some kexinit_layout p k b) ∙ f)

  -- and it tells where a payload breaks: demand 2 for the position, where KEXINIT is read
  pub open_told : Bytes p → PositionTold kexinit_layout p (open_list p n).head.number (open_list p n).head.position
  unfolding open_list
  open_told y =
      let k = open_cause p n in
      let e : (head_by k p).position ≡ position k kexinit_layout p = head_position k p in
      subst (λ (m : ℕ). PositionTold kexinit_layout p m (head_by k p).position) (sym (head_number k p))
      (subst (PositionTold kexinit_layout p k) (sym e)
      (position_told kexinit_layout kexinit_ordered p y k (λ a b. open_broken a)))

  -- and the other way round: for one of the ten lists a payload that breaks is answered so
  pub open_cut : (at : ℕ) → Bytes p → within 1 list_count n ≡ true → length p ≤ kexinit_most → CutAt kexinit_layout p at → ((open_list p n).head.number ≡ 12) × ((open_list p n).head.position ≡ at)
  open_cut at y w h c = let f = cut_found kexinit_layout kexinit_ordered p at y h c in answered_so 12 at w refl f.0 f.1

  pub open_over : (at : ℕ) → Bytes p → within 1 list_count n ≡ true → length p ≤ kexinit_most → LeftOverAt kexinit_layout p at → ((open_list p n).head.number ≡ 13) × ((open_list p n).head.position ≡ at)
  open_over at y w h c = let f = left_over_found kexinit_layout kexinit_ordered p at y h c in answered_so 13 at w refl f.0 f.1

  -- the cursor of a payload that was opened
  pub open_cursor : open_cause p n ≡ 0 → (open_list p n).cursor ≡ cursor_of (list_part p n)
  unfolding open_list
  open_cursor e = rw e

  -- the cookie lies within the payload, a refusal's too
  pub cookie_within : (open_list p n).head.cookie.start + (open_list p n).head.cookie.len ≤ length p
  unfolding open_list
  cookie_within = by_test (eqb (open_cause p n) 0) refl
    where
      by_test : (t : Bool) → eqb (open_cause p n) 0 ≡ t → (head_by (open_cause p n) p).cookie.start + (head_by (open_cause p n) p).cookie.len ≤ length p
      by_test true e =
          let z = eqb-true (open_cause p n) 0 e in
          let w = whole_behind p 17 (walk_whole p 17 0 10 (omega arith) (cause_known kexinit_layout p (cause_zero z).2).walked) in
          let o = sym (head_found (open_cause p n) p z) in
          omega (arith, ap (λ (x : Head). x.cookie.start) o, ap (λ (x : Head). x.cookie.len) o)
      by_test false e =
          let o = sym (head_refused_lem (open_cause p n) p (eqb-false (open_cause p n) 0 e)) in
          omega (arith, ap (λ (x : Head). x.cookie.start) o, ap (λ (x : Head). x.cookie.len) o)
