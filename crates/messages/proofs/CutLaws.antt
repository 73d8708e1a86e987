-- Demand 2 for the position: an answer of 12 or 13 has it exactly where the payload breaks. Assumes nothing.
use Prim.Native.Nat.{ℕ, zero, suc, ◌+◌, ◌-◌, ◌≤◌, ◌<◌}
use mathlib.Core.Path.{◌≡◌, refl, sym, ap, subst, ◌∙◌}
use mathlib.Core.List.{List, [], ◌∷◌, ◌++◌, append_assoc, append-nil, nil≢cons, cons≢nil, head-eq_of_cons-eq, tail-eq_of_cons-eq}
use mathlib.Core.Bool.{Bool, true, false, cond}
use native.Mathlib.Omega.{arith}
use native.Mathlib.Nat.{add_assoc}
use lib.ListN.{length, get_or, take, drop, replicate, length-append, length-drop, take-append-drop}
use lib.Seq.{drop-cons, drop-drop, take-append_seam, drop-append_seam, length-take-le}
use lib.Dec.{ltb, leb, eqb}
use borrow.Author.Tests.{le-leb, lt-leb, leb-true, ltb-true, ltb-false, ne_eqb, eqb-true, eqb-false}
use Rattle.buffers.specs.Bytes.{Bytes}
use Rattle.wire.specs.Parts.{bytes_at}
use Rattle.wire.specs.Strings.{number32, string, whole, walk, read_string}
use Rattle.wire.specs.Strings.{StringRead}
use Rattle.wire.proofs.StringLaws.{length_string, whole_within, read_found}
use Rattle.wire.proofs.WalkLaws.{walk_within}
use Rattle.wire.proofs.RoundTrip.{number32_string, whole_string as string-whole, length_body, string_sound}
use Rattle.wire.proofs.StringsLaws.{bytes_drop}
use Rattle.messages.specs.Payload.{strings_end, fields_fit, message_cause}
use Rattle.messages.specs.Position.{breaks_at, Item, bytes, str, Whole, whole_bytes, whole_str, Wholes, no_field, field_then, fixed, items_of, position, CutAt, LeftOverAt, Ordered, PositionTold}
use Rattle.messages.specs.Messages.{init_layout, reply_layout}
use Rattle.messages.specs.declared.Layout.{Layout}
use Rattle.messages.proofs.PayloadLaws.{fit_not_strings, fit_not_behind, fit_is, fit_known, cause_cut, cause_more, cut_known, more_known}
use Rattle.messages.proofs.PositionLaws.{breaks_ahead, breaks_string, breaks_boolean, breaks_number, breaks_none}

by_test : {C : Type 0} (t : Bool) → (t ≡ true → C) → (t ≡ false → C) → C
by_test true a b = a refl
by_test false a b = b refl

by_order : {C : Type 0} (m n : ℕ) → (m < n → C) → (n ≤ m → C) → C
by_order m n a b = by_test (ltb m n) (λ e. a (ltb-true m n e)) (λ e. b (ltb-false m n e))

-- ---- a field at the front of a list

-- how many bytes it takes, and whether they are there
abbrev size : Item → List ℕ → ℕ
size (bytes n) s = n
size str s = 4 + number32 s

abbrev holds : Item → List ℕ → Bool
holds (bytes n) s = leb n (length s)
holds str s = whole s

size_within : (f : Item) (s : List ℕ) → holds f s ≡ true → size f s ≤ length s
size_within (bytes n) s h = leb-true n (length s) h
size_within str s h = whole_within s h

-- a field that is there is whole
front : (f : Item) (s : List ℕ) → Bytes s → holds f s ≡ true → Whole f (take (size f s) s)
front (bytes n) s y h = subst (λ (m : ℕ). Whole (bytes m) (take n s)) (length-take-le n s (leb-true n (length s) h)) (whole_bytes (take n s))
front str s y h =
    let b = bytes_at s (read_string s).body in
    let r = bytes_at s (read_string s).rest in
    let n = length_body s h in
    let e = string_sound s y (ap (λ (x : StringRead). x.number) (sym (read_found s h))) in
    let k : 4 + number32 s ≡ length (string b) = omega (arith, length_string b) in
    let f : string b ≡ take (4 + number32 s) s = sym (ap (take (4 + number32 s)) e ∙ ap (λ (m : ℕ). take m (string b ++ r)) k ∙ take-append_seam (string b) r) in
    subst (Whole str) f (whole_str b (omega (arith, y 0, y 1, y 2, y 3)))

-- and the other way round, whatever follows it
back : {f : Item} {w : List ℕ} (r : List ℕ) → Whole f w → (holds f (w ++ r) ≡ true) × (size f (w ++ r) ≡ length w)
back r (whole_bytes b) = (le-leb (length b) (length (b ++ r)) (omega (arith, length-append b r)), refl)
back r (whole_str b h) = (string-whole b r h, omega (arith, number32_string b r h, length_string b))

-- one that cannot be whole is not there
lacks : (f : Item) (s : List ℕ) → Bytes s → ((w r : List ℕ) → Whole f w → ¬ (s ≡ w ++ r)) → holds f s ≡ false
lacks f s y n =
    by_test (holds f s)
    (λ e. absurd (n (take (size f s) s) (drop (size f s) s) (front f s y e) (sym (take-append-drop (size f s) s))))
    (λ e. e)

-- ---- fields one behind another

-- whether all are there, and where the first that is not begins, or the last ends
record Run : Type 0 where
  all : Bool
  place : ℕ

abbrev ran : Bool → ℕ → Run
ran t n = record { all = t; place = n }

-- what follows the whole ones: no field, or one that is not there
data Next (s : List ℕ) : Bool → List Item → Type 0 where
  none : Next s true []
  short : {f : Item} {fs : List Item} → holds f s ≡ false → Next s false (f ∷ fs)

module _ (s : List ℕ) where
  abbrev run : ℕ → List Item → Run
  run at [] = ran true at
  run at (f ∷ fs) = cond (holds f (drop at s)) (run (at + size f (drop at s)) fs) (ran false at)

  record Split (at : ℕ) (fs : List Item) (r : Run) : Type 0 where
    ahead : List Item
    after : List Item
    fields_are : ahead ++ after ≡ fs
    written : List ℕ
    rest : List ℕ
    stands : drop at s ≡ written ++ rest
    place_is : r.place ≡ at + length written
    are_whole : Wholes ahead written
    next : Next rest r.all after

  -- stopped where it began
  halt : {at : ℕ} {fs : List Item} {t : Bool} → Next (drop at s) t fs → Split at fs (ran t at)
  halt {at} {fs} x =
      record { ahead = []; after = fs; fields_are = refl; written = []; rest = drop at s; stands = refl; place_is = omega arith; are_whole = no_field; next = x }

  module _ (y : Bytes s) where
    -- the fields that a run passed are whole
    split : (at : ℕ) (fs : List Item) → Split at fs (run at fs)
    split at [] = halt none
    split at (f ∷ fs) =
        let n = size f (drop at s) in
        let w = take n (drop at s) in
        let r = split (at + n) fs in
        let g = r.place_is in
        by_test (holds f (drop at s))
        (λ e. let k = length-take-le n (drop at s) (size_within f (drop at s) e) in
        rw e (record {
          ahead = f ∷ r.ahead;
          after = r.after;
          fields_are = ap (λ (x : List Item). f ∷ x) r.fields_are;
          written = w ++ r.written;
          rest = r.rest;
          stands =
              sym (take-append-drop n (drop at s)) ∙ ap (λ (x : List ℕ). w ++ x) (drop-drop n at s ∙ r.stands) ∙ sym (append_assoc w r.written r.rest);
          place_is = omega (arith, length-append w r.written);
          are_whole = field_then (front f (drop at s) (bytes_drop s at y) e) r.are_whole;
          next = r.next;
        }))
        (λ e. rw e (halt (short e)))

  -- and a run passes those that are
  runs : (at n : ℕ) {fs gs : List Item} {ws : List ℕ} (rest : List ℕ) {t : Bool} → Wholes fs ws → Next rest t gs → drop at s ≡ ws ++ rest → n ≡ at + length ws
      → run at (fs ++ gs) ≡ ran t n
  runs at n rest no_field none e k = let z : at ≡ n = omega arith in ap (ran true) z
  runs at n rest no_field (short {f} h) e k =
      let z : at ≡ n = omega arith in
      rw (ap (holds f) e ∙ h) (ap (ran false) z)
  runs at n {gs} rest (field_then {f} {fs} {w} {ws} x v) g e k =
      let d = e ∙ append_assoc w ws rest in
      let b = back (ws ++ rest) x in
      let z : size f (drop at s) ≡ length w = ap (size f) d ∙ b.1 in
      let m = length-append w ws in
      rw (ap (holds f) d ∙ b.0)
      (runs (at + size f (drop at s)) n rest v g
      (sym (drop-drop (size f (drop at s)) at s) ∙ (λ i. drop (z i) (d i)) ∙ drop-append_seam w (ws ++ rest)) (omega arith))

  -- ---- the runs of a layout

  -- what was found, and then these fields
  abbrev then : List Item → Run → Run
  then fs r = cond r.all (run r.place fs) r

  -- over fields and then others; over strings; over bytes
  joined : (at : ℕ) (fs gs : List Item) → run at (fs ++ gs) ≡ then gs (run at fs)
  joined at [] gs = refl
  joined at (f ∷ fs) gs =
      let r = joined (at + size f (drop at s)) fs gs in
      by_test (holds f (drop at s)) (λ e. rw e r) (λ e. rw e)

  walked : (at k : ℕ) → run at (replicate k str) ≡ ran (eqb (walk s at k).number 0) (walk s at k).place
  walked at zero = refl
  walked at (suc k) =
      let n = number32 (drop at s) in
      let r = ap (λ (m : ℕ). run m (replicate k str)) (sym (add_assoc at 4 n)) ∙ walked (at + 4 + n) k in
      by_test (whole (drop at s)) (λ e. rw e r) (λ e. rw e)

  fixed_fits : (at n m : ℕ) → m ≡ at + n → m ≤ length s → run at (fixed n) ≡ ran true m
  fixed_fits at zero m e h = let z : at ≡ m = omega arith in ap (ran true) z
  fixed_fits at (suc n) m e h =
      rw (le-leb (suc n) (length (drop at s)) (omega (arith, length-drop at s))) (ap (ran true) (sym e))

  fixed_short : (at n : ℕ) → at ≤ length s → length s < at + n → run at (fixed n) ≡ ran false at
  fixed_short at zero h k = let w : ⊥ = omega arith in absurd w
  fixed_short at (suc n) h k = rw (lt-leb (suc n) (length (drop at s)) (omega (arith, length-drop at s)))

module _ (l : Layout) (o : Ordered l) (p : List ℕ) (y : Bytes p) where
  -- the strings do not end ahead of where they begin
  ends_behind : l.first ≤ strings_end l p
  ends_behind = omega (arith, (split p y l.first (replicate l.count str)).place_is, ap (λ (r : Run). r.place) (walked p l.first l.count))

  -- so where all fits, the position is behind the last field
  fits_end : fields_fit l p ≡ true → strings_end l p + l.behind ≡ breaks_at l p
  fits_end e =
      let f = fit_known l p e in
      let k = f.1 in
      breaks_none l p (omega (arith, ends_behind)) f.0 (omega (arith, o.boolean_behind)) k

  -- the fields are run through just as `message_cause` and `breaks_at` say
  found : 1 ≤ length p → run p 1 (items_of l) ≡ ran (fields_fit l p) (breaks_at l p)
  found a =
      joined p 1 (fixed (l.first - 1) ++ R ++ B) N
      ∙ ap (then p N) (joined p 1 (fixed (l.first - 1) ++ R) B ∙ ap (then p B) (joined p 1 (fixed (l.first - 1)) R))
      ∙ by_order (length p) l.first
      (λ h. let n = ends_behind in
      ap (λ (r : Run). then p N (then p B (then p R r))) (fixed_short p 1 (l.first - 1) a (omega arith))
      ∙ answer false 1 (fit_not_behind l p (omega arith)) (breaks_ahead l p h))
      (λ h. let n = o.behind_number in
      ap (λ (r : Run). then p N (then p B (then p R r))) (fixed_fits p 1 (l.first - 1) l.first (omega arith) h)
      ∙ ap (λ (r : Run). then p N (then p B r)) (walked p l.first l.count)
      ∙ by_test (eqb (walk p l.first l.count).number 0)
      (λ t. rw t (behind h (eqb-true (walk p l.first l.count).number 0 t)))
      (λ t. let f = eqb-false (walk p l.first l.count).number 0 t in rw t (answer false E (fit_not_strings l p f) (breaks_string l p h f))))
    where
      R : List Item
      R = replicate l.count str

      B : List Item
      B = fixed l.boolean

      N : List Item
      N = fixed (l.behind - l.boolean)

      E : ℕ
      E = strings_end l p

      answer : (t : Bool) (n : ℕ) → fields_fit l p ≡ t → n ≡ breaks_at l p → ran t n ≡ ran (fields_fit l p) (breaks_at l p)
      answer t n f b = λ i. ran (sym f i) (b i)

      behind : l.first ≤ length p → (walk p l.first l.count).number ≡ 0 → then p N (run p E B) ≡ ran (fields_fit l p) (breaks_at l p)
      behind a w =
          let n : E ≤ length p = walk_within p l.first l.count a in
          let m = o.boolean_behind in
          by_order (length p) (E + l.boolean)
          (λ h. ap (then p N) (fixed_short p E l.boolean n h) ∙ answer false E (fit_not_behind l p (omega arith)) (breaks_boolean l p a w h))
          (λ h. ap (then p N) (fixed_fits p E l.boolean (E + l.boolean) refl h)
          ∙ by_order (length p) (E + l.behind)
          (λ k. fixed_short p (E + l.boolean) (l.behind - l.boolean) h (omega arith) ∙ answer false (E + l.boolean) (fit_not_behind l p k) (breaks_number l p a w h k))
          (λ k. fixed_fits p (E + l.boolean) (l.behind - l.boolean) (E + l.behind) (omega arith) k ∙ answer true (E + l.behind) (fit_is l p w k) (breaks_none l p a w h k)))

  -- what a run finds is the answer
  answered : {t : Bool} {n : ℕ} → 1 ≤ length p → run p 1 (items_of l) ≡ ran t n → (fields_fit l p ≡ t) × (breaks_at l p ≡ n)
  answered a e = let q = sym (found a) ∙ e in (ap (λ (r : Run). r.all) q, ap (λ (r : Run). r.place) q)

  -- and so it parts the payload
  parted : {t : Bool} → 1 ≤ length p → fields_fit l p ≡ t → Split p 1 (items_of l) (ran t (breaks_at l p))
  parted a f = subst (Split p 1 (items_of l)) (found a ∙ ap (λ (t : Bool). ran t (breaks_at l p)) f) (split p y 1 (items_of l))

-- a payload begins with its message number
led : {b : ℕ} {p x : List ℕ} → 1 ≤ length p → get_or p 0 0 ≡ b → drop 1 p ≡ x → p ≡ b ∷ x
led {p} a b e = drop-cons p 0 0 a ∙ (λ i. b i ∷ e i)

-- ---- the laws

module _ (l : Layout) (o : Ordered l) (p : List ℕ) where
  -- 12: the fields ahead of the position are whole, and the one there is not
  pub cut_at : Bytes p → message_cause l p ≡ 12 → CutAt l p (breaks_at l p)
  cut_at y e = by r.next r.fields_are
    where
      r : Split p 1 (items_of l) (ran false (breaks_at l p))
      r = let k = cut_known l p e in parted l o p y k.0 k.2

      by : {fs : List Item} → Next r.rest false fs → r.ahead ++ fs ≡ items_of l → CutAt l p (breaks_at l p)
      by (short {f} {fs} h) g =
          let k = cut_known l p e in
          record {
            ahead = r.ahead;
            cut = f;
            after = fs;
            fields_are = g;
            written = r.written;
            rest = r.rest;
            payload_is = led k.0 k.1 r.stands;
            position_is = r.place_is;
            are_whole = r.are_whole;
            is_not = λ w q x d. let b = sym h ∙ ap (holds f) d ∙ (back q x).0 in let z : ◌≡◌ {A = ℕ} 0 1 = cc in omega arith;
          }

  -- 13: all fields are whole, and a byte follows them
  pub left_over_at : Bytes p → message_cause l p ≡ 13 → LeftOverAt l p (breaks_at l p)
  left_over_at y e =
      let k = more_known l p e in
      let r = parted l o p y k.0 k.2 in
      let q = led k.0 k.1 r.stands in
      let n = r.place_is in
      let m = fits_end l o p y k.2 in
      record {
        written = r.written;
        rest = r.rest;
        payload_is = q;
        position_is = r.place_is;
        are_whole = by r.next r.fields_are r.are_whole;
        some = omega (arith, ap length q, length-append r.written r.rest, k.3);
      }
    where
      by : {s ws : List ℕ} {fs gs : List Item} → Next s true gs → fs ++ gs ≡ items_of l → Wholes fs ws → Wholes (items_of l) ws
      by {ws} {fs} none e w = subst (λ (x : List Item). Wholes x ws) (sym (append-nil fs) ∙ e) w

  -- and the other way round: a payload of no more than the most bytes that breaks there is answered so
  pub cut_found : (at : ℕ) → Bytes p → length p ≤ l.most → CutAt l p at → (message_cause l p ≡ 12) × (breaks_at l p ≡ at)
  cut_found at y h c =
      let q = ap length c.payload_is in
      let v = l.byte ∷ c.written in
      let u = subst Bytes (ap (drop (length v)) c.payload_is ∙ drop-append_seam v c.rest) (bytes_drop p (length v) y) in
      let s = short {f = c.cut} {fs = c.after} (lacks c.cut c.rest u c.is_not) in
      let a = answered l o p y (omega arith) (ap (run p 1) (sym c.fields_are) ∙ runs p 1 at c.rest c.are_whole s (ap (drop 1) c.payload_is) c.position_is) in
      (cause_cut l p (omega arith) h (ap (λ (x : List ℕ). get_or x 0 0) c.payload_is) a.0, a.1)

  pub left_over_found : (at : ℕ) → Bytes p → length p ≤ l.most → LeftOverAt l p at → (message_cause l p ≡ 13) × (breaks_at l p ≡ at)
  left_over_found at y h c =
      let q = ap length c.payload_is in
      let m = length-append c.written c.rest in
      let a = answered l o p y (omega arith) (ap (run p 1) (sym (append-nil (items_of l))) ∙ runs p 1 at c.rest c.are_whole none (ap (drop 1) c.payload_is) c.position_is) in
      let n = fits_end l o p y a.0 in
      (cause_more l p (omega arith) h (ap (λ (x : List ℕ). get_or x 0 0) c.payload_is) a.0 (omega (arith, a.1, c.position_is, c.some)), a.1)

-- where an answer of 12 or 13 is the payload's
pub position_told : (l : Layout) → Ordered l → (p : List ℕ) → Bytes p → (n : ℕ) → (11 < n → n < 14 → message_cause l p ≡ n) → PositionTold l p n (position n l p)
unfolding position
position_told l o p y n h = record {
  of_12 = λ e. subst (λ (m : ℕ). CutAt l p (position m l p)) (sym e) (cut_at l o p y (h (omega arith) (omega arith) ∙ e));
  of_13 = λ e. subst (λ (m : ℕ). LeftOverAt l p (position m l p)) (sym e) (left_over_at l o p y (h (omega arith) (omega arith) ∙ e));
  of_others = λ a b. rw (ne_eqb n 12 a, ne_eqb n 13 b);
}

-- the layouts of INIT and REPLY
pub init_ordered : Ordered init_layout
init_ordered = record { behind_number = omega arith; boolean_behind = omega arith }

pub reply_ordered : Ordered reply_layout
reply_ordered = record { behind_number = omega arith; boolean_behind = omega arith }

-- ---- where it can stand: behind the message number, with 12 at the payload's end at most, with 13 ahead of it

pub cut_within : {l : Layout} {p : List ℕ} {at : ℕ} → CutAt l p at → (1 ≤ at) × (at ≤ length p)
cut_within {l} c =
    let n = ap length c.payload_is in
    (omega (arith, c.position_is), omega (arith, c.position_is, length-append c.written c.rest))

pub left_over_within : {l : Layout} {p : List ℕ} {at : ℕ} → LeftOverAt l p at → (1 ≤ at) × (at < length p)
left_over_within {l} c =
    let n = ap length c.payload_is in
    (omega (arith, c.position_is), omega (arith, c.position_is, c.some, length-append c.written c.rest))

-- ---- which field it is: no two fields of a payload are the cut one, and no two positions

-- what stops the whole fields: there is no other, or the next one cannot be whole
data Stop (x : List ℕ) : List Item → Type 0 where
  at_end : Stop x []
  at_cut : {f : Item} {fs : List Item} → ((w r : List ℕ) → Whole f w → ¬ (x ≡ w ++ r)) → Stop x (f ∷ fs)

-- no whole field stands where they stop
stopped : {f : Item} {fs hs : List Item} {w x : List ℕ} (r : List ℕ) → Stop x hs → hs ≡ f ∷ fs → Whole f w → ¬ (x ≡ w ++ r)
stopped r at_end e v d = nil≢cons e
stopped {w} r (at_cut n) e v d = n w r (subst (λ (g : Item). Whole g w) (sym (head-eq_of_cons-eq e)) v) d

-- a field takes the same bytes whatever follows it
alike : {f g : Item} {u v : List ℕ} (x y : List ℕ) → f ≡ g → Whole f u → Whole g v → u ++ x ≡ v ++ y → (length u ≡ length v) × (x ≡ y)
alike {u} {v} x y e a b d =
    let n : length u ≡ length v = sym (back x a).1 ∙ (λ i. size (e i) (d i)) ∙ (back y b).1 in
    (n, sym (drop-append_seam u x) ∙ (λ i. drop (n i) (d i)) ∙ drop-append_seam v y)

-- and so do the fields of one list, up to where they stop
meet : {fs gs hs ks : List Item} {u v : List ℕ} (x y : List ℕ) → Wholes fs u → Wholes gs v → Stop x hs → Stop y ks → fs ++ hs ≡ gs ++ ks → u ++ x ≡ v ++ y
    → (fs ≡ gs) × (hs ≡ ks) × (length u ≡ length v)
meet x y no_field no_field a b e d = (refl, e, refl)
meet x y no_field (field_then {w} {ws} v vs) a b e d = absurd (stopped (ws ++ y) a e v (d ∙ append_assoc w ws y))
meet x y (field_then {w} {ws} v vs) no_field a b e d = absurd (stopped (ws ++ x) b (sym e) v (sym d ∙ append_assoc w ws x))
meet x y (field_then {w = w} {ws = ws} v vs) (field_then {w = t} {ws = ts} z zs) a b e d =
    let h = head-eq_of_cons-eq e in
    let q = alike (ws ++ x) (ts ++ y) h v z (sym (append_assoc w ws x) ∙ d ∙ append_assoc t ts y) in
    let r = meet x y vs zs a b (tail-eq_of_cons-eq e) q.1 in
    ((λ i. h i ∷ r.0 i), r.1, omega (arith, length-append w ws, length-append t ts))

pub cut_which : (l : Layout) (p : List ℕ) {a b : ℕ} (c : CutAt l p a) (d : CutAt l p b) → (c.ahead ≡ d.ahead) × (c.cut ≡ d.cut) × (a ≡ b)
cut_which l p c d =
    let q = tail-eq_of_cons-eq (sym c.payload_is ∙ d.payload_is) in
    let r = meet c.rest d.rest c.are_whole d.are_whole (at_cut c.is_not) (at_cut d.is_not) (c.fields_are ∙ sym d.fields_are) q in
    (r.0, head-eq_of_cons-eq r.1, omega arith)

-- a payload that is cut has no bytes left over
pub cut_or_over : (l : Layout) (p : List ℕ) {a b : ℕ} → CutAt l p a → ¬ (LeftOverAt l p b)
cut_or_over l p c d =
    let q = tail-eq_of_cons-eq (sym c.payload_is ∙ d.payload_is) in
    let r = meet c.rest d.rest c.are_whole d.are_whole (at_cut c.is_not) at_end (c.fields_are ∙ sym (append-nil (items_of l))) q in
    cons≢nil r.1
