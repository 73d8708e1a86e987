-- Laws of the writer: its running total, and the message as it is laid piece by piece. Assumes nothing.
use Prim.Native.Nat.{ℕ, ◌+◌, ◌≤◌, ◌<◌}
use mathlib.Core.Path.{◌≡◌, refl, sym, ap, ◌∙◌}
use mathlib.Core.List.{List, [], ◌∷◌, ◌++◌}
use mathlib.Core.Bool.{Bool, true, false, cond, ◌&&◌, false≢true}
use native.Mathlib.Omega.{arith}
use lib.ListN.{length, get_or, drop, set, length-append, length-set, drop_of_length-le}
use lib.Seq.{drop-cons}
use native.Mathlib.Numerals.{add-one}
use Rattle.std.specs.Borrow.{Bor}
use Rattle.std.specs.Prelude.{Option, Some, None}
use Rattle.std.specs.Option.{is_some, unwrap_or}
use lib.Dec.{leb, eqb}
use borrow.Author.Tests.{le-leb, lt-leb, leb-true, leb-false, lt-ltb, le-ltb, eq-eqb, ne_eqb}
use Rattle.limits.specs.Limits.{kexinit_most, cookie_size}
use Rattle.limits.proofs.BoolLaws.{and_false}
use Rattle.buffers.specs.Bytes.{onto, over, laid}
use Rattle.wire.specs.Strings.{bytes32, string, strings}
use Rattle.buffers.proofs.ByteLaws.{over_zero, length_over, over_over, over_one, laid_fits, length_laid, laid_nil, laid_laid}
use Rattle.wire.proofs.CauseLaws.{if_holds, if_fails, unless_holds, unless_fails}
use Rattle.limits.specs.Every.{every}
use Rattle.names.specs.Names.{good_list}
use Rattle.proposal.specs.Proposal.{Kexinit, kexinit_of, kexinit, write_cause}
use Rattle.proposal.specs.Total.{bodies, with_list, total, some_total}
use Rattle.wire.proofs.StringsLaws.{length_strings}

-- ---- one list

module _ (t : ℕ) (l : List ℕ) where
  pub with_past : kexinit_most < t + 4 + length l → kexinit_most + 1 ≡ with_list t l
  unfolding with_list
  with_past h = rw (lt-leb (t + 4 + length l) kexinit_most h)

  pub with_bad : (g : Bool) → g ≡ good_list l → g ≡ false → kexinit_most + 1 ≡ with_list t l
  unfolding with_list
  with_bad g e f = rw (sym e ∙ f, and_false (leb (t + 4 + length l) kexinit_most))

  pub with_good : (g : Bool) → g ≡ good_list l → g ≡ true → t + 4 + length l ≤ kexinit_most → t + 4 + length l ≡ with_list t l
  unfolding with_list
  with_good g e f h = rw (le-leb (t + 4 + length l) kexinit_most h, sym e ∙ f)

-- ---- a total where there is one

pub total_within : (t : ℕ) → t ≤ kexinit_most → Some t ≡ some_total t
total_within t h = rw (le-leb t kexinit_most h)

pub total_above : (t : ℕ) → kexinit_most < t → None ≡ some_total t
total_above t h = rw (lt-leb t kexinit_most h)

pub total_none : (t : ℕ) → None ≡ some_total t → kexinit_most < t
total_none t = by_test (leb t kexinit_most) refl
  where
    by_test : (b : Bool) → leb t kexinit_most ≡ b → None ≡ cond b (Some t) None → kexinit_most < t
    by_test true e h = absurd (false≢true (ap is_some h))
    by_test false e h = leb-false t kexinit_most e

pub total_some : (n t : ℕ) → Some n ≡ some_total t → (n ≡ t) × (t ≤ kexinit_most)
total_some n t = by_test (leb t kexinit_most) refl
  where
    by_test : (b : Bool) → leb t kexinit_most ≡ b → Some n ≡ cond b (Some t) None → (n ≡ t) × (t ≤ kexinit_most)
    by_test true e h = (ap (λ (o : Option ℕ). unwrap_or o n) h, leb-true t kexinit_most e)
    by_test false e h = absurd (false≢true (sym (ap is_some h)))

-- ---- a run of lists

-- the lists that are left from one on
abbrev pub none_lent : Bor (List ℕ)
none_lent = record { ref_ptr = (0, 0); now = [] }

pub bodies_left : (s : List (Bor (List ℕ))) (i : ℕ) → i < length s → bodies (drop i s) ≡ (get_or s i none_lent).now ∷ bodies (drop (i + 1) s)
bodies_left s i h = rw (add-one, drop-cons s i none_lent h)

pub bodies_done : (s : List (Bor (List ℕ))) (i : ℕ) → length s ≤ i → bodies (drop i s) ≡ []
bodies_done s i h = ap bodies (drop_of_length-le s {i = i} h)

pub total_past : (t : ℕ) (ls : List (List ℕ)) → kexinit_most < t → kexinit_most < total t ls
total_past t [] h = h
total_past t (l ∷ ls) h = total_past (with_list t l) ls (omega (arith, with_past t l (omega arith)))

-- what a total says: at most 4,096 only where it is the true sum and every list is good
pub total_good : (t : ℕ) (ls : List (List ℕ)) → total t ls ≤ kexinit_most → (every good_list ls ≡ true) × (total t ls ≡ t + length (strings ls))
total_good t [] h = (refl, omega arith)
total_good t (l ∷ ls) h = by_test (good_list l) refl (leb (t + 4 + length l) kexinit_most) refl (total_good (with_list t l) ls h)
  where
    by_test : (g : Bool) → good_list l ≡ g → (f : Bool) → leb (t + 4 + length l) kexinit_most ≡ f
        → (every good_list ls ≡ true) × (total (with_list t l) ls ≡ with_list t l + length (strings ls))
        → (g && every good_list ls ≡ true) × (total (with_list t l) ls ≡ t + length (strings (l ∷ ls)))
    by_test true g true f e =
        let w = with_good t l (good_list l) refl g (leb-true (t + 4 + length l) kexinit_most f) in
        let n = length_strings l ls in
        (e.0, e.1 ∙ omega arith)
    by_test false g f' f e = let w = with_bad t l (good_list l) refl g in let v : ⊥ = omega (arith, total_past (with_list t l) ls (omega arith)) in absurd v
    by_test true g false f e =
        let w = with_past t l (leb-false (t + 4 + length l) kexinit_most f) in
        let v : ⊥ = omega (arith, total_past (with_list t l) ls (omega arith)) in
        absurd v

-- above 4,096 only where a list is bad or the true sum is above it
pub total_bad : (t : ℕ) (ls : List (List ℕ)) → kexinit_most < total t ls → every good_list ls && leb (t + length (strings ls)) kexinit_most ≡ false
total_bad t [] h = lt-leb (t + 0) kexinit_most (omega arith)
total_bad t (l ∷ ls) h = by_test (good_list l) refl (leb (t + 4 + length l) kexinit_most) refl (total_bad (with_list t l) ls h)
  where
    past : kexinit_most < t + 4 + length l → leb (t + length (strings (l ∷ ls))) kexinit_most ≡ false
    past p = let n = length_strings l ls in lt-leb (t + length (strings (l ∷ ls))) kexinit_most (omega arith)

    by_test : (g : Bool) → good_list l ≡ g → (f : Bool) → leb (t + 4 + length l) kexinit_most ≡ f
        → every good_list ls && leb (with_list t l + length (strings ls)) kexinit_most ≡ false
        → g && every good_list ls && leb (t + length (strings (l ∷ ls))) kexinit_most ≡ false
    by_test false g f' f e = refl
    by_test true g true f e =
        let w = with_good t l (good_list l) refl g (leb-true (t + 4 + length l) kexinit_most f) in
        let n = length_strings l ls in
        let m : t + length (strings (l ∷ ls)) ≡ with_list t l + length (strings ls) = omega arith in
        ap (λ (k : ℕ). every good_list ls && leb k kexinit_most) m ∙ e
    by_test true g false f e =
        ap (λ (b : Bool). every good_list ls && b) (past (leb-false (t + 4 + length l) kexinit_most f)) ∙ and_false (every good_list ls)

-- two runs, one after the other
pub total_two : (a b : List (List ℕ)) (half t : ℕ) → half ≡ total 22 a → t ≡ total half b → t ≡ total 22 (a ++ b)
total_two a b half t e f = f ∙ ap (λ (n : ℕ). total n b) e ∙ sym (total_append 22 a)
  where
    total_append : (n : ℕ) (a : List (List ℕ)) → total n (a ++ b) ≡ total (total n a) b
    total_append n [] = refl
    total_append n (l ∷ a) = total_append (with_list n l) a

-- ---- why it is not written

module _ (k : Kexinit) where
  pub length_kexinit : length (kexinit k) ≡ 1 + length k.cookie + length (strings k.lists) + 5
  unfolding kexinit
  length_kexinit =
      let b : List ℕ = (20 ∷ []) ++ k.cookie in
      let f : List ℕ = cond k.follows 1 0 ∷ [] in
      let e1 = length-append (20 ∷ []) k.cookie in
      let e2 = length-append b (strings k.lists) in
      let e3 = length-append (b ++ strings k.lists) f in
      let e4 = length-append (b ++ strings k.lists ++ f) (bytes32 k.reserved) in
      e4 ∙ omega arith

  module _ (size : ℕ) where
    pub write_cookie : (length k.cookie ≡ cookie_size → ⊥) → write_cause size k ≡ 4
    unfolding write_cause
    write_cookie h = unless_fails _ 4 _ (rw (ne_eqb (length k.cookie) cookie_size h))

    module _ (h : length k.cookie ≡ cookie_size) where
      length_is : length (kexinit k) ≡ 22 + length (strings k.lists)
      length_is = let n = length_kexinit in omega arith

      pub write_lists : kexinit_most < total 22 k.lists → write_cause size k ≡ 4
      unfolding write_cause
      write_lists b =
          unless_fails _ 4 _
          (rw (eq-eqb (length k.cookie) cookie_size h)
          (ap (λ (n : ℕ). every good_list k.lists && leb n kexinit_most) length_is ∙ total_bad 22 k.lists b))

      module _ (b : total 22 k.lists ≤ kexinit_most) where
        pub length_total : total 22 k.lists ≡ length (kexinit k)
        length_total = (total_good 22 k.lists b).1 ∙ sym length_is

        good : eqb (length k.cookie) cookie_size && every good_list k.lists && leb (length (kexinit k)) kexinit_most ≡ true
        good =
            let n = length_total in
            rw (eq-eqb (length k.cookie) cookie_size h, (total_good 22 k.lists b).0, le-leb (length (kexinit k)) kexinit_most (omega arith))

        pub write_short : size < total 22 k.lists → write_cause size k ≡ 5
        unfolding write_cause
        write_short s = let n = length_total in unless_holds _ 4 _ good ∙ if_holds _ 5 0 (lt-ltb size (length (kexinit k)) (omega arith))

        pub write_none : total 22 k.lists ≤ size → write_cause size k ≡ 0
        unfolding write_cause
        write_none s = let n = length_total in unless_holds _ 4 _ good ∙ if_fails _ 5 0 (le-ltb size (length (kexinit k)) (omega arith))

-- ---- lists laid one after another

-- the output, and the place behind the last
abbrev pub put : List ℕ → ℕ → List (List ℕ) → List ℕ
put out at [] = out
put out at (l ∷ ls) = put (laid out at (string l)) (at + length (string l)) ls

abbrev pub behind : ℕ → List (List ℕ) → ℕ
behind at [] = at
behind at (l ∷ ls) = behind (at + length (string l)) ls

pub behind_is : (at : ℕ) (ls : List (List ℕ)) → behind at ls ≡ at + length (strings ls)
behind_is at [] = omega arith
behind_is at (l ∷ ls) = behind_is (at + length (string l)) ls ∙ omega (arith, length-append (string l) (strings ls))

-- laying changes no length, and no store does
pub laid_length : (o l b : List ℕ) (at : ℕ) → o ≡ laid l at b → length o ≡ length l
laid_length o l b at e = ap length e ∙ length_laid l at b

pub stored_length : (o l b : List ℕ) (at i v : ℕ) → o ≡ laid (set l i v) at b → length o ≡ length l
stored_length o l b at i v e = ap length e ∙ length_laid (set l i v) at b ∙ length-set l i v

pub put_laid : (out : List ℕ) (at : ℕ) (ls : List (List ℕ)) → at + length (strings ls) ≤ length out → put out at ls ≡ laid out at (strings ls)
put_laid out at [] h = sym (laid_nil out at)
put_laid out at (l ∷ ls) h =
    let n = length-append (string l) (strings ls) in
    let m = length_laid out at (string l) in
    put_laid (laid out at (string l)) (at + length (string l)) ls (omega arith) ∙ laid_laid out at (string l) (strings ls) h

-- the true sum where there is a total
pub total_true : (t : ℕ) (ls : List (List ℕ)) → total t ls ≤ kexinit_most → total t ls ≡ t + length (strings ls)
total_true t ls h = (total_good t ls h).1

-- ---- the message laid piece by piece

module _ (out : List ℕ) where
  -- the output begins with x, and y is laid behind it
  then_laid : (x y l : List ℕ) (at : ℕ) → l ≡ over out 0 x → at ≡ length x → at + length y ≤ length out → laid l at y ≡ over out 0 (x ++ y)
  then_laid x y l at e n h =
      let f : 0 + length x ≤ length out = omega arith in
      let z : at ≡ 0 + length x = omega arith in
      ap (λ (o : List ℕ). laid o at y) e
      ∙ laid_fits (over out 0 x) at y (omega (arith, length_over out 0 x f))
      ∙ ap (λ (k : ℕ). over (over out 0 x) k y) z
      ∙ over_over out 0 x y f

  then_set : (x l : List ℕ) (at a : ℕ) → l ≡ over out 0 x → at ≡ length x → at + 1 ≤ length out → set l at a ≡ over out 0 (x ++ (a ∷ []))
  then_set x l at a e n h =
      let f : 0 + length x ≤ length out = omega arith in
      let m : length l ≡ length out = ap length e ∙ length_over out 0 x f in
      over_one l at a (omega arith) ∙ sym (laid_fits l at (a ∷ []) (omega arith)) ∙ then_laid x (a ∷ []) l at e n h

  -- what the writer leaves
  pub message_laid : (c : List ℕ) (l : List (List ℕ)) (f : Bool) (r : ℕ) → length c ≡ 16 → 22 + length (strings l) ≤ length out
      → (end : ℕ) → end ≡ 17 + length (strings l)
      → (o1 o2 o3 : List ℕ) → o1 ≡ laid (set out 0 20) 1 c → o2 ≡ laid o1 17 (strings l)
      → o3 ≡ laid (set o2 end (cond f 1 0)) (end + 1) (bytes32 r)
      → o3 ≡ onto out (kexinit (kexinit_of c l f r))
  unfolding kexinit
  message_laid c l f r h k end n o1 o2 o3 e1 e2 e3 =
      let x1 : List ℕ = (20 ∷ []) ++ c in
      let x2 : List ℕ = x1 ++ strings l in
      let x3 : List ℕ = x2 ++ (cond f 1 0 ∷ []) in
      let n2 : length x2 ≡ 1 + length c + length (strings l) = length-append x1 (strings l) ∙ omega arith in
      let n3 : length x3 ≡ 2 + length c + length (strings l) = length-append x2 (cond f 1 0 ∷ []) ∙ omega arith in
      let p0 : set out 0 20 ≡ over out 0 (20 ∷ []) = over_one out 0 20 (omega arith) in
      let p1 : o1 ≡ over out 0 x1 = e1 ∙ then_laid (20 ∷ []) c (set out 0 20) 1 p0 refl (omega arith) in
      let p2 : o2 ≡ over out 0 x2 = e2 ∙ then_laid x1 (strings l) o1 17 p1 (omega arith) (omega arith) in
      let p3 : set o2 end (cond f 1 0) ≡ over out 0 x3 = then_set x2 o2 end (cond f 1 0) p2 (omega arith) (omega arith) in
      e3 ∙ then_laid x3 (bytes32 r) (set o2 end (cond f 1 0)) (end + 1) p3 (omega arith) (omega arith)
      ∙ over_zero out (x3 ++ bytes32 r)
