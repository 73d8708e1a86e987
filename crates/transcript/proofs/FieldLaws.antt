-- Laws for the proofs of the functions: a field that is missing, one turn of each loop, and what is laid ahead. Assumes nothing.
use Prim.Native.Nat.{ℕ, zero, suc, ◌+◌, ◌≤◌, ◌<◌}
use mathlib.Core.Path.{◌≡◌, refl, sym, ap, ◌∙◌}
use mathlib.Core.List.{List, [], ◌∷◌, ◌++◌, append_assoc, append-nil}
use native.Mathlib.Omega.{arith}
use native.Mathlib.Nat.{add_assoc, add-zero}
use lib.ListN.{length, get_or, take, drop, set, length-append, length-take, length-drop, drop_of_length-le, take-append-drop}
use lib.Seq.{paste, drop_at, take-take, take-append-le, drop-append-le, drop-drop, drop-cons, sets-eq, length-take-le}
use borrow.Author.Tests.{le-leb, lt-leb, leb-true, leb-false, eq-eqb, ne_eqb}
use lib.Dec.{leb}
use mathlib.Core.Bool.{Bool, true, false}
use Rattle.std.specs.Prelude.{min}
use Rattle.buffers.specs.Bytes.{over, laid}
use Rattle.buffers.proofs.ByteLaws.{length_over, over_over, laid_fits, laid_nil}
use Rattle.transcript.specs.Fields.{size_most, field, field_length, field_size, size_sum, around}
use Rattle.transcript.proofs.RoomLaws.{length_field, field_length_most}

-- ---- a field, missing or not

-- a missing field is nothing
pub field_none : (f : List ℕ) → length f ≡ 0 → field f ≡ []
unfolding field
field_none [] h = refl
field_none (b ∷ f) h = let w : ⊥ = omega arith in absurd w

-- and takes no bytes
pub field_length_none : (n : ℕ) → n ≡ 0 → field_length n ≡ 0
unfolding field_length
field_length_none n h = rw (eq-eqb n 0 h)

-- one that is there takes four more than it has
pub field_length_some : (n : ℕ) → (n ≡ 0 → ⊥) → field_length n ≡ 4 + n
unfolding field_length
field_length_some n h = rw (ne_eqb n 0 h)

-- counted by the code: the same wherever the sum fits
pub field_size_fits : (n : ℕ) → 4 + n ≤ size_most → field_size n ≡ field_length n
unfolding field_size
field_size_fits n h = rw (le-leb (4 + n) size_most h)

pub field_size_past : (n : ℕ) → size_most < 4 + n → field_size n ≡ size_most
unfolding field_size
field_size_past n h = rw (lt-leb (4 + n) size_most h)

pub size_sum_fits : (a b : ℕ) → a + b ≤ size_most → size_sum a b ≡ a + b
unfolding size_sum
size_sum_fits a b h = rw (le-leb (a + b) size_most h)

pub size_sum_past : (a b : ℕ) → size_most < a + b → size_sum a b ≡ size_most
unfolding size_sum
size_sum_past a b h = rw (lt-leb (a + b) size_most h)

pub field_size_none : (n : ℕ) → n ≡ 0 → field_size n ≡ 0
field_size_none n h = field_size_fits n (omega arith) ∙ field_length_none n h

-- and as a sum that stops at the greatest number
pub field_size_stops : (n : ℕ) → (n ≡ 0 → ⊥) → field_size n ≡ min (n + 4) size_most
field_size_stops n z = by_test (leb (4 + n) size_most) refl
  where
    by_test : (t : Bool) → leb (4 + n) size_most ≡ t → field_size n ≡ min (n + 4) size_most
    by_test true w =
        let h : 4 + n ≤ size_most = leb-true (4 + n) size_most w in
        field_size_fits n h ∙ field_length_some n z ∙ omega arith
    by_test false w =
        let h : size_most < 4 + n = leb-false (4 + n) size_most w in
        field_size_past n h ∙ omega arith

pub size_sum_stops : (a b : ℕ) → size_sum a b ≡ min (a + b) size_most
size_sum_stops a b = by_test (leb (a + b) size_most) refl
  where
    by_test : (t : Bool) → leb (a + b) size_most ≡ t → size_sum a b ≡ min (a + b) size_most
    by_test true w = let h : a + b ≤ size_most = leb-true (a + b) size_most w in size_sum_fits a b h ∙ omega arith
    by_test false w = let h : size_most < a + b = leb-false (a + b) size_most w in size_sum_past a b h ∙ omega arith

-- of a field in hand
pub size_of : (f : List ℕ) (r : ℕ) → r ≡ field_size (length f) → 4 + length f ≤ size_most → (r ≡ field_length (length f)) × (r ≤ 4 + length f)
size_of f r e h = let g = e ∙ field_size_fits (length f) h in (g, omega (arith, field_length_most (length f)))

-- a missing field laid
pub laid_missing : (l : List ℕ) (at : ℕ) (f : List ℕ) → length f ≡ 0 → l ≡ laid l at (field f)
laid_missing l at f h = sym (ap (laid l at) (field_none f h) ∙ laid_nil l at)

-- ---- bytes moved up, the last of them first

-- ---- sixteen bytes, read and then written

-- n bytes of l from i + k on, one by one
abbrev run : List ℕ → ℕ → ℕ → ℕ → List ℕ
run l i k zero = []
run l i k (suc n) = get_or l (i + k) 0 ∷ run l i (suc k) n

run_is : (l : List ℕ) (i k n : ℕ) → i + (k + n) ≤ length l → run l i k n ≡ take n (drop (i + k) l)
run_is l i k zero h = refl
run_is l i k (suc n) h =
    let e : i + suc k ≡ suc (i + k) = omega arith in
    ap (λ (x : List ℕ). get_or l (i + k) 0 ∷ x) (run_is l i (suc k) n (omega arith) ∙ ap (λ (m : ℕ). take n (drop m l)) e)
    ∙ sym (rw (drop-cons l (i + k) 0 (omega arith)))

pub over_eight : (l : List ℕ) (at b0 b1 b2 b3 b4 b5 b6 b7 : ℕ) → at + 8 ≤ length l
    → set (set (set (set (set (set (set (set l at b0) (at + 1) b1) (at + 2) b2) (at + 3) b3) (at + 4) b4) (at + 5) b5) (at + 6) b6) (at + 7) b7
    ≡ over l at (b0 ∷ b1 ∷ b2 ∷ b3 ∷ b4 ∷ b5 ∷ b6 ∷ b7 ∷ [])
unfolding over
over_eight l at b0 b1 b2 b3 b4 b5 b6 b7 h =
    let e1 : at + 1 ≡ suc at = omega arith in
    let e2 : at + 2 ≡ suc (suc at) = omega arith in
    let e3 : at + 3 ≡ suc (suc (suc at)) = omega arith in
    let e4 : at + 4 ≡ suc (suc (suc (suc at))) = omega arith in
    let e5 : at + 5 ≡ suc (suc (suc (suc (suc at)))) = omega arith in
    let e6 : at + 6 ≡ suc (suc (suc (suc (suc (suc at))))) = omega arith in
    let e7 : at + 7 ≡ suc (suc (suc (suc (suc (suc (suc at)))))) = omega arith in
    rw (e1, e2, e3, e4, e5, e6, e7) (sets-eq (b0 ∷ b1 ∷ b2 ∷ b3 ∷ b4 ∷ b5 ∷ b6 ∷ b7 ∷ []) l at h)

-- eight of them, then the other eight
pub moved_sixteen : (l m o : List ℕ) (from to : ℕ) → from + 16 ≤ length l → to + 16 ≤ length l
    → m ≡ over l to (get_or l from 0 ∷ run l from 1 7) → o ≡ over m (to + 8) (run l from 8 8)
    → o ≡ over l to (take 16 (drop from l))
moved_sixteen l m o from to h k e f =
    let x : List ℕ = get_or l from 0 ∷ run l from 1 7 in
    let d : from + 1 ≡ suc from = omega arith in
    let a : x ++ run l from 8 8 ≡ take 16 (drop from l) =
    ap (λ (y : List ℕ). get_or l from 0 ∷ y) (run_is l from 1 15 h ∙ ap (λ (n : ℕ). take 15 (drop n l)) d) ∙ sym (rw (drop-cons l from 0 (omega arith))) in
    f ∙ ap (λ (y : List ℕ). over y (to + 8) (run l from 8 8)) e ∙ over_over l to x (run l from 8 8) (omega arith) ∙ ap (over l to) a

-- i of them are still to move
unfoldable pub shifted : List ℕ → ℕ → ℕ → ℕ → ℕ → List ℕ
shifted r at len by i = take (at + by + i) r ++ drop i (take len (drop at r)) ++ drop (at + by + len) r

-- at first all of them
pub shifted_none : (r : List ℕ) (at len by : ℕ) → at + by + len ≤ length r → r ≡ shifted r at len by len
unfolding shifted
shifted_none r at len by h =
    let e : length (take len (drop at r)) ≤ len = simp length-take (omega arith) in
    simp (drop_of_length-le (take len (drop at r)) e, append-nil, take-append-drop)

-- bytes that all stand in the first of two parts
front_part : (p s : List ℕ) (k n : ℕ) → k + n ≤ length p → take n (drop k (p ++ s)) ≡ take n (drop k p)
front_part p s k n h =
    let e : n ≤ length (drop k p) = omega (arith, length-drop k p) in
    rw (drop-append-le k p s (omega arith), take-append-le n (drop k p) s e)

-- n more are moved
pub shifted_some : (r d : List ℕ) (at len by i n : ℕ) → d ≡ shifted r at len by (i + n) → at + by + len ≤ length r → i + n ≤ len
    → over d (at + by + i) (take n (drop (at + i) d)) ≡ shifted r at len by i
unfolding shifted over
shifted_some r d at len by i n e h l =
    let k : ℕ = at + by + (i + n) in
    let m : List ℕ = take len (drop at r) in
    let p : List ℕ = take k r in
    let rest : List ℕ = drop (i + n) m ++ drop (at + by + len) r in
    let lm : length m ≡ len = simp (length-take, length-drop) (omega arith) in
    let lp : length p ≡ k = length-take-le k r (omega arith) in
    let s : d ≡ p ++ rest = e ∙ append_assoc p (drop (i + n) m) (drop (at + by + len) r) in
    -- what stands ahead of them
    let t : take (at + by + i) d ≡ take (at + by + i) r =
    ap (take (at + by + i)) s ∙ take-append-le (at + by + i) p rest (omega arith) ∙ take-take (at + by + i) k r (omega arith) in
    -- the bytes that are read
    let u : take n (drop (at + i) d) ≡ take n (drop i m) =
    ap (λ (x : List ℕ). take n (drop (at + i) x)) s
    ∙ front_part p rest (at + i) n (omega arith)
    ∙ sym (front_part p (drop k r) (at + i) n (omega arith))
    ∙ ap (λ (x : List ℕ). take n (drop (at + i) x)) (take-append-drop k r)
    ∙ sym (ap (take n) (drop-drop i at r))
    ∙ ap (λ (x : List ℕ). take n (drop i x)) (sym (take-append-drop len (drop at r)))
    ∙ front_part m (drop len (drop at r)) i n (omega arith) in
    let lu : length (take n (drop i m)) ≡ n = simp (length-take, length-drop) (omega arith) in
    -- those behind
    let z : at + by + i + n ≡ k = omega arith in
    let v : drop (at + by + i + n) d ≡ rest = ap (drop (at + by + i + n)) s ∙ drop_at p rest (at + by + i + n) (lp ∙ sym z) in
    let w : take n (drop i m) ++ drop (i + n) m ≡ drop i m =
    ap (λ (x : List ℕ). take n (drop i m) ++ x) (sym (drop-drop n i m)) ∙ take-append-drop n (drop i m) in
    let g : take (at + by + i) r ++ take n (drop i m) ++ rest ≡ take (at + by + i) r ++ (take n (drop i m) ++ drop (i + n) m) ++ drop (at + by + len) r =
    simp append_assoc in
    rw (t, u, lu, v) (g ∙ ap (λ (x : List ℕ). take (at + by + i) r ++ x ++ drop (at + by + len) r) w)

-- at the end none is left to move
pub shifted_all : (r d : List ℕ) (at len by i : ℕ) → d ≡ shifted r at len by i → i ≡ 0 → at + by + len ≤ length r
    → d ≡ over r (at + by) (take len (drop at r))
unfolding shifted over
shifted_all r d at len by i e z h =
    let n : length (take len (drop at r)) ≡ len = simp (length-take, length-drop) (omega arith) in
    e ∙ rw (z, n, add-zero)

-- moved at once
pub moved : (r : List ℕ) (at len by n : ℕ) → at + by + len ≤ length r → n ≡ len
    → paste r (at + by) (drop at r) n ≡ over r (at + by) (take len (drop at r))
unfolding over
moved r at len by n h e =
    let m : length (take len (drop at r)) ≡ len = simp (length-take, length-drop) (omega arith) in
    rw (e, m) refl

-- as what is left is
pub shifted_rest : (r d : List ℕ) (at len by i n : ℕ) → d ≡ shifted r at len by i → at + by + len ≤ length r → i ≤ len → length d ≡ length r → n ≡ i
    → paste d (at + by) (drop at d) n ≡ over r (at + by) (take len (drop at r))
shifted_rest r d at len by i n e h l m q =
    let x : List ℕ = over d (at + by + 0) (take i (drop (at + 0) d)) in
    let z : over d (at + by) (take i (drop at d)) ≡ x = simp add-zero refl in
    let j : i ≡ 0 + i = omega arith in
    let s : x ≡ shifted r at len by 0 = shifted_some r d at len by 0 i (e ∙ ap (shifted r at len by) j) h (omega arith) in
    moved d at i by n (omega arith) q ∙ z ∙ shifted_all r x at len by 0 s refl h

-- ---- laid ahead of what was laid

-- x laid right ahead of y
pub over_before : (r : List ℕ) (at : ℕ) (x y : List ℕ) → at + length x ≤ length r → over (over r (at + length x) y) at x ≡ over r at (x ++ y)
unfolding over
over_before r at x y h =
    let p : List ℕ = take (at + length x) r in
    let l : length p ≡ at + length x = length-take-le (at + length x) r h in
    let d : List ℕ = drop (at + length x + length y) r in
    let t : take at (p ++ y ++ d) ≡ take at r = rw append_assoc (take-append-le at p _ (omega arith) ∙ take-take at (at + length x) r (omega arith)) in
    let e : drop (at + length x) (p ++ y ++ d) ≡ y ++ drop (at + length (x ++ y)) r =
    rw (append_assoc, drop_at p (y ++ d) (at + length x) l, length-append, add_assoc) in
    rw (t, e) (simp append_assoc)

-- ---- around

-- too long for the room
pub around_kept : (room : List ℕ) (at len : ℕ) (ahead behind : List ℕ)
    → length room < at + field_length (length ahead) + len + field_length (length behind) → room ≡ around room at len ahead behind
unfolding around
around_kept room at len ahead behind h =
    let n = length_field ahead in
    let m = length_field behind in
    rw (lt-leb (at + length (field ahead) + len + length (field behind)) (length room) (omega arith))

-- moved up, then one field laid ahead and one behind
pub around_laid : (room : List ℕ) (at len a : ℕ) (ahead behind r1 r2 r3 : List ℕ)
    → a ≡ field_length (length ahead) → at + a + len + field_length (length behind) ≤ length room
    → r1 ≡ over room (at + a) (take len (drop at room)) → r2 ≡ laid r1 at (field ahead) → r3 ≡ laid r2 (at + a + len) (field behind)
    → r3 ≡ around room at len ahead behind
unfolding around
around_laid room at len a ahead behind r1 r2 r3 e h h1 h2 h3 =
    let x : List ℕ = field ahead in
    let m : List ℕ = take len (drop at room) in
    let y : List ℕ = field behind in
    let nx : length x ≡ a = length_field ahead ∙ sym e in
    let ny = length_field behind in
    let nm : length m ≡ len = simp (length-take, length-drop) (omega arith) in
    let nxm : length (x ++ m) ≡ length x + length m = length-append x m in
    let l1 : length (over room (at + length x) m) ≡ length room = length_over room (at + length x) m (omega arith) in
    let l2 : length (over room at (x ++ m)) ≡ length room = length_over room at (x ++ m) (omega arith) in
    let at2 : at + a + len ≡ at + length (x ++ m) = omega arith in
    let e1 : r1 ≡ over room (at + length x) m = h1 ∙ ap (λ (k : ℕ). over room (at + k) m) (sym nx) in
    let e2 : r2 ≡ over room at (x ++ m) =
    h2 ∙ ap (λ (r : List ℕ). laid r at x) e1 ∙ laid_fits (over room (at + length x) m) at x (omega arith) ∙ over_before room at x m (omega arith) in
    let e3 : r3 ≡ over room at (x ++ m ++ y) =
    h3 ∙ (λ i. laid (e2 i) (at2 i) y) ∙ laid_fits (over room at (x ++ m)) (at + length (x ++ m)) y (omega arith)
    ∙ over_over room at (x ++ m) y (omega arith) in
    e3 ∙ rw (le-leb (at + length x + len + length y) (length room) (omega arith))
