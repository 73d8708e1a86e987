-- Laws of `specs/Bytes.antt`. Assumes nothing.
use Prim.Native.Nat.{ℕ, zero, suc, ◌+◌, ◌-◌, ◌≤◌, ◌<◌}
use mathlib.Core.Path.{◌≡◌, refl, sym, ap, ◌∙◌}
use mathlib.Core.List.{List, [], ◌∷◌, ◌++◌, append_assoc, append-nil}
use mathlib.Core.Bool.{Bool, true, false, cond, ◌&&◌, false≢true}
use native.Mathlib.Omega.{arith}
use native.Mathlib.Nat.{add_assoc, add-zero, zero-add}
use borrow.Rule.Slice.PartMut.{put_mid}
use lib.ListN.{length, take, drop, set, length-append, length-drop, length-replicate, replicate-append-replicate, take-append-drop}
use lib.Seq.{sets-eq, paste, paste-suc, take_all, take-length, length-take-le, take_at, drop_at, drop-length, drop-append-add, drop-drop}
use lib.Dec.{eqb, leb}
use Rattle.std.specs.List.{zip, list_all}
use borrow.Author.Tests.{le-leb, lt-leb, leb-true, leb-false, eqb-true, eq-eqb}
use Rattle.buffers.specs.Bytes.{Bytes, zeros, same, onto, over, laid, stored, eight}

-- the part `&s[k..]`, as the slice rule states it
pub tail_part : (s : List ℕ) (k : ℕ) → take (length s - k) (drop k s) ≡ drop k s
tail_part s k = take_all (length s - k) (drop k s) (omega (arith, length-drop k s))

-- ---- Bytes

pub bytes_tail : (a : ℕ) (l : List ℕ) → Bytes (a ∷ l) → Bytes l
bytes_tail a l h i = h (suc i)

pub bytes_cons : (a : ℕ) (l : List ℕ) → a < 256 → Bytes l → Bytes (a ∷ l)
bytes_cons a l h k zero = h
bytes_cons a l h k (suc i) = k i

-- ---- zeros

zeros_cut : (k n : ℕ) → k ≤ n → zeros n ≡ zeros k ++ zeros (n - k)
zeros_cut k n h =
    let e : k + (n - k) ≡ n = omega arith in
    ap zeros (sym e) ∙ sym (replicate-append-replicate k (n - k) 0)

pub take_zeros : (k n : ℕ) → k ≤ n → take k (zeros n) ≡ zeros k
take_zeros k n h = ap (take k) (zeros_cut k n h) ∙ take_at (zeros k) (zeros (n - k)) k (length-replicate k 0)

pub drop_zeros : (k n : ℕ) → k ≤ n → drop k (zeros n) ≡ zeros (n - k)
drop_zeros k n h = ap (drop k) (zeros_cut k n h) ∙ drop_at (zeros k) (zeros (n - k)) k (length-replicate k 0)

-- ---- same

pub same_refl : (l : List ℕ) → same l l ≡ true
same_refl [] = refl
same_refl (a ∷ l) = rw (eq-eqb a a refl) (same_refl l)

pub same_sound : (l m : List ℕ) → same l m ≡ true → l ≡ m
same_sound [] [] e = refl
same_sound [] (b ∷ m) e = absurd (false≢true e)
same_sound (a ∷ l) [] e = absurd (false≢true e)
same_sound (a ∷ l) (b ∷ m) e = by_test (eqb a b) refl e (same_sound l m)
  where
    by_test : (t : Bool) → eqb a b ≡ t → t && same l m ≡ true → (same l m ≡ true → l ≡ m) → a ∷ l ≡ b ∷ m
    by_test true p h k = λ i. eqb-true a b p i ∷ k h i
    by_test false p h k = absurd (false≢true h)

pub same_lengths : (l m : List ℕ) → (length l ≡ length m → ⊥) → same l m ≡ false
same_lengths [] [] h = absurd (h refl)
same_lengths [] (b ∷ m) h = refl
same_lengths (a ∷ l) [] h = refl
same_lengths (a ∷ l) (b ∷ m) h = by_test (eqb a b) (same_lengths l m (λ e. h (ap suc e)))
  where
    by_test : (t : Bool) → same l m ≡ false → t && same l m ≡ false
    by_test true k = k
    by_test false k = refl

-- of lists as long as one another, pair by pair
pub same_zip : (l m : List ℕ) → length l ≡ length m → list_all (λ (p : ℕ × ℕ). eqb p.0 p.1) (zip l m) ≡ same l m
same_zip [] [] e = refl
same_zip [] (b ∷ m) e = absurd (omega (arith, e))
same_zip (a ∷ l) [] e = absurd (omega (arith, e))
same_zip (a ∷ l) (b ∷ m) e = ap (λ (t : Bool). eqb a b && t) (same_zip l m (omega (arith, e)))

-- ---- over

pub over_zero : (l b : List ℕ) → over l 0 b ≡ onto l b
unfolding over onto
over_zero l b = ap (λ (n : ℕ). b ++ drop n l) (zero-add (length b))

pub length_over : (l : List ℕ) (at : ℕ) (b : List ℕ) → at + length b ≤ length l → length (over l at b) ≡ length l
unfolding over
length_over l at b h = simp (length-append, length-drop, length-take-le at l (omega arith)) (omega arith)

-- what is laid after what was laid
pub over_over : (l : List ℕ) (at : ℕ) (a b : List ℕ) → at + length a ≤ length l
    → over (over l at a) (at + length a) b ≡ over l at (a ++ b)
unfolding over
over_over l at a b h =
    let p : List ℕ = take at l ++ a in
    let d : List ℕ = drop (at + length a) l in
    let e : length p ≡ at + length a = length-append (take at l) a ∙ ap (λ (k : ℕ). k + length a) (length-take-le at l (omega arith)) in
    let t : take (at + length a) (p ++ d) ≡ p = take_at p d (at + length a) e in
    let r : drop (at + length a + length b) (p ++ d) ≡ drop (at + length (a ++ b)) l =
    ap (λ (k : ℕ). drop (k + length b) (p ++ d)) (sym e) ∙ drop-append-add p d (length b) ∙ drop-drop (length b) (at + length a) l
    ∙ ap (λ (k : ℕ). drop k l) (add_assoc at (length a) (length b) ∙ ap (λ (k : ℕ). at + k) (sym (length-append a b))) in
    ap (λ (x : List ℕ). x ++ b ++ drop (at + length a + length b) (p ++ d)) t
    ∙ ap (λ (x : List ℕ). p ++ b ++ x) r
    ∙ ap (λ (x : List ℕ). x ++ drop (at + length (a ++ b)) l) (append_assoc (take at l) a b)

-- nothing laid
pub over_nil : (l : List ℕ) (at : ℕ) → over l at [] ≡ l
unfolding over
over_nil l at = simp (append-nil, add-zero, take-append-drop)

-- one store, two and four
pub over_one : (l : List ℕ) (at a : ℕ) → at + 1 ≤ length l → set l at a ≡ over l at (a ∷ [])
unfolding over
over_one l at a h = sets-eq (a ∷ []) l at h

pub over_two : (l : List ℕ) (at a b : ℕ) → at + 2 ≤ length l → set (set l at a) (at + 1) b ≡ over l at (a ∷ b ∷ [])
unfolding over
over_two l at a b h = let e : at + 1 ≡ suc at = omega arith in rw e (sets-eq (a ∷ b ∷ []) l at h)

pub over_four : (l : List ℕ) (at a b c d : ℕ) → at + 4 ≤ length l
    → set (set (set (set l at a) (at + 1) b) (at + 2) c) (at + 3) d ≡ over l at (a ∷ b ∷ c ∷ d ∷ [])
unfolding over
over_four l at a b c d h =
    let e1 : at + 1 ≡ suc at = omega arith in
    let e2 : at + 2 ≡ suc (suc at) = omega arith in
    let e3 : at + 3 ≡ suc (suc (suc at)) = omega arith in
    rw (e1, e2, e3) (sets-eq (a ∷ b ∷ c ∷ d ∷ []) l at h)

-- a copy at its end
pub over_paste : (l : List ℕ) (at : ℕ) (s : List ℕ) → paste l at s (length s) ≡ over l at s
unfolding over
over_paste l at s = rw (take-length s)

-- a part that was written over
pub over_part : (l : List ℕ) (at n : ℕ) (b new : List ℕ) → n ≡ length b → new ≡ b → put_mid at n l new ≡ over l at b
unfolding over
over_part l at n b new e q =
    let w : put_mid at n l new ≡ put_mid at (length b) l b = λ i. put_mid at (e i) l (q i) in
    let d : put_mid at (length b) l b ≡ over l at b =
    ap (λ (x : List ℕ). take at l ++ (b ++ x)) (drop-drop (length b) at l) ∙ sym (append_assoc (take at l) b (drop (at + length b) l)) in
    w ∙ d

-- a part of as many bytes as b, which were set
pub over_set : (l : List ℕ) (at k n : ℕ) (b new : List ℕ) → at + n ≤ length l → k ≡ n → n ≡ length b
    → new ≡ cond (eqb (length (take k (drop at l))) n) b (take k (drop at l)) → put_mid at k l new ≡ over l at b
over_set l at k n b new h e q s =
    let m : length (take k (drop at l)) ≡ n = ap (λ (j : ℕ). length (take j (drop at l))) e ∙ length-take-le n (drop at l) (omega (arith, length-drop at l)) in
    over_part l at k b new (e ∙ q) (s ∙ ap (λ (t : Bool). cond t b (take k (drop at l))) (eq-eqb (length (take k (drop at l))) n m))

-- bytes stored one by one behind those that are laid already
stored_paste : (d : List ℕ) (at : ℕ) (s : List ℕ) (i k n : ℕ) → at + (i + (k + n)) ≤ length d → i + (k + n) ≤ length s
    → stored at s i k n (paste d at s (i + k)) ≡ paste d at s (i + (k + n))
stored_paste d at s i k zero h g = let e : i + k ≡ i + (k + 0) = omega arith in ap (paste d at s) e
stored_paste d at s i k (suc n) h g =
    let a : at + (i + k) < length d = omega arith in
    let b : i + k < length s = omega arith in
    let e : suc (i + k) ≡ i + suc k = omega arith in
    let f : i + (suc k + n) ≡ i + (k + suc n) = omega arith in
    ap (stored at s i (suc k) n) (paste-suc d at s (i + k) 0 a b ∙ ap (paste d at s) e)
    ∙ stored_paste d at s i (suc k) n (omega arith) (omega arith)
    ∙ ap (paste d at s) f

eight_paste : (d : List ℕ) (at : ℕ) (s : List ℕ) (i : ℕ) → at + (i + 8) ≤ length d → i + 8 ≤ length s
    → eight at s i (paste d at s i) ≡ paste d at s (i + 8)
eight_paste d at s i h g =
    let a : at + i < length d = omega arith in
    let b : i < length s = omega arith in
    let e : suc i ≡ i + 1 = omega arith in
    ap (stored at s i 1 7) (paste-suc d at s i 0 a b ∙ ap (paste d at s) e)
    ∙ stored_paste d at s i 1 7 h g

pub sixteen_paste : (d : List ℕ) (at : ℕ) (s : List ℕ) (i : ℕ) → at + (i + 16) ≤ length d → i + 16 ≤ length s
    → eight at s (i + 8) (eight at s i (paste d at s i)) ≡ paste d at s (i + 16)
sixteen_paste d at s i h g =
    let e : i + 8 + 8 ≡ i + 16 = omega arith in
    ap (eight at s (i + 8)) (eight_paste d at s i (omega arith) (omega arith))
    ∙ eight_paste d at s (i + 8) (omega arith) (omega arith)
    ∙ ap (paste d at s) e

-- ---- onto

pub length_onto : (l b : List ℕ) → length b ≤ length l → length (onto l b) ≡ length l
unfolding onto
length_onto l b h = simp (length-append, length-drop) (omega arith)

-- ---- laid

pub laid_fits : (l : List ℕ) (at : ℕ) (b : List ℕ) → at + length b ≤ length l → laid l at b ≡ over l at b
unfolding laid
laid_fits l at b h = rw (le-leb (at + length b) (length l) h)

pub laid_kept : (l : List ℕ) (at : ℕ) (b : List ℕ) → length l < at + length b → laid l at b ≡ l
unfolding laid
laid_kept l at b h = rw (lt-leb (at + length b) (length l) h)

-- fitting or not, it is as long
pub length_laid : (l : List ℕ) (at : ℕ) (b : List ℕ) → length (laid l at b) ≡ length l
length_laid l at b = by_fit_lem (leb (at + length b) (length l)) refl
  where
    by_fit_lem : (t : Bool) → leb (at + length b) (length l) ≡ t → length (laid l at b) ≡ length l
    by_fit_lem true e = let f = leb-true (at + length b) (length l) e in ap length (laid_fits l at b f) ∙ length_over l at b f
    by_fit_lem false e = ap length (laid_kept l at b (leb-false (at + length b) (length l) e))

-- nothing laid
pub laid_nil : (l : List ℕ) (at : ℕ) → laid l at [] ≡ l
unfolding laid
laid_nil l at = by_test (leb (at + 0) (length l))
  where
    by_test : (t : Bool) → cond t (over l at []) l ≡ l
    by_test true = over_nil l at
    by_test false = refl

-- bytes as many as those they are laid over
pub laid_whole : (l b : List ℕ) → length b ≡ length l → laid l 0 b ≡ b
unfolding onto
laid_whole l b h =
    laid_fits l 0 b (omega arith) ∙ over_zero l b ∙ ap (λ (n : ℕ). b ++ drop n l) h ∙ ap (λ (t : List ℕ). b ++ t) (drop-length l) ∙ append-nil b

-- two things laid one after the other, where both fit
pub laid_laid : (l : List ℕ) (at : ℕ) (a b : List ℕ) → at + length (a ++ b) ≤ length l
    → laid (laid l at a) (at + length a) b ≡ laid l at (a ++ b)
laid_laid l at a b h =
    let n = length-append a b in
    let f : at + length a ≤ length l = omega arith in
    let g : at + length a + length b ≤ length (over l at a) = omega (arith, length_over l at a f) in
    ap (λ (x : List ℕ). laid x (at + length a) b) (laid_fits l at a f)
    ∙ laid_fits (over l at a) (at + length a) b g
    ∙ over_over l at a b f
    ∙ sym (laid_fits l at (a ++ b) h)
