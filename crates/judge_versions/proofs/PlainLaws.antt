-- Bytes without 0, 10 and 13: one, sixteen, and those behind. Assumes nothing.
use Prim.Native.Nat.{ℕ, zero, suc, ◌+◌, ◌≤◌, ◌<◌}
use mathlib.Core.Path.{◌≡◌, refl, sym, ap, ◌∙◌}
use mathlib.Core.List.{List, [], ◌∷◌, ◌++◌}
use mathlib.Core.Bool.{Bool, true, false, not, ◌&&◌, and-true, and-false, and_assoc}
use native.Mathlib.Omega.{arith}
use native.Mathlib.Numerals.{add-one}
use lib.ListN.{length, get_or, take, drop, take-append-drop}
use lib.Seq.{drop-cons, drop-drop}
use lib.Dec.{eqb}
use Rattle.exchange.specs.Causes.{plain}

-- ---- a part, and those behind

plain_append : (a b : List ℕ) → plain (a ++ b) ≡ plain a && plain b
plain_append [] b = refl
plain_append (x ∷ a) b =
    let t : Bool = not (eqb x 0) && not (eqb x 10) && not (eqb x 13) in
    ap (λ (u : Bool). t && u) (plain_append a b) ∙ sym (and_assoc t (plain a) (plain b))

pub plain_part : (v : List ℕ) (i n : ℕ) → plain (drop i v) ≡ plain (take n (drop i v)) && plain (drop (i + n) v)
plain_part v i n =
    ap plain (sym (take-append-drop n (drop i v)))
    ∙ plain_append (take n (drop i v)) (drop n (drop i v))
    ∙ ap (λ (l : List ℕ). plain (take n (drop i v)) && plain l) (drop-drop n i v)

pub plain_at : (v : List ℕ) (i : ℕ) → i < length v → plain (drop i v) ≡ plain (get_or v i 0 ∷ []) && plain (drop (i + 1) v)
plain_at v i h = rw (drop-cons v i 0 h, add-one) (plain_append (get_or v i 0 ∷ []) (drop (suc i) v))

pub plain_one : (b : ℕ) → not (eqb b 0) && not (eqb b 10) && not (eqb b 13) ≡ plain (b ∷ [])
plain_one b = sym (and-true _)

-- ---- sixteen bytes, held to one value after another

-- none of them is x
abbrev none : ℕ → List ℕ → Bool
none x [] = true
none x (b ∷ l) = not (eqb b x) && none x l

apart : (a b c p q r : Bool) → a && b && c && (p && q && r) ≡ (a && p) && (b && q) && (c && r)
apart true true true p q r = refl
apart true true false p q r = sym (and-false (p && q))
apart true false c p q r = rw (and-false p)
apart false b c p q r = refl

plain_none : (l : List ℕ) → none 0 l && none 10 l && none 13 l ≡ plain l
plain_none [] = refl
plain_none (b ∷ l) =
    let t : Bool = not (eqb b 0) && not (eqb b 10) && not (eqb b 13) in
    sym (apart (not (eqb b 0)) (not (eqb b 10)) (not (eqb b 13)) (none 0 l) (none 10 l) (none 13 l)) ∙ ap (λ (u : Bool). t && u) (plain_none l)

-- so, and the n bytes of v from i + k on are not x either: as the code tests them
abbrev more : ℕ → List ℕ → ℕ → ℕ → ℕ → Bool → Bool
more x v i k zero so = so
more x v i k (suc n) so = more x v i (suc k) n (so && not (eqb (get_or v (i + k) 0) x))

more_is : (x : ℕ) (v : List ℕ) (i k n : ℕ) (so : Bool) → i + (k + n) ≤ length v → more x v i k n so ≡ so && none x (take n (drop (i + k) v))
more_is x v i k zero so h = sym (and-true so)
more_is x v i k (suc n) so h =
    let t : Bool = not (eqb (get_or v (i + k) 0) x) in
    let e : i + suc k ≡ suc (i + k) = omega arith in
    more_is x v i (suc k) n (so && t) (omega arith)
    ∙ and_assoc so t _
    ∙ ap (λ (m : ℕ). so && (t && none x (take n (drop m v)))) e
    ∙ sym (rw (drop-cons v (i + k) 0 (omega arith)))

-- sixteen of them
abbrev differ : ℕ → List ℕ → ℕ → Bool
differ x v i = more x v i 1 15 (not (eqb (get_or v i 0) x))

differ_none : (x : ℕ) (v : List ℕ) (i : ℕ) → i + 16 ≤ length v → differ x v i ≡ none x (take 16 (drop i v))
differ_none x v i h =
    let e : i + 1 ≡ suc i = omega arith in
    more_is x v i 1 15 (not (eqb (get_or v i 0) x)) h
    ∙ ap (λ (m : ℕ). not (eqb (get_or v i 0) x) && none x (take 15 (drop m v))) e
    ∙ sym (rw (drop-cons v i 0 (omega arith)))

pub plain_sixteen : (v : List ℕ) (i : ℕ) → i + 16 ≤ length v → differ 0 v i && differ 10 v i && differ 13 v i ≡ plain (take 16 (drop i v))
plain_sixteen v i h = (λ j. differ_none 0 v i h j && differ_none 10 v i h j && differ_none 13 v i h j) ∙ plain_none (take 16 (drop i v))
