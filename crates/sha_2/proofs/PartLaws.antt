-- Feeding in parts: two parts are as one, the second of two that are too many is refused, and an empty part changes nothing. Assumes nothing.
use Prim.Native.Nat.{ℕ, ◌+◌, ◌%◌, ◌≤◌, ◌<◌}
use mathlib.Core.Path.{◌≡◌, refl, sym, ap, subst, ◌∙◌}
use mathlib.Core.List.{List, [], ◌∷◌, ◌++◌, append_assoc, append-nil}
use mathlib.Core.Bool.{Bool, true, false, cond, ◌&&◌, and-eq-true_iff}
use native.Mathlib.Omega.{arith}
use native.Mathlib.Nat.{mod-add-mod}
use lib.Dec.{leb}
use lib.ListN.{length, take, length-append}
use lib.Seq.{length-take-le}
use borrow.Author.Tests.{le-leb, leb-true, leb-false, eq-eqb}
use Rattle.limits.specs.Limits.{hash_most, block_most}
use Rattle.sha_words.specs.Words.{Width}
use Rattle.sha_words.specs.Constants.{width_of}
use Rattle.sha_words.specs.Message.{behind, sized, value_after}
use Rattle.sha_words.proofs.SizedLaws.{take_sized}
use Rattle.sha_words.proofs.ChainLaws.{length_behind, behind_parts}
use Rattle.sha_words.proofs.PaddingLaws.{sizes_of_lem}
use Rattle.sha_words.proofs.ValueLaws.{value_after_parts}
use Rattle.sha_2.specs.declared.Hash.{Hash}
use Rattle.sha_2.specs.Hash.{Fed}
use Rattle.sha_2.specs.Hash.{fits, waiting, grown, taken, fed}
use Rattle.sha_2.proofs.StateLaws.{Fitting, fitting, fed_long, fed_taken}

-- ---- grown

grown_grown : (s : Hash) (a b : List ℕ) → grown (grown s a) b ≡ grown s (a ++ b)
unfolding grown
grown_grown s a b =
    let p : Width = width_of s.kind in
    let m : List ℕ = waiting s a in
    let w : waiting (grown s a) b ≡ behind p m ++ b = ap (λ (l : List ℕ). l ++ b) (take_sized block_most (length (behind p m)) (behind p m) refl) in
    let j : m ++ b ≡ waiting s (a ++ b) = append_assoc (take s.held s.tail) a b in
    let r : behind p (waiting (grown s a) b) ≡ behind p (waiting s (a ++ b)) = ap (behind p) w ∙ behind_parts p m b ∙ ap (behind p) j in
    let e : s.total + length a + length b ≡ s.total + length (a ++ b) = omega (arith, length-append a b) in
    let v : value_after p (value_after p s.value m) (waiting (grown s a) b) ≡ value_after p s.value (waiting s (a ++ b)) =
    ap (value_after p (value_after p s.value m)) w ∙ value_after_parts p s.value m b (sizes_of_lem s.kind) ∙ ap (value_after p s.value) j in
    λ i. record { kind = s.kind; total = e i; held = length (r i); value = v i; tail = sized block_most (r i) }

grown_fits : (s : Hash) (a : List ℕ) → length s.tail ≡ block_most → fits s ≡ true → s.total + length a ≤ hash_most → fits (grown s a) ≡ true
unfolding fits grown
grown_fits s a l h k =
    let f : Fitting s = fitting s h in
    let p : Width = width_of s.kind in
    let n : length (waiting s a) ≡ s.held + length a =
    length-append (take s.held s.tail) a ∙ ap (λ (x : ℕ). x + length a) (length-take-le s.held s.tail (omega (arith, f.most))) in
    let e : length (behind p (waiting s a)) ≡ (s.total + length a) % p.block =
    length_behind p (waiting s a) ∙ ap (λ (x : ℕ). x % p.block) (n ∙ ap (λ (x : ℕ). x + length a) f.held) ∙ mod-add-mod s.total p.block (length a) in
    rw (f.kind, le-leb (s.total + length a) hash_most k) (eq-eqb (length (behind p (waiting s a))) ((s.total + length a) % p.block) e)

-- ---- taken

pub taken_taken : (s : Hash) (a b : List ℕ) → taken (taken s a) b ≡ taken s (a ++ b)
taken_taken s [] b = refl
taken_taken s (x ∷ a) [] = ap (grown s) (sym (append-nil (x ∷ a)))
taken_taken s (x ∷ a) (y ∷ b) = grown_grown s (x ∷ a) (y ∷ b)

pub taken_fits : (s : Hash) (a : List ℕ) → length s.tail ≡ block_most → fits s ≡ true → s.total + length a ≤ hash_most → fits (taken s a) ≡ true
taken_fits s [] l h k = h
taken_fits s (x ∷ a) l h k = grown_fits s (x ∷ a) l h k

pub taken_total : (s : Hash) (a : List ℕ) → (taken s a).total ≡ s.total + length a
unfolding grown
taken_total s [] = omega arith
taken_total s (x ∷ a) = refl

-- ---- fed

-- an empty part changes nothing: 0 where the state fits, at 65,536 bytes too, else 4
pub fed_empty : (s : Hash) → fed s [] ≡ record { number = cond (fits s) 0 4; hash = s }
unfolding fed
fed_empty s = by_test (fits s) refl
  where
    by_test : (t : Bool) → fits s ≡ t
        → cond {A = Fed} (t && leb (s.total + 0) hash_most) (record { number = 0; hash = s }) (record { number = 4; hash = s })
        ≡ record { number = cond t 0 4; hash = s }
    by_test true e = rw (le-leb (s.total + 0) hash_most (omega (arith, (fitting s e).total)))
    by_test false e = refl

-- what is not refused
fed_so : (s : Hash) (m : List ℕ) → (fed s m).number ≡ 0 → (fits s ≡ true) × (s.total + length m ≤ hash_most)
unfolding fed
fed_so s m e =
    let t = (and-eq-true_iff (fits s) (leb (s.total + length m) hash_most)).0 (by_test (fits s && leb (s.total + length m) hash_most) e) in
    (t.0, leb-true (s.total + length m) hash_most t.1)
  where
    by_test : (t : Bool) → (cond {A = Fed} t (record { number = 0; hash = taken s m }) (record { number = 4; hash = s })).number ≡ 0 → t ≡ true
    by_test true e = refl
    by_test false e = absurd (omega arith)

-- two parts are as the two joined, where these are not refused: the answer and every byte of the state
pub fed_fed : (s : Hash) (a b : List ℕ) → length s.tail ≡ block_most → (fed s (a ++ b)).number ≡ 0 → fed (fed s a).hash b ≡ fed s (a ++ b)
fed_fed s a b l e =
    let t = fed_so s (a ++ b) e in
    let n = length-append a b in
    ap (λ (f : Fed). fed f.hash b) (sym (fed_taken s a t.0 (omega (arith, t.1))))
    ∙ sym (fed_taken (taken s a) b (taken_fits s a l t.0 (omega (arith, t.1))) (omega (arith, t.1, taken_total s a)))
    ∙ ap (λ (h : Hash). record { number = 0; hash = h }) (taken_taken s a b)
    ∙ fed_taken s (a ++ b) t.0 t.1

-- of two parts whose joined feed is taken, the first is taken
pub fed_first : (s : Hash) (a b : List ℕ) → (fed s (a ++ b)).number ≡ 0 → (fed s a).number ≡ 0
fed_first s a b e =
    let t = fed_so s (a ++ b) e in
    sym (ap (λ (f : Fed). f.number) (fed_taken s a t.0 (omega (arith, t.1, length-append a b))))

-- what is refused of a state that fits is too long
fed_over : (s : Hash) (m : List ℕ) → fits s ≡ true → (fed s m).number ≡ 4 → hash_most < s.total + length m
fed_over s m h e = by_test (leb (s.total + length m) hash_most) refl
  where
    by_test : (t : Bool) → leb (s.total + length m) hash_most ≡ t → hash_most < s.total + length m
    by_test true q = absurd (omega (arith, ap (λ (f : Fed). f.number) (fed_taken s m h (leb-true (s.total + length m) hash_most q))))
    by_test false q = leb-false (s.total + length m) hash_most q

-- where the two together would be too many, the first is taken and the second is refused and changes nothing
pub fed_past : (s : Hash) (a b : List ℕ) → length s.tail ≡ block_most → (fed s a).number ≡ 0 → (fed s (a ++ b)).number ≡ 4
    → fed (fed s a).hash b ≡ record { number = 4; hash = (fed s a).hash }
fed_past s a b l h e =
    let t = fed_so s a h in
    let o : hash_most < s.total + length (a ++ b) = fed_over s (a ++ b) t.0 e in
    subst (λ (f : Fed). fed f.hash b ≡ record { number = 4; hash = f.hash }) (fed_taken s a t.0 t.1)
    (sym (fed_long (taken s a) b (taken_fits s a l t.0 t.1) (omega (arith, length-append a b, taken_total s a))))
