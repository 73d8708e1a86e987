-- Demand 2 for the name-list: a list parted into its names and joined again is the same bytes, and good names, joined, are read back.
-- Assumes nothing.
use Prim.Native.Nat.{ℕ, ◌≤◌, ◌<◌}
use native.Mathlib.Omega.{arith}
use mathlib.Core.Path.{◌≡◌, refl, sym, ap, ◌∙◌, subst}
use mathlib.Core.List.{List, [], ◌∷◌, ◌++◌}
use mathlib.Core.Bool.{Bool, true, false, cond, not}
use lib.ListN.{length, length-append}
use lib.Seq.{take_all}
use lib.Dec.{eqb}
use borrow.Author.Tests.{eqb-true}
use Rattle.limits.specs.Limits.{name_most}
use Rattle.limits.specs.Range.{within}
use Rattle.limits.specs.Every.{every}
use Rattle.limits.proofs.BoolLaws.{and_true}
use Rattle.limits.proofs.RangeLaws.{within_least}
use Rattle.wire.specs.Parts.{part, bytes_at}
use Rattle.names.specs.Names.{name_byte, good_name, good_list, first_name, later_names, parted, names_of, joined, up_to_bad}
use Rattle.names.specs.Cursor.{cursor_of, bad_name}
use Rattle.names.specs.Run.{Run}
use Rattle.names.proofs.NameLaws.{names_some, up_to_bad_all}
use Rattle.names.proofs.RunLaws.{run_list}

-- ---- parted, then joined

-- a byte in front of the first name
joined_cons : (b : ℕ) (n : List ℕ) (ns : List (List ℕ)) → joined ((b ∷ n) ∷ ns) ≡ b ∷ joined (n ∷ ns)
joined_cons b n [] = refl
joined_cons b n (m ∷ ns) = refl

joined_parted : (l : List ℕ) → joined (parted l) ≡ l
joined_parted [] = refl
joined_parted (b ∷ l) = by_test (eqb b 44) refl (joined_parted l)
  where
    by_test : (t : Bool) → eqb b 44 ≡ t → joined (parted l) ≡ l
        → joined (cond t [] (b ∷ first_name l) ∷ cond t (first_name l ∷ later_names l) (later_names l)) ≡ b ∷ l
    by_test true e h = λ i. sym (eqb-true b 44 e) i ∷ h i
    by_test false e h = joined_cons b (first_name l) (later_names l) ∙ ap (λ (x : List ℕ). b ∷ x) h

-- the names of a list, joined, are the list
pub joined_names : (l : List ℕ) → joined (names_of l) ≡ l
joined_names [] = refl
joined_names (b ∷ l) = joined_parted (b ∷ l)

-- ---- joined, then parted

no_comma : (b : ℕ) → name_byte b ≡ true → eqb b 44 ≡ false
no_comma b h = go (eqb b 44) (and_true (within 33 126 b) (not (eqb b 44)) h).1
  where
    go : (t : Bool) → not t ≡ true → t ≡ false
    go true e = sym e
    go false e = refl

-- a byte that is no comma joins the first of what the rest is parted into
abbrev cons_first : ℕ → List (List ℕ) → List (List ℕ)
cons_first b [] = []
cons_first b (m ∷ ms) = (b ∷ m) ∷ ms

parted_cons : (b : ℕ) (l : List ℕ) → name_byte b ≡ true → parted (b ∷ l) ≡ cons_first b (parted l)
parted_cons b l h = ap (λ (t : Bool). cond t [] (b ∷ first_name l) ∷ cond t (first_name l ∷ later_names l) (later_names l)) (no_comma b h)

-- a name alone, and with others behind it
parted_name : (n : List ℕ) → every name_byte n ≡ true → parted n ≡ n ∷ []
parted_name [] h = refl
parted_name (b ∷ n) h =
    let a = and_true (name_byte b) (every name_byte n) h in
    parted_cons b n a.0 ∙ ap (cons_first b) (parted_name n a.1)

parted_more : (n l : List ℕ) → every name_byte n ≡ true → parted (n ++ 44 ∷ l) ≡ n ∷ parted l
parted_more [] l h = refl
parted_more (b ∷ n) l h =
    let a = and_true (name_byte b) (every name_byte n) h in
    parted_cons b (n ++ 44 ∷ l) a.0 ∙ ap (cons_first b) (parted_more n l a.1)

pub good_known : (n : List ℕ) → good_name n ≡ true → (1 ≤ length n) × (every name_byte n ≡ true)
unfolding good_name
good_known n h =
    let a = and_true (within 1 name_most (length n)) (every name_byte n) h in
    (within_least 1 name_most (length n) a.0, a.1)

parted_joined : (n : List ℕ) (ns : List (List ℕ)) → every good_name (n ∷ ns) ≡ true → parted (joined (n ∷ ns)) ≡ n ∷ ns
parted_joined n [] h = parted_name n (good_known n (and_true (good_name n) true h).0).1
parted_joined n (m ∷ ns) h =
    let a = and_true (good_name n) (every good_name (m ∷ ns)) h in
    parted_more n (joined (m ∷ ns)) (good_known n a.0).1 ∙ ap (λ (x : List (List ℕ)). n ∷ x) (parted_joined m ns a.1)

some_joined : (n : List ℕ) (ns : List (List ℕ)) → good_name n ≡ true → 0 < length (joined (n ∷ ns))
some_joined n [] h = let k = (good_known n h).0 in omega arith
some_joined n (m ∷ ns) h = let l = length-append n (44 ∷ joined (m ∷ ns)) in omega arith

-- good names, joined, are parted into the same names
pub names_joined : (ns : List (List ℕ)) → every good_name ns ≡ true → names_of (joined ns) ≡ ns
names_joined [] h = refl
names_joined (n ∷ ns) h = names_some (joined (n ∷ ns)) (some_joined n ns (and_true (good_name n) (every good_name ns) h).0) ∙ parted_joined n ns h

-- and make a good list
pub good_joined : (ns : List (List ℕ)) → every good_name ns ≡ true → good_list (joined ns) ≡ true
good_joined ns h = ap (every good_name) (names_joined ns h) ∙ h

-- ---- joined, then read name by name

-- the cursor yields good names as they were joined, and then the end
pub run_joined : (ns : List (List ℕ)) → every good_name ns ≡ true → Run (joined ns) (cursor_of (part 0 (length (joined ns)))) ns 0
run_joined ns h =
    let e : names_of (bytes_at (joined ns) (part 0 (length (joined ns)))) ≡ ns = ap names_of (take_all (length (joined ns)) (joined ns) (omega arith)) ∙ names_joined ns h in
    let r = run_list (joined ns) (part 0 (length (joined ns))) (omega arith) in
    let z : bad_name ns ≡ 0 = ap (λ (t : Bool). cond t 0 19) h in
    subst (λ (k : ℕ). Run (joined ns) (cursor_of (part 0 (length (joined ns)))) ns k) z
    (subst (λ (l : List (List ℕ)). Run (joined ns) (cursor_of (part 0 (length (joined ns)))) l (bad_name ns)) (up_to_bad_all ns h)
    (subst (λ (l : List (List ℕ)). Run (joined ns) (cursor_of (part 0 (length (joined ns)))) (up_to_bad l) (bad_name l)) e r))
