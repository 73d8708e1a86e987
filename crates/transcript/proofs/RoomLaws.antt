-- Laws of a room that begins with fields: more of them at the end, and some put in ahead of others. Assumes nothing.
use Prim.Native.Nat.{ℕ, ◌+◌, ◌-◌, ◌≤◌, ◌<◌}
use mathlib.Core.Path.{◌≡◌, refl, sym, ap, ◌∙◌}
use mathlib.Core.List.{List, [], ◌∷◌, ◌++◌, append_assoc}
use mathlib.Core.Bool.{Bool, true, false, cond}
use native.Mathlib.Omega.{arith}
use lib.ListN.{length, take, drop, length-append}
use lib.Seq.{take-append_seam, drop-append-add, drop-append_seam, drop-drop}
use lib.Dec.{eqb, eqb-suc-zero}
use Rattle.buffers.specs.Bytes.{onto, over}
use Rattle.wire.specs.Strings.{string}
use Rattle.wire.proofs.StringLaws.{length_string}
use Rattle.transcript.specs.Fields.{field, field_length}

-- ---- field

pub length_field : (f : List ℕ) → length (field f) ≡ field_length (length f)
unfolding field field_length
length_field [] = refl
length_field (b ∷ f) = rw (eqb-suc-zero (length f)) (length_string (b ∷ f))

pub field_some : (f : List ℕ) → 0 < length f → field f ≡ string f
unfolding field
field_some [] h = let w : ⊥ = omega arith in absurd w
field_some (b ∷ f) h = refl

pub field_length_most : (n : ℕ) → field_length n ≤ 4 + n
unfolding field_length
field_length_most n = by_test (eqb n 0)
  where
    by_test : (t : Bool) → cond t 0 (4 + n) ≤ 4 + n
    by_test true = omega arith
    by_test false = omega arith

-- ---- a room that begins with x

-- what is laid over it behind x
pub over_onto : (room x y : List ℕ) → over (onto room x) (length x) y ≡ onto room (x ++ y)
unfolding over onto
over_onto room x y =
    let d : drop (length x + length y) (x ++ drop (length x) room) ≡ drop (length (x ++ y)) room =
    drop-append-add x (drop (length x) room) (length y)
    ∙ drop-drop (length y) (length x) room
    ∙ ap (λ (n : ℕ). drop n room) (sym (length-append x y)) in
    (λ i. take-append_seam x (drop (length x) room) i ++ y ++ d i)

-- x stands there
pub drop_onto : (room x y : List ℕ) → drop (length x) (onto room (x ++ y)) ≡ onto (drop (length x) room) y
unfolding onto
drop_onto room x y =
    ap (drop (length x)) (append_assoc x y (drop (length (x ++ y)) room))
    ∙ drop-append_seam x (y ++ drop (length (x ++ y)) room)
    ∙ ap (λ (l : List ℕ). y ++ l) (ap (λ (n : ℕ). drop n room) (length-append x y) ∙ sym (drop-drop (length y) (length x) room))

pub take_onto : (room x : List ℕ) → take (length x) (onto room x) ≡ x
unfolding onto
take_onto room x = take-append_seam x (drop (length x) room)

-- the bytes m that stand behind x
pub standing : (room x m : List ℕ) → take (length m) (drop (length x) (onto room (x ++ m))) ≡ m
standing room x m = ap (take (length m)) (drop_onto room x m) ∙ take_onto (drop (length x) room) m

-- laying over less than what stood behind x, and more: the room begins with x and what was laid
pub over_within : (room x m y : List ℕ) → length m ≤ length y → over (onto room (x ++ m)) (length x) y ≡ onto room (x ++ y)
unfolding over onto
over_within room x m y h =
    let t : take (length x) (onto room (x ++ m)) ≡ x = ap (take (length x)) (append_assoc x m (drop (length (x ++ m)) room)) ∙ take-append_seam x (m ++ drop (length (x ++ m)) room) in
    let n : length y ≡ length m + (length y - length m) = omega arith in
    let d : drop (length x + length y) (onto room (x ++ m)) ≡ drop (length (x ++ y)) room =
    sym (drop-drop (length y) (length x) (onto room (x ++ m)))
    ∙ (λ i. drop (n i) (drop_onto room x m i))
    ∙ drop-append-add m (drop (length m) (drop (length x) room)) (length y - length m)
    ∙ drop-drop (length y - length m) (length m) (drop (length x) room)
    ∙ (λ i. drop (sym n i) (drop (length x) room))
    ∙ drop-drop (length y) (length x) room
    ∙ ap (λ (k : ℕ). drop k room) (sym (length-append x y)) in
    (λ i. t i ++ y ++ d i)

-- a is put in ahead of m, which stood behind x, and b behind it
pub inserted : (room x m a b : List ℕ)
    → over (onto room (x ++ m)) (length x) (a ++ take (length m) (drop (length x) (onto room (x ++ m))) ++ b) ≡ onto room (x ++ (a ++ m ++ b))
inserted room x m a b =
    ap (λ (y : List ℕ). over (onto room (x ++ m)) (length x) (a ++ y ++ b)) (standing room x m)
    ∙ over_within room x m (a ++ m ++ b) (omega (arith, length-append (a ++ m) b, length-append a m))
