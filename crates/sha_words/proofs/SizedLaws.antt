-- Laws of `sized`: bytes at the front of an array of zeros. Assumes nothing.
use Prim.Native.Nat.{ℕ, ◌+◌, ◌-◌, ◌≤◌}
use mathlib.Core.Path.{◌≡◌, sym, ap, ◌∙◌}
use mathlib.Core.List.{List, [], ◌++◌}
use native.Mathlib.Omega.{arith}
use native.Mathlib.Nat.{zero-add}
use lib.ListN.{length, take, drop, length-append, length-replicate}
use lib.Seq.{take_at, take-append-add, length-take-le}
use Rattle.buffers.specs.Bytes.{zeros, onto, over, laid}
use Rattle.buffers.proofs.ByteLaws.{take_zeros, drop_zeros, laid_laid, laid_fits, over_zero}
use Rattle.sha_words.specs.Message.{sized}

pub length_sized : (n : ℕ) (l : List ℕ) → length l ≤ n → length (sized n l) ≡ n
unfolding sized
length_sized n l h = length-append l (zeros (n - length l)) ∙ omega (arith, length-replicate {A = ℕ} (n - length l) 0)

pub sized_none : (n : ℕ) → zeros n ≡ sized n []
unfolding sized
sized_none n =
    let e : n ≡ n - 0 = omega arith in
    ap zeros e

pub take_sized : (n k : ℕ) (l : List ℕ) → length l ≡ k → take k (sized n l) ≡ l
unfolding sized
take_sized n k l h = take_at l (zeros (n - length l)) k h

pub take_sized_more : (n k : ℕ) (l : List ℕ) → length l ≤ k → k ≤ n → take k (sized n l) ≡ sized k l
unfolding sized
take_sized_more n k l h g =
    let e : length l + (k - length l) ≡ k = omega arith in
    ap (λ (m : ℕ). take m (l ++ zeros (n - length l))) (sym e) ∙ take-append-add l (zeros (n - length l)) (k - length l)
    ∙ ap (λ (t : List ℕ). l ++ t) (take_zeros (k - length l) (n - length l) (omega arith))

pub laid_sized : (n : ℕ) (l : List ℕ) → length l ≤ n → laid (zeros n) 0 l ≡ sized n l
unfolding sized onto
laid_sized n l h =
    laid_fits (zeros n) 0 l (omega (arith, length-replicate {A = ℕ} n 0)) ∙ over_zero (zeros n) l ∙ ap (λ (t : List ℕ). l ++ t) (drop_zeros (length l) n h)

-- two lists, one behind the other
pub joined_sized : (n : ℕ) (a b : List ℕ) → length a + length b ≤ n → laid (laid (zeros n) 0 a) (length a) b ≡ sized n (a ++ b)
joined_sized n a b h =
    ap (λ (k : ℕ). laid (laid (zeros n) 0 a) k b) (sym (zero-add (length a)))
    ∙ laid_laid (zeros n) 0 a b (omega (arith, length-append a b, length-replicate {A = ℕ} n 0))
    ∙ laid_sized n (a ++ b) (omega (arith, length-append a b))

-- b laid behind what stands in front, with zeros between
pub take_laid : (n at : ℕ) (l b : List ℕ) → length l ≤ at → at + length b ≤ n → take (at + length b) (laid (sized n l) at b) ≡ sized at l ++ b
unfolding over
take_laid n at l b h g =
    let t : List ℕ = take at (sized n l) in
    let f : length (sized n l) ≡ n = length_sized n l (omega arith) in
    let m : length (t ++ b) ≡ at + length b = length-append t b ∙ ap (λ (x : ℕ). x + length b) (length-take-le at (sized n l) (omega arith)) in
    ap (take (at + length b)) (laid_fits (sized n l) at b (omega arith))
    ∙ take_at (t ++ b) (drop (at + length b) (sized n l)) (at + length b) m
    ∙ ap (λ (x : List ℕ). x ++ b) (take_sized_more n at l h (omega arith))
