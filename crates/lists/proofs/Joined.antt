-- Ten lists that are laid one behind another, with their ends, are the lists of the KEXINIT that is asked for. Assumes nothing.
use Prim.Native.Nat.{ℕ, ◌+◌, ◌-◌}
use mathlib.Core.Path.{◌≡◌, refl, sym, ap, ◌∙◌}
use mathlib.Core.List.{List, [], ◌∷◌, ◌++◌, append_assoc}
use native.Mathlib.Omega.{arith}
use lib.ListN.{length, get_or, length-append}
use lib.Seq.{get_or-append_seam, take-append_seam, drop-append_seam}
use borrow.Author.Tests.{le-leb}
use Rattle.limits.specs.Limits.{list_count}
use Rattle.proposal.specs.Proposal.{kexinit_of}
use Rattle.arguments.specs.Arguments.{is_yes}
use Rattle.lists.specs.Lists.{list_at, lists_at, proposed, joined, ends_from}

-- a list behind p, ahead of r
list_there : (p l r : List ℕ) → list_at (p ++ (l ++ r)) (length p) (length p + length l) ≡ l
unfolding list_at
list_there p l r =
    let n = length-append p (l ++ r) in
    let m = length-append l r in
    let d : length p + length l - length p ≡ length l = omega arith in
    rw (le-leb (length p) (length p + length l) (omega arith), le-leb (length p + length l) (length (p ++ (l ++ r))) (omega arith), d, drop-append_seam p (l ++ r))
    (take-append_seam l r)

-- those behind p, where the table has the ends of those ahead
lists_there : (p done : List ℕ) (ls : List (List ℕ)) → lists_at (p ++ joined ls) (done ++ ends_from (length p) ls) (length p) (length done) (length ls) ≡ ls
lists_there p done [] = refl
lists_there p done (l ∷ ls) =
    let e = length p + length l in
    let ends = done ++ (e ∷ ends_from e ls) in
    let s = p ++ (l ++ joined ls) in
    let g : get_or ends (length done) 0 ≡ e = get_or-append_seam done e (ends_from e ls) 0 in
    let a : s ≡ (p ++ l) ++ joined ls = sym (append_assoc p l (joined ls)) in
    let b : ends ≡ (done ++ (e ∷ [])) ++ ends_from e ls = sym (append_assoc done (e ∷ []) (ends_from e ls)) in
    let n : e ≡ length (p ++ l) = sym (length-append p l) in
    let m : length done + 1 ≡ length (done ++ (e ∷ [])) = sym (length-append done (e ∷ [])) in
    ap (λ (x : ℕ). list_at s (length p) x ∷ lists_at s ends x (length done + 1) (length ls)) g
    ∙ ap (λ (x : List ℕ). x ∷ lists_at s ends e (length done + 1) (length ls)) (list_there p l (joined ls))
    ∙ ap (λ (x : List (List ℕ)). l ∷ x)
    ((λ i. lists_at (a i) (b i) e (m i) (length ls))
    ∙ (λ i. lists_at ((p ++ l) ++ joined ls) ((done ++ (e ∷ [])) ++ ends_from (n i) ls) (n i) (length (done ++ (e ∷ []))) (length ls))
    ∙ lists_there (p ++ l) (done ++ (e ∷ [])) ls)

pub joined_asked : (cookie : List ℕ) (ls : List (List ℕ)) (follows reserved : ℕ) → length ls ≡ list_count
    → proposed cookie (joined ls) (ends_from 0 ls) follows reserved ≡ kexinit_of cookie ls (is_yes follows) reserved
unfolding proposed
joined_asked cookie ls follows reserved h =
    ap (λ (n : ℕ). kexinit_of cookie (lists_at (joined ls) (ends_from 0 ls) 0 0 n) (is_yes follows) reserved) (sym h)
    ∙ ap (λ (x : List (List ℕ)). kexinit_of cookie x (is_yes follows) reserved) (lists_there [] [] ls)
