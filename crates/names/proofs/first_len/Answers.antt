-- `names::first_len` meets its contract. Assumes nothing.
use Rattle.std.proofs.Common.{ℕ, ◌≡◌, ◌∙◌, ◌≤◌, Bool, true, false, cond, ltb, eqb, length, sym, ap, refl, arith, rules, tests}
use Rattle.std.specs.List.{position_or_len}
use Rattle.std.specs.Option.{unwrap_or}
use Rattle.std.specs.Prelude.{Option, Some, None}
use Rattle.std.proofs.lemmas.Iterator.{YieldsList-from_slice}
use Rattle.std.proofs.lemmas.Iterator.Search.{position_from_yields_List}
use Rattle.std.proofs.lemmas.List.Sums.{prefix_len-le-length}
use borrow.Author.Tests.{ltb-false}
use Rattle.names.proofs.NameLaws.{first_length}
use Rattle.names.proofs.first_len.Goals as goal

-- the place where one was found, else the length
place_or : (p n : ℕ) → p ≤ n → unwrap_or (cond (ltb p n) (Some p) None) n ≡ p
place_or p n h = by_test (ltb p n) refl
  where
    by_test : (t : Bool) → ltb p n ≡ t → unwrap_or (cond t (Some p) None) n ≡ p
    by_test true e = refl
    by_test false e = omega (arith, ltb-false p n e)

pub returns : goal.returns
returns c =
    let t = c.args.text.now in
    let p = position_from_yields_List (λ b. eqb b 44) _ _ _ c.position.ensures.ran (YieldsList-from_slice t cc) (λ x b q k. search (rules, tests)) in
    c.unwrap_or.ensures ∙ ap (λ (r : Option ℕ). unwrap_or r (length t)) p ∙ place_or (position_or_len (λ b. eqb b 44) t) (length t) (prefix_len-le-length _ t) ∙ sym (first_length t)
