-- `values::store_session` meets its contract. Assumes nothing.
use borrow.Author.Rules.{rules}
use mathlib.Core.Path.{◌≡◌, sym, ap, ◌∙◌}
use mathlib.Core.List.{List, [], ◌∷◌, ◌++◌}
use Prim.Native.Nat.{ℕ}
use lib.ListN.{length, get_or}
use Rattle.limits.specs.Limits.{h_size}
use Rattle.buffers.specs.Bytes.{laid}
use Rattle.stored.proofs.StoredLaws.{all_eight}
use Rattle.values.proofs.store_session.Goals as goal

pub slice_bounds-put_bytes-end-2 : goal.slice_bounds-put_bytes-end-2
slice_bounds-put_bytes-end-2 c =
    let l : length c.args.s.id ≡ h_size = search (rules, c.well_formed.1.0) in
    sym l

abbrev pair : List ℕ → List ℕ
pair b = get_or b 0 0 ∷ get_or b 1 0 ∷ []

abbrev eight : List ℕ → List ℕ
eight b = get_or b 0 0 ∷ get_or b 1 0 ∷ get_or b 2 0 ∷ get_or b 3 0 ∷ get_or b 4 0 ∷ get_or b 5 0 ∷ get_or b 6 0 ∷ get_or b 7 0 ∷ []

pub returns : goal.returns
returns c =
    let b = c.args.b.now in
    c.put_bytes-2.ensures
    ∙ ap (λ (l : List ℕ). laid l 164 c.args.s.id) (c.put_bytes.ensures ∙ (λ i. laid b 154 (pair (c.length_bytes-len.ensures i) ++ eight ((c.to_be_bytes-n.ensures ∙ all_eight c.args.s.count) i))))
