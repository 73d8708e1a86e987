-- `values::store` meets its contract. Assumes nothing.
use borrow.Author.Rules.{rules}
use Prim.Native.Nat.{ℕ}
use mathlib.Core.Path.{◌≡◌, refl, sym, ap, ◌∙◌}
use mathlib.Core.List.{List, [], ◌∷◌, ◌++◌}
use native.Mathlib.Omega.{arith}
use lib.ListN.{length, get_or}
use Rattle.limits.specs.Limits.{k_size, h_size, exchange_mark}
use Rattle.buffers.specs.Bytes.{laid}
use Rattle.stored.specs.Stored.{bytes16, bytes64, session_bytes, encoded}
use Rattle.stored.proofs.StoredLaws.{size_taken, size_left}
use Rattle.values.proofs.LoadLaws.{laid_five}
use Rattle.values.proofs.store.Goals as goal

abbrev pair : List ℕ → List ℕ
pair b = get_or b 0 0 ∷ get_or b 1 0 ∷ []

pub returns-then-b-ne-EXCHANGE_SIZE : goal.returns-then-b-ne-EXCHANGE_SIZE
returns-then-b-ne-EXCHANGE_SIZE c = size_left c.args.b.now c.args.b.now _ c.if-b-ne-EXCHANGE_SIZE.true

pub slice_bounds-put_bytes-end-2 : goal.slice_bounds-put_bytes-end-2
slice_bounds-put_bytes-end-2 c =
    let l : length c.args.x.k ≡ k_size = search (rules, c.well_formed.1.0) in
    sym l

pub slice_bounds-put_bytes-end-3 : goal.slice_bounds-put_bytes-end-3
slice_bounds-put_bytes-end-3 c =
    let l : length c.args.x.h ≡ h_size = search (rules, c.well_formed.1.0) in
    sym l

pub returns : goal.returns
unfolding encoded
returns c =
    let x = c.args.x in
    let b = c.args.b.now in
    let s = x.session in
    let k : length x.k ≡ k_size = search (rules, c.well_formed.1.0) in
    let h : length x.h ≡ h_size = search (rules, c.well_formed.1.0) in
    let d : length s.id ≡ h_size = search (rules, c.well_formed.1.0) in
    let m = c.stage_number.ensures in
    let n = c.fail_number.ensures in
    let z = c.if-b-ne-EXCHANGE_SIZE.false in
    c.store_session.ensures
    ∙ ap (λ (a : List ℕ). laid (laid a 154 (bytes16 s.len ++ bytes64 s.count)) 164 s.id)
    (c.put_bytes-3.ensures ∙ ap (λ (a : List ℕ). laid a 90 x.h) (c.put_bytes-2.ensures ∙ ap (λ (a : List ℕ). laid a 19 x.k) c.put_bytes.ensures))
    ∙ laid_five b _ x.k x.h (bytes16 s.len ++ bytes64 s.count) s.id 19 90 154 164 refl (omega (arith, k)) (omega (arith, h)) refl (omega (arith, z, d))
    ∙ (λ i. exchange_mark ∷ m i ∷ n i ∷ x.role ∷ x.method ∷ []
    ++ pair (c.length_bytes-vc.ensures i) ++ pair (c.length_bytes-vs.ensures i) ++ pair (c.length_bytes-ic.ensures i) ++ pair (c.length_bytes-is.ensures i)
    ++ pair (c.length_bytes-ks.ensures i) ++ pair (c.length_bytes-c.ensures i) ++ pair (c.length_bytes-s.ensures i) ++ x.k ++ x.h ++ session_bytes s)
    ∙ size_taken b b (encoded x) z
