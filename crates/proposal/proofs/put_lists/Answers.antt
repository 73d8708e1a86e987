-- `proposal::put_lists` meets its contract. Assumes nothing.
use Rattle.std.proofs.Common.{ℕ, ◌+◌, ◌≡◌, ◌∙◌, List, length, get_or, drop, sym, ap, arith}
use Rattle.wire.specs.Strings.{string, strings}
use Rattle.wire.proofs.StringLaws.{length_string}
use Rattle.wire.proofs.StringsLaws.{length_strings}
use Rattle.proposal.specs.Total.{bodies}
use Rattle.proposal.proofs.WriterLaws.{put, put_laid, laid_length, none_lent, bodies_left, bodies_done}
use Rattle.proposal.proofs.put_lists.Goals as goal

pub overflow_add-place-in-loop-list : goal.overflow_add-place-in-loop-list
overflow_add-place-in-loop-list c =
    let l = c.loop-list in
    let b = bodies_left c.args.lists.now l.list-index (omega arith) in
    let n = ap (λ (x : List (List ℕ)). length (strings x)) b ∙ length_strings _ _ in
    let k = c.type_inv.out in
    omega (arith, n, l.invariant.0, c.requires)

pub loop-list-preserved : goal.loop-list-preserved
loop-list-preserved c =
    let l = c.loop-list in
    let b = bodies_left c.args.lists.now l.list-index (omega arith) in
    let n = ap (λ (x : List (List ℕ)). length (strings x)) b ∙ length_strings _ _ in
    let q = sym (ap (put l.out l.place) b) ∙ l.invariant.1 in
    let x = (get_or c.args.lists.now l.list-index none_lent).now in
    let m : l.place + (4 + length x) ≡ l.place + length (string x) = omega (arith, length_string x) in
    (omega (arith, n, l.invariant.0), (λ i. put (c.put_string.ensures i) (m i) (bodies (drop (l.list-index + 1) c.args.lists.now))) ∙ q, laid_length _ _ _ _ c.put_string.ensures ∙ l.invariant.2)

pub returns : goal.returns
returns c =
    let s = c.args.lists.now in
    let l = c.loop-list in
    let d = bodies_done s l.list-index (omega arith) in (
      omega (arith, l.invariant.0, ap (λ (x : List (List ℕ)). length (strings x)) d),
      sym (ap (put l.out l.place) d) ∙ l.invariant.1 ∙ put_laid c.args.out.now c.args.at (bodies s) c.requires,
    )
