-- `boundary::castulfrisa_again` meets its contract. Assumes nothing.
use Prim.Native.Nat.{ℕ}
use mathlib.Core.Path.{ap, ◌∙◌}
use mathlib.Core.List.{[], ◌++◌}
use lib.ListN.{length}
use Rattle.buffers.specs.Bytes.{over}
use Rattle.transcript.specs.Fields.{field}
use Rattle.exchange.specs.Again.{versions_end, begun_again, again_room}
use Rattle.arguments.proofs.ArgumentLaws.{again_wide}
use Rattle.stored.specs.Stored.{encoded, decoded, by_fit}
use Rattle.lent.specs.Lent.{left, untouched, again_left, lent_again}
use Rattle.boundary.proofs.castulfrisa_again.Goals as goal

pub returns : goal.returns
unfolding lent_again again_left again_room
returns c =
    let a = c.args in
    let b = a.ex.now in
    let r = a.room.now in
    let d = decoded b in
    let ic = a.ic.now in
    let is = a.is.now in
    let w = again_wide d (length r) a.method ic is (λ (m : ℕ). encoded (begun_again d m (length ic) (length is))) b in
    let v = again_wide d (length r) a.method ic is (λ (m : ℕ). over r (versions_end d.lens) (field ic ++ field is)) r in
    c.again.ensures
    ∙ ap (λ (m : ℕ). lent_again b r m ic is) c.byte_of-m.ensures
    ∙ (λ i. by_fit b (left (w.0 i) [] (w.1 i) (v.1 i) []) (untouched b r 0 []))
