-- `mpint::shortened` meets its contract. Assumes nothing.
use mathlib.Core.Path.{sym, ap, ◌∙◌}
use Rattle.buffers.proofs.ByteLaws.{tail_part}
use Rattle.mpint.specs.Mpint.{shortest}
use Rattle.mpint.proofs.MpintLaws.{shortest_more, shortest_done}
use Rattle.mpint.proofs.shortened.Goals as goal

pub loop-rest-preserved : goal.loop-rest-preserved
loop-rest-preserved c =
    let l = c.loop-rest.rest.now in
    ap shortest (tail_part l 1) ∙ sym (shortest_more l (sym c.loop-rest-test.ensures)).1 ∙ c.loop-rest.invariant

pub returns : goal.returns
returns c = sym (shortest_done c.loop-rest.rest.now (sym c.loop-rest-test.ensures)) ∙ c.loop-rest.invariant
