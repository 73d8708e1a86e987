-- `keys::write_key` meets its contract. Assumes nothing.
use Prim.Native.Nat.{◌+◌}
use mathlib.Core.Path.{refl}
use mathlib.Core.List.{[], ◌∷◌}
use native.Mathlib.Omega.{arith}
use Rattle.limits.specs.Limits.{k_size, h_size}
use Rattle.keys.proofs.CodeLaws.{both_cut}
use Rattle.keys.proofs.write_key.Goals as goal

pub returns : goal.returns
returns c =
    let k = c.args.k.now in
    let h = c.args.h.now in
    let letter = c.args.letter in
    let id = c.args.id.now in
    c.lay_key.ensures k h letter id
    (both_cut (k_size + h_size) _ k h _ (omega arith) refl c.put_both.ensures)
    (both_cut (1 + h_size) _ (letter ∷ []) id _ (omega arith) refl c.put_both-2.ensures)
