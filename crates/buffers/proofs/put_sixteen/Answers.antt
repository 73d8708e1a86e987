-- `buffers::put_sixteen` meets its contract. Assumes nothing.
use Prim.Native.Nat.{◌+◌}
use mathlib.Core.Path.{ap, ◌∙◌}
use Rattle.buffers.specs.Bytes.{eight}
use Rattle.buffers.proofs.put_sixteen.Goals as goal

pub returns : goal.returns
returns c =
    let a = c.args in
    c.put_eight-2.ensures ∙ ap (eight a.at a.src.now (a.i + 8)) c.put_eight.ensures
