-- `boundary::castulfrisa_take_secret` meets its contract. Assumes nothing.
use mathlib.Core.Path.{ap, ◌∙◌}
use mathlib.Core.List.{[]}
use Prim.Native.Nat.{ℕ}
use Rattle.exchange.specs.Steps.{secret}
use Rattle.arguments.specs.Arguments.{kem_of}
use Rattle.lent.specs.Lent.{lent_call}
use Rattle.stored.proofs.StoredLaws.{method_read}
use Rattle.boundary.proofs.castulfrisa_take_secret.Goals as goal

pub returns : goal.returns
returns c =
    let a = c.args in
    let k = c.kem_of-km.ensures ∙ ap (λ (m : ℕ). kem_of m a.kem) (method_read a.ex.now _ c.byte_in.ensures) in
    c.take_secret.ensures ∙ (λ i. lent_call a.ex.now a.room.now (secret (c.classical_of-cl.ensures i) a.x.now (k i) a.k_pq.now a.ks.now a.s.now) [])
