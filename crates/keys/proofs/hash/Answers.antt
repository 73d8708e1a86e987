-- `keys::hash` meets its contract. Assumes nothing.
use mathlib.Core.Path.{ap, ◌∙◌}
use native.Mathlib.Omega.{arith}
use mathlib.Core.List.{◌++◌}
use lib.ListN.{length-append}
use Rattle.sha_2.specs.Hash.{Digest}
use Rattle.sha_2.proofs.StateLaws.{digest_or_zeros}
use Rattle.sha_2.proofs.WholeLaws.{digested_known}
use Rattle.keys.proofs.hash.Goals as goal

pub returns : goal.returns
returns c =
    let a = c.args.a.now in
    let b = c.args.b.now in
    c.unwrap_or.ensures ∙ digest_or_zeros c.hash_of.result
    ∙ ap (λ (d : Digest). d.bytes)
    (c.hash_of.ensures ∙ digested_known c.args.kind (a ++ b) c.requires.0 (omega (arith, length-append a b, c.requires.1)))
