-- `lent_steps::h_of` meets its contract. Assumes nothing.
use mathlib.Core.Path.{refl, sym, ◌∙◌}
use Rattle.sha_2.proofs.StateLaws.{digest_or_zeros}
use lib.Seq.{length-take-le}
use Rattle.lent_steps.proofs.SecretStepLaws.{hash_is}
use Rattle.lent_steps.proofs.h_of.Goals as goal

pub slice_bounds-hash_of-end : goal.slice_bounds-hash_of-end
slice_bounds-hash_of-end c =
    sym (length-take-le c.args.n c.args.room.now c.requires.1)

pub returns : goal.returns
returns c =
    let a = c.args in
    c.unwrap_or.ensures ∙ digest_or_zeros c.hash_of.result
    ∙ hash_is a.method _ _ a.room.now a.n _ _ c.requires.0 c.requires.2 c.requires.1 c.digest_len.ensures refl refl c.hash_of.ensures
