-- `lent_steps::k_by_method` meets its contract. Assumes nothing.
use mathlib.Core.Path.{ap, ◌∙◌}
use Rattle.std.proofs.Common.{List, ℕ, length}
use Rattle.wire.specs.Parts.{part, inside, bytes_at}
use Rattle.sha_2.proofs.StateLaws.{digest_or_zeros}
use Rattle.secret.specs.Secret.{kept}
use Rattle.lent_steps.proofs.SecretStepLaws.{key_number, key_digest, key_some, key_kept}
use Rattle.lent_steps.proofs.k_by_method.Goals as goal

pub unwrap-requires : goal.unwrap-requires
unwrap-requires c =
    let a = c.args in
    key_some _ c.k_of.result c.requires.2 (c.k_of.ensures ∙ key_number a.method _ a.x.now a.k_pq.now c.k_form-form.ensures c.in_default.is a.k_pq.now)

pub returns-in_default : goal.returns-in_default
returns-in_default c =
    let a = c.args in
    key_kept _ c.k_of.result c.unwrap.result c.requires.2 (c.k_of.ensures ∙ key_number a.method _ a.x.now a.k_pq.now c.k_form-form.ensures c.in_default.is a.k_pq.now) c.unwrap.ensures

pub unwrap-requires-2 : goal.unwrap-requires-2
unwrap-requires-2 c =
    let a = c.args in
    key_some _ c.k_of-2.result c.requires.2
    (c.k_of-2.ensures ∙ ap kept (key_digest a.method _ a.x.now a.k_pq.now c.k_form-form.ensures c.requires.0 c.requires.1 _ _ _ c.digest_len-len.ensures c.hash_of.ensures
    (c.part_of.ensures.0 ∙ ap (λ (l : List ℕ). bytes_at l (inside (length l) (part 0 c.digest_len-len.result))) (c.unwrap_or-bytes.ensures ∙ digest_or_zeros c.hash_of.result))))

pub returns : goal.returns
returns c =
    let a = c.args in
    key_kept _ c.k_of-2.result c.unwrap-2.result c.requires.2
    (c.k_of-2.ensures ∙ ap kept (key_digest a.method _ a.x.now a.k_pq.now c.k_form-form.ensures c.requires.0 c.requires.1 _ _ _ c.digest_len-len.ensures c.hash_of.ensures
    (c.part_of.ensures.0 ∙ ap (λ (l : List ℕ). bytes_at l (inside (length l) (part 0 c.digest_len-len.result))) (c.unwrap_or-bytes.ensures ∙ digest_or_zeros c.hash_of.result))))
    c.unwrap-2.ensures
