-- `lent_hash::store` meets its contract. Assumes nothing.
use mathlib.Core.Path.{◌≡◌, refl, ap, ◌∙◌}
use Prim.Native.Nat.{ℕ}
use mathlib.Core.List.{List, [], ◌∷◌, ◌++◌}
use lib.ListN.{length}
use Rattle.limits.specs.Limits.{h_size, block_most}
use Rattle.buffers.specs.Bytes.{laid}
use Rattle.sha_words.proofs.PaddingLaws.{length_bytes_of}
use Rattle.lent_hash.specs.LentHash.{state_bytes}
use Rattle.lent_hash.proofs.LentHashLaws.{laid_five}
use borrow.Author.Rules.{rules}
use Rattle.lent_hash.proofs.store.Goals as goal

pub returns : goal.returns
unfolding state_bytes
returns c =
    let s = c.args.s.now in
    let v : length s.value ≡ h_size = search rules in
    let t : length s.tail ≡ block_most = search rules in
    let total = c.bytes_64.ensures in
    let held = c.bytes_64-2.ensures in
    c.put_array-5.ensures
    ∙ ap (λ (t : List ℕ). laid t 81 s.tail) (c.put_array-4.ensures
    ∙ ap (λ (t : List ℕ). laid t 17 s.value) (c.put_array-3.ensures
    ∙ ap (λ (t : List ℕ). laid t 9 c.bytes_64-2.result) (c.put_array-2.ensures
    ∙ ap (λ (t : List ℕ). laid t 1 c.bytes_64.result) c.put_array.ensures)))
    ∙ laid_five c.args.h.now (s.kind ∷ []) _ _ s.value s.tail refl (ap length total ∙ length_bytes_of 8 s.total) (ap length held ∙ length_bytes_of 8 s.held) v t c.requires
    ∙ (λ i. (s.kind ∷ []) ++ total i ++ held i ++ s.value ++ s.tail)
