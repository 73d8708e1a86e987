-- `sha_2::value_of_both` meets its contract. Assumes nothing.
use mathlib.Core.Path.{◌≡◌, refl, sym, ap, ◌∙◌}
use Prim.Native.Nat.{ℕ, ◌+◌, ◌-◌, ◌%◌}
use native.Mathlib.Omega.{arith}
use mathlib.Core.List.{◌++◌}
use lib.ListN.{length, take, drop}
use Rattle.sha_words.specs.Constants.{width_of}
use Rattle.sha_words.specs.Message.{padding, behind, value_after}
use Rattle.sha_words.proofs.PaddingLaws.{sizes_of_lem}
use Rattle.sha_2.proofs.CodeLaws.{behind_code, both_ended}
use Rattle.sha_2.proofs.value_of_both.Goals.{After-block_of-size}
use Rattle.sha_2.proofs.value_of_both.Goals as goal

-- what stands behind the whole blocks of a
rest : (c : After-block_of-size) → let a = c.args in
    take (length a.a.now - (length a.a.now - length a.a.now % c.block_of-size.result)) (drop (length a.a.now - length a.a.now % c.block_of-size.result) a.a.now) ≡ behind (width_of a.kind) a.a.now
rest c = let a = c.args in behind_code (width_of a.kind) a.a.now c.block_of-size.result c.block_of-size.ensures

-- how many bytes stand there and in b
abbrev held : (c : After-block_of-size) → ℕ
held c =
    let a = c.args in
    length (take (length a.a.now - (length a.a.now - length a.a.now % c.block_of-size.result)) (drop (length a.a.now - length a.a.now % c.block_of-size.result) a.a.now)) + length a.b.now

pub returns : goal.returns
returns c =
    let s = (goal.at.returns c).After-block_of-size in
    let a = c.args in
    let n : ℕ = held s % c.block_of-size.result in
    let z : n ≡ n - 0 = omega arith in
    both_ended (width_of a.kind) a.value a.a.now a.b.now _ c.blocks-x.result c.absorb-y.result c.tail_of-tail.result c.last.result n
    (length a.a.now + length a.b.now) (sizes_of_lem a.kind) c.blocks-x.ensures (rest s) c.absorb-y.ensures
    (ap (λ (k : ℕ). held s % k) c.block_of-size.ensures) c.tail_of-tail.ensures refl
    (c.last.ensures ∙ ap (λ (k : ℕ). value_after (width_of a.kind) c.absorb-y.result (take k c.tail_of-tail.result ++ padding (width_of a.kind) (length a.a.now + length a.b.now))) (sym z))
