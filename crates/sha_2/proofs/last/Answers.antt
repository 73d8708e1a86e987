-- `sha_2::last` meets its contract. Assumes nothing.
use Prim.Native.Nat.{ℕ, ◌-◌, ◌*◌, ◌<◌, ◌≤◌}
use mathlib.Core.Path.{ap, ◌∙◌}
use native.Mathlib.Omega.{arith}
use native.Mathlib.Nat.{mod-lt}
use mathlib.Core.List.{List, [], ◌∷◌, ◌++◌}
use lib.ListN.{length}
use Rattle.limits.specs.Limits.{block_most}
use Rattle.buffers.specs.Bytes.{laid}
use Rattle.sha_words.specs.Constants.{width_of}
use Rattle.sha_words.specs.Message.{bytes_of, sized}
use Rattle.sha_words.proofs.SizedLaws.{sized_none}
use Rattle.sha_words.proofs.PaddingLaws.{Sizes, sizes_of_lem}
use Rattle.sha_2.proofs.CodeLaws.{last_one, last_two}
use Rattle.sha_2.proofs.last.Goals.{After-block_of-size}
use Rattle.sha_2.proofs.last.Goals as goal

-- what is known of the block's size
record Size (kind : ℕ) (before : List ℕ) (size : ℕ) : Type 0 where
  pub three : 3 ≤ size
  pub most : size ≤ block_most
  pub less : length before < size
  pub in_block : length before < (width_of kind).block

known-size : (c : After-block_of-size) → let a = c.args in Size a.kind a.before.now c.block_of-size.result
known-size c =
    let s : Sizes (width_of c.args.kind) = sizes_of_lem c.args.kind in
    let l = mod-lt c.args.total s.positive in
    let e = c.block_of-size.ensures in
    record {
      three = omega (arith, e, s.three, s.room);
      most = omega (arith, e, s.most);
      less = omega (arith, e, c.requires.waits, l);
      in_block = omega (arith, c.requires.waits, l);
    }

pub returns-then-before-size : goal.returns-then-before-size
returns-then-before-size c =
    let count = bytes_of 3 (8 * c.args.total) in
    last_one c.args.kind c.args.value c.args.before.now c.args.total c.requires c.put_count.new.t c.blocks-then-before-size.result (c.block_of-size.result - 0)
    (omega (arith, c.block_of-size.ensures)) (omega (arith, c.block_of-size.ensures, (sizes_of_lem c.args.kind).words))
    (c.put_count.ensures ∙ ap (λ (l : List ℕ). laid l (c.block_of-size.result - 3) count) c.joined-b.ensures
    ∙ ap (λ (m : ℕ). laid (sized block_most (c.args.before.now ++ (128 ∷ []))) (m - 3) count) c.block_of-size.ensures)
    c.blocks-then-before-size.ensures

pub returns : goal.returns
returns c =
    let k = known-size (goal.at.returns c).After-block_of-size in
    let count = bytes_of 3 (8 * c.args.total) in
    last_two c.args.kind c.args.value c.args.before.now c.args.total c.requires c.joined-b.result c.put_count-2.new.t c.blocks-x.result c.blocks-2.result (c.block_of-size.result - 0)
    (omega (arith, c.block_of-size.ensures)) (omega (arith, c.block_of-size.ensures, (sizes_of_lem c.args.kind).words)) k.in_block
    c.joined-b.ensures c.blocks-x.ensures
    (c.put_count-2.ensures ∙ ap (λ (l : List ℕ). laid l (c.block_of-size.result - 3) count) (sized_none block_most)
    ∙ ap (λ (m : ℕ). laid (sized block_most []) (m - 3) count) c.block_of-size.ensures)
    c.blocks-2.ensures
