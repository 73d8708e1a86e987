-- `keys::lay_key` meets its contract. The loop's invariant: whole blocks of the key are laid, or the output is full. Assumes nothing.
use native.Mathlib.Omega.{arith}
use lib.ListN.{length}
use Rattle.keys.proofs.KeyLaws.{kind_within}
use Rattle.keys.proofs.CodeLaws.{laid_first, laid_next, laid_all}
use borrow.Author.Rules.{rules}
use Rattle.keys.proofs.lay_key.Goals as goal

pub slice_bounds-put_truncated-end : goal.slice_bounds-put_truncated-end
slice_bounds-put_truncated-end c = let w = kind_within c.args.kind c.requires.0 in search rules

pub loop-at-init : goal.loop-at-init
loop-at-init c =
    let w = kind_within c.args.kind c.requires.0 in
    (laid_first _ _ _ c.requires.0 _ c.args.out.now _ c.hash-first.ensures c.put_truncated.ensures, search rules, w.0, w.1)

pub loop-at-preserved : goal.loop-at-preserved
loop-at-preserved c = (
  laid_next _ _ _ (search rules) _ _ _ _ (omega arith) (search rules) c.hash-next.ensures c.put_truncated-in-loop-at.ensures,
  search rules,
  search rules,
  search rules,
)

pub returns : goal.returns
returns c =
    let l = c.loop-at in
    laid_all c.args.kind c.args.kh.now c.args.rest.now c.requires.0 l.out l.at (length c.args.out.now) l.invariant.1 (omega arith) l.invariant.0

pub returns-2 : goal.returns-2
returns-2 c =
    let l = c.loop-at in
    let n = laid_next _ _ _ c.requires.0 _ _ _ _ (omega arith) l.invariant.0 c.hash-next.ensures c.put_truncated-in-loop-at.ensures in
    laid_all c.args.kind c.args.kh.now c.args.rest.now c.requires.0 c.put_truncated-in-loop-at.new.out _ (length c.args.out.now) (omega arith) (omega arith) n
