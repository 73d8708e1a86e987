-- `lists::list_at` meets its contract. Assumes nothing.
use Rattle.std.proofs.Common.{List, ℕ, ◌∙◌, Bor, refl, ap}
use Rattle.lists.proofs.ListsLaws.{list_got}
use Rattle.lists.proofs.list_at.Goals as goal

pub returns : goal.returns
returns c = ap (λ (b : Bor (List ℕ)). b.now) c.unwrap_or.ensures ∙ list_got c.args.lists.now c.args.from c.args.to c.get.result _ c.get.ensures.lookup refl
