-- `lent::one_more` meets its contract. Assumes nothing.
use mathlib.Core.Path.{refl}
use Rattle.lent.proofs.LentLaws.{one_more_put}
use Rattle.lent.proofs.one_more.Goals as goal

pub returns : goal.returns
returns c =
    one_more_put c.args.ex.now _ _ _ _ refl c.count_in-count.ensures.0 c.name_session.ensures c.put_count.ensures
