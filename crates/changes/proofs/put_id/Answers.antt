-- `changes::put_id` meets its contract. Assumes nothing.
use mathlib.Core.Path.{◌≡◌}
use lib.ListN.{length}
use Rattle.limits.specs.Limits.{exchange_size}
use Rattle.changes.proofs.ChangeLaws.{changed}
use Rattle.changes.proofs.put_id.Goals as goal

pub returns : goal.returns
returns c = changed c.args.b.now _ _ (λ (e : length c.args.b.now ≡ exchange_size). let t = c.change.ensures.taken e in let s = t.shows in let l = t.leaves in let m = t.met in cc) c.change.ensures.left
