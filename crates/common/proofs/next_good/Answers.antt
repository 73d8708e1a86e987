-- `common::next_good` meets its contract. Assumes nothing.
use Rattle.std.proofs.Common.{◌∙◌, Option, Ok, ap}
use Rattle.names.specs.Next.{next_told}
use Rattle.names.specs.declared.Named.{Named}
use Rattle.common.proofs.CommonLaws.{good_told}
use Rattle.common.proofs.next_good.Goals as goal

pub returns : goal.returns
returns c =
    ap (λ (o : Option Named). next_told c.args.c (Ok o)) c.unwrap_or.ensures ∙ good_told c.args.list.now c.args.c c.next_name.result c.next_name.ensures
