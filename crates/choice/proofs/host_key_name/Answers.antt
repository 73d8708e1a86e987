-- `choice::host_key_name` meets its contract. Assumes nothing.
use mathlib.Core.Path.{ap}
use Rattle.wire.proofs.PartLaws.{part_read}
use Rattle.common.specs.Common.{any}
use Rattle.choice.specs.Choice.{Choice}
use Rattle.choice.proofs.ChoiceLaws.{host_key_within}
use Rattle.choice.proofs.host_key_name.Goals as goal

pub returns-in-Ok : goal.returns-in-Ok
returns-in-Ok c =
    let a = c.args.client.now in
    let s = c.args.server.now in
    part_read _ a c.args.client c.part_of.result c.in-Ok.c.host_key _ (ap (λ (x : Choice). x.host_key) c.in-Ok.ensures) (host_key_within any a s) c.part_of.ensures
