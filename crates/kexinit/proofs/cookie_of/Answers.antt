-- `kexinit::cookie_of` meets its contract. Assumes nothing.
use mathlib.Core.Path.{ap}
use Rattle.wire.proofs.PartLaws.{part_read}
use Rattle.kexinit.specs.Reader.{Opened}
use Rattle.kexinit.proofs.ReaderLaws.{cookie_within}
use Rattle.kexinit.proofs.cookie_of.Goals as goal

pub returns-in-Ok : goal.returns-in-Ok
returns-in-Ok c =
    let s = c.args.payload in
    part_read _ s.now s c.part_of.result c.in-Ok.o.fixed.cookie _ (ap (λ (x : Opened). x.head.cookie) c.in-Ok.ensures) (cookie_within s.now c.args.n) c.part_of.ensures
