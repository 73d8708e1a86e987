-- `lent_client::put_init` meets its contract. Assumes nothing.
use native.Mathlib.Omega.{arith}
use Rattle.messages.proofs.MessageLaws.{length_init}
use Rattle.lent_client.proofs.ClientLaws.{init_laid, init_output_length}
use Rattle.lent_client.proofs.put_init.Goals as goal

pub bounds-out-0 : goal.bounds-out-0
bounds-out-0 c = let n = length_init c.args.c.now in omega (arith, c.requires)

pub shape_of-out : goal.shape_of-out
shape_of-out c =
    let a = c.args in init_output_length a.out.now a.c.now _ c.requires c.put_string.ensures

pub returns : goal.returns
returns c =
    let a = c.args in init_laid a.out.now a.c.now _ c.requires c.put_string.ensures
