-- `lent_server::put_reply` meets its contract. Assumes nothing.
use native.Mathlib.Omega.{arith}
use Rattle.messages.proofs.MessageLaws.{length_reply}
use Rattle.lent_server.proofs.ServerLaws.{reply_laid, reply_output_length}
use Rattle.lent_server.proofs.put_reply.Goals as goal

pub bounds-out-0 : goal.bounds-out-0
bounds-out-0 c =
    let a = c.args in
    let n = length_reply a.ks.now a.s.now a.signature.now in
    omega (arith, c.requires)

pub overflow_add-b-2 : goal.overflow_add-b-2
overflow_add-b-2 c =
    let a = c.args in
    let n = length_reply a.ks.now a.s.now a.signature.now in
    omega (arith, c.requires)

pub shape_of-out : goal.shape_of-out
shape_of-out c =
    let a = c.args in
    reply_output_length a.out.now a.ks.now a.s.now a.signature.now _ _ _ c.requires c.put_string.ensures c.put_string-2.ensures c.put_string-3.ensures

pub returns : goal.returns
returns c =
    let a = c.args in
    reply_laid a.out.now a.ks.now a.s.now a.signature.now _ _ _ c.requires c.put_string.ensures c.put_string-2.ensures c.put_string-3.ensures
