-- `lent_steps::put_head` meets its contract. Assumes nothing.
use Rattle.lent_steps.proofs.StartLaws.{head_laid}
use Rattle.lent_steps.proofs.put_head.Goals as goal

pub returns : goal.returns
returns c =
    let a = c.args in
    head_laid a.room.now a.vc.now a.vs.now a.ic.now a.is.now c.requires _ _ _ _ c.put_field.ensures c.put_field-2.ensures c.put_field-3.ensures c.put_field-4.ensures
