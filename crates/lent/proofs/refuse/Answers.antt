-- `lent::refuse` meets its contract. Assumes nothing.
use Rattle.std.proofs.Common.{length, drop, ◌++◌, sym, refl, ap, ◌∙◌}
use Rattle.buffers.specs.Bytes.{zeros}
use Rattle.exchange.specs.Numbers.{Kind, by_kind}
use Rattle.exchange.proofs.KindLaws.{kind_fault}
use Rattle.stored.specs.Stored.{by_size}
use Rattle.changes.specs.Changes.{put_head}
use Rattle.lent.proofs.LentLaws.{refused_fault}
use Rattle.lent.proofs.refuse.Goals as goal

pub returns : goal.returns
returns c =
    let a = c.args in
    let b = a.ex.now in
    let f = sym c.in_range.ensures ∙ c.if-not-in_range.false in
    let d = c.default.ensures.1.1.1.1 in
    let m = c.make.ensures ∙ (λ i. by_size b (put_head (zeros 154 ++ drop 154 b) 6 a.n c.byte_in-role.result c.byte_in-method.result (d.0 i) (d.1.0 i) (d.1.1.0 i) (d.1.1.1 i)) b) in
    (refl, refused_fault a.n b f _ _ _ m c.byte_in-role.ensures c.byte_in-method.ensures, c.wipe.ensures ∙ ap (λ (k : Kind). by_kind k a.room.now a.room.now (zeros (length a.room.now))) (sym (kind_fault a.n f)))
