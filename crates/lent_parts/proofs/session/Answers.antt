-- `lent_parts::session` meets its contract. Assumes nothing.
use mathlib.Core.Path.{sym}
use mathlib.Core.Path.{◌∙◌}
use Rattle.exchange.specs.Record.{id_fits}
use Rattle.due.proofs.FitLaws.{len_read, count_read}
use Rattle.lent_parts.proofs.PartLaws.{session_none, session_some}
use Rattle.lent_parts.proofs.session.Goals as goal

pub returns-then-not-fits : goal.returns-then-not-fits
returns-then-not-fits c = rw c.number.ensures (session_none c.args.ex.now (rw (sym c.fits.ensures ∙ c.if-not-fits.true)))

pub returns-then-not-id_fits : goal.returns-then-not-id_fits
returns-then-not-id_fits c =
    let b = c.args.ex.now in
    let f = sym c.fits.ensures ∙ c.if-not-fits.false in
    let z = c.id_fits.ensures ∙ (λ i. id_fits (len_read b f _ c.id_len_in-len.ensures.0 i) (count_read b f _ c.count_in-count.ensures.0 i)) in
    rw c.number-then-not-id_fits.ensures (session_none b (rw (f, sym z ∙ c.if-not-id_fits.true)))

pub returns : goal.returns
returns c =
    let b = c.args.ex.now in
    let f = sym c.fits.ensures ∙ c.if-not-fits.false in
    let l = len_read b f _ c.id_len_in-len.ensures.0 in
    let n = count_read b f _ c.count_in-count.ensures.0 in
    let z = c.id_fits.ensures ∙ (λ i. id_fits (l i) (n i)) in
    session_some b f (rw (f, sym z ∙ c.if-not-id_fits.false)) _ _ _ l n c.id_of.ensures
