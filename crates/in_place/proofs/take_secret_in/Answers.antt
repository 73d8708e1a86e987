-- `in_place::take_secret_in` meets its contract. Assumes nothing.
use mathlib.Core.Path.{ap, ◌∙◌}
use Rattle.exchange.specs.declared.SecretStep.{SecretStep}
use Rattle.in_place.specs.InPlace.{secret_counts_of}
use Rattle.exchange.specs.Steps.{secret_answered}
use Rattle.in_place.proofs.take_secret_in.Goals as goal

pub returns : goal.returns
unfolding secret_answered
returns c =
    let e = c.take_secret-r.ensures in
    (c.from.ensures ∙ ap secret_counts_of e.0, ap (λ (r : SecretStep). r.step.exchange) e.0, e.1)
