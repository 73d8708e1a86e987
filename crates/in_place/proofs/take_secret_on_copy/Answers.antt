-- `in_place::take_secret_on_copy` meets its contract. Assumes nothing.
use Rattle.exchange.specs.Steps.{secret_answered, answered, position_of}
use Rattle.in_place.proofs.take_secret_on_copy.Goals as goal

pub returns : goal.returns
unfolding secret_answered answered position_of
returns c =
    let e = c.take_secret_in-a.ensures in (
      (λ i. record {
        step = record { number = (e.0 i).number; count = (e.0 i).count; second = (e.0 i).second; exchange = e.1 i; position = 0 };
        h = (e.0 i).h;
      }),
      e.2,
    )
