-- What a step in place answers, and the exchange that it leaves, by the definitions of the steps by value. Assumes nothing.
use Rattle.std.specs.Prelude.{ℕ, List}
use Rattle.exchange.specs.declared.Exchange.{Exchange}
use Rattle.exchange.specs.declared.Step.{Step}
use Rattle.exchange.specs.declared.SecretStep.{SecretStep}
use Rattle.exchange.specs.Steps.{Call, answered, secret_answered}
use Rattle.in_place.specs.declared.Counts.{Counts}
use Rattle.in_place.specs.declared.SecretCounts.{SecretCounts}

-- a step's answer without its exchange
abbrev pub counts_of : Step → Counts
counts_of r = record { number = r.number; count = r.count; second = r.second; position = r.position }

-- what the step in place answers
abbrev pub in_place_of : Exchange → List ℕ → Call → Counts
in_place_of e room q = counts_of (answered e room q)

-- the secret's answer likewise, H beside it
abbrev pub secret_counts_of : SecretStep → SecretCounts
secret_counts_of r = record { number = r.step.number; count = r.step.count; second = r.step.second; h = r.h }

abbrev pub secret_in_place : Exchange → List ℕ → Call → SecretCounts
secret_in_place e room q = secret_counts_of (secret_answered e room q)

-- the exchange that it leaves
abbrev pub left : Exchange → List ℕ → Call → Exchange
left e room q = (answered e room q).exchange
