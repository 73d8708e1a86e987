-- A history: calls of the steps and calls to begin again, each of which left what its own contract, as it is read from the source, says of it. A link is
-- `Reads.Learnt` of that very function, what its caller learns of the arguments a, the result r and the parameters at exit s; so a
-- contract that is weakened in the source weakens the history. Each call gets the exchange and the room as the last left them.
-- Assumes nothing.
use Rattle.std.specs.Prelude.{ℕ, List, [], ◌∷◌, length}
use contract.Lifetimes.{Lfts}
use denote.Triple.Clauses.{AtExit}
use borrow.Fn.World.{ArgsD}
use Rattle.exchange.specs.Steps.{own_c, init, reply, secret, sign, verdict}
use Rattle.exchange.specs.Again.{Turn, step, again}
use Rattle.exchange.specs.declared.Step.{Step}
use Rattle.exchange.specs.declared.SecretStep.{SecretStep}
use Rattle.exchange.specs.declared.Exchange.{Exchange}
use Rattle.client.specs.contracts.own_c as own-c-fn
use Rattle.client.proofs.own_c.Reads as own-c-reads
use Rattle.server.specs.contracts.read_init as read-init-fn
use Rattle.server.proofs.read_init.Reads as read-init-reads
use Rattle.client.specs.contracts.read_reply as read-reply-fn
use Rattle.client.proofs.read_reply.Reads as read-reply-reads
use Rattle.steps.specs.contracts.take_secret as take-secret-fn
use Rattle.steps.proofs.take_secret.Reads as take-secret-reads
use Rattle.steps.specs.contracts.again as again-fn
use Rattle.steps.proofs.again.Reads as again-reads
use Rattle.server.specs.contracts.sign as sign-fn
use Rattle.server.proofs.sign.Reads as sign_reads
use Rattle.client.specs.contracts.verdict as verdict-fn
use Rattle.client.proofs.verdict.Reads as verdict-reads

-- from an exchange and a room, by calls that answered these numbers, to an exchange and a room
pub data History : Exchange → List ℕ → List Turn → List ℕ → Exchange → List ℕ → Type 0 where
  no_call : {e : Exchange} {room : List ℕ} → History e room [] [] e room
  own_c_lem : {qs : List Turn} {ns : List ℕ} {e' : Exchange} {room' : List ℕ} (κs : Lfts 3) (a : ArgsD own-c-fn.signature κs) (r : Step) (s : AtExit own-c-fn.ended κs) →
      own-c-reads.Learnt κs a r s → History r.exchange s.1.0.now qs ns e' room' →
      History a.0 a.1.0.now (step (own_c a.1.1.0.now (length a.1.1.1.0.now)) ∷ qs) (r.number ∷ ns) e' room'
  read_init : {qs : List Turn} {ns : List ℕ} {e' : Exchange} {room' : List ℕ} (κs : Lfts 2) (a : ArgsD read-init-fn.signature κs) (r : Step) (s : AtExit read-init-fn.ended κs) →
      read-init-reads.Learnt κs a r s → History r.exchange s.1.0.now qs ns e' room' →
      History a.0 a.1.0.now (step (init a.1.1.0.now) ∷ qs) (r.number ∷ ns) e' room'
  read_reply : {qs : List Turn} {ns : List ℕ} {e' : Exchange} {room' : List ℕ} (κs : Lfts 2) (a : ArgsD read-reply-fn.signature κs) (r : Step) (s : AtExit read-reply-fn.ended κs) →
      read-reply-reads.Learnt κs a r s → History r.exchange s.1.0.now qs ns e' room' →
      History a.0 a.1.0.now (step (reply a.1.1.0.now) ∷ qs) (r.number ∷ ns) e' room'
  take_secret : {qs : List Turn} {ns : List ℕ} {e' : Exchange} {room' : List ℕ} (κs : Lfts 5) (a : ArgsD take-secret-fn.signature κs) (r : SecretStep) (s : AtExit take-secret-fn.ended κs) →
      take-secret-reads.Learnt κs a r s → History r.step.exchange s.1.0.now qs ns e' room' →
      History a.0 a.1.0.now (step (secret a.1.1.0 a.1.1.1.0.now a.1.1.1.1.0 a.1.1.1.1.1.0.now a.1.1.1.1.1.1.0.now a.1.1.1.1.1.1.1.0.now) ∷ qs) (r.step.number ∷ ns) e' room'
  give_sign : {qs : List Turn} {ns : List ℕ} {e' : Exchange} {room' : List ℕ} (κs : Lfts 4) (a : ArgsD sign-fn.signature κs) (r : Step) (s : AtExit sign-fn.ended κs) →
      sign_reads.Learnt κs a r s → History r.exchange a.1.0.now qs ns e' room' →
      History a.0 a.1.0.now (step (sign a.1.1.0.now (length a.1.1.1.0.now) (length a.1.1.1.1.0.now)) ∷ qs) (r.number ∷ ns) e' room'
  give_verdict : {qs : List Turn} {ns : List ℕ} {e' : Exchange} {room' : List ℕ} (κs : Lfts 2) (a : ArgsD verdict-fn.signature κs) (r : Step) (s : AtExit verdict-fn.ended κs) →
      verdict-reads.Learnt κs a r s → History r.exchange s.1.0.now qs ns e' room' →
      History a.0 a.1.0.now (step (verdict a.1.1.0 a.1.1.1.0 (length a.1.1.1.1.0.now)) ∷ qs) (r.number ∷ ns) e' room'
  begin_again : {qs : List Turn} {ns : List ℕ} {e' : Exchange} {room' : List ℕ} (κs : Lfts 3) (a : ArgsD again-fn.signature κs) (r : Step) (s : AtExit again-fn.ended κs) →
      again-reads.Learnt κs a r s → History r.exchange s.1.0.now qs ns e' room' →
      History a.0 a.1.0.now (again a.1.1.0 a.1.1.1.0.now a.1.1.1.1.0.now ∷ qs) (r.number ∷ ns) e' room'
