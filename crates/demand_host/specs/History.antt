-- A history where the host stands: calls of the six steps' exports and of the one that begins again, each of which left what its own contract, as it is read
-- from the source, says of it. A link is `Reads.Learnt` of that very export, what its caller learns of the arguments a, the number r and the parameters at
-- exit s. Each call gets the exchange's bytes and the room as the last left them; the numbers that a host hands in stand for what a step
-- takes, a KEM's in the method of the latest beginning. The other exports change neither, and a start begins another history. Assumes nothing.
use Rattle.std.specs.Prelude.{ℕ, List, [], ◌∷◌, cond, length, eqb}
use contract.Lifetimes.{Lfts}
use denote.Triple.Clauses.{AtExit}
use borrow.Fn.World.{ArgsD}
use Rattle.exchange.specs.Steps.{own_c, init, reply, secret, sign, verdict}
use Rattle.exchange.specs.Again.{Turn, step, again}
use Rattle.arguments.specs.Arguments.{is_yes, classical_of, kem_of}
use Rattle.boundary.specs.contracts.castulfrisa_own_c as own-c-fn
use Rattle.boundary.proofs.castulfrisa_own_c.Reads as own-c-reads
use Rattle.boundary.specs.contracts.castulfrisa_read_init as read-init-fn
use Rattle.boundary.proofs.castulfrisa_read_init.Reads as read-init-reads
use Rattle.boundary.specs.contracts.castulfrisa_read_reply as read-reply-fn
use Rattle.boundary.proofs.castulfrisa_read_reply.Reads as read-reply-reads
use Rattle.boundary.specs.contracts.castulfrisa_take_secret as take-secret-fn
use Rattle.boundary.proofs.castulfrisa_take_secret.Reads as take-secret-reads
use Rattle.boundary.specs.contracts.castulfrisa_again as again-fn
use Rattle.boundary.proofs.castulfrisa_again.Reads as again-reads
use Rattle.boundary.specs.contracts.castulfrisa_sign as sign-fn
use Rattle.boundary.proofs.castulfrisa_sign.Reads as sign_reads
use Rattle.boundary.specs.contracts.castulfrisa_verdict as verdict-fn
use Rattle.boundary.proofs.castulfrisa_verdict.Reads as verdict-reads

-- the method that runs: a beginning that answered 0 gives its own
abbrev pub running : ℕ → ℕ → ℕ → ℕ
running m r m' = cond (eqb r 0) m' m

-- in a method, from an exchange's bytes and a room, by calls that answered these numbers, to the bytes and the room that they left
pub data History : ℕ → List ℕ → List ℕ → List Turn → List ℕ → List ℕ → List ℕ → Type 0 where
  no_call : {m : ℕ} {ex room : List ℕ} → History m ex room [] [] ex room
  own_c_lem : {m : ℕ} {qs : List Turn} {ns ex' room' : List ℕ} (κs : Lfts 5) (a : ArgsD own-c-fn.signature κs) (r : ℕ) (s : AtExit own-c-fn.ended κs) →
      own-c-reads.Learnt κs a r s → History m s.0.now s.1.0.now qs ns ex' room' →
      History m a.0.now a.1.0.now (step (own_c a.1.1.0.now (length a.1.1.1.0.now)) ∷ qs) (r ∷ ns) ex' room'
  read_init : {m : ℕ} {qs : List Turn} {ns ex' room' : List ℕ} (κs : Lfts 4) (a : ArgsD read-init-fn.signature κs) (r : ℕ) (s : AtExit read-init-fn.ended κs) →
      read-init-reads.Learnt κs a r s → History m s.0.now s.1.0.now qs ns ex' room' →
      History m a.0.now a.1.0.now (step (init a.1.1.0.now) ∷ qs) (r ∷ ns) ex' room'
  read_reply : {m : ℕ} {qs : List Turn} {ns ex' room' : List ℕ} (κs : Lfts 4) (a : ArgsD read-reply-fn.signature κs) (r : ℕ) (s : AtExit read-reply-fn.ended κs) →
      read-reply-reads.Learnt κs a r s → History m s.0.now s.1.0.now qs ns ex' room' →
      History m a.0.now a.1.0.now (step (reply a.1.1.0.now) ∷ qs) (r ∷ ns) ex' room'
  take_secret : {m : ℕ} {qs : List Turn} {ns ex' room' : List ℕ} (κs : Lfts 8) (a : ArgsD take-secret-fn.signature κs) (r : ℕ) (s : AtExit take-secret-fn.ended κs) →
      take-secret-reads.Learnt κs a r s → History m s.0.now s.1.0.now qs ns ex' room' →
      History m a.0.now a.1.0.now (step (secret (classical_of a.1.1.0 a.1.1.1.0) a.1.1.1.1.0.now (kem_of m a.1.1.1.1.1.0) a.1.1.1.1.1.1.0.now a.1.1.1.1.1.1.1.0.now a.1.1.1.1.1.1.1.1.0.now) ∷ qs) (r ∷ ns) ex' room'
  give_sign : {m : ℕ} {qs : List Turn} {ns ex' room' : List ℕ} (κs : Lfts 6) (a : ArgsD sign-fn.signature κs) (r : ℕ) (s : AtExit sign-fn.ended κs) →
      sign_reads.Learnt κs a r s → History m s.0.now a.1.0.now qs ns ex' room' →
      History m a.0.now a.1.0.now (step (sign a.1.1.0.now (length a.1.1.1.0.now) (length a.1.1.1.1.0.now)) ∷ qs) (r ∷ ns) ex' room'
  give_verdict : {m : ℕ} {qs : List Turn} {ns ex' room' : List ℕ} (κs : Lfts 4) (a : ArgsD verdict-fn.signature κs) (r : ℕ) (s : AtExit verdict-fn.ended κs) →
      verdict-reads.Learnt κs a r s → History m s.0.now s.1.0.now qs ns ex' room' →
      History m a.0.now a.1.0.now (step (verdict (is_yes a.1.1.0) (is_yes a.1.1.1.0) (length a.1.1.1.1.0.now)) ∷ qs) (r ∷ ns) ex' room'
  begin_again : {m : ℕ} {qs : List Turn} {ns ex' room' : List ℕ} (κs : Lfts 4) (a : ArgsD again-fn.signature κs) (r : ℕ) (s : AtExit again-fn.ended κs) →
      again-reads.Learnt κs a r s → History (running m r a.1.1.0) s.0.now s.1.0.now qs ns ex' room' →
      History m a.0.now a.1.0.now (again a.1.1.0 a.1.1.1.0.now a.1.1.1.1.0.now ∷ qs) (r ∷ ns) ex' room'
