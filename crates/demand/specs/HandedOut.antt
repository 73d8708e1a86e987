-- What a further call hands out (SPECIFICATION 12.5) after an accepted start and any history, by the book of the same calls: the hash input, H, REPLY, K, and the keys.
-- The call is told by `Reads.Learnt` of its own function, as those of the history are; deriving is none of these. Assumes nothing.
use Rattle.std.specs.Prelude.{ℕ, ◌≡◌, List, length, take}
use contract.Lifetimes.{Lfts}
use denote.Triple.Clauses.{AtExit}
use borrow.Fn.World.{ArgsD}
use Rattle.buffers.specs.Bytes.{onto}
use Rattle.messages.specs.Messages.{reply_bytes, field_of}
use Rattle.exchange.specs.Causes.{reply_cause, h_of}
use Rattle.exchange.specs.Steps.{secret, k_record, output_after}
use Rattle.exchange.specs.Again.{Turn}
use Rattle.exchange.specs.Book.{Book, noted, last_book, hash_input}
use Rattle.exchange.specs.declared.Step.{Step}
use Rattle.exchange.specs.declared.SecretStep.{SecretStep}
use Rattle.steps.specs.contracts.take_secret as take-secret-fn
use Rattle.steps.proofs.take_secret.Reads as take-secret-reads
use Rattle.server.specs.contracts.sign as sign-fn
use Rattle.server.proofs.sign.Reads as sign_reads
use Rattle.client.specs.contracts.verdict as verdict-fn
use Rattle.client.proofs.verdict.Reads as verdict-reads
use Rattle.keys.specs.KeysTold.{key_told, cause_told}
use Rattle.derive.specs.contracts.derive as derive-fn
use Rattle.derive.proofs.derive.Reads as derive-reads
use Rattle.demand.specs.Told.{Told}

-- an accepted secret step counts the hash input, the room begins with it, and the H that was handed out is its hash, by the book's
-- method: what is signed or verified is a function of the book alone
abbrev pub SecretHandsOut : Type 0
SecretHandsOut =
    (b₀ : Book) (room₀ : List ℕ) (calls : List Turn) (numbers : List ℕ)
    (κs : Lfts 5) (a : ArgsD take-secret-fn.signature κs) (r : SecretStep) (s : AtExit take-secret-fn.ended κs)
    → Told b₀ room₀ calls numbers a.0 a.1.0.now → take-secret-reads.Learnt κs a r s → r.step.number ≡ 0
    → let q = secret a.1.1.0 a.1.1.1.0.now a.1.1.1.1.0 a.1.1.1.1.1.0.now a.1.1.1.1.1.1.0.now a.1.1.1.1.1.1.1.0.now in
    let h = hash_input (noted (length room₀) (last_book (length room₀) b₀ calls) q).fields in
    (r.step.count ≡ length h) × (take r.step.count s.1.0.now ≡ h) × (r.h ≡ h_of (last_book (length room₀) b₀ calls).method h)

-- an accepted signature writes REPLY of the book's K_S and S, which is read with 0 and gives the same fields back, and K's record; its
-- counts are their lengths
pub record Signed (b : Book) (signature out k_out out' kOut' : List ℕ) (r : Step) : Type 0 where
  pub out_is : out' ≡ onto out (reply_bytes b.fields.ks b.fields.s signature)
  pub count_is : r.count ≡ length (reply_bytes b.fields.ks b.fields.s signature)
  pub k_out_is : kOut' ≡ onto k_out (k_record b.fields.k)
  pub second_is : r.second ≡ length b.fields.k
  pub read_back : reply_cause b.method (reply_bytes b.fields.ks b.fields.s signature) ≡ 0
  pub ks_back : field_of (reply_bytes b.fields.ks b.fields.s signature) 0 ≡ b.fields.ks
  pub s_back : field_of (reply_bytes b.fields.ks b.fields.s signature) 1 ≡ b.fields.s
  pub signature_back : field_of (reply_bytes b.fields.ks b.fields.s signature) 2 ≡ signature

abbrev pub SignHandsOut : Type 0
SignHandsOut =
    (b₀ : Book) (room₀ : List ℕ) (calls : List Turn) (numbers : List ℕ)
    (κs : Lfts 4) (a : ArgsD sign-fn.signature κs) (r : Step) (s : AtExit sign-fn.ended κs)
    → Told b₀ room₀ calls numbers a.0 a.1.0.now → sign_reads.Learnt κs a r s → r.number ≡ 0
    → Signed (last_book (length room₀) b₀ calls) a.1.1.0.now a.1.1.1.0.now a.1.1.1.1.0.now s.1.1.1.0.now s.1.1.1.1.0.now r

-- an accepted verdict writes K's record, and counts K's length in it
abbrev pub VerdictHandsOut : Type 0
VerdictHandsOut =
    (b₀ : Book) (room₀ : List ℕ) (calls : List Turn) (numbers : List ℕ)
    (κs : Lfts 2) (a : ArgsD verdict-fn.signature κs) (r : Step) (s : AtExit verdict-fn.ended κs)
    → Told b₀ room₀ calls numbers a.0 a.1.0.now → verdict-reads.Learnt κs a r s → r.number ≡ 0
    → let b = last_book (length room₀) b₀ calls in
    (s.1.1.1.1.0.now ≡ onto a.1.1.1.1.0.now (k_record b.fields.k)) × (r.count ≡ length b.fields.k)

-- a call that derives, accepted or not, answers by the book and leaves the output as the book tells it: the six keys are a function of the book
abbrev pub KeyHandsOut : Type 0
KeyHandsOut =
    (b₀ : Book) (room₀ : List ℕ) (calls : List Turn) (numbers room : List ℕ)
    (κs : Lfts 1) (a : ArgsD derive-fn.signature κs) (r : ℕ) (s : AtExit derive-fn.ended κs)
    → Told b₀ room₀ calls numbers a.0 room → derive-reads.Learnt κs a r s
    → let b = last_book (length room₀) b₀ calls in
    let out = a.1.1.1.0.now in
    (r ≡ cause_told b a.1.0 a.1.1.0 (length out)) × (s.1.1.1.0.now ≡ output_after r out (key_told b a.1.0 a.1.1.0))

-- all four
pub record HandedOut : Type 0 where
  pub secret_step_is : SecretHandsOut
  pub signature : SignHandsOut
  pub verdict : VerdictHandsOut
  pub key : KeyHandsOut
