-- What a further call of an export hands out after an accepted start and any history, by the book of the same calls: the hash input, H,
-- REPLY, K, the keys, and the session. The call is told by `Reads.Learnt` of its own export, as those of the history are; deriving and telling the session are none of these. Assumes nothing.
use Rattle.std.specs.Prelude.{ℕ, ◌≡◌, List, [], ◌∷◌, length, take}
use contract.Lifetimes.{Lfts}
use denote.Triple.Clauses.{AtExit}
use borrow.Fn.World.{ArgsD}
use Rattle.buffers.specs.Bytes.{onto}
use Rattle.messages.specs.Messages.{reply_bytes, field_of}
use Rattle.exchange.specs.Causes.{reply_cause, h_of}
use Rattle.exchange.specs.Steps.{secret, k_record, output_after}
use Rattle.exchange.specs.Again.{Turn}
use Rattle.exchange.specs.Book.{Book, noted, finished, last_book, hash_input, session_of}
use Rattle.arguments.specs.Arguments.{classical_of, kem_of}
use Rattle.boundary.specs.contracts.castulfrisa_take_secret as take-secret-fn
use Rattle.boundary.proofs.castulfrisa_take_secret.Reads as take-secret-reads
use Rattle.boundary.specs.contracts.castulfrisa_sign as sign-fn
use Rattle.boundary.proofs.castulfrisa_sign.Reads as sign_reads
use Rattle.boundary.specs.contracts.castulfrisa_verdict as verdict-fn
use Rattle.boundary.proofs.castulfrisa_verdict.Reads as verdict-reads
use Rattle.keys.specs.KeysTold.{key_told, cause_told}
use Rattle.boundary.specs.contracts.castulfrisa_session_id as session-fn
use Rattle.boundary.proofs.castulfrisa_session_id.Reads as session-reads
use Rattle.boundary.specs.contracts.castulfrisa_derive as derive-fn
use Rattle.boundary.proofs.castulfrisa_derive.Reads as derive-reads
use Rattle.demand_host.specs.Told.{Told}

-- an accepted secret step counts the hash input, the room begins with it, and the H that was handed out is its hash, by the book's
-- method: what is signed or verified is a function of the book alone
abbrev pub SecretHandsOut : Type 0
SecretHandsOut =
    (b₀ : Book) (room₀ : List ℕ) (calls : List Turn) (numbers : List ℕ)
    (κs : Lfts 8) (a : ArgsD take-secret-fn.signature κs) (r : ℕ) (s : AtExit take-secret-fn.ended κs)
    → Told b₀ room₀ calls numbers a.0.now a.1.0.now → take-secret-reads.Learnt κs a r s → r ≡ 0
    → let q = secret (classical_of a.1.1.0 a.1.1.1.0) a.1.1.1.1.0.now (kem_of (last_book (length room₀) b₀ calls).method a.1.1.1.1.1.0) a.1.1.1.1.1.1.0.now a.1.1.1.1.1.1.1.0.now a.1.1.1.1.1.1.1.1.0.now in
    let h = hash_input (noted (length room₀) (last_book (length room₀) b₀ calls) q).fields in
    (s.1.1.1.1.1.1.1.1.1.0.now ≡ length h) × (take s.1.1.1.1.1.1.1.1.1.0.now s.1.0.now ≡ h)
    × (s.1.1.1.1.1.1.1.1.1.1.0.now ≡ h_of (last_book (length room₀) b₀ calls).method h)

-- an accepted signature writes REPLY of the book's K_S and S, which is read with 0 and gives the same fields back, and K's record; the
-- counts are their lengths
pub record Signed (b : Book) (signature out k_out out' kOut' told : List ℕ) : Type 0 where
  pub out_is : out' ≡ onto out (reply_bytes b.fields.ks b.fields.s signature)
  pub k_out_is : kOut' ≡ onto k_out (k_record b.fields.k)
  pub counts_are : told ≡ length (reply_bytes b.fields.ks b.fields.s signature) ∷ length b.fields.k ∷ []
  pub read_back : reply_cause b.method (reply_bytes b.fields.ks b.fields.s signature) ≡ 0
  pub ks_back : field_of (reply_bytes b.fields.ks b.fields.s signature) 0 ≡ b.fields.ks
  pub s_back : field_of (reply_bytes b.fields.ks b.fields.s signature) 1 ≡ b.fields.s
  pub signature_back : field_of (reply_bytes b.fields.ks b.fields.s signature) 2 ≡ signature

abbrev pub SignHandsOut : Type 0
SignHandsOut =
    (b₀ : Book) (room₀ : List ℕ) (calls : List Turn) (numbers : List ℕ)
    (κs : Lfts 6) (a : ArgsD sign-fn.signature κs) (r : ℕ) (s : AtExit sign-fn.ended κs)
    → Told b₀ room₀ calls numbers a.0.now a.1.0.now → sign_reads.Learnt κs a r s → r ≡ 0
    → Signed (last_book (length room₀) b₀ calls) a.1.1.0.now a.1.1.1.0.now a.1.1.1.1.0.now s.1.1.1.0.now s.1.1.1.1.0.now s.1.1.1.1.1.0.now

-- an accepted verdict writes K's record, and counts K's length in it
abbrev pub VerdictHandsOut : Type 0
VerdictHandsOut =
    (b₀ : Book) (room₀ : List ℕ) (calls : List Turn) (numbers : List ℕ)
    (κs : Lfts 4) (a : ArgsD verdict-fn.signature κs) (r : ℕ) (s : AtExit verdict-fn.ended κs)
    → Told b₀ room₀ calls numbers a.0.now a.1.0.now → verdict-reads.Learnt κs a r s → r ≡ 0
    → let b = last_book (length room₀) b₀ calls in
    (s.1.1.1.1.0.now ≡ onto a.1.1.1.1.0.now (k_record b.fields.k)) × (s.1.1.1.1.1.0.now ≡ length b.fields.k)

-- a call that derives, accepted or not, answers by the book and leaves the output as the book tells it: the six keys are a function of the book
abbrev pub KeyHandsOut : Type 0
KeyHandsOut =
    (b₀ : Book) (room₀ : List ℕ) (calls : List Turn) (numbers room : List ℕ)
    (κs : Lfts 2) (a : ArgsD derive-fn.signature κs) (r : ℕ) (s : AtExit derive-fn.ended κs)
    → Told b₀ room₀ calls numbers a.0.now room → derive-reads.Learnt κs a r s
    → let b = last_book (length room₀) b₀ calls in
    let out = a.1.1.1.0.now in
    (r ≡ cause_told b a.1.0 a.1.1.0 (length out)) × (s.1.1.1.0.now ≡ output_after r out (key_told b a.1.0 a.1.1.0))

-- the session is told, whatever came, and is the book's over the whole history
abbrev pub SessionHandsOut : Type 0
SessionHandsOut =
    (b₀ : Book) (room₀ : List ℕ) (calls : List Turn) (numbers room : List ℕ)
    (κs : Lfts 3) (a : ArgsD session-fn.signature κs) (r : ℕ) (s : AtExit session-fn.ended κs)
    → Told b₀ room₀ calls numbers a.0.now room → session-reads.Learnt κs a r s
    → let t = session_of (finished (last_book (length room₀) b₀ calls)) in
    (r ≡ 0) × (s.1.0.now ≡ t.len ∷ t.count ∷ []) × (s.1.1.0.now ≡ t.id)

-- all five
pub record HandedOut : Type 0 where
  pub secret_step_is : SecretHandsOut
  pub signature : SignHandsOut
  pub verdict : VerdictHandsOut
  pub key : KeyHandsOut
  pub session : SessionHandsOut
