-- What a further call hands out is the book's. Assumes nothing.
use Prim.Native.Nat.{ℕ, ◌≤◌}
use mathlib.Core.Path.{◌≡◌, sym, ap, ◌∙◌}
use mathlib.Core.List.{List}
use lib.ListN.{length, take}
use Rattle.limits.specs.Limits.{room_least}
use Rattle.buffers.specs.Bytes.{onto}
use Rattle.exchange.specs.Causes.{start_cause}
use Rattle.exchange.specs.Steps.{Call, secret, sign, verdict, number, count_of, second_of, answered, secret_answered, reply_of, output_after, started, started_room}
use Rattle.exchange.specs.Again.{Turn}
use Rattle.exchange.specs.Book.{Book, opened, last_book}
use Rattle.exchange.specs.declared.Step.{Step}
use Rattle.exchange.specs.declared.SecretStep.{SecretStep}
use Rattle.exchange.specs.declared.Exchange.{Exchange}
use Rattle.exchange.proofs.StepLaws.{step_accepted, output_accepted}
use Rattle.exchange.proofs.Simulation.{Sim, followed}
use Rattle.exchange.proofs.HandedLaws.{secret_handed, secret_hashed, sign_handed, verdict_handed}
use Rattle.keys.specs.KeysTold.{key_told}
use Rattle.keys.proofs.OutputLaws.{derived_told}
use Rattle.demand.specs.Told.{Told}
use Rattle.demand.specs.HandedOut.{SecretHandsOut, SignHandsOut, VerdictHandsOut, KeyHandsOut, HandedOut}
use Rattle.demand.proofs.Holds.{AsDefined, runs}

-- exchange and room follow the book
pub followed_there : (role m : ℕ) (vc vs ic is room₀ : List ℕ) (b₀ : Book) (calls : List Turn) (numbers : List ℕ) (e : Exchange) (room : List ℕ)
    → b₀ ≡ opened role m vc vs ic is → start_cause role m vc vs ic is (length room₀) ≡ 0
    → AsDefined (started role m vc vs ic is (length room₀)).exchange (started_room role m vc vs ic is room₀) calls numbers e room
    → (room_least ≤ length room₀) × Sim room₀ (last_book (length room₀) b₀ calls) e room
followed_there role m vc vs ic is room₀ b₀ calls numbers e room b c s =
    let f = followed role m vc vs ic is room₀ c calls in
    (f.0, rw (b, s.exchange, s.rooms) f.2)

follows : {b₀ : Book} {room₀ : List ℕ} {calls : List Turn} {numbers : List ℕ} {e : Exchange} {room : List ℕ} → Told b₀ room₀ calls numbers e room
    → (room_least ≤ length room₀) × Sim room₀ (last_book (length room₀) b₀ calls) e room
follows {b₀} {room₀} {calls} {numbers} {e} {room} h =
    let k = runs h in
    followed_there k.role k.method k.vc k.vs k.ic k.is room₀ b₀ calls numbers e room k.book k.cause k.run

-- an accepted call's number and counts, from its answer
module _ (r : Step) (e : Exchange) (room : List ℕ) (q : Call) (t : r ≡ answered e room q) (z : r.number ≡ 0) where
  number_none : number e room q ≡ 0
  unfolding answered
  number_none = sym (ap (λ (x : Step). x.number) t) ∙ z

  count_none : r.count ≡ count_of e room q
  count_none = ap (λ (x : Step). x.count) t ∙ sym (ap (λ (x : Step). x.count) (step_accepted e room q number_none).0)

  second_none : r.second ≡ second_of e q
  second_none = ap (λ (x : Step). x.second) t ∙ sym (ap (λ (x : Step). x.second) (step_accepted e room q number_none).0)

secret_hands_out : SecretHandsOut
unfolding secret_answered
secret_hands_out b₀ room₀ calls numbers κs a r s d t z =
    let b = last_book (length room₀) b₀ calls in
    let f = follows d in
    let q = secret a.1.1.0 a.1.1.1.0.now a.1.1.1.1.0 a.1.1.1.1.1.0.now a.1.1.1.1.1.1.0.now a.1.1.1.1.1.1.1.0.now in
    let w = ap (λ (y : SecretStep). y.step) t.0 in
    let n = number_none r.step a.0 a.1.0.now q w z in
    let c = count_none r.step a.0 a.1.0.now q w z in
    let k = ap (λ (y : SecretStep). y.h) t.0 ∙ secret_hashed room₀ b a.0 a.1.0.now f.0 f.1 a.1.1.0 a.1.1.1.0.now a.1.1.1.1.0 a.1.1.1.1.1.0.now a.1.1.1.1.1.1.0.now a.1.1.1.1.1.1.1.0.now n in
    let h = secret_handed room₀ b a.0 a.1.0.now f.0 f.1 a.1.1.0 a.1.1.1.0.now a.1.1.1.1.0 a.1.1.1.1.1.0.now a.1.1.1.1.1.1.0.now a.1.1.1.1.1.1.1.0.now n in (
      c ∙ h.0,
      (λ i. take (c i) (t.1 i)) ∙ h.1,
      k,
    )

sign_hands_out : SignHandsOut
unfolding count_of second_of
sign_hands_out b₀ room₀ calls numbers κs a r s d t z =
    let b = last_book (length room₀) b₀ calls in
    let f = follows d in
    let g = a.1.1.0.now in
    let q = sign g (length a.1.1.1.0.now) (length a.1.1.1.1.0.now) in
    let n = number_none r a.0 a.1.0.now q t.0 z in
    let h = sign_handed room₀ b a.0 a.1.0.now f.0 f.1 g (length a.1.1.1.0.now) (length a.1.1.1.1.0.now) n in
    record {
      out_is = t.1 ∙ sym (output_accepted _ a.1.1.1.0.now (reply_of a.0 a.1.0.now g) n) ∙ ap (onto a.1.1.1.0.now) h.0;
      count_is = count_none r a.0 a.1.0.now q t.0 z ∙ ap length h.0;
      k_out_is = t.2 ∙ sym (output_accepted _ a.1.1.1.1.0.now a.0.k n) ∙ ap (onto a.1.1.1.1.0.now) h.1.0;
      second_is = second_none r a.0 a.1.0.now q t.0 z ∙ h.1.1;
      read_back = h.2.0;
      ks_back = h.2.1;
      s_back = h.2.2;
      signature_back = h.2.3;
    }

verdict_hands_out : VerdictHandsOut
unfolding count_of
verdict_hands_out b₀ room₀ calls numbers κs a r s d t z =
    let b = last_book (length room₀) b₀ calls in
    let f = follows d in
    let q = verdict a.1.1.0 a.1.1.1.0 (length a.1.1.1.1.0.now) in
    let n = number_none r a.0 a.1.0.now q t.0 z in
    let h = verdict_handed room₀ b a.0 a.1.0.now f.0 f.1 a.1.1.0 a.1.1.1.0 (length a.1.1.1.1.0.now) n in
    (t.2 ∙ sym (output_accepted _ a.1.1.1.1.0.now a.0.k n) ∙ ap (onto a.1.1.1.1.0.now) h.0, count_none r a.0 a.1.0.now q t.0 z ∙ h.1)

key_hands_out : KeyHandsOut
key_hands_out b₀ room₀ calls numbers room κs a r s d t =
    let b = last_book (length room₀) b₀ calls in
    let out = a.1.1.1.0.now in
    let w = derived_told room₀ b a.0 room (follows d).1 a.1.0 a.1.1.0 out in
    let n = t.0 ∙ w.0 in
    (n, t.1 ∙ w.1 ∙ ap (λ (m : ℕ). output_after m out (key_told b a.1.0 a.1.1.0)) (sym n))

pub handed_out : HandedOut
handed_out = record { secret_step_is = secret_hands_out; signature = sign_hands_out; verdict = verdict_hands_out; key = key_hands_out }
