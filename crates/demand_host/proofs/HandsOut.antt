-- What a further call of an export hands out is the book's. Assumes nothing.
use Prim.Native.Nat.{ℕ, ◌≤◌}
use mathlib.Core.Path.{◌≡◌, sym, ap, subst, ◌∙◌}
use mathlib.Core.List.{List, [], ◌∷◌}
use mathlib.Core.Bool.{Bool, true, cond, ◌&&◌}
use lib.ListN.{length, get_or, take, drop}
use Rattle.limits.specs.Limits.{h_size, room_least}
use Rattle.limits.proofs.BoolLaws.{both}
use Rattle.buffers.specs.Bytes.{zeros, onto}
use Rattle.exchange.specs.Steps.{Call, secret, sign, verdict, number, count_of, second_of, answered, reply_of, output_after, started, started_room}
use Rattle.exchange.specs.Again.{Turn}
use Rattle.exchange.specs.Book.{Book, opened, last_book}
use Rattle.exchange.specs.Demand.{last_exchange}
use Rattle.exchange.specs.declared.Step.{Step}
use Rattle.exchange.specs.declared.Exchange.{Exchange}
use Rattle.exchange.proofs.StepLaws.{step_accepted, output_accepted}
use Rattle.exchange.proofs.Simulation.{Sim, id_sim}
use Rattle.exchange.proofs.SessionLaws.{Kept, session_kept}
use Rattle.exchange.specs.Record.{id_fits}
use Rattle.exchange.specs.declared.Session.{Session}
use Rattle.exchange.proofs.TheExchange.{told_exchange}
use Rattle.exchange.proofs.HandedLaws.{secret_handed, secret_hashed, sign_handed, verdict_handed}
use Rattle.arguments.specs.Arguments.{is_yes, classical_of, kem_of}
use Rattle.stored.specs.Stored.{encoded, fits, decoded, by_fit}
use Rattle.stored.proofs.RoundTrip.{encoded_fits}
use Rattle.lent.specs.Lent.{tells, lent_call, session_known}
use Rattle.keys.specs.Derived.{derive_cause, key_in}
use Rattle.keys.specs.KeysTold.{key_told}
use Rattle.keys.proofs.OutputLaws.{derived_told}
use Rattle.demand.proofs.HandsOut.{followed_there}
use Rattle.demand_host.specs.History.{History}
use Rattle.demand_host.specs.Told.{Told}
use Rattle.demand_host.specs.HandedOut.{SecretHandsOut, SignHandsOut, VerdictHandsOut, KeyHandsOut, SessionHandsOut, HandedOut}
use Rattle.lent.proofs.Kept.{Storable, lent_is_step}
use Rattle.lent.proofs.AsStep.{as_step}
use Rattle.demand_host.proofs.Links.{found, told_method}
use Rattle.demand_host.proofs.Holds.{host_run, runs, as_defined}

-- the bytes in the host's hands are those of an exchange that, with the room, follows the book
record Follows (b₀ : Book) (room₀ : List ℕ) (calls : List Turn) (ex room : List ℕ) : Type 0 where
  stored : ex ≡ encoded (decoded ex)
  storable : Storable (decoded ex)
  least : room_least ≤ length room₀
  sim : Sim room₀ (last_book (length room₀) b₀ calls) (decoded ex) room
  method_is : (decoded ex).method ≡ (last_book (length room₀) b₀ calls).method

follows : {b₀ : Book} {room₀ : List ℕ} {calls : List Turn} {numbers ex room : List ℕ} → Told b₀ room₀ calls numbers ex room → Follows b₀ room₀ calls ex room
follows {b₀} {room₀} {calls} {numbers} {ex} {room} h =
    let k = runs h in
    let s = k.run in
    let x = last_exchange (started k.role k.method k.vc k.vs k.ic k.is (length room₀)).exchange (started_room k.role k.method k.vc k.vs k.ic k.is room₀) calls in
    let d : decoded ex ≡ x = ap decoded s.exchange ∙ found x s.storable in
    let f = followed_there k.role k.method k.vc k.vs k.ic k.is room₀ b₀ calls numbers (decoded ex) room k.book k.cause (as_defined s) in
    record {
      stored = s.exchange ∙ sym (ap encoded d);
      storable = subst Storable (sym d) s.storable;
      least = f.0;
      sim = f.1;
      method_is =
          ap (λ (y : Exchange). y.method) (d ∙ told_exchange k.role k.method k.vc k.vs k.ic k.is room₀ k.cause calls)
          ∙ told_method (last_book (length room₀) (opened k.role k.method k.vc k.vs k.ic k.is) calls) _
          ∙ ap (λ (y : Book). (last_book (length room₀) y calls).method) (sym k.book);
    }

-- an accepted call's counts
module _ (e : Exchange) (room : List ℕ) (q : Call) (z : number e room q ≡ 0) where
  count_none : (answered e room q).count ≡ count_of e room q
  count_none = sym (ap (λ (x : Step). x.count) (step_accepted e room q z).0)

  second_none : (answered e room q).second ≡ second_of e q
  second_none = sym (ap (λ (x : Step). x.second) (step_accepted e room q z).0)

-- the first number told, and the first two outputs
abbrev first : List ℕ → ℕ
first l = get_or l 0 0

abbrev front : List (List ℕ) → List ℕ
front [] = []
front (x ∷ xs) = x

abbrev next : List (List ℕ) → List ℕ
next [] = []
next (x ∷ xs) = front xs

secret_hands_out : SecretHandsOut
unfolding tells
secret_hands_out b₀ room₀ calls numbers κs a r s d t z =
    let f = follows d in
    let b = last_book (length room₀) b₀ calls in
    let e = decoded a.0.now in
    let room = a.1.0.now in
    let cl = classical_of a.1.1.0 a.1.1.1.0 in
    let x = a.1.1.1.1.0.now in
    let kem = kem_of b.method a.1.1.1.1.1.0 in
    let k_pq = a.1.1.1.1.1.1.0.now in
    let ks = a.1.1.1.1.1.1.1.0.now in
    let v = a.1.1.1.1.1.1.1.1.0.now in
    let q = secret cl x kem k_pq ks v in
    let w = ap (λ (m : ℕ). lent_call a.0.now room (secret cl x (kem_of m a.1.1.1.1.1.0) k_pq ks v) []) f.method_is in
    let l = as_step a.0.now e room q _ r _ _ _ _ f.stored f.storable (t ∙ w) in
    let n = sym l.number_is ∙ z in
    let c = ap first l.told_is ∙ count_none e room q n in
    let h = secret_handed room₀ b e room f.least f.sim cl x kem k_pq ks v n in
    let k = ap (λ (y : List ℕ). drop 1 y) l.told_is ∙ secret_hashed room₀ b e room f.least f.sim cl x kem k_pq ks v n in (
      c ∙ h.0,
      (λ i. take (c i) (l.room_is i)) ∙ h.1,
      k,
    )

sign_hands_out : SignHandsOut
unfolding tells count_of second_of
sign_hands_out b₀ room₀ calls numbers κs a r s d t z =
    let f = follows d in
    let b = last_book (length room₀) b₀ calls in
    let e = decoded a.0.now in
    let room = a.1.0.now in
    let g = a.1.1.0.now in
    let o = a.1.1.1.0.now in
    let p = a.1.1.1.1.0.now in
    let q = sign g (length o) (length p) in
    let l = as_step a.0.now e room q (o ∷ p ∷ []) r _ _ _ _ f.stored f.storable t in
    let n = sym l.number_is ∙ z in
    let h = sign_handed room₀ b e room f.least f.sim g (length o) (length p) n in
    record {
      out_is = ap front l.outputs_are ∙ sym (output_accepted _ o (reply_of e room g) n) ∙ ap (onto o) h.0;
      k_out_is = ap next l.outputs_are ∙ sym (output_accepted _ p e.k n) ∙ ap (onto p) h.1.0;
      counts_are = l.told_is ∙ (λ i. (count_none e room q n ∙ ap length h.0) i ∷ (second_none e room q n ∙ h.1.1) i ∷ []);
      read_back = h.2.0;
      ks_back = h.2.1;
      s_back = h.2.2;
      signature_back = h.2.3;
    }

verdict_hands_out : VerdictHandsOut
unfolding tells count_of
verdict_hands_out b₀ room₀ calls numbers κs a r s d t z =
    let f = follows d in
    let b = last_book (length room₀) b₀ calls in
    let e = decoded a.0.now in
    let room = a.1.0.now in
    let u = is_yes a.1.1.0 in
    let v = is_yes a.1.1.1.0 in
    let p = a.1.1.1.1.0.now in
    let q = verdict u v (length p) in
    let l = as_step a.0.now e room q (p ∷ []) r _ _ _ _ f.stored f.storable t in
    let n = sym l.number_is ∙ z in
    let h = verdict_handed room₀ b e room f.least f.sim u v (length p) n in
    (ap front l.outputs_are ∙ sym (output_accepted _ p e.k n) ∙ ap (onto p) h.0, ap first l.told_is ∙ count_none e room q n ∙ h.1)

key_hands_out : KeyHandsOut
key_hands_out b₀ room₀ calls numbers room κs a r s d t =
    let f = follows d in
    let b = last_book (length room₀) b₀ calls in
    let ex = a.0.now in
    let e = decoded ex in
    let out = a.1.1.1.0.now in
    let c = ap (λ (y : List ℕ). by_fit y (derive_cause (decoded y) a.1.0 a.1.1.0 (length out)) 1) f.stored ∙ lent_is_step (λ (x : Exchange). derive_cause x a.1.0 a.1.1.0 (length out)) 1 e f.storable in
    let w = derived_told room₀ b e room f.sim a.1.0 a.1.1.0 out in
    let n = t.0 ∙ c ∙ w.0 in (
      n,
      t.1 ∙ ap (λ (m : ℕ). output_after m out (key_in e a.1.0 a.1.1.0)) c
          ∙ w.1
          ∙ ap (λ (m : ℕ). output_after m out (key_told b a.1.0 a.1.1.0)) (sym n),
    )

session_hands_out : SessionHandsOut
unfolding session_known
session_hands_out b₀ room₀ calls numbers room κs a r s d t =
    let f = follows d in
    let ex = a.0.now in
    let i = id_sim room₀ (last_book (length room₀) b₀ calls) (decoded ex) room f.sim in
    let k : (fits ex && id_fits (decoded ex).session.len (decoded ex).session.count) ≡ true =
    both (ap fits f.stored ∙ encoded_fits (decoded ex) f.storable.k_size_is f.storable.h_size_is f.storable.id_size) i.1 in (
      t.0 ∙ ap (λ (y : Bool). cond y 0 1) k,
      t.1 ∙ ap (λ (y : Bool). cond y ((decoded ex).session.len ∷ (decoded ex).session.count ∷ []) (zeros 2)) k ∙ ap (λ (y : Session). y.len ∷ y.count ∷ []) i.0,
      t.2 ∙ ap (λ (y : Bool). cond y (decoded ex).session.id (zeros h_size)) k ∙ ap (λ (y : Session). y.id) i.0,
    )

pub handed_out : HandedOut
handed_out = record { secret_step_is = secret_hands_out; signature = sign_hands_out; verdict = verdict_hands_out; key = key_hands_out; session = session_hands_out }

-- once an exchange was completed, no further call changes identifier and length in the host's bytes, and the count does not fall; a fault included
pub session_over : {b₀ : Book} {room₀ : List ℕ} {calls : List Turn} {numbers ex room : List ℕ} → Told b₀ room₀ calls numbers ex room
    → {qs : List Turn} {ns ex' room' : List ℕ} → History (last_book (length room₀) b₀ calls).method ex room qs ns ex' room' → ((decoded ex).session.count ≡ 0 → ⊥)
    → Kept (decoded ex).session (decoded ex').session
session_over {ex = ex} {room} d {qs} h n =
    let f = follows d in
    let s = host_run h (decoded ex) f.stored f.storable f.method_is in
    rw (as_defined s).exchange (session_kept (decoded ex) room qs n)
