-- Demand 3 is not about nothing: every list of calls has a history, for each role and method one ends complete, and for each two methods one is complete
-- in both. Assumes nothing.
use Prim.Native.Nat.{ℕ, ◌≤◌}
use mathlib.Core.Path.{◌≡◌, refl, subst}
use mathlib.Core.List.{List, [], ◌∷◌}
use mathlib.Core.Bool.{Bool, true}
use lib.ListN.{length, length-replicate}
use base.Fml.{Lft, GName}
use denote.Ref.{Bor, MutBor}
use Rattle.buffers.specs.Bytes.{zeros}
use Rattle.messages.specs.Messages.{init_bytes}
use Rattle.limits.specs.Limits.{room_least}
use Rattle.exchange.specs.Causes.{method_ok, role_ok, start_cause}
use Rattle.exchange.specs.Steps.{Call, own_c, init, reply, secret, sign, verdict, number, reply_of, answered, secret_answered, exchange_after, room_after, output_after, started, started_room}
use Rattle.exchange.specs.Again.{Turn, step, again, again_after, again_room, again_answered}
use Rattle.exchange.specs.Book.{opened}
use Rattle.exchange.specs.Demand.{numbers_of, last_exchange, last_room}
use Rattle.exchange.proofs.Sample.{version, payload, payload', sample_turns, twice_turns}
use Rattle.exchange.specs.declared.Exchange.{Exchange}
use Rattle.exchange.proofs.Simulation.{sign_room}
use Rattle.exchange.proofs.Completes.{completes, completes_twice}
use Rattle.demand.specs.Told.{Told, start_then}
use Rattle.demand.specs.Completed.{Completed, CompletedTwice}
use Rattle.demand.specs.History.{History, no_call, own_c_lem, read_init, read_reply, take_secret, give_sign, give_verdict, begin_again}

-- a run of the definitions is a history
abbrev pub Reaches : Exchange → List ℕ → List Turn → Type 0
Reaches e room qs = History e room qs (numbers_of e room qs) (last_exchange e room qs) (last_room e room qs)

length_zeros : (n : ℕ) → length (zeros n) ≡ n
length_zeros n = length-replicate n 0

-- at any lifetime and any ghost name
module _ (l : Lft) (g : GName) where
  -- a slice that holds these bytes
  lent : List ℕ → MutBor (List ℕ)
  lent x = record { ref_ptr = (0, 0); ghost_name = g; now = x }

  -- and one that is only read
  read : List ℕ → Bor (List ℕ)
  read x = record { ref_ptr = (0, 0); now = x }

  -- one call with outputs in hand, and then the rest of the run
  module _ (e : Exchange) (room : List ℕ) (qs : List Turn) where
    own_c_then : (c out : List ℕ) → let q = own_c c (length out) in Reaches (exchange_after e room q) (room_after e room q) qs → Reaches e room (step q ∷ qs)
    unfolding answered lent read
    own_c_then c out h =
        own_c_lem (l, (l, (l, tt))) (e, (lent room, (read c, (lent out, tt)))) (answered e room (own_c c (length out)))
        (e, (lent (room_after e room (own_c c (length out))), (read c, (lent (output_after (number e room (own_c c (length out))) out (init_bytes c)), tt))))
        (refl, refl, refl) h

    sign_then : (g out k_out : List ℕ) → let q = sign g (length out) (length k_out) in Reaches (exchange_after e room q) (room_after e room q) qs → Reaches e room (step q ∷ qs)
    unfolding answered lent read
    sign_then g out k_out h =
        let q : Call = sign g (length out) (length k_out) in
        give_sign (l, (l, (l, (l, tt)))) (e, (read room, (read g, (lent out, (lent k_out, tt))))) (answered e room q)
        (e, (read room, (read g, (lent (output_after (number e room q) out (reply_of e room g)), (lent (output_after (number e room q) k_out e.k), tt)))))
        (refl, refl, refl)
        (subst
        (λ (room₁ : List ℕ). History (exchange_after e room q) room₁ qs (numbers_of (exchange_after e room q) (room_after e room q) qs)
        (last_exchange (exchange_after e room q) (room_after e room q) qs) (last_room (exchange_after e room q) (room_after e room q) qs))
        (sign_room e room g (length out) (length k_out)) h)

    verdict_then : (a b : Bool) (k_out : List ℕ) → let q = verdict a b (length k_out) in Reaches (exchange_after e room q) (room_after e room q) qs → Reaches e room (step q ∷ qs)
    unfolding answered lent
    verdict_then a b k_out h =
        let q : Call = verdict a b (length k_out) in
        give_verdict (l, (l, tt)) (e, (lent room, (a, (b, (lent k_out, tt))))) (answered e room q)
        (e, (lent (room_after e room q), (a, (b, (lent (output_after (number e room q) k_out e.k), tt)))))
        (refl, refl, refl) h

  -- the definitions' run is a history: outputs of zeros have every length
  pub reached : (e : Exchange) (room : List ℕ) (qs : List Turn) → Reaches e room qs
  unfolding answered secret_answered again_answered lent read
  reached e room [] = no_call
  reached e room (step (own_c c out) ∷ qs) =
      subst (λ (n : ℕ). Reaches e room (step (own_c c n) ∷ qs)) (length_zeros out) (own_c_then e room qs c (zeros out) (reached _ _ qs))
  reached e room (step (init p) ∷ qs) =
      read_init (l, (l, tt)) (e, (lent room, (read p, tt))) (answered e room (init p)) (e, (lent (room_after e room (init p)), (read p, tt)))
      (refl, refl) (reached (exchange_after e room (init p)) (room_after e room (init p)) qs)
  reached e room (step (reply p) ∷ qs) =
      read_reply (l, (l, tt)) (e, (lent room, (read p, tt))) (answered e room (reply p)) (e, (lent (room_after e room (reply p)), (read p, tt)))
      (refl, refl) (reached (exchange_after e room (reply p)) (room_after e room (reply p)) qs)
  reached e room (step (secret cl x kem k_pq ks s) ∷ qs) =
      take_secret (l, (l, (l, (l, (l, tt))))) (e, (lent room, (cl, (read x, (kem, (read k_pq, (read ks, (read s, tt)))))))) (secret_answered e room (secret cl x kem k_pq ks s))
      (e, (lent (room_after e room (secret cl x kem k_pq ks s)), (cl, (read x, (kem, (read k_pq, (read ks, (read s, tt))))))))
      (refl, refl) (reached (exchange_after e room (secret cl x kem k_pq ks s)) (room_after e room (secret cl x kem k_pq ks s)) qs)
  reached e room (step (sign g out k_out) ∷ qs) =
      subst (λ (n : ℕ). Reaches e room (step (sign g n k_out) ∷ qs)) (length_zeros out)
      (subst (λ (n : ℕ). Reaches e room (step (sign g (length (zeros out)) n) ∷ qs)) (length_zeros k_out) (sign_then e room qs g (zeros out) (zeros k_out) (reached _ _ qs)))
  reached e room (step (verdict a b k_out) ∷ qs) =
      subst (λ (n : ℕ). Reaches e room (step (verdict a b n) ∷ qs)) (length_zeros k_out) (verdict_then e room qs a b (zeros k_out) (reached _ _ qs))
  reached e room (again m ic is ∷ qs) =
      begin_again (l, (l, (l, tt))) (e, (lent room, (m, (read ic, (read is, tt))))) (again_answered e (length room) m ic is) (e, (lent (again_room e room m ic is), (m, (read ic, (read is, tt)))))
      (refl, refl) (reached (again_after e (length room) m ic is) (again_room e room m ic is) qs)

  -- a start with no cause against it, and any list of calls after it
  told_of : (role m : ℕ) (vc vs ic is room : List ℕ) (qs : List Turn) → start_cause role m vc vs ic is (length room) ≡ 0
      → let e = (started role m vc vs ic is (length room)).exchange in
      let o = started_room role m vc vs ic is room in
      Told (opened role m vc vs ic is) room qs (numbers_of e o qs) (last_exchange e o qs) (last_room e o qs)
  unfolding lent read started
  told_of role m vc vs ic is room qs z =
      start_then (l, (l, (l, (l, (l, tt))))) (role, (m, (read vc, (read vs, (read ic, (read is, (lent room, tt)))))))
      (started role m vc vs ic is (length room))
      (role, (m, (read vc, (read vs, (read ic, (read is, (lent (started_room role m vc vs ic is room), tt)))))))
      (refl, refl) (rw z) (reached (started role m vc vs ic is (length room)).exchange (started_room role m vc vs ic is room) qs)

  -- for each role and method one ends complete
  pub completed : (role m : ℕ) (room : List ℕ) → role_ok role ≡ true → method_ok m ≡ true → room_least ≤ length room → Completed role m room
  unfolding opened
  completed role m room r k h =
      let c = completes role m room r k h in
      let e : Exchange = (started role m version version payload payload (length room)).exchange in
      let o : List ℕ = started_room role m version version payload payload room in
      record {
        book = opened role m version version payload payload;
        role_is = refl;
        method_is = refl;
        calls = sample_turns role m;
        numbers = numbers_of e o (sample_turns role m);
        exchange = last_exchange e o (sample_turns role m);
        room_left = last_room e o (sample_turns role m);
        told = told_of role m version version payload payload room (sample_turns role m) c.0;
        complete = c.1;
      }

  -- and for each two methods one is completed in the one and then in the other
  pub completed_twice : (role m m' : ℕ) (room : List ℕ) → role_ok role ≡ true → method_ok m ≡ true → method_ok m' ≡ true → room_least ≤ length room → CompletedTwice role m m' room
  unfolding opened
  completed_twice role m m' room r k k' h =
      let c = completes_twice role m m' room r k k' h in
      let e : Exchange = (started role m version version payload payload (length room)).exchange in
      let o : List ℕ = started_room role m version version payload payload room in
      record {
        book = opened role m version version payload payload;
        role_is = refl;
        method_is = refl;
        first = sample_turns role m;
        rest = again m' payload' payload' ∷ sample_turns role m';
        calls = twice_turns role m m';
        calls_are = refl;
        numbers = numbers_of e o (twice_turns role m m');
        exchange = last_exchange e o (twice_turns role m m');
        room_left = last_room e o (twice_turns role m m');
        told = told_of role m version version payload payload room (twice_turns role m m') c.0;
        complete = c.1;
        method_left = c.2;
        count_is = c.3;
        length_is = c.4;
        id_is = c.5;
      }
