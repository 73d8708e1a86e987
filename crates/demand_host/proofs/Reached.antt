-- Demand 3 where the host stands is not about nothing: every list of calls has a history, for each role and method one ends complete, and for each two
-- methods one is complete in both. Assumes nothing.
use Prim.Native.Nat.{ℕ, ◌≤◌}
use mathlib.Core.Path.{◌≡◌, refl, sym, subst, ap, ◌∙◌}
use mathlib.Core.List.{List, [], ◌∷◌, ◌++◌}
use mathlib.Core.Bool.{Bool, true, false, cond}
use lib.ListN.{length, length-replicate}
use base.Fml.{Lft, GName}
use denote.Ref.{Bor, MutBor}
use Rattle.limits.specs.Limits.{h_size, exchange_size, room_least}
use Rattle.buffers.specs.Bytes.{zeros}
use Rattle.messages.specs.Position.{position}
use Rattle.messages.specs.Messages.{init_bytes, init_layout, reply_layout}
use Rattle.exchange.specs.Causes.{method_ok, role_ok, start_cause}
use Rattle.exchange.specs.Steps.{Call, own_c, init, reply, secret, sign, verdict, number, reply_of, answered, handed_h, exchange_after, room_after, output_after, started, started_room}
use Rattle.exchange.specs.Record.{is_complete}
use Rattle.exchange.specs.Again.{Turn, step, again, again_number, again_after, again_room}
use Rattle.exchange.specs.Book.{opened}
use Rattle.exchange.specs.Demand.{numbers_of, last_exchange, last_room}
use Rattle.exchange.specs.declared.Classical.{Classical}
use Rattle.exchange.specs.declared.Classical.TheVariants.{Failed as NoX, Given}
use Rattle.exchange.specs.declared.Kem.{Kem}
use Rattle.exchange.specs.declared.Kem.TheVariants.{Absent, Failed as NoKem, Done}
use Rattle.exchange.specs.declared.Exchange.{Exchange}
use Rattle.exchange.proofs.Sample.{version, payload, payload', sample_turns, twice_turns}
use Rattle.exchange.proofs.Simulation.{sign_room}
use Rattle.exchange.proofs.Completes.{completes, completes_twice}
use Rattle.arguments.specs.Arguments.{is_yes, classical_of, kem_of}
use Rattle.stored.specs.Stored.{encoded}
use Rattle.lent.specs.Lent.{left, tells, lent_call, start_left}
use Rattle.demand_host.specs.History.{History, no_call, own_c_lem, read_init, read_reply, take_secret, give_sign, give_verdict, begin_again, running}
use Rattle.demand_host.specs.Told.{Told, start_then}
use Rattle.demand_host.specs.Completed.{Completed, CompletedTwice}
use Rattle.lent.proofs.Kept.{Storable, step_storable, start_storable, again_storable}
use Rattle.lent.proofs.AsStep.{as_called, as_again, position_behind}
use Rattle.demand_host.proofs.Links.{start_called, found, method_kept, start_method, again_method, method_there}
use Rattle.demand_host.proofs.Holds.{host_run}

-- a run of the definitions from an exchange is a history from its bytes
abbrev pub Reaches : ℕ → Exchange → List ℕ → List Turn → Type 0
Reaches m x room qs = History m (encoded x) room qs (numbers_of x room qs) (encoded (last_exchange x room qs)) (last_room x room qs)

length_zeros : (n : ℕ) → length (zeros n) ≡ n
length_zeros n = length-replicate n 0

started_zero : (role m : ℕ) (vc vs ic is : List ℕ) (room : ℕ) → start_cause role m vc vs ic is room ≡ 0 → (started role m vc vs ic is room).number ≡ 0
unfolding started
started_zero role m vc vs ic is room z = rw z

-- ---- the numbers that a host hands in for the outcomes and the yes/no's

abbrev given : Classical → ℕ
given NoX = 0
given (Given n) = 1

abbrev stated : Classical → ℕ
stated NoX = 0
stated (Given n) = n

classical_back : (cl : Classical) → classical_of (given cl) (stated cl) ≡ cl
unfolding classical_of is_yes
classical_back NoX = refl
classical_back (Given n) = refl

abbrev kem_number : Kem → ℕ
kem_number Absent = 0
kem_number NoKem = 1
kem_number Done = 2

kem_back : (m : ℕ) (k : Kem) → kem_of m (kem_number k) ≡ k
unfolding kem_of
kem_back m Absent = refl
kem_back m NoKem = refl
kem_back m Done = refl

abbrev yes_no : Bool → ℕ
yes_no b = cond b 1 0

yes_back : (b : Bool) → is_yes (yes_no b) ≡ b
unfolding is_yes
yes_back true = refl
yes_back false = refl

-- ---- at any lifetime and any ghost name
module _ (l : Lft) (g : GName) where
  -- a slice or an array that holds these, and a lent number
  lent : List ℕ → MutBor (List ℕ)
  lent x = record { ref_ptr = (0, 0); ghost_name = g; now = x }

  -- and one that is only read
  read : List ℕ → Bor (List ℕ)
  read x = record { ref_ptr = (0, 0); now = x }

  one : ℕ → MutBor ℕ
  one n = record { ref_ptr = (0, 0); ghost_name = g; now = n }

  -- one call with what it is lent in hand, and then the rest of the run
  module _ (m : ℕ) (x : Exchange) (h : Storable x) (room : List ℕ) (qs : List Turn) where
    own_c_then : (c out : List ℕ) → let q = own_c c (length out) in Reaches m (exchange_after x room q) (room_after x room q) qs → Reaches m x room (step q ∷ qs)
    unfolding lent read one tells
    own_c_then c out k =
        let q : Call = own_c c (length out) in
        own_c_lem (l, (l, (l, (l, (l, tt))))) (lent (encoded x), (lent room, (read c, (lent out, (one 0, tt))))) (number x room q)
        (lent (encoded (exchange_after x room q)), (lent (room_after x room q), (read c, (lent (output_after (number x room q) out (init_bytes c)), (one (answered x room q).count, tt)))))
        (as_called x room q (out ∷ []) h) k

    init_then : (p : List ℕ) → Reaches m (exchange_after x room (init p)) (room_after x room (init p)) qs → Reaches m x room (step (init p) ∷ qs)
    unfolding lent read
    init_then p k =
        let q : Call = init p in
        read_init (l, (l, (l, (l, tt)))) (lent (encoded x), (lent room, (read p, (lent (zeros 3), tt)))) (number x room q)
        (lent (encoded (exchange_after x room q)), (lent (room_after x room q), (read p, (lent (tells x room q ++ position (number x room q) init_layout p ∷ []), tt))))
        (position_behind (as_called x room q [] h) refl) k

    reply_then : (p : List ℕ) → Reaches m (exchange_after x room (reply p)) (room_after x room (reply p)) qs → Reaches m x room (step (reply p) ∷ qs)
    unfolding lent read
    reply_then p k =
        let q : Call = reply p in
        read_reply (l, (l, (l, (l, tt)))) (lent (encoded x), (lent room, (read p, (lent (zeros 7), tt)))) (number x room q)
        (lent (encoded (exchange_after x room q)), (lent (room_after x room q), (read p, (lent (tells x room q ++ position (number x room q) reply_layout p ∷ []), tt))))
        (position_behind (as_called x room q [] h) refl) k

    secret_then : x.method ≡ m → (gv n : ℕ) (v : List ℕ) (km : ℕ) (k_pq ks s : List ℕ) → let q = secret (classical_of gv n) v (kem_of m km) k_pq ks s in
        Reaches m (exchange_after x room q) (room_after x room q) qs → Reaches m x room (step q ∷ qs)
    unfolding lent read one tells
    secret_then j gv n v km k_pq ks s k =
        let told : ℕ → Call = λ (i : ℕ). secret (classical_of gv n) v (kem_of i km) k_pq ks s in
        let q = told m in
        let w = ap (λ (i : ℕ). lent_call (encoded x) room (told i) []) (sym (method_there (encoded x) x m refl h j)) in
        take_secret (l, (l, (l, (l, (l, (l, (l, (l, tt))))))))
        (lent (encoded x), (lent room, (gv, (n, (read v, (km, (read k_pq, (read ks, (read s, (one 0, (lent (zeros h_size), tt))))))))))) (number x room q)
        (lent (encoded (exchange_after x room q)), (lent (room_after x room q), (gv, (n, (read v, (km, (read k_pq, (read ks, (read s, (one (answered x room q).count, (lent (handed_h x room q), tt)))))))))))
        (as_called x room q [] h ∙ w) k

    sign_then : (sg out k_out : List ℕ) → let q = sign sg (length out) (length k_out) in Reaches m (exchange_after x room q) (room_after x room q) qs → Reaches m x room (step q ∷ qs)
    unfolding lent read tells
    sign_then sg out k_out k =
        let q : Call = sign sg (length out) (length k_out) in
        let r = sign_room x room sg (length out) (length k_out) in
        give_sign (l, (l, (l, (l, (l, (l, tt)))))) (lent (encoded x), (read room, (read sg, (lent out, (lent k_out, (lent (zeros 2), tt)))))) (number x room q)
        (lent (encoded (exchange_after x room q)), (read room, (read sg, (lent (output_after (number x room q) out (reply_of x room sg)), (lent (output_after (number x room q) k_out x.k), (lent (tells x room q), tt))))))
        (subst (λ (room₁ : List ℕ). left (number x room q) (tells x room q) (encoded (exchange_after x room q)) room₁ (output_after (number x room q) out (reply_of x room sg) ∷ output_after (number x room q) k_out x.k ∷ []) ≡ lent_call (encoded x) room q (out ∷ k_out ∷ [])) r (as_called x room q (out ∷ k_out ∷ []) h))
        (subst
        (λ (room₁ : List ℕ). History m (encoded (exchange_after x room q)) room₁ qs (numbers_of (exchange_after x room q) (room_after x room q) qs)
        (encoded (last_exchange (exchange_after x room q) (room_after x room q) qs)) (last_room (exchange_after x room q) (room_after x room q) qs))
        r k)

    verdict_then : (u v : ℕ) (k_out : List ℕ) → let q = verdict (is_yes u) (is_yes v) (length k_out) in Reaches m (exchange_after x room q) (room_after x room q) qs → Reaches m x room (step q ∷ qs)
    unfolding lent one tells
    verdict_then u v k_out k =
        let q : Call = verdict (is_yes u) (is_yes v) (length k_out) in
        give_verdict (l, (l, (l, (l, tt)))) (lent (encoded x), (lent room, (u, (v, (lent k_out, (one 0, tt)))))) (number x room q)
        (lent (encoded (exchange_after x room q)), (lent (room_after x room q), (u, (v, (lent (output_after (number x room q) k_out x.k), (one (answered x room q).count, tt))))))
        (as_called x room q (k_out ∷ []) h) k

    again_then : (m' : ℕ) (ic is : List ℕ) → Reaches (running m (again_number x (length room) m' ic is) m') (again_after x (length room) m' ic is) (again_room x room m' ic is) qs
        → Reaches m x room (again m' ic is ∷ qs)
    unfolding lent read
    again_then m' ic is k =
        begin_again (l, (l, (l, (l, tt)))) (lent (encoded x), (lent room, (m', (read ic, (read is, tt))))) (again_number x (length room) m' ic is)
        (lent (encoded (again_after x (length room) m' ic is)), (lent (again_room x room m' ic is), (m', (read ic, (read is, tt)))))
        (as_again x room m' ic is h) k

  -- outputs of zeros have every length
  pub reached : (m : ℕ) (x : Exchange) → Storable x → x.method ≡ m → (room : List ℕ) (qs : List Turn) → Reaches m x room qs
  reached m x h j room [] = no_call
  reached m x h j room (step (own_c c out) ∷ qs) =
      subst (λ (n : ℕ). Reaches m x room (step (own_c c n) ∷ qs)) (length_zeros out) (own_c_then m x h room qs c (zeros out) (reached m _ (step_storable x room _ h) (method_kept x room _ ∙ j) _ qs))
  reached m x h j room (step (init p) ∷ qs) = init_then m x h room qs p (reached m _ (step_storable x room _ h) (method_kept x room _ ∙ j) _ qs)
  reached m x h j room (step (reply p) ∷ qs) = reply_then m x h room qs p (reached m _ (step_storable x room _ h) (method_kept x room _ ∙ j) _ qs)
  reached m x h j room (step (secret cl v kem k_pq ks s) ∷ qs) =
      subst (λ (c : Classical). Reaches m x room (step (secret c v kem k_pq ks s) ∷ qs)) (classical_back cl)
      (subst (λ (k : Kem). Reaches m x room (step (secret (classical_of (given cl) (stated cl)) v k k_pq ks s) ∷ qs)) (kem_back m kem)
      (secret_then m x h room qs j (given cl) (stated cl) v (kem_number kem) k_pq ks s (reached m _ (step_storable x room _ h) (method_kept x room _ ∙ j) _ qs)))
  reached m x h j room (step (sign sg out k_out) ∷ qs) =
      subst (λ (n : ℕ). Reaches m x room (step (sign sg n k_out) ∷ qs)) (length_zeros out)
      (subst (λ (n : ℕ). Reaches m x room (step (sign sg (length (zeros out)) n) ∷ qs)) (length_zeros k_out)
      (sign_then m x h room qs sg (zeros out) (zeros k_out) (reached m _ (step_storable x room _ h) (method_kept x room _ ∙ j) _ qs)))
  reached m x h j room (step (verdict a b k_out) ∷ qs) =
      subst (λ (t : Bool). Reaches m x room (step (verdict t b k_out) ∷ qs)) (yes_back a)
      (subst (λ (t : Bool). Reaches m x room (step (verdict (is_yes (yes_no a)) t k_out) ∷ qs)) (yes_back b)
      (subst (λ (n : ℕ). Reaches m x room (step (verdict (is_yes (yes_no a)) (is_yes (yes_no b)) n) ∷ qs)) (length_zeros k_out)
      (verdict_then m x h room qs (yes_no a) (yes_no b) (zeros k_out) (reached m _ (step_storable x room _ h) (method_kept x room _ ∙ j) _ qs))))
  reached m x h j room (again m' ic is ∷ qs) =
      again_then m x h room qs m' ic is (reached (running m (again_number x (length room) m' ic is) m') _ (again_storable x (length room) m' ic is h) (again_method x (length room) m m' ic is _ refl j) _ qs)

  -- a start with no cause against it, in bytes that held nothing, and any list of calls after it
  told_of : (role m : ℕ) (vc vs ic is room : List ℕ) (qs : List Turn) → start_cause role m vc vs ic is (length room) ≡ 0
      → let e = (started role m vc vs ic is (length room)).exchange in
      let o = started_room role m vc vs ic is room in
      Told (opened role m vc vs ic is) room qs (numbers_of e o qs) (encoded (last_exchange e o qs)) (last_room e o qs)
  unfolding lent read start_left
  told_of role m vc vs ic is room qs z =
      let t = started role m vc vs ic is (length room) in
      start_then (l, (l, (l, (l, (l, (l, tt)))))) (lent (zeros exchange_size), (role, (m, (read vc, (read vs, (read ic, (read is, (lent room, tt))))))))
      t.number
      (lent (encoded t.exchange), (role, (m, (read vc, (read vs, (read ic, (read is, (lent (started_room role m vc vs ic is room), tt))))))))
      (start_called (zeros exchange_size) role m vc vs ic is room (length_zeros exchange_size)) (started_zero role m vc vs ic is (length room) z)
      (reached m t.exchange (start_storable role m vc vs ic is (length room)) (start_method role m vc vs ic is (length room) z) (started_room role m vc vs ic is room) qs)

  -- for each role and method one ends complete
  pub completed : (role m : ℕ) (room : List ℕ) → role_ok role ≡ true → method_ok m ≡ true → room_least ≤ length room → Completed role m room
  unfolding opened
  completed role m room r k h =
      let c = completes role m room r k h in
      let e : Exchange = (started role m version version payload payload (length room)).exchange in
      let o : List ℕ = started_room role m version version payload payload room in
      let t = told_of role m version version payload payload room (sample_turns role m) c.0 in
      let f = start_storable role m version version payload payload (length room) in
      let j = start_method role m version version payload payload (length room) c.0 in
      let s = (host_run (reached m e f j o (sample_turns role m)) e refl f j).storable in
      record {
        book = opened role m version version payload payload;
        role_is = refl;
        method_is = refl;
        calls = sample_turns role m;
        numbers = numbers_of e o (sample_turns role m);
        exchange = encoded (last_exchange e o (sample_turns role m));
        room_left = last_room e o (sample_turns role m);
        told = t;
        complete = ap (λ (y : Exchange). is_complete y.stage) (found (last_exchange e o (sample_turns role m)) s) ∙ c.1;
      }

  -- and for each two methods one is completed in the one and then in the other
  pub completed_twice : (role m m' : ℕ) (room : List ℕ) → role_ok role ≡ true → method_ok m ≡ true → method_ok m' ≡ true → room_least ≤ length room → CompletedTwice role m m' room
  unfolding opened
  completed_twice role m m' room r k k' h =
      let c = completes_twice role m m' room r k k' h in
      let e : Exchange = (started role m version version payload payload (length room)).exchange in
      let o : List ℕ = started_room role m version version payload payload room in
      let t = told_of role m version version payload payload room (twice_turns role m m') c.0 in
      let f = start_storable role m version version payload payload (length room) in
      let j = start_method role m version version payload payload (length room) c.0 in
      let x : Exchange = last_exchange e o (twice_turns role m m') in
      let d = found x (host_run (reached m e f j o (twice_turns role m m')) e refl f j).storable in
      record {
        book = opened role m version version payload payload;
        role_is = refl;
        method_is = refl;
        first = sample_turns role m;
        rest = again m' payload' payload' ∷ sample_turns role m';
        calls = twice_turns role m m';
        calls_are = refl;
        numbers = numbers_of e o (twice_turns role m m');
        exchange = encoded x;
        room_left = last_room e o (twice_turns role m m');
        told = t;
        complete = ap (λ (y : Exchange). is_complete y.stage) d ∙ c.1;
        method_left = ap (λ (y : Exchange). y.method) d ∙ c.2;
        count_is = ap (λ (y : Exchange). y.session.count) d ∙ c.3;
        length_is = ap (λ (y : Exchange). y.session.len) d ∙ c.4;
        id_is = ap (λ (y : Exchange). y.session.id) d ∙ c.5;
      }
