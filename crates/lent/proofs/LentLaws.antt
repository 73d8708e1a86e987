-- Calls on lent bytes: what is refused, what is accepted, and how an accepted step changes the bytes. Assumes nothing.
use Rattle.std.proofs.Common.{◌≡◌, ℕ, ◌+◌, ◌/◌, ◌%◌, Bool, true, false, cond, eqb, List, [], ◌∷◌, ◌++◌, length, get_or, take, drop, set, sym, refl, ap, ◌∙◌, arith, length-drop, length-take, length-take-le, eqb-true}
use mathlib.Core.Bool.{false≢true}
use borrow.Author.Tests.{eqb-false}
use Rattle.limits.specs.Limits.{k_size, h_size, exchange_size}
use Rattle.buffers.specs.Bytes.{zeros, onto, over, laid}
use Rattle.buffers.proofs.ByteLaws.{length_over}
use Rattle.methods.specs.Rows.{row_of}
use Rattle.wire.specs.Parts.{nothing}
use Rattle.messages.specs.Messages.{field_part}
use Rattle.exchange.specs.Numbers.{is_fault, Kind, accepted, refused, fault, kind, by_kind}
use Rattle.exchange.specs.Record.{no_lengths, ended, next_step}
use Rattle.exchange.specs.Steps.{Call, own_c, init, reply, secret, sign, verdict, step_no, fed_cause, step_number, number, with_c, with_s, with_stage, with_secret, with_last, taken, filled, count_of, second_of, answered, room_after, output_after, step_part, refused_room, started, started_room}
use Rattle.exchange.specs.declared.Stage.{Stage}
use Rattle.exchange.specs.declared.Stage.TheVariants.{Started, CSent, InitRead, ReplyRead, SecretDone, Complete, Failed}
use Rattle.exchange.specs.declared.Lengths.{Lengths}
use Rattle.exchange.specs.declared.Session.{Session}
use Rattle.exchange.specs.declared.Exchange.{Exchange}
use Rattle.exchange.specs.declared.Step.{Step}
use Rattle.exchange.proofs.KindLaws.{kind_same, kind_fault, kind_other, kind_accepted}
use Rattle.exchange.proofs.StepLaws.{step_known, handed_refused}
use Rattle.stored.specs.Stored.{stage_number, fail_number, bytes16, bytes64, number64, session_bytes, encoded, fits, lengths_in, NumberBytes, decoded, by_fit, by_size, lengths_told, k_kept, count_told}
use Rattle.changes.specs.Changes.{put16, put_count, put_id, put_more, put_head}
use Rattle.stored.proofs.StoredLaws.{role_read, method_read, size_taken, size_left, fits_known, fit_taken}
use Rattle.stored.proofs.RoundTrip.{Short, SmallSession, session_stored, stored_again, decoded_short, decoded_session}
use Rattle.changes.proofs.ChangeLaws.{c_put, s_put, k_put, h_put, head_put, last_put}
use Rattle.lent.specs.Lent.{left, place_of, tells, told_size, writes, outputs_after, bytes_after, step_left, untouched, lent_call, start_left, lent_start, refused_bytes}
use Rattle.lent.proofs.Kept.{step_some}

-- ---- a refusal

-- an ended exchange's bytes
pub ended_bytes : (n role m : ℕ) (s : Session) → put_head (zeros 154 ++ session_bytes s) 6 n role m 0 0 0 0 ≡ encoded (ended n role m s)
unfolding ended
ended_bytes n role m s = head_put (Failed n) role m 0 0 0 0 s

module _ (n : ℕ) (b : List ℕ) where
  pub refused_fault : is_fault n ≡ true → (ex : List ℕ) (r m : ℕ) → ex ≡ by_size b (put_head (zeros 154 ++ drop 154 b) 6 n r m 0 0 0 0) b → r ≡ get_or b 3 0 → m ≡ get_or b 4 0
      → ex ≡ refused_bytes n b
  unfolding decoded
  refused_fault f ex r m h p q =
      h
      ∙ (λ i. by_size b (put_head (zeros 154 ++ drop 154 b) 6 n (p i) (q i) 0 0 0 0) b)
      ∙ ap (λ (k : Kind). by_kind k b b (by_size b (put_head (zeros 154 ++ drop 154 b) 6 n (decoded b).role (decoded b).method 0 0 0 0) b)) (sym (kind_fault n f))

  -- where the bytes' numbers were read, as they were for a fault, those are an ended exchange's
  refused_are : length b ≡ exchange_size → (is_fault n ≡ true → NumberBytes b)
      → refused_bytes n b ≡ by_kind (kind n) b b (encoded (ended n (decoded b).role (decoded b).method (decoded b).session))
  unfolding kind decoded
  refused_are l y = by_tests (eqb n 0) (is_fault n) refl
    where
      by_tests : (t u : Bool) → is_fault n ≡ u → by_kind (cond t accepted (cond u fault refused)) b b (by_size b (put_head (zeros 154 ++ drop 154 b) 6 n (decoded b).role (decoded b).method 0 0 0 0) b)
          ≡ by_kind (cond t accepted (cond u fault refused)) b b (encoded (ended n (decoded b).role (decoded b).method (decoded b).session))
      by_tests true u f = refl
      by_tests false false f = refl
      by_tests false true f =
          let u = y f in
          sym (size_taken b b (put_head (zeros 154 ++ drop 154 b) 6 n (decoded b).role (decoded b).method 0 0 0 0) l)
          ∙ (λ i. put_head (zeros 154 ++ sym (session_stored b u l) i) 6 n (decoded b).role (decoded b).method 0 0 0 0)
          ∙ ended_bytes n (decoded b).role (decoded b).method (decoded b).session

  pub refused_stays : {A : Type 0} (x y : A) → is_fault n ≡ false → x ≡ by_kind (kind n) x x y
  unfolding kind
  refused_stays x y f = rw f (by_test (eqb n 0))
    where
      by_test : (t : Bool) → x ≡ by_kind (cond t accepted refused) x x y
      by_test true = refl
      by_test false = refl

-- a fault is not 1
pub fault_read : (n : ℕ) (b : List ℕ) → (¬ (n ≡ 1) → NumberBytes b) → is_fault n ≡ true → NumberBytes b
fault_read n b y f = y (λ (e : n ≡ 1). false≢true (sym (ap is_fault e) ∙ f))

-- what a refused step tells and writes: nothing
module _ (e : Exchange) (room : List ℕ) where
  pub tells_none : (q : Call) → ¬ (number e room q ≡ 0) → tells e room q ≡ zeros (told_size q)
  unfolding tells answered step_part
  tells_none (own_c c out) h = ap (λ (n : ℕ). n ∷ []) (kind_same _ (count_of e room (own_c c out)) 0 h)
  tells_none (init p) h = ap place_of (kind_same _ (field_part p 0) nothing h)
  tells_none (reply p) h =
      λ i. place_of (kind_same _ (field_part p 0) nothing h i) ++ place_of (kind_same _ (field_part p 1) nothing h i) ++ place_of (kind_same _ (field_part p 2) nothing h i)
  tells_none (secret cl x kem k_pq ks s) h =
      λ i. kind_same _ (count_of e room (secret cl x kem k_pq ks s)) 0 h i ∷ sym (handed_refused e room (secret cl x kem k_pq ks s) h) i
  tells_none (sign g out k_out) h =
      λ i. kind_same _ (count_of e room (sign g out k_out)) 0 h i ∷ kind_same _ (second_of e (sign g out k_out)) 0 h i ∷ []
  tells_none (verdict a b k_out) h = ap (λ (n : ℕ). n ∷ []) (kind_same _ (count_of e room (verdict a b k_out)) 0 h)

pub outputs_stay : (n : ℕ) (outs bs : List (List ℕ)) → ¬ (n ≡ 0) → outputs_after n outs bs ≡ outs
unfolding output_after
outputs_stay n [] bs h = refl
outputs_stay n (out ∷ outs) [] h = refl
outputs_stay n (out ∷ outs) (b ∷ bs) h = λ i. kind_same n (onto out b) out h i ∷ outputs_stay n outs bs h i

module _ (b room : List ℕ) (q : Call) (outs : List (List ℕ)) where
  -- a refused call, by its number: the bytes and the room as the refusal leaves them, all told 0, the outputs as they were
  pub call_refused : (n : ℕ) → n ≡ by_fit b (number (decoded b) room q) 1 → (is_fault n ≡ true → NumberBytes b) → ¬ (n ≡ 0) → (r : ℕ) (ex room' : List ℕ) → r ≡ n → ex ≡ refused_bytes n b → room' ≡ refused_room n room
      → left r (zeros (told_size q)) ex room' outs ≡ lent_call b room q outs
  unfolding lent_call by_fit step_left bytes_after room_after kind
  call_refused n = by_fit_lem (fits b) refl
    where
      by_fit_lem : (t : Bool) → fits b ≡ t → n ≡ cond t (number (decoded b) room q) 1 → (is_fault n ≡ true → NumberBytes b) → ¬ (n ≡ 0) → (r : ℕ) (ex room' : List ℕ) → r ≡ n → ex ≡ refused_bytes n b → room' ≡ refused_room n room
          → left r (zeros (told_size q)) ex room' outs ≡ cond t (step_left b (decoded b) room q outs) (untouched b room (told_size q) outs)
      by_fit_lem false w e g h r ex room' a x y =
          λ i. left ((a ∙ e) i) (zeros (told_size q)) ((x ∙ ap (λ (m : ℕ). refused_bytes m b) e) i) ((y ∙ ap (λ (m : ℕ). refused_room m room) e) i) outs
      by_fit_lem true w e g h r ex room' a x y =
          let d = decoded b in
          let z : ¬ (number d room q ≡ 0) = λ v. h (e ∙ v) in
          let k = kind_other (number d room q) b (encoded (taken d room q)) b (encoded (ended (number d room q) d.role d.method d.session)) z in
          let v = x ∙ refused_are n b (fits_known b w).0 g ∙ ap (λ (m : ℕ). by_kind (kind m) b b (encoded (ended m d.role d.method d.session))) e ∙ k in
          let u = y ∙ ap (λ (m : ℕ). refused_room m room) e ∙ kind_other (number d room q) room (filled d room q) room (zeros (length room)) z in
          λ i. left ((a ∙ e) i) (sym (tells_none d room q z) i) (v i) (u i) (sym (outputs_stay (number d room q) outs (writes d room q) z) i)

  -- an accepted call
  pub call_accepted : fits b ≡ true → number (decoded b) room q ≡ 0 → (told ex room' : List ℕ) (outs' : List (List ℕ)) → told ≡ tells (decoded b) room q
      → ex ≡ encoded (taken (decoded b) room q) → room' ≡ room_after (decoded b) room q → outs' ≡ outputs_after (number (decoded b) room q) outs (writes (decoded b) room q)
      → left 0 told ex room' outs' ≡ lent_call b room q outs
  unfolding lent_call step_left bytes_after
  call_accepted f z told ex room' outs' t x r o =
      let d = decoded b in
      let k = x ∙ ap (λ (c : Kind). by_kind c (encoded (taken d room q)) b (encoded (ended (number d room q) d.role d.method d.session))) (sym (kind_accepted (number d room q) z)) in
      (λ i. left (sym z i) (t i) (k i) (r i) (o i))
      ∙ fit_taken b (step_left b d room q outs) (untouched b room (told_size q) outs) f

  -- the number, as it is judged: by role and method as they are read, and by what is fed
  pub number_lent : (n r m fed : ℕ) → n ≡ by_fit b (step_number (step_no q) (decoded b) (length room) fed) 1 → r ≡ get_or b 3 0 → m ≡ get_or b 4 0 → fed ≡ fed_cause r m q
      → n ≡ by_fit b (number (decoded b) room q) 1
  unfolding number
  number_lent n r m fed h p k f =
      h ∙ (λ i. by_fit b (step_number (step_no q) (decoded b) (length room) ((f ∙ (λ j. fed_cause (role_read b r p j) (method_read b m k j) q)) i)) 1)

  -- what its number tells
  pub accepted_known : (n : ℕ) → n ≡ by_fit b (number (decoded b) room q) 1 → n ≡ 0 → (fits b ≡ true) × (number (decoded b) room q ≡ 0)
  unfolding by_fit
  accepted_known n e z = by_fit_lem (fits b) refl (sym e ∙ z)
    where
      by_fit_lem : (t : Bool) → fits b ≡ t → cond t (number (decoded b) room q) 1 ≡ 0 → (t ≡ true) × (number (decoded b) room q ≡ 0)
      by_fit_lem true w h = (refl, h)
      by_fit_lem false w h = let v : ⊥ = omega arith in absurd v

-- ---- how an accepted step changes the bytes

-- no step is due on a failed exchange
next_some : (role : ℕ) (s : Stage) → ¬ (next_step role s ≡ 0) → fail_number s ≡ 0
next_some role Started h = refl
next_some role CSent h = refl
next_some role InitRead h = refl
next_some role ReplyRead h = refl
next_some role SecretDone h = refl
next_some role Complete h = refl
next_some role (Failed n) h = absurd (h (by_tests (eqb role 1) (eqb role 2)))
  where
    by_tests : (t u : Bool) → ◌≡◌ {A = ℕ} (cond t 0 (cond u 0 0)) 0
    by_tests true u = refl
    by_tests false true = refl
    by_tests false false = refl

pub record Opened (b room : List ℕ) (q : Call) : Type 0 where
  pub fitting : fits b ≡ true
  pub size : length b ≡ exchange_size
  pub accepts : number (decoded b) room q ≡ 0
  pub bytes_are : b ≡ encoded (decoded b)
  pub no_fail : fail_number (decoded b).stage ≡ 0
  pub k_size_is : length (decoded b).k ≡ k_size
  pub h_size_is : length (decoded b).h ≡ h_size
  pub id_size : length (decoded b).session.id ≡ h_size
  pub short : Short (decoded b).lens
  pub session : SmallSession (decoded b).session
  pub lens_are : lengths_told b ≡ (decoded b).lens
  pub k_is : k_kept b ≡ (decoded b).k

pub opened : (b room : List ℕ) (q : Call) (n : ℕ) → n ≡ by_fit b (number (decoded b) room q) 1 → (¬ (n ≡ 1) → NumberBytes b) → n ≡ 0 → Opened b room q
unfolding decoded
opened b room q n e y z =
    let k = accepted_known b room q [] n e z in
    let s = (fits_known b k.0).0 in
    let d = (step_known (decoded b) room q k.1).0 in
    let u = y (λ (h : n ≡ 1). let w : ⊥ = omega arith in w) in
    record {
      fitting = k.0;
      size = s;
      accepts = k.1;
      bytes_are = sym (stored_again b u k.0);
      no_fail = next_some (decoded b).role (decoded b).stage (λ h. step_some q (sym d.next ∙ h));
      k_size_is = omega (arith, length-take k_size (drop 19 b), length-drop 19 b);
      h_size_is = omega (arith, length-take h_size (drop 90 b), length-drop 90 b);
      id_size = omega (arith, length-drop 164 b);
      short = decoded_short b u;
      session = decoded_session b u;
      lens_are = sym (size_taken b no_lengths (lengths_in b) s);
      k_is = sym (size_taken b [] (take k_size (drop 19 b)) s);
    }

module _ (b room : List ℕ) (q : Call) (o : Opened b room q) where
  -- C's length joins
  pub c_changed : (s : Stage) (n : ℕ) (ex : List ℕ) → fail_number s ≡ 0 → ex ≡ by_size b (put16 (set b 1 (stage_number s)) 15 n) b
      → ex ≡ encoded (with_stage (decoded b) s (with_c (decoded b).lens n))
  c_changed s n ex f h =
      h
      ∙ sym (size_taken b b (put16 (set b 1 (stage_number s)) 15 n) o.size)
      ∙ ap (λ (l : List ℕ). put16 (set l 1 (stage_number s)) 15 n) o.bytes_are
      ∙ c_put (decoded b) s (o.no_fail ∙ sym f) n

  -- those of K_S and S
  pub s_changed : (s : Stage) (m n : ℕ) (ex : List ℕ) → fail_number s ≡ 0 → ex ≡ by_size b (put16 (put16 (set b 1 (stage_number s)) 13 m) 17 n) b
      → ex ≡ encoded (with_stage (decoded b) s (with_s (decoded b).lens m n))
  s_changed s m n ex f h =
      h
      ∙ sym (size_taken b b (put16 (put16 (set b 1 (stage_number s)) 13 m) 17 n) o.size)
      ∙ ap (λ (l : List ℕ). put16 (put16 (set l 1 (stage_number s)) 13 m) 17 n) o.bytes_are
      ∙ s_put (decoded b) s (o.no_fail ∙ sym f) m n

  -- the last step
  pub completed : (ex : List ℕ) → ex ≡ by_size b (set (put_more b) 1 5) b → ex ≡ encoded (with_last (decoded b))
  completed ex h =
      h
      ∙ sym (size_taken b b (set (put_more b) 1 5) o.size)
      ∙ ap (λ (l : List ℕ). set (put_more l) 1 5) o.bytes_are
      ∙ last_put (decoded b) o.k_size_is o.h_size_is o.id_size o.short o.session o.no_fail

-- K joins, on the bytes of an exchange; and H
pub k_changed : (e : Exchange) (k b ex : List ℕ) → fail_number e.stage ≡ 0 → length e.k ≡ k_size → length k ≡ k_size → b ≡ encoded e
    → length b ≡ exchange_size → ex ≡ by_size b (laid (set b 1 4) 19 k) b → ex ≡ encoded (with_secret e e.lens k e.h)
k_changed e k b ex f m n h l x =
    x
    ∙ sym (size_taken b b (laid (set b 1 4) 19 k) l)
    ∙ ap (λ (y : List ℕ). laid (set y 1 4) 19 k) h
    ∙ k_put e k f m n

pub h_changed : (e : Exchange) (l : Lengths) (k h h' b ex : List ℕ) → length k ≡ k_size → length h ≡ length h' → b ≡ encoded (with_secret e l k h)
    → length b ≡ exchange_size → ex ≡ by_size b (laid b 90 h') b → ex ≡ encoded (with_secret e l k h')
h_changed e l k h h' b ex m n y s x =
    x
    ∙ sym (size_taken b b (laid b 90 h') s)
    ∙ ap (λ (z : List ℕ). laid z 90 h') y
    ∙ h_put e l k h h' m n

-- ---- the last step

-- a count's eight bytes go by what is left of it
high_wraps : (n : ℕ) → bytes16 (n % 18446744073709551616 / 281474976710656) ≡ bytes16 (n / 281474976710656)
high_wraps n =
    let a : n % 18446744073709551616 / 281474976710656 / 256 % 256 ≡ n / 281474976710656 / 256 % 256 = omega arith in
    let b : n % 18446744073709551616 / 281474976710656 % 256 ≡ n / 281474976710656 % 256 = omega arith in
    λ i. a i ∷ b i ∷ []

upper_wraps : (n : ℕ) → bytes16 (n % 18446744073709551616 / 4294967296) ≡ bytes16 (n / 4294967296)
upper_wraps n =
    let a : n % 18446744073709551616 / 4294967296 / 256 % 256 ≡ n / 4294967296 / 256 % 256 = omega arith in
    let b : n % 18446744073709551616 / 4294967296 % 256 ≡ n / 4294967296 % 256 = omega arith in
    λ i. a i ∷ b i ∷ []

lower_wraps : (n : ℕ) → bytes16 (n % 18446744073709551616 / 65536) ≡ bytes16 (n / 65536)
lower_wraps n =
    let a : n % 18446744073709551616 / 65536 / 256 % 256 ≡ n / 65536 / 256 % 256 = omega arith in
    let b : n % 18446744073709551616 / 65536 % 256 ≡ n / 65536 % 256 = omega arith in
    λ i. a i ∷ b i ∷ []

low_wraps : (n : ℕ) → bytes16 (n % 18446744073709551616) ≡ bytes16 n
low_wraps n =
    let a : n % 18446744073709551616 / 256 % 256 ≡ n / 256 % 256 = omega arith in
    let b : n % 18446744073709551616 % 256 ≡ n % 256 = omega arith in
    λ i. a i ∷ b i ∷ []

eight_wraps : (n : ℕ) → bytes64 (n % 18446744073709551616) ≡ bytes64 n
eight_wraps n = λ i. high_wraps n i ++ upper_wraps n i ++ lower_wraps n i ++ low_wraps n i

-- the bytes with the identifier, where it is the first
module _ (b : List ℕ) where
  named : Bool → List ℕ
  named t = cond t (put_id b (row_of (get_or b 4 0)).digest_len) b

  length_named : (t : Bool) → length b ≡ exchange_size → length (named t) ≡ exchange_size
  unfolding named
  length_named false h = h
  length_named true h =
      let h1 = length-take-le h_size (drop 90 b) (omega (arith, h, length-drop 90 b)) in
      let l1 = length_over b 164 (take h_size (drop 90 b)) (omega (arith, h, h1)) in
      length_over (over b 164 (take h_size (drop 90 b))) 154 (bytes16 (row_of (get_or b 4 0)).digest_len) (omega (arith, h, l1)) ∙ l1 ∙ h

  length_more : length b ≡ exchange_size → length (put_more b) ≡ exchange_size
  unfolding named
  length_more h =
      let l = length_named (eqb (number64 b 156) 0) h in
      length_over (named (eqb (number64 b 156) 0)) 156 (bytes64 (number64 b 156 + 1)) (omega (arith, l)) ∙ l

  -- the count, and with the first the identifier, as the code lays them
  pub one_more_put : (o ex : List ℕ) (n k : ℕ) → k ≡ (n + 1) % 18446744073709551616 → n ≡ count_told b → o ≡ cond (eqb n 0) (by_size b (put_id b (row_of (get_or b 4 0)).digest_len) b) b → ex ≡ by_size o (put_count o k) o
      → ex ≡ by_size b (put_more b) b
  unfolding named
  one_more_put o ex n k w e f g' = by_size_lem (eqb (length b) exchange_size) refl
    where
      g : ex ≡ by_size o (put_count o (n + 1)) o
      g = g' ∙ ap (λ (x : List ℕ). by_size o (over o 156 x) o) (ap bytes64 w ∙ eight_wraps (n + 1))

      by_size_lem : (t : Bool) → eqb (length b) exchange_size ≡ t → ex ≡ by_size b (put_more b) b
      by_size_lem true w =
          let s = eqb-true (length b) exchange_size w in
          let m = e ∙ sym (size_taken b 0 (number64 b 156) s) in
          let k : o ≡ cond (eqb (number64 b 156) 0) (put_id b (row_of (get_or b 4 0)).digest_len) b =
          f ∙ (λ i. cond (eqb (m i) 0) (sym (size_taken b b (put_id b (row_of (get_or b 4 0)).digest_len) s) i) b) in
          let l = ap length k ∙ length_named (eqb (number64 b 156) 0) s in
          g ∙ sym (size_taken o o (put_count o (n + 1)) l) ∙ (λ i. put_count (k i) (m i + 1)) ∙ size_taken b b (put_more b) s
      by_size_lem false w =
          let s = eqb-false (length b) exchange_size w in
          let k : o ≡ b = f ∙ ap (λ (x : List ℕ). cond (eqb n 0) x b) (sym (size_left b b (put_id b (row_of (get_or b 4 0)).digest_len) s)) ∙ either (eqb n 0) in
          g ∙ sym (size_left o o (put_count o (n + 1)) (λ h. s (sym (ap length k) ∙ h))) ∙ k ∙ size_left b b (put_more b) s
        where
          either : (t : Bool) → cond t b b ≡ b
          either true = refl
          either false = refl

  -- and the stage behind them
  pub last_stage : (o ex : List ℕ) → o ≡ by_size b (put_more b) b → ex ≡ by_size o (set o 1 5) o → ex ≡ by_size b (set (put_more b) 1 5) b
  last_stage o ex e f = by_size_lem (eqb (length b) exchange_size) refl
    where
      by_size_lem : (t : Bool) → eqb (length b) exchange_size ≡ t → ex ≡ by_size b (set (put_more b) 1 5) b
      by_size_lem true w =
          let s = eqb-true (length b) exchange_size w in
          let k = e ∙ sym (size_taken b b (put_more b) s) in
          f ∙ sym (size_taken o o (set o 1 5) (ap length k ∙ length_more s)) ∙ ap (λ (l : List ℕ). set l 1 5) k ∙ size_taken b b (set (put_more b) 1 5) s
      by_size_lem false w =
          let s = eqb-false (length b) exchange_size w in
          let k = e ∙ sym (size_left b b (put_more b) s) in
          f ∙ sym (size_left o o (set o 1 5) (λ h. s (sym (ap length k) ∙ h))) ∙ k ∙ size_left b b (set (put_more b) 1 5) s

-- ---- the start

module _ (b : List ℕ) (role m : ℕ) (vc vs ic is room : List ℕ) where
  pub start_taken : length b ≡ exchange_size → (n : ℕ) (ex room' : List ℕ) (x : Exchange) → record { number = n; count = 0; second = 0; exchange = x; position = 0 } ≡ started role m vc vs ic is (length room)
      → ex ≡ encoded x → room' ≡ started_room role m vc vs ic is room
      → left n [] ex room' [] ≡ lent_start b role m vc vs ic is room
  unfolding lent_start start_left
  start_taken h n ex room' x d k r =
      (λ i. left (d i).number [] ((k ∙ ap (λ (y : Step). encoded y.exchange) d) i) (r i) [])
      ∙ size_taken b (untouched b room 0 []) (start_left (started role m vc vs ic is (length room)) (started_room role m vc vs ic is room)) h

  pub start_left_lem : ¬ (length b ≡ exchange_size) → untouched b room 0 [] ≡ lent_start b role m vc vs ic is room
  unfolding lent_start
  start_left_lem h = size_left b (untouched b room 0 []) (start_left (started role m vc vs ic is (length room)) (started_room role m vc vs ic is room)) h
