-- A room that is too short; what the bytes of a complete exchange tell; the room with the new I_C and I_S, and the exchange's bytes. Assumes nothing.
use Prim.Native.Nat.{ℕ, ◌+◌, ◌≤◌, ◌<◌}
use mathlib.Core.Path.{◌≡◌, refl, sym, ap, ◌∙◌}
use mathlib.Core.List.{List, [], ◌++◌}
use mathlib.Core.Bool.{Bool, true, false, cond, ◌&&◌}
use native.Mathlib.Omega.{arith}
use lib.ListN.{length, get_or, drop}
use borrow.Author.Tests.{lt-ltb, eq-eqb, ne_eqb}
use Rattle.limits.specs.Limits.{version_most, kexinit_most, room_least, method_last}
use Rattle.limits.proofs.BoolLaws.{and_true}
use Rattle.limits.proofs.RangeLaws.{within_is, within_most}
use Rattle.buffers.specs.Bytes.{zeros, over, laid}
use Rattle.buffers.proofs.ByteLaws.{length_over, over_over, laid_fits}
use Rattle.wire.proofs.CauseLaws.{if_holds, unless_holds, unless_fails}
use Rattle.transcript.specs.Fields.{field, field_length, field_size, size_sum}
use Rattle.transcript.proofs.RoomLaws.{length_field, field_length_most}
use Rattle.transcript.proofs.FieldLaws.{field_size_fits, size_sum_fits}
use Rattle.exchange.specs.Causes.{method_ok, again_cause}
use Rattle.exchange.specs.Record.{no_lengths, completed}
use Rattle.exchange.specs.Again.{again_number, versions_end, begun_again, again_room}
use Rattle.exchange.specs.declared.Stage.TheVariants.{Started}
use Rattle.exchange.specs.declared.Lengths.{Lengths}
use Rattle.exchange.proofs.CauseFacts.{again_known}
use Rattle.exchange.proofs.DueLaws.{completed_known}
use Rattle.stored.specs.Stored.{encoded, fits, lengths_in, number64, NumberBytes, decoded, by_size, lengths_told, count_told}
use Rattle.stored.proofs.StoredLaws.{role_read, size_taken, fits_known, fit_taken, fit_left}
use Rattle.stored.proofs.RoundTrip.{session_stored}
use Rattle.changes.specs.Changes.{put_head}
use Rattle.changes.proofs.ChangeLaws.{head_put}
use Rattle.lent.specs.Lent.{left, untouched, again_left, lent_again}

-- ---- again_cause

module _ (m : ℕ) (ic is : List ℕ) (room count : ℕ) where
  module _ (a : 1 ≤ m) (b : m ≤ method_last) where
    pub again_room_lem : room < room_least → 3 ≡ again_cause m ic is room count
    unfolding again_cause method_ok
    again_room_lem h = sym (unless_holds _ 2 _ (within_is 1 method_last m a b) ∙ if_holds _ 3 _ (lt-ltb room room_least h))

-- ---- what the bytes of a complete exchange tell

pub record Ripe (b room : List ℕ) (m : ℕ) (ic is : List ℕ) : Type 0 where
  pub fitting : fits b ≡ true
  pub accepts : again_number (decoded b) (length room) m ic is ≡ 0
  pub numbers : NumberBytes b
  pub lens_are : lengths_told b ≡ (decoded b).lens
  pub room_enough : room_least ≤ length room
  pub vc_most : (decoded b).lens.vc ≤ version_most
  pub vs_most : (decoded b).lens.vs ≤ version_most
  pub ic_most : length ic ≤ kexinit_most
  pub is_most : length is ≤ kexinit_most

module _ (b : List ℕ) where
  -- the count that is read is the exchange's
  count_is : fits b ≡ true → count_told b ≡ (decoded b).session.count
  unfolding decoded
  count_is f = sym (size_taken b 0 (number64 b 156) (fits_known b f).0)

  module _ (room : List ℕ) (m : ℕ) (ic is : List ℕ) where
    -- refused, by the number
    left_refused : fits b ≡ true → (n : ℕ) → n ≡ again_number (decoded b) (length room) m ic is → ¬ (n ≡ 0) → left n [] b room [] ≡ lent_again b room m ic is
    unfolding lent_again again_left again_room
    left_refused f n e k =
        let d = decoded b in
        let z = ne_eqb (again_number d (length room) m ic is) 0 (λ w. k (e ∙ w)) in
        (λ i. left (e i) [] (cond (sym z i) (encoded (begun_again d m (length ic) (length is))) b) (cond (sym z i) (over room (versions_end d.lens) (field ic ++ field is)) room) [])
        ∙ fit_taken b (again_left b d room m ic is) (untouched b room 0 []) f

    -- not complete
    pub again_unripe : (fits b && completed (decoded b)) ≡ false → left 1 [] b room [] ≡ lent_again b room m ic is
    unfolding lent_again again_number
    again_unripe h = by_fit_lem (fits b) refl h
      where
        by_fit_lem : (t : Bool) → fits b ≡ t → (t && completed (decoded b)) ≡ false → left 1 [] b room [] ≡ lent_again b room m ic is
        by_fit_lem true f h = left_refused f 1 (sym (unless_fails (completed (decoded b)) 1 _ h)) (λ w. let v : ⊥ = omega arith in v)
        by_fit_lem false f h = fit_left b (again_left b (decoded b) room m ic is) (untouched b room 0 []) f

    module _ (h : (fits b && completed (decoded b)) ≡ true) (n : ℕ) (e : n ≡ again_cause m ic is (length room) (count_told b)) where
      number_is : n ≡ again_number (decoded b) (length room) m ic is
      unfolding again_number
      number_is =
          let t = and_true (fits b) (completed (decoded b)) h in
          e ∙ ap (again_cause m ic is (length room)) (count_is t.0) ∙ sym (unless_holds _ 1 _ t.1)

      pub again_refused : ¬ (n ≡ 0) → left n [] b room [] ≡ lent_again b room m ic is
      again_refused k = left_refused (and_true (fits b) (completed (decoded b)) h).0 n number_is k

      -- accepted
      pub ripe : NumberBytes b → n ≡ 0 → Ripe b room m ic is
      unfolding decoded
      ripe u z =
          let t = and_true (fits b) (completed (decoded b)) h in
          let r = (completed_known (decoded b) t.1).1 in
          let a = again_known m ic is (length room) (count_told b) (sym e ∙ z) in
          record {
            fitting = t.0;
            accepts = sym number_is ∙ z;
            numbers = u;
            lens_are = sym (size_taken b no_lengths (lengths_in b) (fits_known b t.0).0);
            room_enough = a.1;
            vc_most = within_most 1 version_most (decoded b).lens.vc r.lengths.vc;
            vs_most = within_most 1 version_most (decoded b).lens.vs r.lengths.vs;
            ic_most = within_most 1 kexinit_most (length ic) a.2;
            is_most = within_most 1 kexinit_most (length is) a.3;
          }

    module _ (o : Ripe b room m ic is) where
      -- both I go in behind both V
      pub proposals_laid : (l : Lengths) (a c at : ℕ) (room' : List ℕ) → l ≡ lengths_told b → a ≡ field_size l.vc → c ≡ field_size l.vs → at ≡ size_sum a c
          → room' ≡ laid (laid room at (field ic)) (size_sum at (field_size (length ic))) (field is)
          → room' ≡ over room (versions_end (decoded b).lens) (field ic ++ field is)
      proposals_laid l a c at room' e x y w r =
          let d = (decoded b).lens in
          let k = e ∙ o.lens_are in
          let f1 = field_length_most d.vc in
          let f2 = field_length_most d.vs in
          let f3 = length_field ic in
          let f4 = length_field is in
          let f5 = field_length_most (length ic) in
          let f6 = field_length_most (length is) in
          let v1 = o.vc_most in
          let v2 = o.vs_most in
          let v3 = o.ic_most in
          let v4 = o.is_most in
          let v5 = o.room_enough in
          let x1 = x ∙ ap (λ (z : Lengths). field_size z.vc) k ∙ field_size_fits d.vc (omega arith) in
          let y1 = y ∙ ap (λ (z : Lengths). field_size z.vs) k ∙ field_size_fits d.vs (omega arith) in
          let w1 : at ≡ versions_end d = w ∙ (λ i. size_sum (x1 i) (y1 i)) ∙ size_sum_fits (field_length d.vc) (field_length d.vs) (omega arith) in
          let n : size_sum at (field_size (length ic)) ≡ at + length (field ic) =
          ap (size_sum at) (field_size_fits (length ic) (omega arith)) ∙ size_sum_fits at (field_length (length ic)) (omega arith) ∙ ap (λ (z : ℕ). at + z) (sym f3) in
          let g : at + length (field ic) ≤ length room = omega arith in
          r
          ∙ (λ i. laid (laid_fits room at (field ic) g i) (n i) (field is))
          ∙ laid_fits (over room at (field ic)) (at + length (field ic)) (field is) (omega (arith, length_over room at (field ic) g))
          ∙ over_over room at (field ic) (field is) g
          ∙ ap (λ (z : ℕ). over room z (field ic ++ field is)) w1

      -- and the exchange is begun again
      pub bytes_begun : (l : Lengths) (role : ℕ) (ex : List ℕ) → l ≡ lengths_told b → role ≡ get_or b 3 0
          → ex ≡ by_size b (put_head (zeros 154 ++ drop 154 b) 0 0 role m l.vc l.vs (length ic) (length is)) b
          → ex ≡ encoded (begun_again (decoded b) m (length ic) (length is))
      unfolding decoded
      bytes_begun l role ex e r x =
          let s = (fits_known b o.fitting).0 in
          let k = e ∙ o.lens_are in
          x
          ∙ sym (size_taken b b (put_head (zeros 154 ++ drop 154 b) 0 0 role m l.vc l.vs (length ic) (length is)) s)
          ∙ (λ i. put_head (zeros 154 ++ sym (session_stored b o.numbers s) i) 0 0 (role_read b role r i) m (k i).vc (k i).vs (length ic) (length is))
          ∙ head_put Started (decoded b).role m (decoded b).lens.vc (decoded b).lens.vs (length ic) (length is) (decoded b).session

      pub again_accepted : (ex room' : List ℕ) → ex ≡ encoded (begun_again (decoded b) m (length ic) (length is)) → room' ≡ over room (versions_end (decoded b).lens) (field ic ++ field is)
          → left 0 [] ex room' [] ≡ lent_again b room m ic is
      unfolding lent_again again_left again_room
      again_accepted ex room' x y =
          let d = decoded b in
          let z = eq-eqb (again_number d (length room) m ic is) 0 o.accepts in
          (λ i. left (sym o.accepts i) [] (x i) (y i) [])
          ∙ (λ i. left (again_number d (length room) m ic is) [] (cond (sym z i) (encoded (begun_again d m (length ic) (length is))) b) (cond (sym z i) (over room (versions_end d.lens) (field ic ++ field is)) room) [])
          ∙ fit_taken b (again_left b d room m ic is) (untouched b room 0 []) o.fitting
