-- The worked examples hold, all in one equation. Assumes nothing.
use Prim.Native.Nat.{ℕ, suc, ◌+◌, ◌≤◌}
use mathlib.Core.Path.{◌≡◌, refl, ap, ◌∙◌}
use mathlib.Core.List.{List, [], ◌∷◌, ◌++◌, map}
use native.Mathlib.Omega.{arith}
use lib.ListN.{length, drop, length-append}
use lib.Seq.{drop-append_seam}
use Rattle.limits.specs.Limits.{payload_most}
use Rattle.buffers.specs.Bytes.{Bytes, zeros}
use Rattle.wire.specs.Causes.{cause_if, cause_unless}
use Rattle.wire.specs.Strings.{number32, string, strings, whole, walk, read_string}
use Rattle.wire.specs.Strings.{Walk}
use Rattle.wire.proofs.CauseLaws.{or_else_first}
use Rattle.wire.proofs.StringLaws.{whole_no_length}
use Rattle.wire.proofs.StringsLaws.{length_strings, walk_strings}
use Rattle.messages.specs.Position.{position}
use Rattle.messages.specs.Messages.{reply_layout}
use Rattle.messages.proofs.PayloadLaws.{fit_not_strings, cause_cut}
use Rattle.messages.proofs.PositionLaws.{breaks_string, position_some}
use Rattle.exchange.specs.Causes.{rest_ok, secret_cause, reply_cause}
use Rattle.buffers.proofs.ByteLaws.{bytes_cons}
use mathlib.Core.Bool.{Bool, true, false, cond}
use Rattle.mpint.specs.Mpint.{excess, shortest, read_mpint}
use Rattle.mpint.proofs.Unique.{shortest_value}
use Rattle.methods.specs.Rows.{rows, row_of}
use Rattle.worked.specs.Examples.{Example, Blanks, examples}

none : Bytes []
none i = omega arith

-- the only shortest bytes of -128 and of -129
low_is : (o : Blanks) → shortest o.low ≡ 0x80 ∷ []
unfolding shortest
low_is o = shortest_value o.low (0x80 ∷ []) o.low_bytes (bytes_cons 0x80 [] (omega arith) none) o.low_value

lower_is : (o : Blanks) → shortest o.lower ≡ 0xff ∷ 0x7f ∷ []
unfolding shortest
lower_is o =
    shortest_value o.lower (0xff ∷ 0x7f ∷ []) o.lower_bytes
    (bytes_cons 0xff (0x7f ∷ []) (omega arith) (bytes_cons 0x7f [] (omega arith) none)) o.lower_value

-- where two strings were passed over and the third is not whole, three are cut there
third : (s : List ℕ) (at : ℕ) → (walk s at 2).number ≡ 0 → whole (drop (walk s at 2).place s) ≡ false → walk s at 3 ≡ record { number = 12; place = (walk s at 2).place }
third s at = by_test (whole (drop at s)) (whole (drop (at + 4 + number32 (drop at s)) s))
  where
    p : ℕ
    p = at + 4 + number32 (drop at s)

    q : ℕ
    q = p + 4 + number32 (drop p s)

    by_test : (t u : Bool) → (cond {A = Walk} t (cond u (record { number = 0; place = q }) (record { number = 12; place = p })) (record { number = 12; place = at })).number ≡ 0
        → whole (drop (cond {A = Walk} t (cond u (record { number = 0; place = q }) (record { number = 12; place = p })) (record { number = 12; place = at })).place s) ≡ false
        → cond {A = Walk} t (cond u (cond (whole (drop q s)) (record { number = 0; place = q + 4 + number32 (drop q s) }) (record { number = 12; place = q })) (record { number = 12; place = p })) (record { number = 12; place = at })
        ≡ record { number = 12; place = (cond {A = Walk} t (cond u (record { number = 0; place = q }) (record { number = 12; place = p })) (record { number = 12; place = at })).place }
    by_test true true n w = rw w
    by_test true false n w = let v : ⊥ = omega arith in absurd v
    by_test false u n w = let v : ⊥ = omega arith in absurd v

-- 7f in front is needed, whatever follows it
needed : (r : List ℕ) → excess (0x7f ∷ r) ≡ false
needed [] = refl
needed (a ∷ r) = refl

-- REPLY's first two strings are there, and the third's length is not
module _ (o : Blanks) where
  reply : List ℕ
  reply = (31 ∷ []) ++ (strings (o.ks ∷ o.s ∷ []) ++ o.cut)

  two : walk reply 1 2 ≡ record { number = 0; place = 1 + length (strings (o.ks ∷ o.s ∷ [])) }
  unfolding reply
  two =
      walk_strings reply 1 (o.ks ∷ o.s ∷ []) o.cut
      (omega (arith, o.reply_length, length-append (strings (o.ks ∷ o.s ∷ [])) o.cut)) refl

  cut_short : whole (drop (walk reply 1 2).place reply) ≡ false
  unfolding reply
  cut_short =
      ap (λ (w : Walk). whole (drop w.place reply)) two
      ∙ ap (λ (l : List ℕ). whole l) (ap (λ (n : ℕ). drop n reply) one ∙ drop-append_seam (strings (o.ks ∷ o.s ∷ [])) o.cut)
      ∙ whole_no_length o.cut (omega (arith, o.cut_length))
    where
      one : 1 + length (strings (o.ks ∷ o.s ∷ [])) ≡ suc (length (strings (o.ks ∷ o.s ∷ [])))
      one = omega arith

  three : walk reply 1 3 ≡ record { number = 12; place = (walk reply 1 2).place }
  three = third reply 1 (ap (λ (w : Walk). w.number) two) cut_short

  not_whole : ¬ ((walk reply 1 3).number ≡ 0)
  not_whole z = let n = ap (λ (w : Walk). w.number) three in omega arith

  cut_reply : reply_cause o.method reply ≡ 12
  unfolding reply reply_cause
  cut_reply =
      let e = cause_cut reply_layout reply (omega arith) o.reply_length refl (fit_not_strings reply_layout reply not_whole) in
      or_else_first _ _ (λ z. omega (arith, e)) ∙ e

  cut_place : position 12 reply_layout reply ≡ 1 + (4 + length o.ks) + (4 + length o.s)
  unfolding reply
  cut_place =
      let n = ap (λ (w : Walk). w.place) three in
      let m = ap (λ (w : Walk). w.place) two in
      let e = position_some reply_layout reply 12 refl in
      let b = breaks_string reply_layout reply (omega arith) not_whole in
      omega (arith, length_strings o.ks (o.s ∷ []), length_strings o.s [])

pub worked : (o : Blanks) → map (λ (e : Example). e.found) (examples o) ≡ map (λ (e : Example). e.stated) (examples o)
unfolding shortest string whole read_string read_mpint rows row_of secret_cause rest_ok cause_unless cause_if reply
worked o = rw (low_is o, lower_is o, needed o.r, o.r_length, o.k_pq_length, cut_reply o, cut_place o)

-- there is such a blanks, so the table is not about nothing
pub blanks : Blanks
unfolding string
blanks = record {
  b = 0;
  r = zeros 30;
  r_length = refl;
  low = 0x80 ∷ [];
  low_bytes = bytes_cons 0x80 [] (omega arith) none;
  low_value = refl;
  lower = 0xff ∷ 0x7f ∷ [];
  lower_bytes = bytes_cons 0xff (0x7f ∷ []) (omega arith) (bytes_cons 0x7f [] (omega arith) none);
  lower_value = refl;
  k_pq = zeros 32;
  k_pq_length = refl;
  method = 4;
  ks = 1 ∷ [];
  s = 2 ∷ [];
  cut = 0 ∷ 0 ∷ [];
  cut_length = omega arith;
  reply_length = short;
}
  where
    short : length ((31 ∷ []) ++ (strings ((1 ∷ []) ∷ (2 ∷ []) ∷ []) ++ (0 ∷ 0 ∷ []))) ≤ payload_most
    short = omega arith
