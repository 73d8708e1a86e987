-- An exchange is its bytes', and bytes that fit are their exchange's. Assumes nothing.
use Prim.Native.Nat.{ℕ, zero, suc, ◌+◌, ◌*◌, ◌/◌, ◌%◌, ◌≤◌, ◌<◌}
use mathlib.Core.Path.{◌≡◌, refl, sym, ap, ◌∙◌}
use mathlib.Core.List.{List, [], ◌∷◌, ◌++◌, append_assoc}
use mathlib.Core.Bool.{Bool, true, false, ◌&&◌, ◌||◌, false≢true}
use native.Mathlib.Omega.{arith}
use lib.ListN.{length, get_or, take, drop, length-append, take-append-drop}
use lib.Seq.{drop-cons, drop-drop, take_at, drop_at, get_or-drop}
use lib.Dec.{eqb, leb}
use borrow.Author.Tests.{eqb-true, ne_eqb, lt-leb}
use Rattle.limits.specs.Limits.{k_size, h_size, exchange_size, exchange_mark}
use Rattle.limits.proofs.BoolLaws.{and_false}
use Rattle.buffers.specs.Bytes.{Bytes}
use Rattle.exchange.specs.declared.Stage.{Stage}
use Rattle.exchange.specs.declared.Stage.TheVariants.{Started, CSent, InitRead, ReplyRead, SecretDone, Complete, Failed}
use Rattle.exchange.specs.declared.Lengths.{Lengths}
use Rattle.exchange.specs.declared.Session.{Session}
use Rattle.exchange.specs.declared.Exchange.{Exchange}
use Rattle.stored.specs.Stored.{stage_number, fail_number, stage_of, bytes16, number16, bytes64, number64, head_of, session_bytes, encoded, marks_fit, fits, Halves, CountBytes, NumberBytes, session_in, decoded}
use Rattle.stored.proofs.StoredLaws.{fits_known}

-- every length fits two bytes
pub record Short (l : Lengths) : Type 0 where
  pub vc : l.vc < 65536
  pub vs : l.vs < 65536
  pub ic : l.ic < 65536
  pub is : l.is < 65536
  pub ks : l.ks < 65536
  pub c : l.c < 65536
  pub s : l.s < 65536

-- the session's numbers fit their bytes
pub record SmallSession (s : Session) : Type 0 where
  pub len : s.len < 65536
  pub count : s.count < 18446744073709551616

-- ---- what is stored is loaded

stage_back : (s : Stage) → stage_of (stage_number s) (fail_number s) ≡ s
unfolding stage_of
stage_back Started = refl
stage_back CSent = refl
stage_back InitRead = refl
stage_back ReplyRead = refl
stage_back SecretDone = refl
stage_back Complete = refl
stage_back (Failed n) = refl

stage_fits : (s : Stage) → marks_fit exchange_mark (stage_number s) (fail_number s) ≡ true
unfolding marks_fit
stage_fits Started = refl
stage_fits CSent = refl
stage_fits InitRead = refl
stage_fits ReplyRead = refl
stage_fits SecretDone = refl
stage_fits Complete = refl
stage_fits (Failed n) = refl

two_back : (n : ℕ) → n < 65536 → n / 256 % 256 * 256 + n % 256 ≡ n
two_back n h = omega arith

upper : (n : ℕ) → n / 281474976710656 * 65536 + n / 4294967296 % 65536 ≡ n / 4294967296
upper n = omega arith

lower : (n : ℕ) → n / 65536 % 65536 * 65536 + n % 65536 ≡ n % 4294967296
lower n = omega arith

halves : (n : ℕ) → n / 4294967296 * 4294967296 + n % 4294967296 ≡ n
halves n = omega arith

eight_back : (n : ℕ) → n < 18446744073709551616 → number64 (bytes64 n) 0 ≡ n
eight_back n h =
    let a : n / 281474976710656 / 256 % 256 * 256 + n / 281474976710656 % 256 ≡ n / 281474976710656 = two_back (n / 281474976710656) (omega arith) in
    let b : n / 4294967296 / 256 % 256 * 256 + n / 4294967296 % 256 ≡ n / 4294967296 % 65536 = omega arith in
    let c : n / 65536 / 256 % 256 * 256 + n / 65536 % 256 ≡ n / 65536 % 65536 = omega arith in
    let d : n / 256 % 256 * 256 + n % 256 ≡ n % 65536 = omega arith in
    (λ i. (a i * 65536 + b i) * 4294967296 + (c i * 65536 + d i)) ∙ (λ i. upper n i * 4294967296 + lower n i) ∙ halves n

-- what stands behind bytes that are n
behind : (p q : List ℕ) (n i : ℕ) → length p ≡ n → get_or (p ++ q) (n + i) 0 ≡ get_or q i 0
behind p q n i e = sym (get_or-drop n (p ++ q) i 0) ∙ ap (λ (l : List ℕ). get_or l i 0) (drop_at p q n e)

session_back : (p : List ℕ) (s : Session) → length p ≡ 154 → SmallSession s → session_in (p ++ session_bytes s) ≡ s
session_back p s e h =
    let q = session_bytes s in
    let g : (i : ℕ) → get_or (p ++ q) (154 + i) 0 ≡ get_or q i 0 = λ (i : ℕ). behind p q 154 i e in
    (λ i. record {
      id = (sym (drop-drop 10 154 (p ++ q)) ∙ ap (drop 10) (drop_at p q 154 e)) i;
      len = ((λ j. g 0 j * 256 + g 1 j) ∙ two_back s.len h.len) i;
      count = ((λ j. ((g 2 j * 256 + g 3 j) * 65536 + (g 4 j * 256 + g 5 j)) * 4294967296 + ((g 6 j * 256 + g 7 j) * 65536 + (g 8 j * 256 + g 9 j))) ∙ eight_back s.count h.count) i;
    })

-- the exchange of an exchange's bytes is that exchange
pub decoded_encoded : (x : Exchange) → Short x.lens → SmallSession x.session → length x.k ≡ k_size → length x.h ≡ h_size → decoded (encoded x) ≡ x
unfolding decoded encoded
decoded_encoded x h z l m = λ i. record {
  stage = stage_back x.stage i;
  role = x.role;
  method = x.method;
  lens = record {
    vc = two_back x.lens.vc h.vc i;
    vs = two_back x.lens.vs h.vs i;
    ic = two_back x.lens.ic h.ic i;
    is = two_back x.lens.is h.is i;
    ks = two_back x.lens.ks h.ks i;
    c = two_back x.lens.c h.c i;
    s = two_back x.lens.s h.s i;
  };
  k = (ap (take k_size) (append_assoc x.k x.h (session_bytes x.session)) ∙ take_at x.k (x.h ++ session_bytes x.session) k_size l) i;
  h = (ap (take h_size) (ap (drop k_size) (append_assoc x.k x.h (session_bytes x.session)) ∙ drop_at x.k (x.h ++ session_bytes x.session) k_size l) ∙ take_at x.h (session_bytes x.session) h_size m) i;
  session = session_back (head_of x ++ x.k ++ x.h) x.session (length-append (head_of x ++ x.k) x.h ∙ omega (arith, length-append (head_of x) x.k, l, m)) z i;
}

-- and they fit
pub encoded_fits : (x : Exchange) → length x.k ≡ k_size → length x.h ≡ h_size → length x.session.id ≡ h_size → fits (encoded x) ≡ true
unfolding fits encoded
encoded_fits x l m n = rw (length-append (x.k ++ x.h) (session_bytes x.session), length-append x.k x.h, l, m, n) (stage_fits x.stage)

-- ---- what was loaded is stored again as the same bytes

-- marks that fit are those of their stage
stage_numbers : (s f : ℕ) → leb s 6 && (eqb s 6 || eqb f 0) ≡ true → (stage_number (stage_of s f) ≡ s) × (fail_number (stage_of s f) ≡ f)
unfolding stage_of
stage_numbers zero f h = (refl, sym (eqb-true f 0 h))
stage_numbers (suc zero) f h = (refl, sym (eqb-true f 0 h))
stage_numbers (suc (suc zero)) f h = (refl, sym (eqb-true f 0 h))
stage_numbers (suc (suc (suc zero))) f h = (refl, sym (eqb-true f 0 h))
stage_numbers (suc (suc (suc (suc zero)))) f h = (refl, sym (eqb-true f 0 h))
stage_numbers (suc (suc (suc (suc (suc zero))))) f h = (refl, sym (eqb-true f 0 h))
stage_numbers (suc (suc (suc (suc (suc (suc zero)))))) f h = (refl, refl)
stage_numbers (suc (suc (suc (suc (suc (suc (suc s))))))) f h =
    let n = suc (suc (suc (suc (suc (suc (suc s)))))) in
    absurd (false≢true (sym (ap (λ (t : Bool). t && (eqb n 6 || eqb f 0)) (lt-leb n 6 (omega arith))) ∙ h))

numbers_back : (m s f : ℕ) → marks_fit m s f ≡ true → (exchange_mark ≡ m) × (stage_number (stage_of s f) ≡ s) × (fail_number (stage_of s f) ≡ f)
unfolding marks_fit
numbers_back m s f h = by_mark (eqb m exchange_mark) refl h
  where
    by_mark : (t : Bool) → eqb m exchange_mark ≡ t → t && leb s 6 && (eqb s 6 || eqb f 0) ≡ true → (exchange_mark ≡ m) × (stage_number (stage_of s f) ≡ s) × (fail_number (stage_of s f) ≡ f)
    by_mark true e h = let n = stage_numbers s f h in (sym (eqb-true m exchange_mark e), n.0, n.1)
    by_mark false e h = absurd (false≢true h)

-- n bytes from i on, one by one
abbrev firsts : List ℕ → ℕ → ℕ → List ℕ
firsts b i zero = []
firsts b i (suc n) = get_or b i 0 ∷ firsts b (suc i) n

firsts_drop : (b : List ℕ) (i n : ℕ) → i + n ≤ length b → firsts b i n ++ drop (i + n) b ≡ drop i b
firsts_drop b i zero h = let e : i + 0 ≡ i = omega arith in ap (λ (k : ℕ). drop k b) e
firsts_drop b i (suc n) h =
    let l : i < length b = omega arith in
    let e : i + suc n ≡ suc i + n = omega arith in
    ap (λ (k : ℕ). get_or b i 0 ∷ firsts b (suc i) n ++ drop k b) e
    ∙ ap (λ (t : List ℕ). get_or b i 0 ∷ t) (firsts_drop b (suc i) n (omega arith))
    ∙ sym (drop-cons b i 0 l)

high_back : (a b : ℕ) → a < 256 → b < 256 → (a * 256 + b) / 256 % 256 ≡ a
high_back a b h k = omega arith

low_back : (a b : ℕ) → a < 256 → b < 256 → (a * 256 + b) % 256 ≡ b
low_back a b h k = omega arith

-- the two bytes of a number go by what is left of it
two_low : (u v : ℕ) → bytes16 (u * 65536 + v) ≡ bytes16 v
two_low u v =
    let a : (u * 65536 + v) / 256 % 256 ≡ v / 256 % 256 = omega arith in
    let b : (u * 65536 + v) % 256 ≡ v % 256 = omega arith in
    λ i. a i ∷ b i ∷ []

-- and so the eight of a count
eight_again : (m n o p : ℕ) → m < 65536 → n < 65536 → o < 65536 → p < 65536
    → bytes64 ((m * 65536 + n) * 4294967296 + (o * 65536 + p)) ≡ bytes16 m ++ bytes16 n ++ bytes16 o ++ bytes16 p
eight_again m n o p bm bn bo bp =
    let w = (m * 65536 + n) * 4294967296 + (o * 65536 + p) in
    let a : w / 281474976710656 ≡ m = omega arith in
    let b : w / 4294967296 ≡ m * 65536 + n = omega arith in
    let c : w / 65536 ≡ (m * 65536 + n) * 65536 + o = omega arith in
    let d : w ≡ ((m * 65536 + n) * 65536 + o) * 65536 + p = omega arith in
    (λ i. bytes16 (a i) ++ (ap bytes16 b ∙ two_low m n) i ++ (ap bytes16 c ∙ two_low (m * 65536 + n) o) i ++ (ap bytes16 d ∙ two_low ((m * 65536 + n) * 65536 + o) p) i)

two_again : (a b : ℕ) → a < 256 → b < 256 → bytes16 (a * 256 + b) ≡ a ∷ b ∷ []
two_again a b h k = λ i. high_back a b h k i ∷ low_back a b h k i ∷ []

-- a session's numbers that were loaded, and the identifier
session_again : (b : List ℕ) → Halves b 154 → CountBytes b 156 → session_bytes (session_in b) ≡ firsts b 154 10 ++ drop 164 b
session_again b y z =
    let g : ℕ → ℕ = λ (k : ℕ). get_or b k 0 in
    let e = eight_again (number16 b 156) (number16 b 158) (number16 b 160) (number16 b 162)
    (omega (arith, z.h0.0, z.h0.1)) (omega (arith, z.h1.0, z.h1.1)) (omega (arith, z.h2.0, z.h2.1)) (omega (arith, z.h3.0, z.h3.1)) in
    (λ i. two_again (g 154) (g 155) y.0 y.1 i ++ e i ++ drop 164 b)
    ∙ (λ i. g 154 ∷ g 155 ∷ (two_again (g 156) (g 157) z.h0.0 z.h0.1 i ++ two_again (g 158) (g 159) z.h1.0 z.h1.1 i
    ++ two_again (g 160) (g 161) z.h2.0 z.h2.1 i ++ two_again (g 162) (g 163) z.h3.0 z.h3.1 i) ++ drop 164 b)

pub session_stored : (b : List ℕ) → NumberBytes b → length b ≡ exchange_size → session_bytes (session_in b) ≡ drop 154 b
session_stored b u n = session_again b u.len u.count ∙ firsts_drop b 154 10 (omega arith)

-- bytes that fit are those of their exchange: where its numbers are bytes, as whoever read them knows
pub stored_again : (b : List ℕ) → NumberBytes b → fits b ≡ true → encoded (decoded b) ≡ b
unfolding encoded decoded
stored_again b u h =
    let y = u.lens in
    let g : ℕ → ℕ = λ (k : ℕ). get_or b k 0 in
    let f = fits_known b h in
    let n = f.0 in
    let m = numbers_back (g 0) (g 1) (g 2) f.1 in
    (λ i. m.0 i ∷ m.1 i ∷ m.2 i ∷ g 3 ∷ g 4
    ∷ high_back (g 5) (g 6) y.vc.0 y.vc.1 i ∷ low_back (g 5) (g 6) y.vc.0 y.vc.1 i
    ∷ high_back (g 7) (g 8) y.vs.0 y.vs.1 i ∷ low_back (g 7) (g 8) y.vs.0 y.vs.1 i
    ∷ high_back (g 9) (g 10) y.ic.0 y.ic.1 i ∷ low_back (g 9) (g 10) y.ic.0 y.ic.1 i
    ∷ high_back (g 11) (g 12) y.is.0 y.is.1 i ∷ low_back (g 11) (g 12) y.is.0 y.is.1 i
    ∷ high_back (g 13) (g 14) y.ks.0 y.ks.1 i ∷ low_back (g 13) (g 14) y.ks.0 y.ks.1 i
    ∷ high_back (g 15) (g 16) y.c.0 y.c.1 i ∷ low_back (g 15) (g 16) y.c.0 y.c.1 i
    ∷ high_back (g 17) (g 18) y.s.0 y.s.1 i ∷ low_back (g 17) (g 18) y.s.0 y.s.1 i
    ∷ parts n i)
    ∙ firsts_drop b 0 19 (omega arith)
  where
    parts : length b ≡ exchange_size → take k_size (drop 19 b) ++ take h_size (drop 90 b) ++ session_bytes (session_in b) ≡ drop 19 b
    parts n =
        (λ i. take k_size (drop 19 b) ++ take h_size (drop 90 b) ++ session_stored b u n i)
        ∙ append_assoc (take k_size (drop 19 b)) (take h_size (drop 90 b)) (drop 154 b)
        ∙ ap (λ (t : List ℕ). take k_size (drop 19 b) ++ t) ((λ i. take h_size (drop 90 b) ++ sym (drop-drop h_size 90 b) i) ∙ take-append-drop h_size (drop 90 b))
        ∙ (λ i. take k_size (drop 19 b) ++ sym (drop-drop k_size 19 b) i)
        ∙ take-append-drop k_size (drop 19 b)

pub number_bytes : (b : List ℕ) → Bytes b → NumberBytes b
number_bytes b y = record {
  lens = record { vc = (y 5, y 6); vs = (y 7, y 8); ic = (y 9, y 10); is = (y 11, y 12); ks = (y 13, y 14); c = (y 15, y 16); s = (y 17, y 18) };
  len = (y 154, y 155);
  count = record { h0 = (y 156, y 157); h1 = (y 158, y 159); h2 = (y 160, y 161); h3 = (y 162, y 163) };
}

-- bytes as a host lends them
pub encoded_decoded : (b : List ℕ) → Bytes b → fits b ≡ true → encoded (decoded b) ≡ b
encoded_decoded b y h = stored_again b (number_bytes b y) h

-- numbers that were loaded fit their bytes
pub decoded_short : (b : List ℕ) → NumberBytes b → Short (decoded b).lens
unfolding decoded
decoded_short b u =
    let y = u.lens in
    record {
      vc = omega (arith, y.vc.0, y.vc.1);
      vs = omega (arith, y.vs.0, y.vs.1);
      ic = omega (arith, y.ic.0, y.ic.1);
      is = omega (arith, y.is.0, y.is.1);
      ks = omega (arith, y.ks.0, y.ks.1);
      c = omega (arith, y.c.0, y.c.1);
      s = omega (arith, y.s.0, y.s.1);
    }

pub decoded_session : (b : List ℕ) → NumberBytes b → SmallSession (decoded b).session
unfolding decoded
decoded_session b u =
    let y = u.count in
    record {
      len = omega (arith, u.len.0, u.len.1);
      count = omega (arith, y.h0.0, y.h0.1, y.h1.0, y.h1.1, y.h2.0, y.h2.1, y.h3.0, y.h3.1);
    }

-- ---- bytes that no exchange has

pub unfit_size : (b : List ℕ) → ¬ (length b ≡ exchange_size) → fits b ≡ false
unfolding fits
unfit_size b h = rw (ne_eqb (length b) exchange_size h)

pub unfit_mark : (b : List ℕ) → ¬ (get_or b 0 0 ≡ exchange_mark) → fits b ≡ false
unfolding fits marks_fit
unfit_mark b h = rw (ne_eqb (get_or b 0 0) exchange_mark h) (and_false (eqb (length b) exchange_size))

pub unfit_stage : (b : List ℕ) → 6 < get_or b 1 0 → fits b ≡ false
unfolding fits marks_fit
unfit_stage b h =
    rw (lt-leb (get_or b 1 0) 6 h, and_false (eqb (get_or b 0 0) exchange_mark)) (and_false (eqb (length b) exchange_size))

no_fail : (a m l g z : Bool) → g ≡ false → z ≡ false → a && (m && l && (g || z)) ≡ false
no_fail false m l g z p q = refl
no_fail true false l g z p q = refl
no_fail true true false g z p q = refl
no_fail true true true g z p q = rw (p, q)

pub unfit_fail : (b : List ℕ) → get_or b 1 0 < 6 → ¬ (get_or b 2 0 ≡ 0) → fits b ≡ false
unfolding fits marks_fit
unfit_fail b h n =
    no_fail (eqb (length b) exchange_size) (eqb (get_or b 0 0) exchange_mark) (leb (get_or b 1 0) 6) (eqb (get_or b 1 0) 6) (eqb (get_or b 2 0) 0)
    (ne_eqb (get_or b 1 0) 6 (λ (e : get_or b 1 0 ≡ 6). omega arith))
    (ne_eqb (get_or b 2 0) 0 n)
