-- What a step changes in an exchange's bytes makes them the bytes of the changed exchange. Assumes nothing.
use Prim.Native.Nat.{ℕ, ◌+◌, ◌-◌, ◌≤◌}
use mathlib.Core.Path.{◌≡◌, refl, sym, ap, ◌∙◌}
use mathlib.Core.List.{List, [], ◌∷◌, ◌++◌, append_assoc, append-nil}
use mathlib.Core.Bool.{Bool, true, false, cond, false≢true}
use native.Mathlib.Omega.{arith}
use lib.ListN.{length, set, get_or, take, drop, length-append}
use lib.Dec.{eqb}
use lib.Seq.{drop-drop, take_at, drop_at}
use borrow.Author.Tests.{eqb-true, eq-eqb}
use Rattle.limits.specs.Limits.{k_size, h_size, exchange_size}
use Rattle.buffers.specs.Bytes.{zeros, over, laid}
use Rattle.buffers.proofs.ByteLaws.{over_two, laid_fits}
use Rattle.methods.specs.Rows.{row_of}
use Rattle.exchange.specs.Steps.{with_c, with_s, with_stage, with_secret, one_more, with_last}
use Rattle.exchange.specs.declared.Stage.{Stage}
use Rattle.exchange.specs.declared.Stage.TheVariants.{SecretDone, Complete}
use Rattle.exchange.specs.declared.Lengths.{Lengths}
use Rattle.exchange.specs.declared.Session.{Session}
use Rattle.exchange.specs.declared.Exchange.{Exchange}
use Rattle.stored.specs.Stored.{stage_number, fail_number, bytes16, bytes64, number64, head_of, session_bytes, encoded, decoded, by_size}
use Rattle.stored.proofs.RoundTrip.{Short, SmallSession, decoded_encoded}
use Rattle.changes.specs.Changes.{put16, put_count, put_more, put_head}

module _ (e : Exchange) (s : Stage) (f : fail_number e.stage ≡ fail_number s) where
  -- the stage alone
  pub stage_put : set (encoded e) 1 (stage_number s) ≡ encoded (with_stage e s e.lens)
  unfolding encoded
  stage_put = rw f

  -- with C's length
  pub c_put : (n : ℕ) → put16 (set (encoded e) 1 (stage_number s)) 15 n ≡ encoded (with_stage e s (with_c e.lens n))
  unfolding encoded over
  c_put n = rw f

  -- with the lengths of K_S and S
  pub s_put : (m n : ℕ) → put16 (put16 (set (encoded e) 1 (stage_number s)) 13 m) 17 n ≡ encoded (with_stage e s (with_s e.lens m n))
  unfolding encoded over
  s_put m n = rw f

-- all that stands ahead of the length of K_S, where the rest ahead of the session is zeros
pub head_put : (s : Stage) (role m vc vs ic is : ℕ) (t : Session) → put_head (zeros 154 ++ session_bytes t) (stage_number s) (fail_number s) role m vc vs ic is
    ≡ encoded (record { stage = s; role = role; method = m; lens = record { vc = vc; vs = vs; ic = ic; is = is; ks = 0; c = 0; s = 0 }; k = zeros k_size; h = zeros h_size; session = t })
unfolding encoded over
head_put s role m vc vs ic is t = refl

-- ---- K and H

over_middle : (h a t k : List ℕ) → length a ≡ length k → over (h ++ a ++ t) (length h) k ≡ h ++ k ++ t
unfolding over
over_middle h a t k e =
    let p = ap (take (length h)) (append_assoc h a t) ∙ take_at h (a ++ t) (length h) refl in
    let q = drop_at (h ++ a) t (length h + length k) (omega (arith, length-append h a)) in
    λ i. p i ++ k ++ q i

-- K's record behind the 19 bytes ahead of it
pub k_put : (e : Exchange) (k : List ℕ) → fail_number e.stage ≡ 0 → length e.k ≡ k_size → length k ≡ k_size
    → laid (set (encoded e) 1 (stage_number SecretDone)) 19 k ≡ encoded (with_secret e e.lens k e.h)
unfolding encoded
k_put e k f l m =
    let x = with_stage e SecretDone e.lens in
    ap (λ (b : List ℕ). laid b 19 k) (stage_put e SecretDone f)
    ∙ laid_fits (head_of x ++ e.k ++ e.h ++ session_bytes e.session) 19 k (omega (arith, length-append (head_of x ++ e.k ++ e.h) (session_bytes e.session), length-append (head_of x ++ e.k) e.h, length-append (head_of x) e.k))
    ∙ (λ i. over (append_assoc (head_of x ++ e.k) e.h (session_bytes e.session) i) 19 k)
    ∙ over_middle (head_of x) e.k (e.h ++ session_bytes e.session) k (l ∙ sym m)
    ∙ sym (append_assoc (head_of x ++ k) e.h (session_bytes e.session))

-- and H behind that
pub h_put : (e : Exchange) (l : Lengths) (k h h' : List ℕ) → length k ≡ k_size → length h ≡ length h'
    → laid (encoded (with_secret e l k h)) 90 h' ≡ encoded (with_secret e l k h')
unfolding encoded
h_put e l k h h' m n =
    let x = with_secret e l k h in
    let a = length-append (head_of x) k in
    let z : length (head_of x ++ k) ≡ 90 = omega arith in
    laid_fits (head_of x ++ k ++ h ++ session_bytes e.session) 90 h' (omega (arith, length-append (head_of x ++ k ++ h) (session_bytes e.session), length-append (head_of x ++ k) h))
    ∙ (λ i. over (head_of x ++ k ++ h ++ session_bytes e.session) (sym z i) h')
    ∙ over_middle (head_of x ++ k) h (session_bytes e.session) h' n

-- ---- the session

-- p has the bytes ahead of the session, and x the session's first i
session_laid : (p x y z y' : List ℕ) (n : ℕ) → length (p ++ x) ≡ n → length y ≡ length y' → over (p ++ (x ++ (y ++ z))) n y' ≡ p ++ (x ++ (y' ++ z))
session_laid p x y z y' n e l =
    (λ i. over (joined y i) (sym e i) y')
    ∙ over_middle (p ++ x) y z y' l
    ∙ sym (joined y')
  where
    joined : (w : List ℕ) → p ++ (x ++ (w ++ z)) ≡ (p ++ x) ++ w ++ z
    joined w = sym (append_assoc p x (w ++ z)) ∙ sym (append_assoc (p ++ x) w z)

module _ (e : Exchange) (l : length e.k ≡ k_size) (m : length e.h ≡ h_size) (n : length e.session.id ≡ h_size) where
  -- all ahead of the session
  ahead : List ℕ
  ahead = head_of e ++ e.k ++ e.h

  length_ahead : length ahead ≡ 154
  unfolding ahead
  length_ahead = length-append (head_of e ++ e.k) e.h ∙ omega (arith, length-append (head_of e) e.k)

  -- an exchange with another session
  abbrev with-session : Session → Exchange
  with-session t = record { stage = e.stage; role = e.role; method = e.method; lens = e.lens; k = e.k; h = e.h; session = t }

  count_put : (id : List ℕ) (len c c' : ℕ) → put_count (encoded (with-session (record { id = id; len = len; count = c }))) c' ≡ encoded (with-session (record { id = id; len = len; count = c' }))
  unfolding encoded ahead
  count_put id len c c' = session_laid (head_of e ++ e.k ++ e.h) (bytes16 len) (bytes64 c) id (bytes64 c') 156 (length-append (head_of e ++ e.k ++ e.h) (bytes16 len) ∙ ap (λ (i : ℕ). i + 2) length_ahead) refl

  id_put : (h : List ℕ) (len : ℕ) → length h ≡ h_size → put16 (over (encoded e) 164 h) 154 len ≡ encoded (with-session (record { id = h; len = len; count = e.session.count }))
  unfolding encoded ahead
  id_put h len k =
      let t = e.session in
      let p = head_of e ++ e.k ++ e.h in
      let x = bytes16 t.len ++ bytes64 t.count in
      ap (λ (b : List ℕ). put16 b 154 len)
      ((λ i. over (p ++ (x ++ sym (append-nil t.id) i)) 164 h)
      ∙ session_laid p x t.id [] h 164 (length-append p x ∙ ap (λ (i : ℕ). i + 10) length_ahead) (n ∙ sym k)
      ∙ (λ i. p ++ (x ++ append-nil h i)))
      ∙ session_laid p [] (bytes16 t.len) (bytes64 t.count ++ h) (bytes16 len) 154 (ap length (append-nil p) ∙ length_ahead) refl

  -- one more exchange completed
  module _ (a : Short e.lens) (b : SmallSession e.session) where
    stored_count : number64 (encoded e) 156 ≡ e.session.count
    unfolding decoded
    stored_count = ap (λ (x : Exchange). x.session.count) (decoded_encoded e a b l m)

    stored_h : take h_size (drop 90 (encoded e)) ≡ e.h
    unfolding decoded
    stored_h = ap (λ (x : Exchange). x.h) (decoded_encoded e a b l m)

    more_put : put_more (encoded e) ≡ encoded (with-session (one_more e.method e.h e.session))
    unfolding one_more encoded
    more_put =
        let d = (row_of e.method).digest_len in
        (λ i. put_count (cond (eqb (stored_count i) 0) (put16 (over (encoded e) 164 (stored_h i)) 154 d) (encoded e)) (stored_count i + 1))
        ∙ by_count (eqb e.session.count 0)
      where
        by_count : (t : Bool) → put_count (cond t (put16 (over (encoded e) 164 e.h) 154 (row_of e.method).digest_len) (encoded e)) (e.session.count + 1)
            ≡ encoded (with-session (record { id = cond t e.h e.session.id; len = cond t (row_of e.method).digest_len e.session.len; count = e.session.count + 1 }))
        by_count true = ap (λ (x : List ℕ). put_count x (e.session.count + 1)) (id_put e.h (row_of e.method).digest_len m) ∙ count_put e.h (row_of e.method).digest_len e.session.count (e.session.count + 1)
        by_count false = count_put e.session.id e.session.len e.session.count (e.session.count + 1)

    -- and the stage
    pub last_put : fail_number e.stage ≡ 0 → set (put_more (encoded e)) 1 5 ≡ encoded (with_last e)
    last_put f = ap (λ (x : List ℕ). set x 1 5) more_put ∙ stage_put (with-session (one_more e.method e.h e.session)) Complete f

-- ---- a length's two bytes, put one by one
pub two_put : (b : List ℕ) (at n : ℕ) (bs : List ℕ) → at + 2 ≤ length b → bs ≡ bytes16 n → set (set b at (get_or bs 0 0)) (at + 1) (get_or bs 1 0) ≡ put16 b at n
two_put b at n bs h e = over_two b at (get_or bs 0 0) (get_or bs 1 0) h ∙ (λ i. over b at (get_or (e i) 0 0 ∷ get_or (e i) 1 0 ∷ []))

-- ---- what stands in the place of k bytes
pub part_put : (b z y : List ℕ) (at k : ℕ) → z ≡ y → length y ≡ k → take at b ++ (z ++ drop (at + k - at) (drop at b)) ≡ over b at y
unfolding over
part_put b z y at k e l =
    let h : at + k - at ≡ length y = omega (arith, l) in
    (λ i. take at b ++ (e i ++ drop (h i) (drop at b))) ∙ (λ i. take at b ++ (y ++ drop-drop (length y) at b i)) ∙ sym (append_assoc (take at b) y (drop (at + length y) b))

-- ---- what is changed where the bytes are as many as an exchange has, and else stays
pub changed : (b new x : List ℕ) → (length b ≡ exchange_size → new ≡ x) → (¬ (length b ≡ exchange_size) → new ≡ b) → new ≡ by_size b x b
unfolding by_size
changed b new x h k = go (eqb (length b) exchange_size) refl
  where
    go : (t : Bool) → eqb (length b) exchange_size ≡ t → new ≡ cond t x b
    go true e = h (eqb-true (length b) exchange_size e)
    go false e = k (λ z. absurd (false≢true (sym e ∙ eq-eqb (length b) exchange_size z)))
