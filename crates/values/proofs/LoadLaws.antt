-- What is loaded, and what is laid over the whole of the bytes. Assumes nothing.
use Prim.Native.Nat.{ℕ, ◌+◌}
use mathlib.Core.Path.{◌≡◌, refl, sym, ap, ◌∙◌}
use mathlib.Core.List.{List, [], ◌++◌, append_assoc}
use mathlib.Core.Bool.{Bool, true, false}
use native.Mathlib.Omega.{arith}
use lib.ListN.{length, get_or, take, drop, length-append, length-drop, length-take}
use lib.Dec.{eqb}
use borrow.Author.Tests.{eqb-true, eqb-false}
use Rattle.limits.specs.Limits.{k_size, h_size, exchange_size}
use Rattle.buffers.specs.Bytes.{zeros, laid}
use Rattle.buffers.proofs.ByteLaws.{laid_nil, laid_whole, laid_laid}
use Rattle.exchange.specs.Record.{no_lengths, no_session}
use Rattle.exchange.specs.declared.Stage.{Stage}
use Rattle.exchange.specs.declared.Stage.TheVariants.{Started}
use Rattle.exchange.specs.declared.Lengths.{Lengths}
use Rattle.exchange.specs.declared.Session.{Session}
use Rattle.exchange.specs.declared.Exchange.{Exchange}
use Rattle.stored.specs.Stored.{number16, number64, lengths_in, session_in, decoded, blank, by_size, lengths_told, k_kept, h_kept, id_len_told, count_told, id_kept}
use Rattle.stored.proofs.StoredLaws.{size_taken, size_left}

-- ---- laid over the whole

pub laid_five : (l a b c d e : List ℕ) (n m o p : ℕ) → length a ≡ n → n + length b ≡ m → m + length c ≡ o → o + length d ≡ p → p + length e ≡ length l
    → laid (laid (laid (laid (laid l 0 a) n b) m c) o d) p e ≡ a ++ b ++ c ++ (d ++ e)
laid_five l a b c d e n m o p f g h i j =
    let k1 = length-append a b in
    let k2 = length-append (a ++ b) c in
    let k3 = length-append (a ++ b ++ c) d in
    let k4 = length-append (a ++ b ++ c ++ d) e in
    let z : 0 + length a ≡ n = omega arith in
    let y : 0 + length (a ++ b) ≡ m = omega arith in
    let x : 0 + length (a ++ b ++ c) ≡ o = omega arith in
    let w : 0 + length (a ++ b ++ c ++ d) ≡ p = omega arith in
    let t1 : laid (laid l 0 a) n b ≡ laid l 0 (a ++ b) = ap (λ (q : ℕ). laid (laid l 0 a) q b) (sym z) ∙ laid_laid l 0 a b (omega arith) in
    let t2 : laid (laid (laid l 0 a) n b) m c ≡ laid l 0 (a ++ b ++ c) = (λ i. laid (t1 i) (sym y i) c) ∙ laid_laid l 0 (a ++ b) c (omega arith) in
    let t3 : laid (laid (laid (laid l 0 a) n b) m c) o d ≡ laid l 0 (a ++ b ++ c ++ d) = (λ i. laid (t2 i) (sym x i) d) ∙ laid_laid l 0 (a ++ b ++ c) d (omega arith) in
    (λ i. laid (t3 i) (sym w i) e)
    ∙ laid_laid l 0 (a ++ b ++ c ++ d) e (omega arith)
    ∙ laid_whole l (a ++ b ++ c ++ d ++ e) (omega arith)
    ∙ append_assoc (a ++ b ++ c) d e

-- ---- load

pub loaded_session : (b id : List ℕ) (n m : ℕ) → id ≡ laid (zeros h_size) 0 (id_kept b) → n ≡ id_len_told b → m ≡ count_told b
    → ◌≡◌ {A = Session} (record { id = id; len = n; count = m }) (by_size b (session_in b) no_session)
loaded_session b id n m e f g = by_size_lem (eqb (length b) exchange_size) refl
  where
    by_size_lem : (t : Bool) → eqb (length b) exchange_size ≡ t → ◌≡◌ {A = Session} (record { id = id; len = n; count = m }) (by_size b (session_in b) no_session)
    by_size_lem true w =
        let s = eqb-true (length b) exchange_size w in
        let o = e ∙ ap (laid (zeros h_size) 0) (sym (size_taken b [] (drop 164 b) s)) ∙ laid_whole (zeros h_size) (drop 164 b) (omega (arith, length-drop 164 b)) in
        (λ i. record { id = o i; len = (f ∙ sym (size_taken b 0 (number16 b 154) s)) i; count = (g ∙ sym (size_taken b 0 (number64 b 156) s)) i })
        ∙ size_taken b no_session (session_in b) s
    by_size_lem false w =
        let s = eqb-false (length b) exchange_size w in
        let o = e ∙ ap (laid (zeros h_size) 0) (sym (size_left b [] (drop 164 b) s)) ∙ laid_nil (zeros h_size) 0 in
        (λ i. record { id = o i; len = (f ∙ sym (size_left b 0 (number16 b 154) s)) i; count = (g ∙ sym (size_left b 0 (number64 b 156) s)) i })
        ∙ size_left b no_session (session_in b) s

module _ (b k h : List ℕ) (l : Lengths) (v : Session) (e : l ≡ lengths_told b) (d : k ≡ laid (zeros k_size) 0 (k_kept b)) (f : h ≡ laid (zeros h_size) 0 (h_kept b)) (u : v ≡ by_size b (session_in b) no_session) where
  pub loaded_blank : ¬ (length b ≡ exchange_size) → ◌≡◌ {A = Exchange} (record { stage = Started; role = 0; method = 0; lens = l; k = k; h = h; session = v }) (by_size b (decoded b) blank)
  loaded_blank n =
      let m = d ∙ ap (laid (zeros k_size) 0) (sym (size_left b [] (take k_size (drop 19 b)) n)) ∙ laid_nil (zeros k_size) 0 in
      let o = f ∙ ap (laid (zeros h_size) 0) (sym (size_left b [] (take h_size (drop 90 b)) n)) ∙ laid_nil (zeros h_size) 0 in
      (λ i. record { stage = Started; role = 0; method = 0; lens = (e ∙ sym (size_left b no_lengths (lengths_in b) n)) i; k = m i; h = o i; session = (u ∙ sym (size_left b no_session (session_in b) n)) i })
      ∙ size_left b blank (decoded b) n

  pub loaded_whole : (s : Stage) → length b ≡ exchange_size → s ≡ (decoded b).stage
      → ◌≡◌ {A = Exchange} (record { stage = s; role = get_or b 3 0; method = get_or b 4 0; lens = l; k = k; h = h; session = v }) (by_size b (decoded b) blank)
  unfolding decoded
  loaded_whole s n g =
      let m = d ∙ ap (laid (zeros k_size) 0) (sym (size_taken b [] (take k_size (drop 19 b)) n)) ∙ laid_whole (zeros k_size) (take k_size (drop 19 b)) (omega (arith, length-take k_size (drop 19 b), length-drop 19 b)) in
      let o = f ∙ ap (laid (zeros h_size) 0) (sym (size_taken b [] (take h_size (drop 90 b)) n)) ∙ laid_whole (zeros h_size) (take h_size (drop 90 b)) (omega (arith, length-take h_size (drop 90 b), length-drop 90 b)) in
      (λ i. record { stage = g i; role = get_or b 3 0; method = get_or b 4 0; lens = (e ∙ sym (size_taken b no_lengths (lengths_in b) n)) i; k = m i; h = o i; session = (u ∙ sym (size_taken b no_session (session_in b) n)) i })
      ∙ size_taken b blank (decoded b) n
