-- A part and a session as they are told: a law for each return. Assumes nothing.
use Prim.Native.Nat.{ℕ}
use mathlib.Core.Path.{◌≡◌, refl, sym, ap, ◌∙◌}
use mathlib.Core.List.{List, [], ◌∷◌}
use mathlib.Core.Bool.{Bool, true, false, cond, ◌&&◌}
use native.Mathlib.Omega.{arith}
use lib.ListN.{drop, length-drop}
use lib.Dec.{eqb}
use borrow.Author.Tests.{eqb-true, eqb-false}
use Rattle.limits.specs.Limits.{h_size}
use Rattle.buffers.specs.Bytes.{zeros, laid}
use Rattle.buffers.proofs.ByteLaws.{laid_whole}
use Rattle.wire.specs.declared.Part.{Part}
use Rattle.wire.specs.Parts.{nothing}
use Rattle.messages.specs.Messages.{field_part}
use Rattle.exchange.specs.Record.{id_fits}
use Rattle.exchange.specs.Steps.{Call, number, step_part}
use Rattle.exchange.proofs.KindLaws.{kind_same, kind_accepted}
use Rattle.stored.specs.Stored.{fits, decoded, by_fit, id_kept}
use Rattle.stored.proofs.StoredLaws.{size_taken, fits_known, fit_taken}
use Rattle.lent.specs.Lent.{place_of, session_known}
use Rattle.lent.proofs.LentLaws.{accepted_known}

module _ (b room : List ℕ) (q : Call) (p : List ℕ) (i n : ℕ) (e : n ≡ by_fit b (number (decoded b) room q) 1) where
  -- refused: no place
  no_place : ¬ (n ≡ 0) → zeros 2 ≡ by_fit b (place_of (step_part (decoded b) room q p i)) (zeros 2)
  unfolding by_fit step_part
  no_place h = by_fit_lem (fits b) e
    where
      by_fit_lem : (t : Bool) → n ≡ cond t (number (decoded b) room q) 1 → zeros 2 ≡ cond t (place_of (step_part (decoded b) room q p i)) (zeros 2)
      by_fit_lem true k = sym (ap place_of (kind_same (number (decoded b) room q) (field_part p i) nothing (λ z. h (k ∙ z))))
      by_fit_lem false k = refl

  -- accepted: the string's
  place_told : n ≡ 0 → (x : Part) → x ≡ field_part p i → x.start ∷ x.len ∷ [] ≡ by_fit b (place_of (step_part (decoded b) room q p i)) (zeros 2)
  unfolding step_part
  place_told z x h =
      let k = accepted_known b room q [] n e z in
      let s : x ≡ step_part (decoded b) room q p i = h ∙ rw (kind_accepted (number (decoded b) room q) k.1) in
      ap place_of s ∙ fit_taken b (place_of (step_part (decoded b) room q p i)) (zeros 2) k.0

  -- either, by the number
  pub part_told : (x : List ℕ) → x ≡ cond (eqb n 0) (place_of (field_part p i)) (zeros 2) → x ≡ by_fit b (place_of (step_part (decoded b) room q p i)) (zeros 2)
  part_told x h = by_test (eqb n 0) refl
    where
      by_test : (t : Bool) → eqb n 0 ≡ t → x ≡ by_fit b (place_of (step_part (decoded b) room q p i)) (zeros 2)
      by_test true w = h ∙ rw w (place_told (eqb-true n 0 w) (field_part p i) refl)
      by_test false w = h ∙ rw w (no_place (eqb-false n 0 w))

-- ---- the session

module _ (b : List ℕ) where
  pub session_none : (fits b && id_fits (decoded b).session.len (decoded b).session.count) ≡ false
      → (◌≡◌ {A = ℕ} 1 (cond (session_known b) 0 1)) × (zeros 2 ≡ cond (session_known b) ((decoded b).session.len ∷ (decoded b).session.count ∷ []) (zeros 2)) × (zeros h_size ≡ cond (session_known b) (decoded b).session.id (zeros h_size))
  unfolding session_known
  session_none h = (rw h, rw h, rw h)

  -- as it is read
  pub session_some : fits b ≡ true → (fits b && id_fits (decoded b).session.len (decoded b).session.count) ≡ true
      → (len count : ℕ) (id : List ℕ) → len ≡ (decoded b).session.len → count ≡ (decoded b).session.count → id ≡ laid (zeros h_size) 0 (id_kept b)
      → (◌≡◌ {A = ℕ} 0 (cond (session_known b) 0 1)) × (len ∷ count ∷ [] ≡ cond (session_known b) ((decoded b).session.len ∷ (decoded b).session.count ∷ []) (zeros 2)) × (id ≡ cond (session_known b) (decoded b).session.id (zeros h_size))
  unfolding session_known decoded
  session_some f h len count id x y z =
      let s = (fits_known b f).0 in
      let o = z ∙ ap (laid (zeros h_size) 0) (sym (size_taken b [] (drop 164 b) s)) ∙ laid_whole (zeros h_size) (drop 164 b) (omega (arith, length-drop 164 b)) in
      (rw h, rw h (λ i. x i ∷ y i ∷ []), rw h o)
