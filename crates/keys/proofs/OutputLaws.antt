-- What deriving leaves in its output: fewer bytes are a beginning of what more give, and behind the key all is as it was. And an exchange that follows the book
-- derives the book's keys. Assumes nothing.
use Prim.Native.Nat.{ℕ, ◌≤◌}
use mathlib.Core.Path.{◌≡◌, refl, sym, ap, ◌∙◌}
use mathlib.Core.List.{List, []}
use mathlib.Core.Bool.{Bool, true, false, ◌&&◌}
use native.Mathlib.Omega.{arith}
use lib.ListN.{length, take, drop}
use lib.Seq.{take_at, drop_at, take-take}
use lib.Dec.{ltb}
use borrow.Author.Tests.{le-ltb}
use Rattle.limits.specs.Limits.{key_most, letter_first, letter_last}
use Rattle.limits.specs.Range.{within}
use Rattle.limits.proofs.BoolLaws.{and_true}
use Rattle.limits.proofs.RangeLaws.{within_is, within_most}
use Rattle.buffers.specs.Bytes.{onto}
use Rattle.sha_words.specs.Constants.{known}
use Rattle.wire.proofs.CauseLaws.{if_fails, unless_none, unless_holds, unless_fails}
use Rattle.methods.specs.Rows.{row_of}
use Rattle.exchange.specs.Record.{is_complete, completed}
use Rattle.exchange.specs.Steps.{output_after}
use Rattle.exchange.specs.Book.{Book, has_all, finished}
use Rattle.exchange.specs.declared.Exchange.{Exchange}
use Rattle.exchange.proofs.CauseFacts.{method_row}
use Rattle.exchange.proofs.DueLaws.{completed_known}
use Rattle.exchange.proofs.StepLaws.{output_refused, output_accepted}
use Rattle.exchange.proofs.Simulation.{Sim, complete_sim}
use Rattle.exchange.proofs.HandedLaws.{complete_ready}
use Rattle.due.proofs.FitLaws.{completed_not}
use Rattle.keys.specs.Keys.{key_of}
use Rattle.keys.specs.Derived.{derive_fed, derive_cause, key_in}
use Rattle.keys.specs.KeysTold.{digest_told, id_told, key_told, cause_told}
use Rattle.keys.proofs.KeyLaws.{length_key_of, key_beginning}

-- ---- key_in

module _ (e : Exchange) (c : completed e ≡ true) where
  kind : known (row_of e.method).digest_len ≡ true
  kind = (method_row e.method (completed_known e c).1.method_ok_is).digest_kind

  pub length_key_in : (letter len : ℕ) → length (key_in e letter len) ≡ len
  unfolding key_in
  length_key_in letter len = length_key_of _ _ _ _ _ kind len

  -- for every letter and both lengths
  pub key_in_beginning : (letter n m : ℕ) → n ≤ m → take n (key_in e letter m) ≡ key_in e letter n
  unfolding key_in
  key_in_beginning letter n m h = key_beginning _ _ _ _ _ kind n m h

-- ---- the output

module _ (e : Exchange) (letter : ℕ) where
  -- an accepted call found a complete exchange
  accepted : (len out : ℕ) → derive_cause e letter len out ≡ 0 → completed e ≡ true
  unfolding derive_cause
  accepted len out z = (unless_none (completed e) 1 _ (omega arith) z).0

  module _ (len : ℕ) (out : List ℕ) (z : derive_cause e letter len (length out) ≡ 0) where
    -- it begins with the key
    pub output_key : take len (output_after (derive_cause e letter len (length out)) out (key_in e letter len)) ≡ key_in e letter len
    unfolding onto
    output_key =
        ap (take len) (sym (output_accepted _ out (key_in e letter len) z))
        ∙ take_at (key_in e letter len) (drop (length (key_in e letter len)) out) len (length_key_in e (accepted len (length out) z) letter len)

    -- and behind it is as it was
    pub output_rest : drop len (output_after (derive_cause e letter len (length out)) out (key_in e letter len)) ≡ drop len out
    unfolding onto
    output_rest =
        let l = length_key_in e (accepted len (length out) z) letter len in
        ap (drop len) (sym (output_accepted _ out (key_in e letter len) z))
        ∙ drop_at (key_in e letter len) (drop (length (key_in e letter len)) out) len l
        ∙ ap (λ (n : ℕ). drop n out) l

  -- fewer bytes are a beginning of what more give: of what was written for m bytes the first n are what is written for n
  pub output_beginning : (n m : ℕ) (out out' : List ℕ) → n ≤ m → derive_cause e letter n (length out) ≡ 0 → derive_cause e letter m (length out') ≡ 0
      → take n (output_after (derive_cause e letter m (length out')) out' (key_in e letter m))
      ≡ take n (output_after (derive_cause e letter n (length out)) out (key_in e letter n))
  output_beginning n m out out' h y z =
      sym (take-take n m _ h) ∙ ap (take n) (output_key m out' z) ∙ key_in_beginning e (accepted n (length out) y) letter n m h ∙ sym (output_key n out y)

  -- and where more are given, fewer are, to an output that has room for them
  pub fewer_accepted : (n m out out' : ℕ) → 1 ≤ n → n ≤ m → n ≤ out → derive_cause e letter m out' ≡ 0 → derive_cause e letter n out ≡ 0
  unfolding derive_cause
  fewer_accepted n m out out' l h k z =
      let c = unless_none (completed e) 1 _ (omega arith) z in
      let a = unless_none (within letter_first letter_last letter && within 1 key_most m) 4 _ (omega arith) c.1 in
      let b = and_true (within letter_first letter_last letter) (within 1 key_most m) a.0 in
      let w = within_is 1 key_most n l (omega (arith, within_most 1 key_most m b.1)) in
      unless_holds (completed e) 1 _ c.0
      ∙ unless_holds (within letter_first letter_last letter && within 1 key_most n) 4 _ (λ i. b.0 i && w i)
      ∙ if_fails (ltb out n) 5 0 (le-ltb out n k)

-- ---- by the book

module _ (room : List ℕ) (b : Book) (e : Exchange) (room' : List ℕ) (s : Sim room b e room') (letter len : ℕ) (out : List ℕ) where
  -- number and output
  pub derived_told : (derive_cause e letter len (length out) ≡ cause_told b letter len (length out))
      × (output_after (derive_cause e letter len (length out)) out (key_in e letter len) ≡ output_after (cause_told b letter len (length out)) out (key_told b letter len))
  unfolding derive_cause key_in
  derived_told = by_stage (is_complete e.stage) refl
    where
      by_stage : (t : Bool) → is_complete e.stage ≡ t → (derive_cause e letter len (length out) ≡ cause_told b letter len (length out))
          × (output_after (derive_cause e letter len (length out)) out (key_in e letter len) ≡ output_after (cause_told b letter len (length out)) out (key_told b letter len))
      by_stage true w =
          let r = complete_ready room b e room' s w in
          let a = sym (complete_sim room b e room' s) ∙ w in
          let n = unless_holds (completed e) 1 (derive_fed letter len (length out)) r.fits ∙ sym (unless_holds (has_all b) 1 (derive_fed letter len (length out)) a) in
          let d = ap (λ (m : ℕ). (row_of m).digest_len) r.method_is in
          let h = ap (λ (k : ℕ). take k e.h) d ∙ r.h_in in
          (n, (λ i. output_after (n i) out (key_of (d i) (r.k_in_is i) (h i) letter (r.id_in i) len)))
      by_stage false w =
          let n = unless_fails (completed e) 1 (derive_fed letter len (length out)) (sym (completed_not e w)) in
          let m = unless_fails (has_all b) 1 (derive_fed letter len (length out)) (sym (complete_sim room b e room' s) ∙ w) in (
            n ∙ sym m,
            sym (output_refused _ out (key_in e letter len) (λ z. let v : ⊥ = omega (arith, n, z) in v))
                ∙ output_refused _ out (key_told b letter len) (λ z. let v : ⊥ = omega (arith, m, z) in v),
          )

-- a first exchange's identifier is its own H
pub first_identifier : (b : Book) → b.past ≡ [] → has_all b ≡ true → id_told b ≡ digest_told b
unfolding finished
first_identifier b p h = rw (h, p)
