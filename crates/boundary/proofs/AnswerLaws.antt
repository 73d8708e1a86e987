-- What goes through lent numbers tells as much as the answer by value: a name's end, and a position. Assumes nothing.
use Prim.Native.Nat.{ℕ, ◌<◌}
use mathlib.Core.Path.{◌≡◌, refl, sym, ap, subst, ◌∙◌}
use mathlib.Core.List.{List, [], ◌∷◌, ◌++◌}
use mathlib.Core.Bool.{Bool, true, false, cond}
use native.Mathlib.Omega.{arith}
use lib.ListN.{length, get_or}
use lib.Seq.{get_or_at}
use lib.Dec.{ltb}
use borrow.Author.Tests.{lt-ltb}
use Rattle.limits.specs.Limits.{name_most}
use Rattle.limits.proofs.BoolLaws.{and_true}
use Rattle.limits.proofs.RangeLaws.{within_least}
use Rattle.buffers.specs.Bytes.{Bytes}
use Rattle.wire.specs.declared.Part.{Part}
use Rattle.names.specs.Names.{good_name}
use Rattle.names.specs.Cursor.{next_name}
use Rattle.names.specs.declared.Cursor.{Cursor}
use Rattle.names.proofs.CursorLaws.{found, stopped}
use Rattle.messages.specs.Position.{position, PositionTold}
use Rattle.messages.specs.Messages.{init_layout, reply_layout}
use Rattle.messages.proofs.CutLaws.{init_ordered, reply_ordered, position_told}
use Rattle.exchange.specs.Steps.{init, reply}
use Rattle.exchange.proofs.Positions.{init_broken, reply_broken}
use Rattle.stored.specs.Stored.{decoded, fits, by_fit}
use Rattle.lent.specs.Lent.{Left, left, lent_call, positioned}
use Rattle.lent.proofs.AsStep.{number_left, position_aside, init_size, reply_size, told_size_lem}
use Rattle.kexinit.specs.Reader.{kexinit_layout, open_list}
use Rattle.kexinit.proofs.ReaderLaws.{open_told}
use Rattle.boundary.specs.Answers.{opened_numbers}

good_some : (n : List ℕ) → good_name n ≡ true → 0 < length n
unfolding good_name
good_some n g = let l = within_least 1 name_most (length n) (and_true _ _ g).0 in omega arith

-- a cursor found a name exactly where the name's part has bytes: a host knows the list's end by that
pub found_told : (s : List ℕ) (c : Cursor) → (next_name s c).found ≡ ltb 0 (next_name s c).name.len
found_told s c = by_test (next_name s c).found refl
  where
    by_test : (t : Bool) → (next_name s c).found ≡ t → t ≡ ltb 0 (next_name s c).name.len
    by_test true e =
        let f = found s c (next_name s c) refl e in
        sym (lt-ltb 0 (next_name s c).name.len (omega (arith, ap (λ (p : Part). p.len) f.place, good_some f.name f.good)))
    by_test false e = ap (λ (p : Part). ltb 0 p.len) (sym (stopped s c (next_name s c) refl e).2)

-- ---- a position, where the host stands

module _ (b room p : List ℕ) (y : Bytes p) where
  -- 12 and 13 come from bytes that are an exchange's
  fitting : (x : ℕ) → 11 < by_fit b x 1 → x ≡ by_fit b x 1
  unfolding by_fit
  fitting x = by_fit_lem (fits b)
    where
      by_fit_lem : (t : Bool) → 11 < cond t x 1 → x ≡ cond t x 1
      by_fit_lem true h = refl
      by_fit_lem false h = let w : ⊥ = omega arith in absurd w

  -- the number behind the parts
  behind : (l told : List ℕ) (k at : ℕ) → length l ≡ k → told ≡ l ++ at ∷ [] → at ≡ get_or told k 0
  behind l told k at h e = sym (ap (λ (w : List ℕ). get_or w k 0) e ∙ get_or_at l at [] 0 k h)

  -- what castulfrisa_read_init and castulfrisa_read_reply tell as their last number, by their contracts
  module _ (n : ℕ) (told ex room' : List ℕ) where
    pub init_lent : left n told ex room' [] ≡ positioned (position n init_layout p) (lent_call b room (init p) []) → PositionTold init_layout p n (get_or told 2 0)
    init_lent c =
        let x = position_aside (lent_call b room (init p) []) _ c in
        let e = ap (λ (y : Left). y.number) c ∙ number_left b room (init p) [] in
        subst (PositionTold init_layout p n) (behind (lent_call b room (init p) []).told told 2 _ (told_size_lem b room (init p) [] (init_size (decoded b) room p)) x.1)
        (position_told init_layout init_ordered p y n (λ l h. init_broken n l h (decoded b) room p (fitting _ (omega (arith, e)) ∙ sym e)))

    pub reply_lent : left n told ex room' [] ≡ positioned (position n reply_layout p) (lent_call b room (reply p) []) → PositionTold reply_layout p n (get_or told 6 0)
    reply_lent c =
        let x = position_aside (lent_call b room (reply p) []) _ c in
        let e = ap (λ (y : Left). y.number) c ∙ number_left b room (reply p) [] in
        subst (PositionTold reply_layout p n) (behind (lent_call b room (reply p) []).told told 6 _ (told_size_lem b room (reply p) [] (reply_size (decoded b) room p)) x.1)
        (position_told reply_layout reply_ordered p y n (λ l h. reply_broken n l h (decoded b) room p (fitting _ (omega (arith, e)) ∙ sym e)))

-- and castulfrisa_open_list
pub opened_lent : (p : List ℕ) (n : ℕ) → Bytes p → PositionTold kexinit_layout p (open_list p n).head.number (get_or (opened_numbers (open_list p n)) 6 0)
opened_lent p n y = open_told p n y
