-- What the start lays into the room, and what it answers. Assumes nothing.
use Prim.Native.Nat.{ℕ, ◌+◌}
use mathlib.Core.Path.{◌≡◌, refl, sym, ap, ◌∙◌}
use mathlib.Core.List.{List, ◌++◌}
use native.Mathlib.Omega.{arith}
use lib.ListN.{length, drop}
use borrow.Author.Tests.{eq-eqb, ne_eqb}
use Rattle.limits.specs.Limits.{version_most, kexinit_most, k_size, h_size, exchange_size}
use Rattle.limits.proofs.RangeLaws.{within_least, within_most}
use Rattle.buffers.specs.Bytes.{zeros, onto, laid}
use Rattle.wire.proofs.StringLaws.{length_string}
use Rattle.transcript.specs.Fields.{field}
use Rattle.transcript.proofs.RoomLaws.{field_some}
use Rattle.exchange.specs.Causes.{start_cause}
use Rattle.exchange.specs.Record.{no_session, ended}
use Rattle.exchange.specs.Steps.{lengths_of, started, started_room, HeadFits}
use Rattle.exchange.specs.declared.Stage.{Stage}
use Rattle.exchange.specs.declared.Stage.TheVariants.{Started}
use Rattle.exchange.specs.declared.Exchange.{Exchange}
use Rattle.exchange.specs.declared.Step.{Step}
use Rattle.exchange.proofs.CauseFacts.{start_known}
use Rattle.stored.specs.Stored.{stage_number, fail_number, encoded, by_size}
use Rattle.stored.proofs.StoredLaws.{size_taken}
use Rattle.changes.specs.Changes.{put_head}
use Rattle.changes.proofs.ChangeLaws.{head_put}
use Rattle.lent.proofs.LaidLaws.{then_laid, begun_onto, begun_laid}

-- ---- the room's beginning

-- both V and both I
pub head_laid : (room vc vs ic is : List ℕ) → HeadFits room vc vs ic is → (o1 o2 o3 o4 : List ℕ)
    → o1 ≡ laid room 0 (field vc) → o2 ≡ laid o1 (4 + length vc) (field vs) → o3 ≡ laid o2 (4 + length vc + 4 + length vs) (field ic)
    → o4 ≡ laid o3 (4 + length vc + 4 + length vs + 4 + length ic) (field is)
    → o4 ≡ onto room (field vc ++ field vs ++ field ic ++ field is)
head_laid room vc vs ic is f o1 o2 o3 o4 e1 e2 e3 e4 =
    let h = f.all_fit in
    let n1 = ap length (field_some vc f.vc_some) ∙ length_string vc in
    let n2 = ap length (field_some vs f.vs_some) ∙ length_string vs in
    let n3 = ap length (field_some ic f.ic_some) ∙ length_string ic in
    let n4 = ap length (field_some is f.is_some) ∙ length_string is in
    let p1 = begun_laid room (field vc) o1 (4 + length vc) e1 (sym n1) (omega arith) in
    let p2 = then_laid _ _ _ _ p1 (field vs) o2 (4 + length vc + 4 + length vs) e2 (omega arith) (omega arith) in
    let p3 = then_laid _ _ _ _ p2 (field ic) o3 (4 + length vc + 4 + length vs + 4 + length ic) e3 (omega arith) (omega arith) in
    let p4 = then_laid _ _ _ _ p3 (field is) o4 (16 + length vc + length vs + length ic + length is) e4 (omega arith) h in
    begun_onto _ _ _ _ p4

-- ---- the start

-- what is made of wiped bytes
pub made_fresh : (s : Stage) (role m vc vs ic is : ℕ) (o ex : List ℕ) → o ≡ zeros exchange_size
    → ex ≡ by_size o (put_head (zeros 154 ++ drop 154 o) (stage_number s) (fail_number s) role m vc vs ic is) o
    → ex ≡ encoded (record { stage = s; role = role; method = m; lens = record { vc = vc; vs = vs; ic = ic; is = is; ks = 0; c = 0; s = 0 }; k = zeros k_size; h = zeros h_size; session = no_session })
made_fresh s role m vc vs ic is o ex w e =
    let F : List ℕ → List ℕ = λ (x : List ℕ). put_head (zeros 154 ++ drop 154 x) (stage_number s) (fail_number s) role m vc vs ic is in
    e
    ∙ ap (λ (x : List ℕ). by_size x (F x) x) w
    ∙ sym (size_taken (zeros exchange_size) (zeros exchange_size) (F (zeros exchange_size)) refl)
    ∙ head_put s role m vc vs ic is no_session

-- an answer with no counts
abbrev pub answer : ℕ → Exchange → Step
answer n e = record { number = n; count = 0; second = 0; exchange = e; position = 0 }

module _ (role m : ℕ) (vc vs ic is room : List ℕ) (n : ℕ) (e : n ≡ start_cause role m vc vs ic is (length room)) where
  -- refused: ended with the number, and the room stays
  pub start_refused : (x : Exchange) → (n ≡ 0 → ⊥) → x ≡ ended n 0 0 no_session
      → (answer n x ≡ started role m vc vs ic is (length room)) × (room ≡ started_room role m vc vs ic is room)
  unfolding started started_room
  start_refused x h f =
      let z = ne_eqb (start_cause role m vc vs ic is (length room)) 0 (λ k. h (e ∙ k)) in
      (rw z (ap (answer n) f ∙ ap (λ (k : ℕ). answer k (ended k 0 0 no_session)) e), rw z)

  module _ (h : n ≡ 0) where
    -- accepted: both V and both I fit the room
    pub start_fits : HeadFits room vc vs ic is
    start_fits =
        let k = start_known role m vc vs ic is (length room) (sym e ∙ h) in
        let b = k.2 in
        let a1 = within_most 1 version_most (length vc) b.vc_ok in
        let a2 = within_most 1 version_most (length vs) b.vs_ok in
        let a3 = within_most 1 kexinit_most (length ic) b.ic_ok in
        let a4 = within_most 1 kexinit_most (length is) b.is_ok in
        let r = k.1 in
        record {
          vc_some = within_least 1 version_most (length vc) b.vc_ok;
          vs_some = within_least 1 version_most (length vs) b.vs_ok;
          ic_some = within_least 1 kexinit_most (length ic) b.ic_ok;
          is_some = within_least 1 kexinit_most (length is) b.is_ok;
          all_fit = omega arith;
        }

    -- and there they go
    pub start_accepted : (r : List ℕ) → r ≡ onto room (field vc ++ field vs ++ field ic ++ field is)
        → (answer 0 (record { stage = Started; role = role; method = m; lens = lengths_of vc vs ic is; k = zeros k_size; h = zeros h_size; session = no_session }) ≡ started role m vc vs ic is (length room))
        × (r ≡ started_room role m vc vs ic is room)
    unfolding started started_room
    start_accepted r f =
        let z = eq-eqb (start_cause role m vc vs ic is (length room)) 0 (sym e ∙ h) in
        (rw z, rw z f)
