-- What one call on an exchange's bytes is, by the step's definitions. Assumes nothing.
use Rattle.std.proofs.Common.{◌≡◌, ℕ, Bool, true, false, cond, eqb, List, [], ◌∷◌, ◌++◌, length, sym, refl, ap, ◌∙◌}
use lib.ListN.{length-replicate}
use Rattle.exchange.specs.Record.{ended}
use Rattle.exchange.specs.Numbers.{Kind, accepted, refused, fault, kind, by_kind}
use Rattle.exchange.specs.Steps.{Call, init, reply, number, taken, exchange_after, room_after}
use Rattle.exchange.specs.Again.{again_number, begun_again, again_after, again_room}
use Rattle.exchange.specs.declared.Exchange.{Exchange}
use Rattle.stored.specs.Stored.{encoded, decoded, fits, by_fit}
use Rattle.lent.specs.Lent.{Left, left, tells, told_size, writes, outputs_after, bytes_after, step_left, untouched, lent_call, positioned, again_left, lent_again}
use Rattle.lent.proofs.Kept.{Storable, lent_is_step}

-- a call that answered n, told, and left these bytes, on the bytes of x
pub record AsStep (x : Exchange) (room : List ℕ) (q : Call) (outs : List (List ℕ)) (n : ℕ) (told ex room' : List ℕ) (outs' : List (List ℕ)) : Type 0 where
  pub number_is : n ≡ number x room q
  pub told_is : told ≡ tells x room q
  pub exchange_is : ex ≡ encoded (exchange_after x room q)
  pub room_is : room' ≡ room_after x room q
  pub outputs_are : outs' ≡ outputs_after (number x room q) outs (writes x room q)

-- an exchange's bytes after a call are those of the exchange after it
bytes_after_lem : (x : Exchange) (room : List ℕ) (q : Call) → bytes_after (encoded x) x room q ≡ encoded (exchange_after x room q)
unfolding bytes_after exchange_after
bytes_after_lem x room q = by_kind_lem (kind (number x room q))
  where
    by_kind_lem : (k : Kind) → by_kind k (encoded (taken x room q)) (encoded x) (encoded (ended (number x room q) x.role x.method x.session))
        ≡ encoded (by_kind k (taken x room q) x (ended (number x room q) x.role x.method x.session))
    by_kind_lem accepted = refl
    by_kind_lem refused = refl
    by_kind_lem fault = refl

-- what the step leaves, in bytes
abbrev pub by_step : Exchange → List ℕ → Call → List (List ℕ) → Left
by_step x room q outs =
    left (number x room q) (tells x room q) (encoded (exchange_after x room q)) (room_after x room q) (outputs_after (number x room q) outs (writes x room q))

-- a call that did as the step does, did what the contract says
pub as_called : (x : Exchange) (room : List ℕ) (q : Call) (outs : List (List ℕ)) → Storable x → by_step x room q outs ≡ lent_call (encoded x) room q outs
unfolding lent_call step_left
as_called x room q outs h =
    ap (λ (ex : List ℕ). left (number x room q) (tells x room q) ex (room_after x room q) (outputs_after (number x room q) outs (writes x room q))) (sym (bytes_after_lem x room q))
    ∙ sym (lent_is_step (λ (y : Exchange). step_left (encoded x) y room q outs) (untouched (encoded x) room (told_size q) outs) x h)

-- and the other way round
pub as_step : (b : List ℕ) (x : Exchange) (room : List ℕ) (q : Call) (outs : List (List ℕ)) (n : ℕ) (told ex room' : List ℕ) (outs' : List (List ℕ))
    → b ≡ encoded x → Storable x → left n told ex room' outs' ≡ lent_call b room q outs → AsStep x room q outs n told ex room' outs'
as_step b x room q outs n told ex room' outs' e h l =
    let k : left n told ex room' outs' ≡ by_step x room q outs = l ∙ ap (λ (y : List ℕ). lent_call y room q outs) e ∙ sym (as_called x room q outs h) in
    record {
      number_is = ap (λ (y : Left). y.number) k;
      told_is = ap (λ (y : Left). y.told) k;
      exchange_is = ap (λ (y : Left). y.exchange) k;
      room_is = ap (λ (y : Left). y.room) k;
      outputs_are = ap (λ (y : Left). y.outputs) k;
    }

-- a call's number: 1 on bytes that no exchange has
pub number_left : (b room : List ℕ) (q : Call) (outs : List (List ℕ)) → (lent_call b room q outs).number ≡ by_fit b (number (decoded b) room q) 1
unfolding lent_call by_fit step_left
number_left b room q outs = by_fit_lem (fits b)
  where
    by_fit_lem : (t : Bool) → (cond t (step_left b (decoded b) room q outs) (untouched b room (told_size q) outs)).number ≡ cond t (number (decoded b) room q) 1
    by_fit_lem true = refl
    by_fit_lem false = refl

-- ---- a position behind what is told

-- what a reader tells ahead of it: a part, or three
pub init_size : (e : Exchange) (room p : List ℕ) → length (tells e room (init p)) ≡ 2
unfolding tells
init_size e room p = refl

pub reply_size : (e : Exchange) (room p : List ℕ) → length (tells e room (reply p)) ≡ 6
unfolding tells
reply_size e room p = refl

-- on any bytes as many as on an exchange's
pub told_size_lem : (b room : List ℕ) (q : Call) (outs : List (List ℕ)) → length (tells (decoded b) room q) ≡ told_size q → length (lent_call b room q outs).told ≡ told_size q
unfolding lent_call by_fit step_left
told_size_lem b room q outs h = by_fit_lem (fits b)
  where
    by_fit_lem : (t : Bool) → length (cond t (step_left b (decoded b) room q outs) (untouched b room (told_size q) outs)).told ≡ told_size q
    by_fit_lem true = h
    by_fit_lem false = length-replicate (told_size q) 0

module _ {n : ℕ} {told ex room : List ℕ} {outs : List (List ℕ)} where
  pub position_behind : {l : Left} {x y : ℕ} → left n told ex room outs ≡ l → x ≡ y → left n (told ++ x ∷ []) ex room outs ≡ positioned y l
  position_behind e h = λ i. positioned (h i) (e i)

  -- and the rest without it
  pub position_aside : (l : Left) (at : ℕ) → left n told ex room outs ≡ positioned at l → (left n l.told ex room outs ≡ l) × (told ≡ l.told ++ at ∷ [])
  position_aside l at e = ((λ i. left (e i).number l.told (e i).exchange (e i).room (e i).outputs), ap (λ (y : Left). y.told) e)

-- ---- to begin again

-- what a beginning leaves, in bytes
abbrev pub by_again : Exchange → List ℕ → ℕ → List ℕ → List ℕ → Left
by_again x room m ic is = left (again_number x (length room) m ic is) [] (encoded (again_after x (length room) m ic is)) (again_room x room m ic is) []

pub as_again : (x : Exchange) (room : List ℕ) (m : ℕ) (ic is : List ℕ) → Storable x → by_again x room m ic is ≡ lent_again (encoded x) room m ic is
unfolding lent_again again_left again_after
as_again x room m ic is h =
    ap (λ (ex : List ℕ). left (again_number x (length room) m ic is) [] ex (again_room x room m ic is) []) (by_test (eqb (again_number x (length room) m ic is) 0))
    ∙ sym (lent_is_step (λ (y : Exchange). again_left (encoded x) y room m ic is) (untouched (encoded x) room 0 []) x h)
  where
    by_test : (t : Bool) → encoded (cond t (begun_again x m (length ic) (length is)) x) ≡ cond t (encoded (begun_again x m (length ic) (length is))) (encoded x)
    by_test true = refl
    by_test false = refl
