-- What a call on an exchange in lent bytes answers and leaves, by the definitions of the step by value. Assumes nothing.
use Rattle.std.specs.Prelude.{ℕ, ◌+◌, Bool, cond, ◌&&◌, List, [], ◌∷◌, ◌++◌, length, drop, ◌==◌}
use Rattle.limits.specs.Limits.{h_size}
use Rattle.buffers.specs.Bytes.{zeros}
use Rattle.wire.specs.declared.Part.{Part}
use Rattle.messages.specs.Messages.{init_bytes}
use Rattle.exchange.specs.Steps.{Call, own_c, init, reply, secret, sign, verdict, number, taken, room_after, reply_of, answered, handed_h, output_after, step_part, started, started_room}
use Rattle.exchange.specs.Again.{again_number, begun_again, again_room}
use Rattle.exchange.specs.Numbers.{kind, by_kind}
use Rattle.exchange.specs.Record.{ended, id_fits}
use Rattle.exchange.specs.declared.Exchange.{Exchange}
use Rattle.exchange.specs.declared.Step.{Step}
use Rattle.stored.specs.Stored.{encoded, fits, decoded, by_fit, by_size}
use Rattle.changes.specs.Changes.{put_head}

-- the number; what goes through lent numbers, H too; and the lent bytes as they are left: the exchange's, the room, the outputs
pub record Left : Type 0 where
  pub number : ℕ
  pub told : List ℕ
  pub exchange : List ℕ
  pub room : List ℕ
  pub outputs : List (List ℕ)

abbrev pub left : ℕ → List ℕ → List ℕ → List ℕ → List (List ℕ) → Left
left n told ex room outs = record { number = n; told = told; exchange = ex; room = room; outputs = outs }

-- ---- what a call tells: counts, at the secret step H behind them, or start and length of each part

abbrev pub place_of : Part → List ℕ
place_of p = p.start ∷ p.len ∷ []

abbrev pub counts : Step → List ℕ
counts s = s.count ∷ []

abbrev pub both_counts : Step → List ℕ
both_counts s = s.count ∷ s.second ∷ []

unfoldable pub tells : Exchange → List ℕ → Call → List ℕ
tells e room (own_c c out) = counts (answered e room (own_c c out))
tells e room (init p) = place_of (step_part e room (init p) p 0)
tells e room (reply p) = place_of (step_part e room (reply p) p 0) ++ place_of (step_part e room (reply p) p 1) ++ place_of (step_part e room (reply p) p 2)
tells e room (secret cl x kem k_pq ks s) = counts (answered e room (secret cl x kem k_pq ks s)) ++ handed_h e room (secret cl x kem k_pq ks s)
tells e room (sign g out k_out) = both_counts (answered e room (sign g out k_out))
tells e room (verdict a b k_out) = counts (answered e room (verdict a b k_out))

-- so many numbers
abbrev pub told_size : Call → ℕ
told_size (own_c c out) = 1
told_size (init p) = 2
told_size (reply p) = 6
told_size (secret cl x kem k_pq ks s) = 1 + h_size
told_size (sign g out k_out) = 2
told_size (verdict a b k_out) = 1

-- ---- what an accepted call writes to its outputs: INIT; REPLY and K; K

abbrev pub writes : Exchange → List ℕ → Call → List (List ℕ)
writes e room (own_c c out) = init_bytes c ∷ []
writes e room (init p) = []
writes e room (reply p) = []
writes e room (secret cl x kem k_pq ks s) = []
writes e room (sign g out k_out) = reply_of e room g ∷ e.k ∷ []
writes e room (verdict a b k_out) = e.k ∷ []

abbrev pub outputs_after : ℕ → List (List ℕ) → List (List ℕ) → List (List ℕ)
outputs_after n [] bs = []
outputs_after n (out ∷ outs) [] = out ∷ outs
outputs_after n (out ∷ outs) (b ∷ bs) = output_after n out b ∷ outputs_after n outs bs

-- ---- a call

-- the bytes of an exchange after it: those of the exchange with the step taken; as they were on a refusal; those of an ended exchange
-- on a peer's fault
unfoldable pub bytes_after : List ℕ → Exchange → List ℕ → Call → List ℕ
bytes_after b e room q = by_kind (kind (number e room q)) (encoded (taken e room q)) b (encoded (ended (number e room q) e.role e.method e.session))

-- on an exchange's bytes: all as the step by value has it
unfoldable pub step_left : List ℕ → Exchange → List ℕ → Call → List (List ℕ) → Left
step_left b e room q outs = record {
  number = number e room q;
  told = tells e room q;
  exchange = bytes_after b e room q;
  room = room_after e room q;
  outputs = outputs_after (number e room q) outs (writes e room q);
}

-- on others: 1, and all as it was
abbrev pub untouched : List ℕ → List ℕ → ℕ → List (List ℕ) → Left
untouched b room told outs = left 1 (zeros told) b room outs

unfoldable pub lent_call : List ℕ → List ℕ → Call → List (List ℕ) → Left
lent_call b room q outs = by_fit b (step_left b (decoded b) room q outs) (untouched b room (told_size q) outs)

-- a reader's call tells a position besides, behind the places
abbrev pub positioned : ℕ → Left → Left
positioned at l = left l.number (l.told ++ at ∷ []) l.exchange l.room l.outputs

-- ---- the start: in as many bytes as an exchange has, whatever they hold

unfoldable pub start_left : Step → List ℕ → Left
start_left s room = left s.number [] (encoded s.exchange) room []

unfoldable pub lent_start : List ℕ → ℕ → ℕ → List ℕ → List ℕ → List ℕ → List ℕ → List ℕ → Left
lent_start b role m vc vs ic is room =
    by_size b (start_left (started role m vc vs ic is (length room)) (started_room role m vc vs ic is room)) (untouched b room 0 [])

-- ---- the session that lent bytes tell: an exchange's, at any stage, whose identifier's length goes with its count

unfoldable pub session_known : List ℕ → Bool
session_known b = fits b && id_fits (decoded b).session.len (decoded b).session.count

-- ---- to begin again: on an exchange's bytes as it is by value; on others 1, and all as it was

-- the bytes of an exchange after it: as they were on a refusal
unfoldable pub again_left : List ℕ → Exchange → List ℕ → ℕ → List ℕ → List ℕ → Left
again_left b e room m ic is =
    left (again_number e (length room) m ic is) [] (cond (again_number e (length room) m ic is == 0) (encoded (begun_again e m (length ic) (length is))) b) (again_room e room m ic is) []

unfoldable pub lent_again : List ℕ → List ℕ → ℕ → List ℕ → List ℕ → Left
lent_again b room m ic is = by_fit b (again_left b (decoded b) room m ic is) (untouched b room 0 [])

-- the bytes after a refusal, by its number alone: those of an ended exchange on a peer's fault, which keeps the session's bytes
abbrev pub refused_bytes : ℕ → List ℕ → List ℕ
refused_bytes n b = by_kind (kind n) b b (by_size b (put_head (zeros 154 ++ drop 154 b) 6 n (decoded b).role (decoded b).method 0 0 0 0) b)
