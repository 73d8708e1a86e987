-- What the start and each step answer and leave: the definitions that the contracts cite (SPECIFICATION 9.4 to 9.13). Assumes nothing.
use Rattle.std.specs.Prelude.{ℕ, ◌+◌, ◌≤◌, ◌<◌, List, ◌++◌, Bool, cond, length, take, drop, ltb, eqb}
use Rattle.limits.specs.Limits.{h_size, k_size, room_least, server}
use Rattle.buffers.specs.Bytes.{zeros, onto, over}
use Rattle.wire.specs.Causes.{cause_if, cause_unless}
use Rattle.wire.specs.Parts.{nothing}
use Rattle.wire.specs.declared.Part.{Part}
use Rattle.methods.specs.Rows.{row_of}
use Rattle.messages.specs.Position.{position}
use Rattle.messages.specs.Messages.{init_bytes, reply_bytes, init_layout, reply_layout, field_part, field_of}
use Rattle.transcript.specs.Fields.{field, field_length, field_size, size_sum}
use Rattle.exchange.specs.Causes.{start_cause, own_c_cause, init_cause, reply_cause, secret_cause, sign_cause, verdict_cause, k_of, h_of}
use Rattle.exchange.specs.Numbers.{kind, by_kind}
use Rattle.exchange.specs.Record.{no_session, ended, k_length, due}
use Rattle.exchange.specs.declared.Classical.{Classical}
use Rattle.exchange.specs.declared.Kem.{Kem}
use Rattle.exchange.specs.declared.Stage.{Stage}
use Rattle.exchange.specs.declared.Stage.TheVariants.{Started, CSent, InitRead, ReplyRead, SecretDone, Complete}
use Rattle.exchange.specs.declared.Lengths.{Lengths}
use Rattle.exchange.specs.declared.Session.{Session}
use Rattle.exchange.specs.declared.Exchange.{Exchange}
use Rattle.exchange.specs.declared.Step.{Step}
use Rattle.exchange.specs.declared.SecretStep.{SecretStep}

-- a call of a step with what it is handed; of an output, its length
pub data Call : Type 0 where
  own_c : (c : List ℕ) (out : ℕ) → Call
  init : (payload : List ℕ) → Call
  reply : (payload : List ℕ) → Call
  secret : (cl : Classical) (x : List ℕ) (kem : Kem) (k_pq ks s : List ℕ) → Call
  sign : (signature : List ℕ) (out k_out : ℕ) → Call
  verdict : (signature host_key : Bool) (k_out : ℕ) → Call

-- the steps' numbers
abbrev pub step_no : Call → ℕ
step_no (own_c c out) = 1
step_no (init p) = 2
step_no (reply p) = 3
step_no (secret cl x kem k_pq ks s) = 4
step_no (sign g out k_out) = 5
step_no (verdict a b k_out) = 6

-- the first cause in what a call is fed, by role and method
unfoldable pub fed_cause : ℕ → ℕ → Call → ℕ
fed_cause role m (own_c c out) = own_c_cause m c out
fed_cause role m (init p) = init_cause m p
fed_cause role m (reply p) = reply_cause m p
fed_cause role m (secret cl x kem k_pq ks s) = secret_cause role m cl x kem k_pq ks s
fed_cause role m (sign g out k_out) = sign_cause g out k_out
fed_cause role m (verdict a b k_out) = verdict_cause a b k_out

-- a call's number: 1 where its step is not due, 3 where the room is too short, then what it is fed
unfoldable pub step_number : ℕ → Exchange → ℕ → ℕ → ℕ
step_number n e room fed = cause_unless (due n e) 1 (cause_if (ltb room room_least) 3 fed)

unfoldable pub number : Exchange → List ℕ → Call → ℕ
number e room q = step_number (step_no q) e (length room) (fed_cause e.role e.method q)

-- ---- the room, by the lengths that the exchange records

-- where both V and both I end, and where all fields ahead of K end
abbrev pub head_end : Lengths → ℕ
head_end l = field_length l.vc + field_length l.vs + field_length l.ic + field_length l.is

abbrev pub fields_end : Lengths → ℕ
fields_end l = head_end l + field_length l.ks + field_length l.c + field_length l.s

-- the same as the code counts them, where no sum wraps
unfoldable pub head_size : Lengths → ℕ
head_size l = size_sum (size_sum (size_sum (field_size l.vc) (field_size l.vs)) (field_size l.ic)) (field_size l.is)

unfoldable pub fields_size : Lengths → ℕ
fields_size l = size_sum (size_sum (size_sum (head_size l) (field_size l.ks)) (field_size l.c)) (field_size l.s)

-- C as it stands in the room, its length bytes with it, where K_S is missing
abbrev pub standing_c : Lengths → List ℕ → List ℕ
standing_c l room = take (field_length l.c) (drop (head_end l) room)

-- K_S and S as they stand, by the recorded lengths
abbrev pub standing_ks : Lengths → List ℕ → List ℕ
standing_ks l room = take l.ks (drop (head_end l + 4) room)

abbrev pub standing_s : Lengths → List ℕ → List ℕ
standing_s l room = take l.s (drop (head_end l + field_length l.ks + field_length l.c + 4) room)

-- the room after an accepted call: fields join at the end; K_S goes in ahead of C, and S behind it
abbrev pub secret_room : ℕ → Lengths → List ℕ → List ℕ → List ℕ → List ℕ → List ℕ
secret_room role l room ks s k =
    cond (eqb role server)
    (over room (head_end l) (field ks ++ standing_c l room ++ field s ++ k))
    (over room (fields_end l) k)

unfoldable pub filled : Exchange → List ℕ → Call → List ℕ
filled e room (own_c c out) = over room (fields_end e.lens) (field c)
filled e room (init p) = over room (fields_end e.lens) (field (field_of p 0))
filled e room (reply p) = over room (head_end e.lens) (field (field_of p 0) ++ standing_c e.lens room ++ field (field_of p 1))
filled e room (secret cl x kem k_pq ks s) = secret_room e.role e.lens room ks s (k_of e.method x k_pq)
filled e room (sign g out k_out) = room
filled e room (verdict a b k_out) = room

-- ---- the exchange

-- the lengths with C, or with K_S and S
abbrev pub with_c : Lengths → ℕ → Lengths
with_c l c = record { vc = l.vc; vs = l.vs; ic = l.ic; is = l.is; ks = l.ks; c = c; s = l.s }

abbrev pub with_s : Lengths → ℕ → ℕ → Lengths
with_s l ks s = record { vc = l.vc; vs = l.vs; ic = l.ic; is = l.is; ks = ks; c = l.c; s = s }

-- a secret step adds a server's own
abbrev pub with_own : ℕ → Lengths → ℕ → ℕ → Lengths
with_own role l ks s = cond (eqb role server) (with_s l ks s) l

-- an exchange at another stage, with these lengths; with this K record and this H too
abbrev pub with_stage : Exchange → Stage → Lengths → Exchange
with_stage e stage lens = record { stage = stage; role = e.role; method = e.method; lens = lens; k = e.k; h = e.h; session = e.session }

abbrev pub with_secret : Exchange → Lengths → List ℕ → List ℕ → Exchange
with_secret e lens k h = record { stage = SecretDone; role = e.role; method = e.method; lens = lens; k = k; h = h; session = e.session }

-- a session with one more exchange completed, by a method and with this H: the first gives the identifier and its length, which no later one changes
unfoldable pub one_more : ℕ → List ℕ → Session → Session
one_more m h s = record {
  id = cond (eqb s.count 0) h s.id;
  len = cond (eqb s.count 0) (row_of m).digest_len s.len;
  count = s.count + 1;
}

-- an exchange whose last step is done
abbrev pub with_last : Exchange → Exchange
with_last e = record { stage = Complete; role = e.role; method = e.method; lens = e.lens; k = e.k; h = e.h; session = one_more e.method e.h e.session }

-- the K record of K's bytes
unfoldable pub k_record : List ℕ → List ℕ
k_record k = onto (zeros k_size) k

-- the hash input's length, by the recorded lengths and K; and H, the method's hash of so many of the room's first bytes, as they stand after the step
abbrev pub input_length : Exchange → List ℕ → List ℕ → List ℕ → List ℕ → ℕ
input_length e x k_pq ks s = fields_end (with_own e.role e.lens (length ks) (length s)) + length (k_of e.method x k_pq)

abbrev pub input_hash : Exchange → List ℕ → List ℕ → List ℕ → List ℕ → List ℕ → List ℕ
input_hash e room x k_pq ks s =
    h_of e.method (take (input_length e x k_pq ks s) (secret_room e.role e.lens room ks s (k_of e.method x k_pq)))

-- after an accepted call
unfoldable pub taken : Exchange → List ℕ → Call → Exchange
taken e room (own_c c out) = with_stage e CSent (with_c e.lens (length c))
taken e room (init p) = with_stage e InitRead (with_c e.lens (length (field_of p 0)))
taken e room (reply p) = with_stage e ReplyRead (with_s e.lens (length (field_of p 0)) (length (field_of p 1)))
taken e room (secret cl x kem k_pq ks s) =
    with_secret e (with_own e.role e.lens (length ks) (length s)) (k_record (k_of e.method x k_pq)) (input_hash e room x k_pq ks s)
taken e room (sign g out k_out) = with_last e
taken e room (verdict a b k_out) = with_last e

unfoldable pub exchange_after : Exchange → List ℕ → Call → Exchange
exchange_after e room q = by_kind (kind (number e room q)) (taken e room q) e (ended (number e room q) e.role e.method e.session)

-- a peer fault fills the whole room with zeros
unfoldable pub room_after : Exchange → List ℕ → Call → List ℕ
room_after e room q = by_kind (kind (number e room q)) (filled e room q) room (zeros (length room))

-- ---- counts and outputs

-- REPLY as the signature step writes it
abbrev pub reply_of : Exchange → List ℕ → List ℕ → List ℕ
reply_of e room g = reply_bytes (standing_ks e.lens room) (standing_s e.lens room) g

-- bytes written for INIT and REPLY; hash input length at the secret step; K's length where K is written; else 0
unfoldable pub count_of : Exchange → List ℕ → Call → ℕ
count_of e room (own_c c out) = length (init_bytes c)
count_of e room (init p) = 0
count_of e room (reply p) = 0
count_of e room (secret cl x kem k_pq ks s) = input_length e x k_pq ks s
count_of e room (sign g out k_out) = length (reply_of e room g)
count_of e room (verdict a b k_out) = k_length e.k

unfoldable pub second_of : Exchange → Call → ℕ
second_of e (own_c c out) = 0
second_of e (init p) = 0
second_of e (reply p) = 0
second_of e (secret cl x kem k_pq ks s) = 0
second_of e (sign g out k_out) = k_length e.k
second_of e (verdict a b k_out) = 0

-- where a payload that was read breaks, by the number that answers it: 0 but for 12 and 13
unfoldable pub position_of : ℕ → Call → ℕ
position_of n (own_c c out) = 0
position_of n (init p) = position n init_layout p
position_of n (reply p) = position n reply_layout p
position_of n (secret cl x kem k_pq ks s) = 0
position_of n (sign g out k_out) = 0
position_of n (verdict a b k_out) = 0

-- a call's answer
unfoldable pub answered : Exchange → List ℕ → Call → Step
answered e room q = record {
  number = number e room q;
  count = by_kind (kind (number e room q)) (count_of e room q) 0 0;
  second = by_kind (kind (number e room q)) (second_of e q) 0 0;
  exchange = exchange_after e room q;
  position = position_of (number e room q) q;
}

-- H as it is handed out: the H that the exchange now has; zeros on a refusal
unfoldable pub handed_h : Exchange → List ℕ → Call → List ℕ
handed_h e room q =
    by_kind (kind (number e room q))
    (taken e room q).h
    (zeros h_size)
    (zeros h_size)

-- the secret step's answer
unfoldable pub secret_answered : Exchange → List ℕ → Call → SecretStep
secret_answered e room q = record { step = answered e room q; h = handed_h e room q }

-- an output of bytes b: it begins with them where the call is accepted, else it stays
unfoldable pub output_after : ℕ → List ℕ → List ℕ → List ℕ
output_after n out b = by_kind (kind n) (onto out b) out out

-- what a refused step answers and leaves, by its number and its position alone
abbrev pub refused_step : ℕ → ℕ → Exchange → Step
refused_step n at e = record { number = n; count = 0; second = 0; exchange = by_kind (kind n) e e (ended n e.role e.method e.session); position = at }

abbrev pub refused_room : ℕ → List ℕ → List ℕ
refused_room n room = by_kind (kind n) room room (zeros (length room))

-- ---- parts of INIT and REPLY, by a call of their own on the step's input

unfoldable pub step_part : Exchange → List ℕ → Call → List ℕ → ℕ → Part
step_part e room q p i = by_kind (kind (number e room q)) (field_part p i) nothing nothing

-- ---- the start

abbrev pub lengths_of : List ℕ → List ℕ → List ℕ → List ℕ → Lengths
lengths_of vc vs ic is = record { vc = length vc; vs = length vs; ic = length ic; is = length is; ks = 0; c = 0; s = 0 }

-- accepted: a fresh exchange; refused: one failed with the number, role and method 0
unfoldable pub started : ℕ → ℕ → List ℕ → List ℕ → List ℕ → List ℕ → ℕ → Step
started role m vc vs ic is room =
    cond (eqb (start_cause role m vc vs ic is room) 0)
    (record { number = 0; count = 0; second = 0; exchange = record { stage = Started; role = role; method = m; lens = lengths_of vc vs ic is; k = zeros k_size; h = zeros h_size; session = no_session }; position = 0 })
    (record { number = start_cause role m vc vs ic is room; count = 0; second = 0; exchange = ended (start_cause role m vc vs ic is room) 0 0 no_session; position = 0 })

unfoldable pub started_room : ℕ → ℕ → List ℕ → List ℕ → List ℕ → List ℕ → List ℕ → List ℕ
started_room role m vc vs ic is room =
    cond (eqb (start_cause role m vc vs ic is (length room)) 0) (onto room (field vc ++ field vs ++ field ic ++ field is)) room

-- ---- a bound

-- both V and both I are there and fit the room
pub record HeadFits (room vc vs ic is : List ℕ) : Type 0 where
  pub vc_some : 0 < length vc
  pub vs_some : 0 < length vs
  pub ic_some : 0 < length ic
  pub is_some : 0 < length is
  pub all_fit : 16 + length vc + length vs + length ic + length is ≤ length room
