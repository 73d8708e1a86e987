-- The book, the specification's word for the plain account that demand 3 holds an exchange to (SPECIFICATION 12.2, 12.3). It is fed the arguments of the start and of
-- the calls, with the lengths of room and outputs, and never sees the exchange or the room's bytes. Assumes nothing.
use Rattle.std.specs.Prelude.{ℕ, ◌+◌, List, [], ◌∷◌, ◌++◌, Bool, true, false, cond, not, ◌&&◌, length, get_or, ltb, eqb}
use Rattle.limits.specs.Limits.{h_size, room_least, client, server}
use Rattle.buffers.specs.Bytes.{zeros, onto}
use Rattle.wire.specs.Causes.{cause_if, cause_unless}
use Rattle.messages.specs.Messages.{field_of}
use Rattle.transcript.specs.Fields.{field}
use Rattle.methods.specs.Rows.{row_of}
use Rattle.exchange.specs.Causes.{again_cause, k_of, h_of}
use Rattle.exchange.specs.Numbers.{kind, by_kind}
use Rattle.exchange.specs.Steps.{Call, own_c, init, reply, secret, sign, verdict, step_no, fed_cause}
use Rattle.exchange.specs.Again.{Turn, step, again}
use Rattle.exchange.specs.declared.Session.{Session}

-- the hash input's fields; a missing one is empty, and K stands in its form
pub record Fields : Type 0 where
  pub vc : List ℕ
  pub vs : List ℕ
  pub ic : List ℕ
  pub is : List ℕ
  pub ks : List ℕ
  pub c : List ℕ
  pub s : List ℕ
  pub k : List ℕ

-- an exchange that was completed: its method and its fields
pub record Past : Type 0 where
  pub method : ℕ
  pub fields : Fields

-- role, method, steps done, fields, and whether a fault came, since the latest beginning; and the exchanges that were completed before it, the latest
-- first
pub record Book : Type 0 where
  pub role : ℕ
  pub method : ℕ
  pub done : ℕ
  pub fields : Fields
  pub faulted : Bool
  pub past : List Past

abbrev pub no_fields : Fields
no_fields = record { vc = []; vs = []; ic = []; is = []; ks = []; c = []; s = []; k = [] }

-- a beginning gives role, method, both V and both I
abbrev pub begun : List Past → ℕ → ℕ → List ℕ → List ℕ → List ℕ → List ℕ → Book
begun past role m vc vs ic is = record {
  role = role;
  method = m;
  done = 0;
  fields = record { vc = vc; vs = vs; ic = ic; is = is; ks = []; c = []; s = []; k = [] };
  faulted = false;
  past = past;
}

-- the accepted start
unfoldable pub opened : ℕ → ℕ → List ℕ → List ℕ → List ℕ → List ℕ → Book
opened role m vc vs ic is = begun [] role m vc vs ic is

-- a client's steps are own C, REPLY, secret, verdict; a server's are INIT, secret, signature
abbrev pub steps_of : ℕ → List ℕ
steps_of role = cond (eqb role client) (1 ∷ 3 ∷ 4 ∷ 6 ∷ []) (2 ∷ 4 ∷ 5 ∷ [])

-- a call's first cause: 1 when a fault came or it is not the role's step after those done; then by what it was fed
unfoldable pub first_cause : ℕ → Book → Call → ℕ
first_cause room b q =
    cause_if b.faulted 1
    (cause_unless (eqb (get_or (steps_of b.role) b.done 0) (step_no q)) 1
    (cause_if (ltb room room_least) 3 (fed_cause b.role b.method q)))

-- the fields that a call brings: C, or K_S and S, as handed in or read, and K by the wire rules; a client's secret brings K alone
abbrev pub brings : Fields → List ℕ → List ℕ → List ℕ → List ℕ → Fields
brings f ks c s k = record { vc = f.vc; vs = f.vs; ic = f.ic; is = f.is; ks = ks; c = c; s = s; k = k }

unfoldable pub fields_after : ℕ → ℕ → Fields → Call → Fields
fields_after role m f (own_c c out) = brings f f.ks c f.s f.k
fields_after role m f (init p) = brings f f.ks (field_of p 0) f.s f.k
fields_after role m f (reply p) = brings f (field_of p 0) f.c (field_of p 1) f.k
fields_after role m f (secret cl x kem k_pq ks s) =
    cond (eqb role server) (brings f ks f.c s (k_of m x k_pq)) (brings f f.ks f.c f.s (k_of m x k_pq))
fields_after role m f (sign g out k_out) = f
fields_after role m f (verdict a b k_out) = f

-- the book after a call: its step is done and its fields join; a refusal leaves it; a peer fault is noted and drops the fields
abbrev pub moved : Book → Call → Book
moved b q = record { role = b.role; method = b.method; done = b.done + 1; fields = fields_after b.role b.method b.fields q; faulted = false; past = b.past }

abbrev pub dropped : Book → Book
dropped b = record { role = b.role; method = b.method; done = b.done; fields = no_fields; faulted = true; past = b.past }

unfoldable pub noted : ℕ → Book → Call → Book
noted room b q = by_kind (kind (first_cause room b q)) (moved b q) b (dropped b)

-- the book has every step of its role
unfoldable pub has_all : Book → Bool
has_all b = not b.faulted && eqb b.done (length (steps_of b.role))

-- the exchanges that were completed, over the whole history, the latest first: one for each time that the book had every step
unfoldable pub finished : Book → List Past
finished b = cond (has_all b) (record { method = b.method; fields = b.fields } ∷ b.past) b.past

-- ---- beginning again

-- the cause against it: 1 unless the book has every step; then by what it was fed, and by how many exchanges were completed
unfoldable pub again_first : ℕ → Book → ℕ → List ℕ → List ℕ → ℕ
again_first room b m ic is = cause_unless (has_all b) 1 (again_cause m ic is room (length (finished b)))

-- accepted, it stands for the start, with the book's role and both its V; refused, it leaves the book
unfoldable pub again_noted : ℕ → Book → ℕ → List ℕ → List ℕ → Book
again_noted room b m ic is =
    cond (eqb (again_first room b m ic is) 0) (begun (finished b) b.role m b.fields.vc b.fields.vs ic is) b

-- ---- what the book tells

-- the hash input so far: the strings of the fields that are there, in hash order, and K in its form
unfoldable pub hash_input : Fields → List ℕ
hash_input f =
    field f.vc
    ++ field f.vs
    ++ field f.ic
    ++ field f.is
    ++ field f.ks
    ++ field f.c
    ++ field f.s
    ++ f.k

-- the room that the latest beginning found, over the room as it was lent to the start: each exchange left its hash input at the room's beginning, and
-- the bytes behind it as its own beginning found them
abbrev pub left_by : List Past → List ℕ → List ℕ
left_by [] room = room
left_by (x ∷ past) room = onto (left_by past room) (hash_input x.fields)

-- the room that the book tells: the fields in hash order, the rest as the latest beginning found it; all zeros after a fault
unfoldable pub room_told : Book → List ℕ → List ℕ
room_told b room = cond b.faulted (zeros (length room)) (onto (left_by b.past room) (hash_input b.fields))

-- H that the book tells, 64 bytes: once K, which has four length bytes at least, is among its fields, the method's hash of the hash
-- input; zeros until then
abbrev pub h_once : ℕ → List ℕ → List ℕ → List ℕ
h_once m [] input = zeros h_size
h_once m (b ∷ k) input = h_of m input

unfoldable pub h_told : Book → List ℕ
h_told b = h_once b.method b.fields.k (hash_input b.fields)

-- the session that completed exchanges tell, the latest first: by the first of them its identifier, which is H as its record keeps it, and the
-- digest's length; and their number
abbrev pub by_first {ℓ} : {A : Type ℓ} → A → (Past → A) → List Past → A
by_first none some [] = none
by_first none some (x ∷ []) = some x
by_first none some (x ∷ y ∷ past) = by_first none some (y ∷ past)

abbrev pub session_of : List Past → Session
session_of past = record {
  id = by_first (zeros h_size) (λ (x : Past). h_of x.method (hash_input x.fields)) past;
  len = by_first 0 (λ (x : Past). (row_of x.method).digest_len) past;
  count = length past;
}

-- ---- a list of calls, told to the book

abbrev pub turn_cause : ℕ → Book → Turn → ℕ
turn_cause room b (step q) = first_cause room b q
turn_cause room b (again m ic is) = again_first room b m ic is

abbrev pub turn_noted : ℕ → Book → Turn → Book
turn_noted room b (step q) = noted room b q
turn_noted room b (again m ic is) = again_noted room b m ic is

abbrev pub causes : ℕ → Book → List Turn → List ℕ
causes room b [] = []
causes room b (q ∷ qs) = turn_cause room b q ∷ causes room (turn_noted room b q) qs

abbrev pub last_book : ℕ → Book → List Turn → Book
last_book room b [] = b
last_book room b (q ∷ qs) = last_book room (turn_noted room b q) qs
