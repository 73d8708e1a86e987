-- The exchange as bytes (SPECIFICATION 13.2, 13.3), and the answers that go by them. Assumes nothing.
use Rattle.std.specs.Prelude.{ℕ, ◌+◌, ◌*◌, ◌/◌, ◌%◌, ◌<◌, List, [], ◌∷◌, ◌++◌, Bool, cond, ◌&&◌, ◌||◌, length, get_or, take, drop, leb, eqb}
use Rattle.limits.specs.Limits.{k_size, h_size, exchange_size, exchange_mark}
use Rattle.buffers.specs.Bytes.{zeros}
use Rattle.exchange.specs.Record.{no_lengths, no_session}
use Rattle.exchange.specs.declared.Stage.{Stage}
use Rattle.exchange.specs.declared.Stage.TheVariants.{Started, CSent, InitRead, ReplyRead, SecretDone, Complete, Failed}
use Rattle.exchange.specs.declared.Lengths.{Lengths}
use Rattle.exchange.specs.declared.Session.{Session}
use Rattle.exchange.specs.declared.Exchange.{Exchange}

-- ---- a stage as two numbers: which it is, and what ended a failed exchange

abbrev pub stage_number : Stage → ℕ
stage_number Started = 0
stage_number CSent = 1
stage_number InitRead = 2
stage_number ReplyRead = 3
stage_number SecretDone = 4
stage_number Complete = 5
stage_number (Failed n) = 6

abbrev pub fail_number : Stage → ℕ
fail_number Started = 0
fail_number CSent = 0
fail_number InitRead = 0
fail_number ReplyRead = 0
fail_number SecretDone = 0
fail_number Complete = 0
fail_number (Failed n) = n

unfoldable pub stage_of : ℕ → ℕ → Stage
stage_of stage fail =
    cond (eqb stage 0) Started
    (cond (eqb stage 1) CSent
    (cond (eqb stage 2) InitRead
    (cond (eqb stage 3) ReplyRead
    (cond (eqb stage 4) SecretDone
    (cond (eqb stage 5) Complete
    (Failed fail))))))

-- ---- the bytes of an exchange

-- the two bytes of a length, the highest first, and the number in the two bytes from `at` on
abbrev pub bytes16 : ℕ → List ℕ
bytes16 n = n / 256 % 256 ∷ n % 256 ∷ []

abbrev pub number16 : List ℕ → ℕ → ℕ
number16 b at = get_or b at 0 * 256 + get_or b (at + 1) 0

-- the eight bytes of a count, likewise
abbrev pub bytes64 : ℕ → List ℕ
bytes64 n = bytes16 (n / 281474976710656) ++ bytes16 (n / 4294967296) ++ bytes16 (n / 65536) ++ bytes16 n

abbrev pub number64 : List ℕ → ℕ → ℕ
number64 b at = (number16 b at * 65536 + number16 b (at + 2)) * 4294967296 + (number16 b (at + 4) * 65536 + number16 b (at + 6))

abbrev pub head_of : Exchange → List ℕ
head_of x =
    exchange_mark ∷ stage_number x.stage ∷ fail_number x.stage ∷ x.role ∷ x.method ∷ []
    ++ bytes16 x.lens.vc
    ++ bytes16 x.lens.vs
    ++ bytes16 x.lens.ic
    ++ bytes16 x.lens.is
    ++ bytes16 x.lens.ks
    ++ bytes16 x.lens.c
    ++ bytes16 x.lens.s

-- what lasts over the exchanges of a session: the identifier's length, the count, the identifier
abbrev pub session_bytes : Session → List ℕ
session_bytes s = bytes16 s.len ++ bytes64 s.count ++ s.id

unfoldable pub encoded : Exchange → List ℕ
encoded x = head_of x ++ x.k ++ x.h ++ session_bytes x.session

-- ---- the exchange of bytes

-- an exchange has the mark of this layout and one of the seven stages, with no fail number unless it failed
unfoldable pub marks_fit : ℕ → ℕ → ℕ → Bool
marks_fit mark stage fail = eqb mark exchange_mark && leb stage 6 && (eqb stage 6 || eqb fail 0)

-- bytes that an exchange has
unfoldable pub fits : List ℕ → Bool
fits b = eqb (length b) exchange_size && marks_fit (get_or b 0 0) (get_or b 1 0) (get_or b 2 0)

abbrev pub lengths_in : List ℕ → Lengths
lengths_in b = record {
  vc = number16 b 5;
  vs = number16 b 7;
  ic = number16 b 9;
  is = number16 b 11;
  ks = number16 b 13;
  c = number16 b 15;
  s = number16 b 17;
}

-- a contract sees a lent byte as any number, and that it is below 256 is known only where code reads it: of both bytes of a length, and so of all seven.
-- This carries it from the reading to `stored_again`, by which bytes that fit are the encoding of what they decode to
abbrev pub Halves : List ℕ → ℕ → Type 0
Halves b at = (get_or b at 0 < 256) × (get_or b (at + 1) 0 < 256)

pub record LengthBytes (b : List ℕ) : Type 0 where
  pub vc : Halves b 5
  pub vs : Halves b 7
  pub ic : Halves b 9
  pub is : Halves b 11
  pub ks : Halves b 13
  pub c : Halves b 15
  pub s : Halves b 17

pub record CountBytes (b : List ℕ) (at : ℕ) : Type 0 where
  pub h0 : Halves b at
  pub h1 : Halves b (at + 2)
  pub h2 : Halves b (at + 4)
  pub h3 : Halves b (at + 6)

-- and so of every number that an exchange's bytes record
pub record NumberBytes (b : List ℕ) : Type 0 where
  pub lens : LengthBytes b
  pub len : Halves b 154
  pub count : CountBytes b 156

-- the session in them
abbrev pub session_in : List ℕ → Session
session_in b = record { id = drop 164 b; len = number16 b 154; count = number64 b 156 }

unfoldable pub decoded : List ℕ → Exchange
decoded b = record {
  stage = stage_of (get_or b 1 0) (get_or b 2 0);
  role = get_or b 3 0;
  method = get_or b 4 0;
  lens = lengths_in b;
  k = take k_size (drop 19 b);
  h = take h_size (drop 90 b);
  session = session_in b;
}

-- what bytes of another size are loaded as
abbrev pub blank : Exchange
blank = record { stage = Started; role = 0; method = 0; lens = no_lengths; k = zeros k_size; h = zeros h_size; session = no_session }

-- ---- answers that go by lent bytes: one where an exchange has them, or where they are as many as one has; else another

unfoldable pub by_fit : {A : Type 0} → List ℕ → A → A → A
by_fit b new old = cond (fits b) new old

unfoldable pub by_size : {A : Type 0} → List ℕ → A → A → A
by_size b new old = cond (eqb (length b) exchange_size) new old

-- the lengths, K, H and session that bytes of an exchange's size tell; none in others
abbrev pub lengths_told : List ℕ → Lengths
lengths_told b = by_size b (lengths_in b) no_lengths

abbrev pub k_kept : List ℕ → List ℕ
k_kept b = by_size b (take k_size (drop 19 b)) []

abbrev pub h_kept : List ℕ → List ℕ
h_kept b = by_size b (take h_size (drop 90 b)) []

abbrev pub id_len_told : List ℕ → ℕ
id_len_told b = by_size b (number16 b 154) 0

abbrev pub count_told : List ℕ → ℕ
count_told b = by_size b (number64 b 156) 0

abbrev pub id_kept : List ℕ → List ℕ
id_kept b = by_size b (drop 164 b) []
