-- What outlasts an exchange: a session over any list of calls, the room that a beginning finds, and lists that never begin again; and a beginning's causes
-- beside a start's. Assumes nothing.
use Prim.Native.Nat.{ℕ, ◌+◌, ◌-◌, ◌≤◌}
use mathlib.Core.Path.{◌≡◌, refl, sym, ap, ◌∙◌}
use mathlib.Core.Logic.{◌⊎◌, inl, inr, ⊎_elim}
use mathlib.Core.List.{List, [], ◌∷◌, ◌++◌}
use mathlib.Core.Bool.{Bool, true, false, cond, ◌&&◌, false≢true}
use native.Mathlib.Omega.{arith}
use lib.ListN.{length, get_or, drop, get_or-append}
use lib.Seq.{get_or-append-add, get_or-drop}
use lib.Dec.{eqb, ltb}
use borrow.Author.Tests.{ne_eqb, ltb-true, ltb-false}
use Rattle.limits.specs.Limits.{k_size, h_size, count_most, room_least}
use Rattle.buffers.specs.Bytes.{zeros, onto}
use Rattle.wire.specs.Causes.{cause_if, cause_unless, or_else}
use Rattle.exchange.specs.Numbers.{Kind, accepted, refused, fault, kind, by_kind}
use Rattle.exchange.specs.Causes.{method_ok, role_ok, version_ok, kexinit_ok, start_cause, again_cause}
use Rattle.exchange.specs.Record.{no_session, ended, is_complete}
use Rattle.exchange.specs.Steps.{Call, own_c, init, reply, secret, sign, verdict, number, one_more, with_last, taken, exchange_after, lengths_of, started}
use Rattle.exchange.specs.Again.{again_number, begun_again, again_after, again_room, Turn, step, again, turn_number, turn_after, turn_room}
use Rattle.exchange.specs.Book.{Past, Book, opened, first_cause, moved, dropped, noted, hash_input, left_by, room_told, last_book}
use Rattle.exchange.specs.Demand.{last_exchange}
use Rattle.exchange.specs.declared.Stage.TheVariants.{Started}
use Rattle.exchange.specs.declared.Session.{Session}
use Rattle.exchange.specs.declared.Exchange.{Exchange}
use Rattle.exchange.specs.declared.Step.{Step}
use Rattle.exchange.proofs.KindLaws.{kind_accepted, kind_is_accepted}

-- ---- the start, and to begin again

-- a start, refused or accepted, has no session behind it
pub start_fresh : (role m : ℕ) (vc vs ic is : List ℕ) (room : ℕ) → (started role m vc vs ic is room).exchange.session ≡ no_session
unfolding started ended
start_fresh role m vc vs ic is room = by_test (eqb (start_cause role m vc vs ic is room) 0)
  where
    by_test : (t : Bool)
        → (cond {A = Step} t
        (record { number = 0; count = 0; second = 0; exchange = record { stage = Started; role = role; method = m; lens = lengths_of vc vs ic is; k = zeros k_size; h = zeros h_size; session = no_session }; position = 0 })
        (record { number = start_cause role m vc vs ic is room; count = 0; second = 0; exchange = ended (start_cause role m vc vs ic is room) 0 0 no_session; position = 0 })).exchange.session ≡ no_session
    by_test true = refl
    by_test false = refl

-- 2, 3 and 4 of a beginning are those of a start whose role and both V are in order; then it looks at the count
pub again_as_start : (role m : ℕ) (vc vs ic is : List ℕ) (room count : ℕ) → role_ok role ≡ true → version_ok vc ≡ true → version_ok vs ≡ true
    → again_cause m ic is room count ≡ or_else (start_cause role m vc vs ic is room) (cause_if (eqb count count_most) 23 0)
unfolding start_cause again_cause cause_if cause_unless or_else
again_as_start role m vc vs ic is room count r c s =
    rw (r, c, s) (by_test (method_ok m) (ltb room room_least) (kexinit_ok ic) (kexinit_ok is) (cause_if (eqb count count_most) 23 0))
  where
    by_test : (t u v w : Bool) (n : ℕ)
        → cause_unless t 2 (cause_if u 3 (cause_unless (v && w) 4 n)) ≡ or_else (cause_unless (t && true) 2 (cause_if u 3 (cause_unless (true && true && v && w) 4 0))) n
    by_test true true v w n = refl
    by_test true false true true n = refl
    by_test true false true false n = refl
    by_test true false false w n = refl
    by_test false u v w n = refl

-- a refused beginning changes nothing
pub again_refused_keeps : (e : Exchange) (room : List ℕ) (m : ℕ) (ic is : List ℕ) → (again_number e (length room) m ic is ≡ 0 → ⊥)
    → (again_after e (length room) m ic is ≡ e) × (again_room e room m ic is ≡ room)
unfolding again_after again_room
again_refused_keeps e room m ic is n = let z = ne_eqb (again_number e (length room) m ic is) 0 n in (rw z, rw z)

-- ---- a session moves at a last step that is accepted, and at no other call: of any record at all

-- a role's last step: a server's signature, a client's verdict
abbrev pub is_last : Turn → Bool
is_last (step (own_c c out)) = false
is_last (step (init p)) = false
is_last (step (reply p)) = false
is_last (step (secret cl x kem k_pq ks s)) = false
is_last (step (sign g out k_out)) = true
is_last (step (verdict u v k_out)) = true
is_last (again m ic is) = false

taken_moves : (e : Exchange) (room : List ℕ) (q : Call) → ((taken e room q).session ≡ e.session) ⊎ ((is_last (step q) ≡ true) × (taken e room q ≡ with_last e))
unfolding taken
taken_moves e room (own_c c out) = inl refl
taken_moves e room (init p) = inl refl
taken_moves e room (reply p) = inl refl
taken_moves e room (secret cl x kem k_pq ks s) = inl refl
taken_moves e room (sign g out k_out) = inr (refl, refl)
taken_moves e room (verdict u v k_out) = inr (refl, refl)

step_moves : (e : Exchange) (room : List ℕ) (q : Call)
    → ((exchange_after e room q).session ≡ e.session) ⊎ ((is_last (step q) ≡ true) × (number e room q ≡ 0) × (exchange_after e room q ≡ with_last e))
unfolding exchange_after ended
step_moves e room q = by_kind_lem (number e room q) (kind (number e room q)) refl
  where
    by_kind_lem : (n : ℕ) (k : Kind) → kind n ≡ k
        → ((by_kind k (taken e room q) e (ended n e.role e.method e.session)).session ≡ e.session)
        ⊎ ((is_last (step q) ≡ true) × (n ≡ 0) × (by_kind k (taken e room q) e (ended n e.role e.method e.session) ≡ with_last e))
    by_kind_lem n accepted c =
        ⊎_elim (λ (a : (taken e room q).session ≡ e.session). inl a) (λ (a : (is_last (step q) ≡ true) × (taken e room q ≡ with_last e)). inr (a.0, kind_is_accepted n c, a.1)) (taken_moves e room q)
    by_kind_lem n refused c = inl refl
    by_kind_lem n fault c = inl refl

-- it stays, or the exchange's last step was accepted, which completes and counts it
pub session_moves : (e : Exchange) (room : List ℕ) (q : Turn)
    → ((turn_after e room q).session ≡ e.session) ⊎ ((is_last q ≡ true) × (turn_number e room q ≡ 0) × (turn_after e room q ≡ with_last e))
unfolding again_after
session_moves e room (step q) = step_moves e room q
session_moves e room (again m ic is) = inl (by_test (eqb (again_number e (length room) m ic is) 0))
  where
    by_test : (t : Bool) → (cond t (begun_again e m (length ic) (length is)) e).session ≡ e.session
    by_test true = refl
    by_test false = refl

-- an accepted last step always does
pub last_counts : (e : Exchange) (room : List ℕ) (q : Turn) → is_last q ≡ true → turn_number e room q ≡ 0 → turn_after e room q ≡ with_last e
unfolding exchange_after taken
last_counts e room (step (own_c c out)) l z = absurd (false≢true l)
last_counts e room (step (init p)) l z = absurd (false≢true l)
last_counts e room (step (reply p)) l z = absurd (false≢true l)
last_counts e room (step (secret cl x kem k_pq ks s)) l z = absurd (false≢true l)
last_counts e room (step (sign g out k_out)) l z = rw (kind_accepted (number e room (sign g out k_out)) z)
last_counts e room (step (verdict u v k_out)) l z = rw (kind_accepted (number e room (verdict u v k_out)) z)
last_counts e room (again m ic is) l z = absurd (false≢true l)

-- a call that leaves no complete exchange leaves the session
pub last_alone : (e : Exchange) (room : List ℕ) (q : Turn) → is_complete (turn_after e room q).stage ≡ false → (turn_after e room q).session ≡ e.session
last_alone e room q c =
    ⊎_elim
    (λ (a : (turn_after e room q).session ≡ e.session). a)
    (λ (a : (is_last q ≡ true) × (turn_number e room q ≡ 0) × (turn_after e room q ≡ with_last e)). absurd (false≢true (sym c ∙ ap (λ (x : Exchange). is_complete x.stage) a.2)))
    (session_moves e room q)

-- ---- once an exchange was completed, the identifier and its length never change, faults included, and the count never falls: of any record at all

pub record Kept (s t : Session) : Type 0 where
  pub id : t.id ≡ s.id
  pub len : t.len ≡ s.len
  pub count : s.count ≤ t.count

same_kept : (s : Session) → Kept s s
same_kept s = record { id = refl; len = refl; count = omega arith }

more_kept : (m : ℕ) (h : List ℕ) (s : Session) → (s.count ≡ 0 → ⊥) → Kept s (one_more m h s)
unfolding one_more
more_kept m h s n = record { id = rw (ne_eqb s.count 0 n); len = rw (ne_eqb s.count 0 n); count = omega arith }

taken_kept : (e : Exchange) (room : List ℕ) (q : Call) → (e.session.count ≡ 0 → ⊥) → Kept e.session (taken e room q).session
unfolding taken
taken_kept e room (own_c c out) n = same_kept e.session
taken_kept e room (init p) n = same_kept e.session
taken_kept e room (reply p) n = same_kept e.session
taken_kept e room (secret cl x kem k_pq ks s) n = same_kept e.session
taken_kept e room (sign g out k_out) n = more_kept e.method e.h e.session n
taken_kept e room (verdict u v k_out) n = more_kept e.method e.h e.session n

step_kept : (e : Exchange) (room : List ℕ) (q : Call) → (e.session.count ≡ 0 → ⊥) → Kept e.session (exchange_after e room q).session
unfolding exchange_after ended
step_kept e room q n = by_kind_lem (kind (number e room q)) (number e room q)
  where
    by_kind_lem : (k : Kind) (i : ℕ) → Kept e.session (by_kind k (taken e room q) e (ended i e.role e.method e.session)).session
    by_kind_lem accepted i = taken_kept e room q n
    by_kind_lem refused i = same_kept e.session
    by_kind_lem fault i = same_kept e.session

again_kept : (e : Exchange) (room m : ℕ) (ic is : List ℕ) → Kept e.session (again_after e room m ic is).session
unfolding again_after
again_kept e room m ic is = by_test (eqb (again_number e room m ic is) 0)
  where
    by_test : (t : Bool) → Kept e.session (cond t (begun_again e m (length ic) (length is)) e).session
    by_test true = same_kept e.session
    by_test false = same_kept e.session

turn_kept : (e : Exchange) (room : List ℕ) (q : Turn) → (e.session.count ≡ 0 → ⊥) → Kept e.session (turn_after e room q).session
turn_kept e room (step q) n = step_kept e room q n
turn_kept e room (again m ic is) n = again_kept e (length room) m ic is

pub session_kept : (e : Exchange) (room : List ℕ) (qs : List Turn) → (e.session.count ≡ 0 → ⊥) → Kept e.session (last_exchange e room qs).session
session_kept e room [] n = same_kept e.session
session_kept e room (q ∷ qs) n =
    let a = turn_kept e room q n in
    let c = a.count in
    let b = session_kept (turn_after e room q) (turn_room e room q) qs (λ z. n (omega arith)) in
    let d = b.count in
    record { id = b.id ∙ a.id; len = b.len ∙ a.len; count = omega arith }

-- ---- the room that a beginning finds, byte by byte

-- byte i is of the latest exchange whose hash input is longer than i, else of the room that was lent to the start
abbrev pub byte_left : List Past → List ℕ → ℕ → ℕ
byte_left [] room i = get_or room i 0
byte_left (x ∷ past) room i = cond (ltb i (length (hash_input x.fields))) (get_or (hash_input x.fields) i 0) (byte_left past room i)

byte_onto : (l x : List ℕ) (i : ℕ) → get_or (onto l x) i 0 ≡ cond (ltb i (length x)) (get_or x i 0) (get_or l i 0)
unfolding onto
byte_onto l x i = by_test (ltb i (length x)) refl
  where
    by_test : (t : Bool) → ltb i (length x) ≡ t → get_or (x ++ drop (length x) l) i 0 ≡ cond t (get_or x i 0) (get_or l i 0)
    by_test true e = get_or-append x (drop (length x) l) 0 i (ltb-true i (length x) e)
    by_test false e =
        let h = ltb-false i (length x) e in
        let n : i ≡ length x + (i - length x) = omega arith in
        ap (λ (j : ℕ). get_or (x ++ drop (length x) l) j 0) n ∙ get_or-append-add x (drop (length x) l) (i - length x) 0 ∙ get_or-drop (length x) l (i - length x) 0 ∙ ap (λ (j : ℕ). get_or l j 0) (sym n)

pub left_byte : (past : List Past) (room : List ℕ) (i : ℕ) → get_or (left_by past room) i 0 ≡ byte_left past room i
left_byte [] room i = refl
left_byte (x ∷ past) room i =
    byte_onto (left_by past room) (hash_input x.fields) i ∙ ap (cond (ltb i (length (hash_input x.fields))) (get_or (hash_input x.fields) i 0)) (left_byte past room i)

-- ---- a list that never begins again has no exchange before, and its room is told over the room that was lent to the start

abbrev pub NoAgain : List Turn → Type 0
NoAgain [] = Unit {0}
NoAgain (step q ∷ qs) = NoAgain qs
NoAgain (again m ic is ∷ qs) = ⊥

noted_past : (room : ℕ) (b : Book) (q : Call) → (noted room b q).past ≡ b.past
unfolding noted
noted_past room b q = by_kind_lem (kind (first_cause room b q))
  where
    by_kind_lem : (k : Kind) → (by_kind k (moved b q) b (dropped b)).past ≡ b.past
    by_kind_lem accepted = refl
    by_kind_lem refused = refl
    by_kind_lem fault = refl

pub no_past : (room : ℕ) (b : Book) (qs : List Turn) → NoAgain qs → (last_book room b qs).past ≡ b.past
no_past room b [] n = refl
no_past room b (step q ∷ qs) n = no_past room (noted room b q) qs n ∙ noted_past room b q
no_past room b (again m ic is ∷ qs) n = absurd n

pub room_as_before : (role m : ℕ) (vc vs ic is room : List ℕ) (qs : List Turn) → NoAgain qs →
    let b = last_book (length room) (opened role m vc vs ic is) qs in
    room_told b room ≡ cond b.faulted (zeros (length room)) (onto room (hash_input b.fields))
unfolding room_told opened
room_as_before role m vc vs ic is room qs n =
    let b = last_book (length room) (opened role m vc vs ic is) qs in
    ap (λ (p : List Past). cond b.faulted (zeros (length room)) (onto (left_by p room) (hash_input b.fields))) (no_past (length room) (opened role m vc vs ic is) qs n)
