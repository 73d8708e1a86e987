-- Demand 2 for KEXINIT: what is written is read back as the same fields, and what was read, with no name answered 19, is written again
-- as the same bytes, but for a boolean byte above 1. Assumes nothing.
use Prim.Native.Nat.{ℕ, zero, suc, ◌+◌, ◌-◌, ◌≤◌, ◌<◌}
use mathlib.Core.Path.{◌≡◌, refl, sym, ap, ◌∙◌, subst}
use mathlib.Core.List.{List, [], ◌∷◌, ◌++◌, append_assoc}
use mathlib.Core.Bool.{Bool, true, false, cond, not, ◌&&◌}
use native.Mathlib.Omega.{arith}
use lib.ListN.{length, get_or, take, drop, set, length-append, length-drop, length-set, take-append-drop}
use lib.Seq.{append_snoc, drop-append_seam, get_or-drop, take_all, take_at, drop_at, drop-drop, drop-cons, set_at, set-get_or, length-take-le}
use lib.Dec.{leb, eqb}
use borrow.Author.Tests.{le-leb, le-ltb, eq-eqb, leb-true, eqb-true}
use Rattle.limits.specs.Limits.{kexinit_most, cookie_size, list_count, string_most}
use Rattle.limits.specs.Every.{every}
use Rattle.limits.proofs.BoolLaws.{and_true, both}
use Rattle.limits.proofs.RangeLaws.{within_is}
use Rattle.buffers.specs.Bytes.{Bytes, onto}
use Rattle.wire.specs.Parts.{part, bytes_at}
use Rattle.wire.specs.Strings.{bytes32, number32, number_at, strings, walk, string_part}
use Rattle.wire.specs.Strings.{Walk}
use Rattle.wire.proofs.CauseLaws.{if_fails, unless_holds, unless_none}
use Rattle.wire.proofs.RoundTrip.{number32_bytes32, bytes32_number32}
use Rattle.wire.proofs.StringLaws.{number_at_lem}
use Rattle.wire.proofs.StringsLaws.{walk_strings, body_strings, bodies, length_bodies, strings_walked, body_walked, bytes_drop, part_within}
use Rattle.writers.specs.Writers.{wrote, leaves, front}
use Rattle.writers.proofs.WriterLaws.{writer_front}
use Rattle.messages.proofs.PayloadLaws.{fit_is, cause_none, cause_known}
use Rattle.names.specs.Names.{good_name, good_list, names_of, joined, up_to_bad}
use Rattle.names.specs.Cursor.{cursor_of, bad_name}
use Rattle.names.specs.Run.{Run}
use Rattle.names.specs.declared.Cursor.{Cursor}
use Rattle.names.proofs.RunLaws.{run_list, run_good}
use Rattle.names.proofs.NameLaws.{up_to_bad_all}
use Rattle.names.proofs.JoinLaws.{joined_names}
use Rattle.kexinit.specs.Reader.{kexinit_layout, kexinit_cause, boolean_at, list_part, Head, head_at, open_head, open_list}
use Rattle.kexinit.proofs.ReaderLaws.{head_found, head_number, list_ahead, open_good, open_cursor}
use Rattle.proposal.specs.Proposal.{Kexinit, kexinit_of, kexinit, write_cause}
use Rattle.proposal.specs.ReadAs.{ListRead, ReadAs}
use Rattle.proposal.proofs.WriterLaws.{length_kexinit}

-- ---- what is written is read back

flag_back : (f : Bool) → not (eqb (cond f 1 0) 0) ≡ f
flag_back true = refl
flag_back false = refl

module _ (k : Kexinit) (hc : length k.cookie ≡ cookie_size) (hl : length k.lists ≡ list_count) (hr : k.reserved ≤ string_most) (h : length (kexinit k) ≤ kexinit_most) where
  tail : List ℕ
  tail = cond k.follows 1 0 ∷ bytes32 k.reserved

  head_is : kexinit k ≡ (20 ∷ k.cookie) ++ (strings k.lists ++ tail)
  unfolding kexinit tail
  head_is =
      append_snoc ((20 ∷ k.cookie) ++ strings k.lists) (cond k.follows 1 0) (bytes32 k.reserved)
      ∙ append_assoc (20 ∷ k.cookie) (strings k.lists) (cond k.follows 1 0 ∷ bytes32 k.reserved)

  run : drop 17 (kexinit k) ≡ strings k.lists ++ tail
  run = ap (drop 17) head_is ∙ drop_at (20 ∷ k.cookie) (strings k.lists ++ tail) 17 (omega arith)

  short : length (strings k.lists) ≤ string_most
  short = let n = length_kexinit k in omega arith

  walked : walk (kexinit k) 17 10 ≡ record { number = 0; place = 17 + length (strings k.lists) }
  walked = ap (walk (kexinit k) 17) (sym hl) ∙ walk_strings (kexinit k) 17 k.lists tail short run

  place : boolean_at (kexinit k) ≡ 17 + length (strings k.lists)
  place = ap (λ (w : Walk). w.place) walked

  -- it is accepted
  pub kexinit_complete : kexinit_cause (kexinit k) ≡ 0
  kexinit_complete =
      let n = length_kexinit k in
      let p = place in
      let z : (walk (kexinit k) 17 10).number ≡ 0 = ap (λ (w : Walk). w.number) walked in
      cause_none kexinit_layout (kexinit k) (omega arith) h (ap (λ (s : List ℕ). get_or s 0 0) head_is) (fit_is kexinit_layout (kexinit k) z (omega arith)) (omega arith)

  behind : drop (boolean_at (kexinit k)) (kexinit k) ≡ tail
  behind =
      ap (λ (m : ℕ). drop m (kexinit k)) place
      ∙ sym (drop-drop (length (strings k.lists)) 17 (kexinit k))
      ∙ ap (drop (length (strings k.lists))) run
      ∙ drop-append_seam (strings k.lists) tail

  boolean_back : not (eqb (get_or (kexinit k) (boolean_at (kexinit k)) 0) 0) ≡ k.follows
  unfolding tail
  boolean_back =
      let b = boolean_at (kexinit k) in
      let z : b + 0 ≡ b = omega arith in
      let g : get_or (kexinit k) b 0 ≡ cond k.follows 1 0 =
      ap (λ (m : ℕ). get_or (kexinit k) m 0) (sym z) ∙ sym (get_or-drop b (kexinit k) 0 0) ∙ ap (λ (s : List ℕ). get_or s 0 0) behind in
      ap (λ (v : ℕ). not (eqb v 0)) g ∙ flag_back k.follows

  reserved_back : number_at (kexinit k) (boolean_at (kexinit k) + 1) ≡ k.reserved
  unfolding tail
  reserved_back =
      let b = boolean_at (kexinit k) in
      let n = length_kexinit k in
      let p = place in
      number_at_lem (kexinit k) (b + 1) (omega arith)
      ∙ ap number32 (sym (drop-drop 1 b (kexinit k)) ∙ ap (drop 1) behind)
      ∙ number32_bytes32 k.reserved [] hr

  -- opened, it has its cookie, its boolean and its reserved number
  head_complete : open_head (kexinit k) ≡ record { number = 0; cookie = part 1 cookie_size; follows = k.follows; reserved = k.reserved; position = 0 }
  head_complete =
      sym (head_found (kexinit_cause (kexinit k)) (kexinit k) kexinit_complete)
      ∙ (λ i. record { number = 0; cookie = part 1 cookie_size; follows = boolean_back i; reserved = reserved_back i; position = 0 })

  cookie_complete : bytes_at (kexinit k) (open_head (kexinit k)).cookie ≡ k.cookie
  cookie_complete =
      ap (λ (o : Head). bytes_at (kexinit k) o.cookie) head_complete
      ∙ ap (λ (s : List ℕ). take 16 (drop 1 s)) head_is
      ∙ take_at k.cookie (strings k.lists ++ tail) 16 hc

  -- each list is where the reader says
  list_complete : (n : ℕ) → 1 ≤ n → n ≤ list_count → bytes_at (kexinit k) (list_part (kexinit k) n) ≡ get_or k.lists (n - 1) []
  list_complete n lo hi = body_strings (kexinit k) 17 k.lists tail (n - 1) short run (omega arith)

  -- and its names are yielded up to the end
  list_read : (n : ℕ) → 1 ≤ n → n ≤ list_count → good_list (get_or k.lists (n - 1) []) ≡ true → ListRead (kexinit k) n (get_or k.lists (n - 1) [])
  list_read n lo hi g =
      let l = get_or k.lists (n - 1) [] in
      let e : bytes_at (kexinit k) (list_part (kexinit k) n) ≡ l = list_complete n lo hi in
      let r = run_list (kexinit k) (list_part (kexinit k) n) (part_within (kexinit k) 17 (n - 1)) in
      let c : (open_list (kexinit k) n).cursor ≡ cursor_of (list_part (kexinit k) n) = open_cursor (kexinit k) n (open_good (kexinit k) n (within_is 1 list_count n lo hi) ∙ kexinit_complete) in
      let z : bad_name (names_of l) ≡ 0 = ap (λ (t : Bool). cond t 0 19) g in
      record {
        names = names_of l;
        run =
            subst (λ (x : Cursor). Run (kexinit k) x (names_of l) 0) (sym c)
            (subst (λ (m : ℕ). Run (kexinit k) (cursor_of (list_part (kexinit k) n)) (names_of l) m) z
            (subst (λ (ns : List (List ℕ)). Run (kexinit k) (cursor_of (list_part (kexinit k) n)) ns (bad_name (names_of l))) (up_to_bad_all (names_of l) g)
            (subst (λ (x : List ℕ). Run (kexinit k) (cursor_of (list_part (kexinit k) n)) (up_to_bad (names_of x)) (bad_name (names_of x))) e r)));
        list = sym (joined_names l);
      }

every_get_d : (ls : List (List ℕ)) (i : ℕ) → every good_list ls ≡ true → i < length ls → good_list (get_or ls i []) ≡ true
every_get_d [] i g h = let w : ⊥ = omega arith in absurd w
every_get_d (l ∷ ls) zero g h = (and_true (good_list l) (every good_list ls) g).0
every_get_d (l ∷ ls) (suc i) g h = every_get_d ls i (and_true (good_list l) (every good_list ls) g).1 (omega arith)

bytes_back : (k : Kexinit) (size : ℕ) → length k.lists ≡ list_count → k.reserved ≤ string_most → write_cause size k ≡ 0 → ReadAs (kexinit k) k
unfolding write_cause
bytes_back k size hl hr z =
    let a = (unless_none (eqb (length k.cookie) cookie_size && every good_list k.lists && leb (length (kexinit k)) kexinit_most) 4 _ (omega arith) z).0 in
    let b = and_true (eqb (length k.cookie) cookie_size && every good_list k.lists) (leb (length (kexinit k)) kexinit_most) a in
    let d = and_true (eqb (length k.cookie) cookie_size) (every good_list k.lists) b.0 in
    let hc = eqb-true (length k.cookie) cookie_size d.0 in
    let h = leb-true (length (kexinit k)) kexinit_most b.1 in
    let e = head_complete k hc hl hr h in
    record {
      opens = ap (λ (o : Head). o.number) e;
      cookie = sym (cookie_complete k hc hl hr h);
      ten = hl;
      lists = λ n lo hi. list_read k hc hl hr h n lo hi (every_get_d k.lists (n - 1) d.1 (omega (arith, hl)));
      follows = sym (ap (λ (o : Head). o.follows) e);
      reserved = sym (ap (λ (o : Head). o.reserved) e);
    }

-- what the writer takes and writes, as many bytes of its output as it counts, is read back as the same fields
pub kexinit_back : (k : Kexinit) (out : List ℕ) → length k.lists ≡ list_count → k.reserved ≤ string_most → write_cause (length out) k ≡ 0
    → ReadAs (front (write_cause (length out) k) (kexinit k) out) k
kexinit_back k out hl hr z = subst (λ (p : List ℕ). ReadAs p k) (sym (writer_front (write_cause (length out) k) (kexinit k) out z)) (bytes_back k (length out) hl hr z)

-- ---- what was read is written again

-- the ten lists of a payload
abbrev ten_lists : List ℕ → List (List ℕ)
ten_lists p =
    bytes_at p (list_part p 1)
    ∷ bytes_at p (list_part p 2)
    ∷ bytes_at p (list_part p 3)
    ∷ bytes_at p (list_part p 4)
    ∷ bytes_at p (list_part p 5)
    ∷ bytes_at p (list_part p 6)
    ∷ bytes_at p (list_part p 7)
    ∷ bytes_at p (list_part p 8)
    ∷ bytes_at p (list_part p 9)
    ∷ bytes_at p (list_part p 10)
    ∷ []

-- a payload as a record, by its bytes
abbrev again : List ℕ → Kexinit
again p = kexinit_of (take 16 (drop 1 p)) (ten_lists p) (not (eqb (get_or p (boolean_at p) 0) 0)) (number_at p (boolean_at p + 1))

table : (ℕ → List ℕ) → ℕ → List (List ℕ)
table f zero = []
table f (suc n) = f 0 ∷ table (λ (j : ℕ). f (suc j)) n

table_is : (f : ℕ → List ℕ) (ls : List (List ℕ)) (n : ℕ) → length ls ≡ n → ((j : ℕ) → j < n → get_or ls j [] ≡ f j) → ls ≡ table f n
unfolding table
table_is f [] zero e g = refl
table_is f [] (suc n) e g = let v : ⊥ = omega arith in absurd v
table_is f (l ∷ ls) zero e g = let v : ⊥ = omega arith in absurd v
table_is f (l ∷ ls) (suc n) e g =
    let r = table_is (λ (j : ℕ). f (suc j)) ls n (omega arith) (λ j i. g (suc j) (omega arith)) in
    λ i. g 0 (omega arith) i ∷ r i

every_table : (f : ℕ → List ℕ) (n : ℕ) → ((j : ℕ) → j < n → good_list (f j) ≡ true) → every good_list (table f n) ≡ true
unfolding table
every_table f zero g = refl
every_table f (suc n) g = both (g 0 (omega arith)) (every_table (λ (j : ℕ). f (suc j)) n (λ j i. g (suc j) (omega arith)))

flag_same : (v : ℕ) → v ≤ 1 → cond (not (eqb v 0)) 1 0 ≡ v
flag_same zero h = refl
flag_same (suc v) h = let e : v ≡ 0 = omega arith in ap (λ (m : ℕ). cond (not (eqb (suc m) 0)) 1 0) e ∙ ap suc (sym e)

module _ (p : List ℕ) (y : Bytes p) (c : kexinit_cause p ≡ 0) where
  facts : (get_or p 0 0 ≡ 20) × ((walk p 17 10).number ≡ 0) × (boolean_at p + 5 ≡ length p)
  facts = let g = cause_known kexinit_layout p c in (g.byte, g.walked, g.ends)

  lists_are : bodies p 17 10 ≡ ten_lists p
  unfolding table
  lists_are =
      table_is (λ (j : ℕ). bytes_at p (list_part p (j + 1))) (bodies p 17 10) 10 (length_bodies p 17 10)
      (λ j i. body_walked p 17 10 j facts.1 i ∙ (let e : j ≡ j + 1 - 1 = omega arith in ap (λ (m : ℕ). bytes_at p (string_part p 17 m)) e))

  rest : strings (ten_lists p) ++ drop (boolean_at p) p ≡ drop 17 p
  rest = ap (λ (l : List (List ℕ)). strings l ++ drop (boolean_at p) p) (sym lists_are) ∙ strings_walked p 17 10 y facts.1

  first : List ℕ
  first = (20 ∷ take 16 (drop 1 p)) ++ strings (ten_lists p)

  long : 22 ≤ length p
  long =
      let f = facts in
      let e = ap length rest in
      let n = length-append (strings (ten_lists p)) (drop (boolean_at p) p) in
      let d = length-drop 17 p in
      let b = length-drop (boolean_at p) p in
      omega arith

  length_first : length first ≡ boolean_at p
  unfolding first
  length_first =
      let f = facts in
      let g = long in
      let e = ap length rest in
      let n = length-append (strings (ten_lists p)) (drop (boolean_at p) p) in
      let d = length-drop 17 p in
      let b = length-drop (boolean_at p) p in
      let t = length-take-le 16 (drop 1 p) (omega (arith, length-drop 1 p)) in
      length-append (20 ∷ take 16 (drop 1 p)) (strings (ten_lists p)) ∙ omega arith

  last : drop (boolean_at p) p ≡ get_or p (boolean_at p) 0 ∷ bytes32 (number_at p (boolean_at p + 1))
  last =
      let f = facts in
      let b = boolean_at p in
      let e : suc b ≡ b + 1 = omega arith in
      let n : length (drop (b + 1) p) ≡ 4 = length-drop (b + 1) p ∙ omega arith in
      let r : bytes32 (number_at p (b + 1)) ≡ drop (b + 1) p =
      ap bytes32 (number_at_lem p (b + 1) (omega arith))
      ∙ bytes32_number32 (drop (b + 1) p) (omega arith) (bytes_drop p (b + 1) y)
      ∙ take_all 4 (drop (b + 1) p) (omega arith) in
      drop-cons p b 0 (omega arith) ∙ ap (λ (x : List ℕ). get_or p b 0 ∷ x) (ap (λ (m : ℕ). drop m p) e ∙ sym r)

  payload_is : p ≡ first ++ get_or p (boolean_at p) 0 ∷ bytes32 (number_at p (boolean_at p + 1))
  unfolding first
  payload_is =
      let g = long in
      let k = take 16 (drop 1 p) in
      let d : drop 16 (drop 1 p) ≡ drop 17 p = drop-drop 16 1 p in
      drop-cons p 0 0 (omega arith)
      ∙ (λ i. facts.0 i ∷ (sym (take-append-drop 16 (drop 1 p)) ∙ ap (λ (x : List ℕ). k ++ x) (d ∙ sym rest ∙ ap (λ (x : List ℕ). strings (ten_lists p) ++ x) last)) i)
      ∙ sym (append_assoc (20 ∷ k) (strings (ten_lists p)) (get_or p (boolean_at p) 0 ∷ bytes32 (number_at p (boolean_at p + 1))))

  -- written again it is the payload, with the boolean written as 0 or 1
  kexinit_sound : kexinit (again p) ≡ set p (boolean_at p) (cond (again p).follows 1 0)
  unfolding kexinit first
  kexinit_sound =
      let v : ℕ = cond (again p).follows 1 0 in
      let r = bytes32 (number_at p (boolean_at p + 1)) in
      append_snoc ((20 ∷ take 16 (drop 1 p)) ++ strings (ten_lists p)) v r
      ∙ sym (ap (λ (s : List ℕ). set s (boolean_at p) v) payload_is ∙ set_at first (get_or p (boolean_at p) 0) r v (boolean_at p) length_first)

  -- a record that was read is the payload's own
  module _ (k : Kexinit) (r : ReadAs p k) where
    head_is_at : open_head p ≡ head_at p
    head_is_at = sym (head_found (kexinit_cause p) p c)

    list_good_lem : (n : ℕ) → 1 ≤ n → n ≤ list_count → (get_or k.lists (n - 1) [] ≡ bytes_at p (list_part p n)) × (good_list (bytes_at p (list_part p n)) ≡ true)
    list_good_lem n lo hi =
        let l = r.lists n lo hi in
        let e = open_cursor p n (open_good p n (within_is 1 list_count n lo hi) ∙ c) in
        let g = run_good p (cursor_of (list_part p n)) l.names (subst (λ (x : Cursor). Run p x l.names 0) e l.run) in
        let m = list_ahead p n in
        (l.list ∙ ap joined (g.1 ∙ m) ∙ joined_names (bytes_at p (list_part p n)), ap (every good_name) (sym m) ∙ g.0)

    lists_read : k.lists ≡ ten_lists p
    unfolding table
    lists_read =
        table_is (λ (j : ℕ). bytes_at p (list_part p (j + 1))) k.lists 10 r.ten
        (λ j i. (let e : j ≡ j + 1 - 1 = omega arith in ap (λ (m : ℕ). get_or k.lists m []) e) ∙ (list_good_lem (j + 1) (omega arith) (omega arith)).0)

    read_is : k ≡ again p
    read_is =
        let h = head_is_at in
        let cookie = r.cookie ∙ ap (λ (o : Head). bytes_at p o.cookie) h in
        let follows = r.follows ∙ ap (λ (o : Head). o.follows) h in
        let reserved = r.reserved ∙ ap (λ (o : Head). o.reserved) h in
        let lists = lists_read in
        λ i. kexinit_of (cookie i) (lists i) (follows i) (reserved i)

    all_good : every good_list (ten_lists p) ≡ true
    unfolding table
    all_good = every_table (λ (j : ℕ). bytes_at p (list_part p (j + 1))) 10 (λ j i. (list_good_lem (j + 1) (omega arith) (omega arith)).1)

    written_is : kexinit k ≡ set p (boolean_at p) (cond k.follows 1 0)
    written_is = ap kexinit read_is ∙ kexinit_sound ∙ ap (λ (x : Kexinit). set p (boolean_at p) (cond x.follows 1 0)) (sym read_is)

    length_written : length (kexinit k) ≡ length p
    length_written = ap length written_is ∙ length-set p (boolean_at p) (cond k.follows 1 0)

    no_cause : (size : ℕ) → length p ≤ size → write_cause size k ≡ 0
    unfolding write_cause
    no_cause size h =
        let n = length_written in
        let m = (cause_known kexinit_layout p c).most in
        let t : length k.cookie ≡ cookie_size = ap (λ (x : Kexinit). length x.cookie) read_is ∙ length-take-le 16 (drop 1 p) (omega (arith, length-drop 1 p, long)) in
        let g : every good_list k.lists ≡ true = ap (every good_list) lists_read ∙ all_good in
        unless_holds _ 4 _ (rw (eq-eqb (length k.cookie) cookie_size t, g, le-leb (length (kexinit k)) kexinit_most (omega arith)))
        ∙ if_fails _ 5 0 (le-ltb size (length (kexinit k)) (omega arith))

-- what was read from a payload, with no name answered 19, the writer takes again, into any output that is as long: it answers 0 and the
-- payload's length, and the output begins with the payload's bytes, the boolean's byte written as 0 or 1
pub kexinit_again : (p : List ℕ) (k : Kexinit) (out : List ℕ) → Bytes p → ReadAs p k → length p ≤ length out
    → (wrote (write_cause (length out) k) (kexinit k) ≡ record { number = 0; count = length p })
    × (leaves (write_cause (length out) k) (kexinit k) out ≡ onto out (set p (boolean_at p) (cond k.follows 1 0)))
unfolding wrote leaves
kexinit_again p k out y r h =
    let c : kexinit_cause p ≡ 0 = sym (head_number (kexinit_cause p) p) ∙ r.opens in
    let z = no_cause p y c k r (length out) h in
    let n = length_written p y c k r in
    (rw z (ap (λ (m : ℕ). record { number = 0; count = m }) n), rw z (ap (onto out) (written_is p y c k r)))

-- the payload itself where that byte is 0 or 1
pub kexinit_same : (p : List ℕ) (k : Kexinit) (out : List ℕ) → Bytes p → ReadAs p k → length p ≤ length out → get_or p (boolean_at p) 0 ≤ 1
    → leaves (write_cause (length out) k) (kexinit k) out ≡ onto out p
kexinit_same p k out y r h b =
    let c : kexinit_cause p ≡ 0 = sym (head_number (kexinit_cause p) p) ∙ r.opens in
    let f : k.follows ≡ not (eqb (get_or p (boolean_at p) 0) 0) = ap (λ (x : Kexinit). x.follows) (read_is p y c k r) in
    (kexinit_again p k out y r h).1
    ∙ ap (λ (t : Bool). onto out (set p (boolean_at p) (cond t 1 0))) f
    ∙ ap (λ (v : ℕ). onto out (set p (boolean_at p) v)) (flag_same (get_or p (boolean_at p) 0) b)
    ∙ ap (onto out) (set-get_or p (boolean_at p) 0)
