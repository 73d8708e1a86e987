-- Laws of `specs/Choice.antt`: a law for each answer of `judge_payload` and `choose`, and what a caller knows by the number. Assumes nothing.
use Prim.Native.Nat.{ℕ, zero, suc, ◌+◌, ◌-◌, ◌≤◌, ◌<◌}
use mathlib.Core.Path.{◌≡◌, refl, sym, ap, ◌∙◌}
use mathlib.Core.List.{List, []}
use mathlib.Core.Bool.{Bool, true, false, cond, not, ◌&&◌}
use native.Mathlib.Omega.{arith}
use lib.ListN.{length, take, drop, length-drop}
use lib.Seq.{length-take-le}
use lib.Dec.{eqb}
use borrow.Author.Tests.{eq-eqb, ne_eqb, eqb-true, eqb-false}
use Rattle.buffers.specs.Bytes.{same}
use Rattle.wire.specs.Parts.{bytes_at}
use Rattle.wire.specs.declared.Part.{Part}
use Rattle.wire.proofs.CauseLaws.{if_holds, if_fails, unless_holds, unless_fails, unless_none, or_else_first, or_else_second, or_else_none}
use Rattle.limits.specs.Limits.{list_count}
use Rattle.limits.proofs.BoolLaws.{and_true}
use Rattle.limits.specs.Every.{every}
use Rattle.names.specs.Names.{good_name, good_list, up_to_bad, names_of}
use Rattle.names.specs.Cursor.{cursor_of, names_cause, bad_name}
use Rattle.names.specs.declared.Cursor.{Cursor}
use Rattle.names.proofs.NameLaws.{up_to_bad_all}
use Rattle.kexinit.specs.Reader.{kexinit_cause, list_part, list_names, Head, head_refused, head_by, open_head}
use Rattle.kexinit.proofs.ReaderLaws.{head_other, head_number, list_ahead, list_at}
use Rattle.common.specs.Common.{any, every_name, common, method_in, common_part, first_of}
use Rattle.choice.specs.Choice.{Choice, lists_from, all_lists, payload_cause, judged_head, method_from, host_key_from, choice_cause, guessed_wrong, choice_refused, chosen}
use Rattle.common.proofs.CommonLaws.{names_from, Placed, common_placed}

-- ---- the lists that are left to judge

-- the lists with i ahead of them
abbrev pub lists_left : ℕ → List ℕ
lists_left i = lists_from (suc i) (list_count - i)

every_count : (f : ℕ → Bool) (a k n : ℕ) → every f (lists_from a k) ≡ true → a ≤ n → n < a + k → f n ≡ true
every_count f a zero n e h l = let w : ⊥ = omega arith in absurd w
every_count f a (suc k) n e h l =
    let b = and_true (f a) (every f (lists_from (suc a) k)) e in
    by_test (eqb n a) refl b.0 (λ (g : suc a ≤ n). every_count f (suc a) k n b.1 g (omega arith))
  where
    by_test : (t : Bool) → eqb n a ≡ t → f a ≡ true → (suc a ≤ n → f n ≡ true) → f n ≡ true
    by_test true q x y = ap f (eqb-true n a q) ∙ x
    by_test false q x y = let z = eqb-false n a q in y (omega arith)

module _ (p : List ℕ) where
  -- whether every name of a list is good
  abbrev pub list_good : ℕ → Bool
  list_good n = good_list (bytes_at p (list_part p n))

  -- what is left to judge makes of the next list and of those behind it
  pub lists_next : (i : ℕ) → i < list_count → every list_good (lists_left i) ≡ list_good (suc i) && every list_good (lists_left (i + 1))
  lists_next i h =
      let e : list_count - i ≡ suc (list_count - (i + 1)) = omega arith in
      let m : suc i ≡ i + 1 = omega arith in
      ap (λ (k : ℕ). every list_good (lists_from (suc i) k)) e ∙ ap (λ (k : ℕ). list_good (suc i) && every list_good (lists_from (suc k) (list_count - (i + 1)))) m

  -- the next list has a bad name
  pub lists_bad : (i : ℕ) → i < list_count → list_good (suc i) ≡ false → every list_good (lists_left i) ≡ false
  lists_bad i h e = lists_next i h ∙ ap (λ (t : Bool). t && every list_good (lists_left (i + 1))) e

  -- it has none
  pub lists_good : (i : ℕ) → i < list_count → list_good (suc i) ≡ true → every list_good (lists_left (i + 1)) ≡ every list_good (lists_left i)
  lists_good i h e = sym (lists_next i h ∙ ap (λ (t : Bool). t && every list_good (lists_left (i + 1))) e)

  -- behind the tenth list nothing is left
  pub lists_end : (i : ℕ) → list_count ≤ i → every list_good (lists_left i) ≡ true
  lists_end i h = let e : list_count - i ≡ 0 = omega arith in ap (λ (k : ℕ). every list_good (lists_from (suc i) k)) e

  -- ---- a list's names, by the answer of `judge_names`

  names_cause_lem : (n : ℕ) → names_cause p (cursor_of (list_part p n)) ≡ bad_name (list_names p n)
  unfolding names_cause
  names_cause_lem n = ap bad_name (list_ahead p n)

  -- 19: a name is bad
  pub list_bad : (n : ℕ) → (names_cause p (cursor_of (list_part p n)) ≡ 0 → ⊥) → list_good n ≡ false
  list_bad n b = by_test (list_good n) refl
    where
      by_test : (t : Bool) → list_good n ≡ t → list_good n ≡ false
      by_test true q = absurd (b (names_cause_lem n ∙ ap (λ (t : Bool). cond t 0 19) q))
      by_test false q = q

  -- which is the number
  pub list_number : (n : ℕ) → list_good n ≡ false → names_cause p (cursor_of (list_part p n)) ≡ 19
  list_number n e = names_cause_lem n ∙ ap (λ (t : Bool). cond t 0 19) e

  -- 0: none is
  pub list_fine : (n : ℕ) → names_cause p (cursor_of (list_part p n)) ≡ 0 → list_good n ≡ true
  list_fine n b = by_test (list_good n) refl
    where
      by_test : (t : Bool) → list_good n ≡ t → list_good n ≡ true
      by_test true q = q
      by_test false q =
          let z : ◌≡◌ {A = ℕ} 19 0 = sym (ap (λ (t : Bool). cond t 0 19) q) ∙ sym (names_cause_lem n) ∙ b in
          let w : ⊥ = omega arith in
          absurd w

  -- ---- payload_cause

  -- it is refused as a KEXINIT
  payload_refused : (kexinit_cause p ≡ 0 → ⊥) → kexinit_cause p ≡ payload_cause p
  unfolding payload_cause
  payload_refused h = sym (or_else_first (kexinit_cause p) _ h)

  pub head_kept : (h : Head) → h ≡ open_head p → (h.number ≡ 0 → ⊥) → h ≡ judged_head p
  head_kept h e z =
      let n : h.number ≡ kexinit_cause p = ap (λ (x : Head). x.number) e ∙ head_number (kexinit_cause p) p in
      e ∙ ap (λ (k : ℕ). head_by k p) (payload_refused (λ q. z (n ∙ q)))

  -- a bad name
  pub head_bad : kexinit_cause p ≡ 0 → every list_good all_lists ≡ false → head_refused 19 0 ≡ judged_head p
  unfolding payload_cause
  head_bad h k = head_other 19 p (λ z. omega arith) refl ∙ ap (λ (m : ℕ). head_by m p) (sym (or_else_second (kexinit_cause p) _ h ∙ unless_fails _ 19 0 k))

  -- no cause
  pub head_good : (h : Head) → h ≡ open_head p → kexinit_cause p ≡ 0 → every list_good all_lists ≡ true → h ≡ judged_head p
  unfolding payload_cause
  head_good h e z k = e ∙ ap (λ (m : ℕ). head_by m p) (z ∙ sym (or_else_second (kexinit_cause p) _ z ∙ unless_holds _ 19 0 k))

  -- what a caller knows by the number
  pub head_cause : (h : Head) → h ≡ judged_head p → h.number ≡ payload_cause p
  head_cause h e = ap (λ (x : Head). x.number) e ∙ head_number (payload_cause p) p

  -- what is known of a payload that is judged good
  pub payload_known : payload_cause p ≡ 0 → (kexinit_cause p ≡ 0) × (every list_good all_lists ≡ true)
  unfolding payload_cause
  payload_known e =
      let a = or_else_none (kexinit_cause p) _ e in
      (a.0, (unless_none (every list_good all_lists) 19 0 (omega arith) a.1).0)

  -- each of its ten lists has good names only
  pub list_good_lem : (n : ℕ) → 1 ≤ n → n ≤ list_count → payload_cause p ≡ 0 → every good_name (list_names p n) ≡ true
  list_good_lem n h k e = every_count list_good 1 10 n (payload_known e).1 h (omega arith)

  pub follows_is : (h : Head) → h ≡ judged_head p → payload_cause p ≡ 0 → h.follows ≡ (open_head p).follows
  follows_is h e z = ap (λ (x : Head). x.follows) e ∙ ap (λ (k : ℕ). (head_by k p).follows) (z ∙ sym (payload_known z).0)

  -- so a cursor at a list's beginning names_from all its names
  pub names_from_list : (n : ℕ) (c : Cursor) → 1 ≤ n → n ≤ list_count → payload_cause p ≡ 0 → c ≡ cursor_of (list_part p n) → names_from p c ≡ list_names p n
  names_from_list n c h k e q =
      ap (names_from p) q
      ∙ ap up_to_bad (list_ahead p n)
      ∙ up_to_bad_all (list_names p n) (list_good_lem n h k e)

  -- a common name's place counts from the list's beginning, where the cursor stands
  part_from : (n : ℕ) (server : List (List ℕ))
      → common_part (cursor_of (list_part p n)).at (list_names p n) server ≡ common_part (list_part p n).start (list_names p n) server
  part_from n server = by_test (eqb (list_part p n).len 0) refl
    where
      by_test : (t : Bool) → eqb (list_part p n).len 0 ≡ t
          → common_part (cursor_of (list_part p n)).at (list_names p n) server ≡ common_part (list_part p n).start (list_names p n) server
      by_test true q =
          let z : list_names p n ≡ [] = ap (λ (l : ℕ). names_of (take l (drop (list_part p n).start p))) (eqb-true (list_part p n).len 0 q) in
          ap (λ (l : List (List ℕ)). common_part (cursor_of (list_part p n)).at l server) z
          ∙ sym (ap (λ (l : List (List ℕ)). common_part (list_part p n).start l server) z)
      by_test false q =
          let z = eqb-false (list_part p n).len 0 q in
          ap (λ (at : ℕ). common_part at (list_names p n) server) (list_at p n (omega arith))

-- ---- the searches over two payloads that are judged good

module _ (client server : List ℕ) (a : payload_cause client ≡ 0) (b : payload_cause server ≡ 0) (n : ℕ) (h : 1 ≤ n) (k : n ≤ list_count)
    (c d : Cursor) (x : c ≡ cursor_of (list_part client n)) (y : d ≡ cursor_of (list_part server n)) where
  -- each search over the names that two cursors yield is one over the lists' names: the method's
  pub method_list : (m : ℕ) → m ≡ method_in any (names_from client c) (names_from server d) → m ≡ method_in any (list_names client n) (list_names server n)
  method_list m e =
      let u = names_from_list client n c h k a x in
      let v = names_from_list server n d h k b y in
      e ∙ (λ i. method_in any (u i) (v i))

  -- the host key name's
  pub part_list : (p : Part) → p ≡ common_part c.at (names_from client c) (names_from server d)
      → p ≡ common_part (list_part client n).start (list_names client n) (list_names server n)
  part_list p e =
      let u = names_from_list client n c h k a x in
      let v = names_from_list server n d h k b y in
      e ∙ (λ i. common_part (x i).at (u i) (v i)) ∙ part_from client n (list_names server n)

  -- whether the first names are the same
  pub first_list : (t : Bool) → t ≡ same (first_of (names_from client c)) (first_of (names_from server d))
      → same (first_of (list_names client n)) (first_of (list_names server n)) ≡ t
  first_list t e =
      let u = names_from_list client n c h k a x in
      let v = names_from_list server n d h k b y in
      sym (e ∙ (λ i. same (first_of (u i)) (first_of (v i))))

-- ---- the host key name

module _ (client server : List ℕ) (a : payload_cause client ≡ 0) (b : payload_cause server ≡ 0) where
  first_common : List ℕ
  first_common = common every_name (list_names client 2) (list_names server 2)

  placed : Placed client (host_key_from client server) first_common
  unfolding first_common
  placed =
      let c : Cursor = cursor_of (list_part client 2) in
      let d : Cursor = cursor_of (list_part server 2) in
      let l = part_list client server a b 2 (omega arith) (omega arith) (cursor_of (list_part client 2)) (cursor_of (list_part server 2)) refl refl _ refl in
      let u = names_from_list client 2 (cursor_of (list_part client 2)) (omega arith) (omega arith) a refl in
      let v = names_from_list server 2 (cursor_of (list_part server 2)) (omega arith) (omega arith) b refl in
      let w = common_placed (names_from server (cursor_of (list_part server 2))) client (cursor_of (list_part client 2)) in
      record {
        bytes = ap (bytes_at client) (sym l) ∙ w.bytes ∙ (λ i. common every_name (u i) (v i));
        within = omega (arith, w.within, ap (λ (x : Part). x.start) l, ap (λ (x : Part). x.len) l);
      }

  -- the bytes at its place are the first of the client's names that stands in the server's list
  pub host_key : bytes_at client (host_key_from client server) ≡ common every_name (list_names client 2) (list_names server 2)
  unfolding first_common
  host_key = placed.bytes

  -- and so it is empty, which is 21, exactly where there is no such name
  pub host_key_length : (host_key_from client server).len ≡ length (common every_name (list_names client 2) (list_names server 2))
  unfolding first_common
  host_key_length =
      let w = placed.within in
      sym (length-take-le (host_key_from client server).len (drop (host_key_from client server).start client) (omega (arith, length-drop (host_key_from client server).start client)))
      ∙ ap length placed.bytes

-- ---- guessed_wrong

module _ (client server : List ℕ) where
  -- those of list 1 differ
  pub guess_method : same (first_of (list_names client 1)) (first_of (list_names server 1)) ≡ false → guessed_wrong client server ≡ true
  guess_method h = rw h

  -- they do not: then those of list 2 say it
  pub guess_host_key : same (first_of (list_names client 1)) (first_of (list_names server 1)) ≡ true
      → guessed_wrong client server ≡ not (same (first_of (list_names client 2)) (first_of (list_names server 2)))
  guess_host_key h = rw h

  -- both first names are the same
  pub guess_right : same (first_of (list_names client 1)) (first_of (list_names server 1)) ≡ true
      → same (first_of (list_names client 2)) (first_of (list_names server 2)) ≡ true → guessed_wrong client server ≡ false
  guess_right h k = guess_host_key h ∙ ap not k

module _ (allowed : ℕ → Bool) (client server : List ℕ) where
  -- ---- choice_cause

  -- the client's payload is refused
  pub choice_client : (payload_cause client ≡ 0 → ⊥) → choice_cause allowed client server ≡ payload_cause client
  unfolding choice_cause
  choice_client h = or_else_first (payload_cause client) _ h

  -- the server's is
  pub choice_server : payload_cause client ≡ 0 → (payload_cause server ≡ 0 → ⊥) → choice_cause allowed client server ≡ payload_cause server
  unfolding choice_cause
  choice_server a h = or_else_second (payload_cause client) _ a ∙ or_else_first (payload_cause server) _ h

  -- no common method
  pub choice_method : payload_cause client ≡ 0 → payload_cause server ≡ 0 → method_from allowed client server ≡ 0 → choice_cause allowed client server ≡ 20
  unfolding choice_cause
  choice_method a b m =
      or_else_second (payload_cause client) _ a ∙ or_else_second (payload_cause server) _ b ∙ if_holds _ 20 _ (eq-eqb (method_from allowed client server) 0 m)

  -- no common host key name
  pub choice_host_key : payload_cause client ≡ 0 → payload_cause server ≡ 0 → (method_from allowed client server ≡ 0 → ⊥)
      → (host_key_from client server).len ≡ 0 → choice_cause allowed client server ≡ 21
  unfolding choice_cause
  choice_host_key a b m h =
      or_else_second (payload_cause client) _ a ∙ or_else_second (payload_cause server) _ b ∙ if_fails _ 20 _ (ne_eqb (method_from allowed client server) 0 m)
      ∙ if_holds _ 21 0 (eq-eqb (host_key_from client server).len 0 h)

  -- no cause
  pub choice_none : payload_cause client ≡ 0 → payload_cause server ≡ 0 → (method_from allowed client server ≡ 0 → ⊥)
      → ((host_key_from client server).len ≡ 0 → ⊥) → choice_cause allowed client server ≡ 0
  unfolding choice_cause
  choice_none a b m h =
      or_else_second (payload_cause client) _ a ∙ or_else_second (payload_cause server) _ b ∙ if_fails _ 20 _ (ne_eqb (method_from allowed client server) 0 m)
      ∙ if_fails _ 21 0 (ne_eqb (host_key_from client server).len 0 h)

  -- where there is no cause both payloads are judged good
  pub choice_known : choice_cause allowed client server ≡ 0 → (payload_cause client ≡ 0) × (payload_cause server ≡ 0)
  unfolding choice_cause
  choice_known e =
      let a = or_else_none (payload_cause client) _ e in
      (a.0, (or_else_none (payload_cause server) _ a.1).0)

  -- ---- chosen

  -- a refusal
  pub chosen_refused : (k : ℕ) → choice_cause allowed client server ≡ k → (k ≡ 0 → ⊥) → choice_refused k ≡ chosen allowed client server
  unfolding chosen
  chosen_refused k e z = rw (e, ne_eqb k 0 z)

  -- a choice
  pub chosen_found : choice_cause allowed client server ≡ 0
      → chosen allowed client server ≡ record {
        number = 0;
        method = method_from allowed client server;
        host_key = host_key_from client server;
        ignore_client = (open_head client).follows && guessed_wrong client server;
        ignore_server = (open_head server).follows && guessed_wrong client server;
      }
  unfolding chosen
  chosen_found e = rw e

  -- a choice as the code answers it
  pub chosen_is : (m : ℕ) (w : Part) (o q g : Bool) → payload_cause client ≡ 0 → payload_cause server ≡ 0 → m ≡ method_from allowed client server
      → (m ≡ 0 → ⊥) → w ≡ host_key_from client server → (w.len ≡ 0 → ⊥) → o ≡ (open_head client).follows → q ≡ (open_head server).follows → g ≡ guessed_wrong client server
      → ◌≡◌ {A = Choice} (record { number = 0; method = m; host_key = w; ignore_client = o && g; ignore_server = q && g }) (chosen allowed client server)
  chosen_is m w o q g a b x y u v k l e =
      (λ i. record { number = 0; method = x i; host_key = u i; ignore_client = k i && e i; ignore_server = l i && e i })
      ∙ sym (chosen_found (choice_none a b (λ z. y (x ∙ z)) (λ z. v (ap (λ (r : Part). r.len) u ∙ z))))

  -- what is chosen is that name
  pub host_key_chosen : choice_cause allowed client server ≡ 0 → bytes_at client (chosen allowed client server).host_key ≡ common every_name (list_names client 2) (list_names server 2)
  host_key_chosen z =
      let g = choice_known z in
      ap (λ (x : Choice). bytes_at client x.host_key) (chosen_found z) ∙ host_key client server g.0 g.1

  -- the host key name's place lies within the client's payload, a refusal's too
  pub host_key_within : (chosen allowed client server).host_key.start + (chosen allowed client server).host_key.len ≤ length client
  host_key_within = by_test (eqb (choice_cause allowed client server) 0) refl
    where
      by_test : (t : Bool) → eqb (choice_cause allowed client server) 0 ≡ t
          → (chosen allowed client server).host_key.start + (chosen allowed client server).host_key.len ≤ length client
      by_test true e =
          let z = eqb-true (choice_cause allowed client server) 0 e in
          let g = choice_known z in
          let w = (placed client server g.0 g.1).within in
          let c = ap (λ (x : Choice). x.host_key) (chosen_found z) in
          omega (arith, w, ap (λ (x : Part). x.start) c, ap (λ (x : Part). x.len) c)
      by_test false e =
          let c = ap (λ (x : Choice). x.host_key) (sym (chosen_refused (choice_cause allowed client server) refl (eqb-false (choice_cause allowed client server) 0 e))) in
          omega (arith, ap (λ (x : Part). x.start) c, ap (λ (x : Part). x.len) c)
