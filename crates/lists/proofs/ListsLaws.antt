-- Ten lists in one buffer: a law for each `return`. Assumes nothing.
use Prim.Native.Nat.{ℕ, suc, ◌+◌, ◌-◌, ◌≤◌, ◌<◌}
use mathlib.Core.Path.{◌≡◌, refl, sym, ap, ◌∙◌}
use mathlib.Core.List.{List, [], ◌∷◌}
use mathlib.Core.Bool.{Bool, true, false, cond, ◌&&◌}
use native.Mathlib.Omega.{arith}
use lib.ListN.{length, get_or, set, take, drop}
use lib.Dec.{leb, ltb, eqb}
use borrow.Author.Tests.{eq-eqb, ne_eqb, le-leb, lt-leb, leb-true, leb-false, lt-ltb, le-ltb}
use Rattle.limits.specs.Limits.{string_most, list_count, cookie_size, kexinit_most}
use Rattle.limits.specs.Every.{every}
use mathlib.Core.Logic.{◌⊎◌, inl, inr}
use Rattle.std.specs.Prelude.{Option, Some, None}
use Rattle.std.specs.Option.{unwrap_or}
use Rattle.std.specs.Borrow.{Bor}
use Rattle.std.specs.Slice.{IsGetRangeResult}
use Rattle.limits.proofs.BoolLaws.{both, and_false}
use Rattle.buffers.specs.Bytes.{onto, laid}
use Rattle.wire.specs.Causes.{cause_if}
use Rattle.wire.specs.Parts.{part, inside, bytes_at}
use Rattle.wire.specs.Strings.{bytes32, strings}
use Rattle.wire.proofs.CauseLaws.{if_holds, if_fails, unless_holds, unless_fails}
use Rattle.wire.proofs.PartLaws.{inside_fits, inside_past}
use Rattle.names.specs.Names.{good_list}
use Rattle.writers.specs.Writers.{wrote, leaves}
use Rattle.writers.proofs.WriterLaws.{told_refused, told_done}
use Rattle.arguments.specs.Arguments.{is_yes}
use Rattle.proposal.specs.Proposal.{kexinit, write_cause}
use Rattle.proposal.proofs.WriterLaws.{length_kexinit, write_cookie, laid_length, stored_length, message_laid}
use Rattle.lists.specs.Lists.{list_at, lists_at, good_at, bad_at, first_bad, proposed, table_ok, table_cause}
use Rattle.lists.proofs.PutLaws.{all_good, all_length}

module _ (s : List ℕ) (from to : ℕ) where
  -- a list that ends ahead of its beginning, or behind the buffer, is none
  list_none : (to < from) ⊎ (length s < to) → [] ≡ list_at s from to
  unfolding list_at
  list_none (inl h) = rw (lt-leb from to h)
  list_none (inr h) = rw (lt-leb to (length s) h, and_false (leb from to))

  list_is : from ≤ to → to ≤ length s → take (to - from) (drop from s) ≡ list_at s from to
  unfolding list_at
  list_is h k = rw (le-leb from to h, le-leb to (length s) k)

  -- the same as a part of the buffer
  pub list_part_lem : from ≤ to → bytes_at s (inside (length s) (part from (to - from))) ≡ list_at s from to
  unfolding list_at
  list_part_lem h = by_test (leb to (length s)) refl
    where
      by_test : (t : Bool) → leb to (length s) ≡ t → bytes_at s (inside (length s) (part from (to - from))) ≡ cond (leb from to && t) (take (to - from) (drop from s)) []
      by_test true e = rw (le-leb from to h, inside_fits (length s) (part from (to - from)) (omega (arith, leb-true to (length s) e)))
      by_test false e = rw (le-leb from to h, inside_past (length s) (part from (to - from)) (omega (arith, leb-false to (length s) e)))

  -- what `get` finds there, or the empty list
  pub list_got : (r : Option (Bor (List ℕ))) (d : Bor (List ℕ)) → IsGetRangeResult s from to r → d.now ≡ [] → (unwrap_or r d).now ≡ list_at s from to
  list_got None d l e = e ∙ list_none l.0
  list_got (Some x) d l e = l.0.2 ∙ list_is l.0.0 l.0.1

  -- and whether that is a name-list
  pub good_none : (to < from) ⊎ (length s < to) → false ≡ good_at s from to
  unfolding good_at
  good_none (inl h) = rw (lt-leb from to h)
  good_none (inr h) = rw (lt-leb to (length s) h, and_false (leb from to))

  pub good_some : from ≤ to → to ≤ length s → (l : List ℕ) → l ≡ take (to - from) (drop from s) → good_list l ≡ good_at s from to
  unfolding good_at
  good_some h k l e = ap good_list (e ∙ list_is h k) ∙ rw (le-leb from to h, le-leb to (length s) k)

-- ---- the first bad one

module _ (s ends : List ℕ) (at i : ℕ) where
  bad_step : i < list_count → bad_at s ends at i (list_count - i) ≡ cond (good_at s at (get_or ends i 0)) (bad_at s ends (get_or ends i 0) (i + 1) (list_count - (i + 1))) (i + 1)
  unfolding bad_at
  bad_step h =
      let e : list_count - i ≡ suc (list_count - (i + 1)) = omega arith in
      ap (bad_at s ends at i) e

  pub bad_here : i < list_count → good_at s at (get_or ends i 0) ≡ false → bad_at s ends at i (list_count - i) ≡ i + 1
  bad_here h e = bad_step h ∙ ap (λ (t : Bool). cond t (bad_at s ends (get_or ends i 0) (i + 1) (list_count - (i + 1))) (i + 1)) e

  pub bad_on : i < list_count → good_at s at (get_or ends i 0) ≡ true → bad_at s ends at i (list_count - i) ≡ bad_at s ends (get_or ends i 0) (i + 1) (list_count - (i + 1))
  bad_on h e = bad_step h ∙ ap (λ (t : Bool). cond t (bad_at s ends (get_or ends i 0) (i + 1) (list_count - (i + 1))) (i + 1)) e

  pub bad_none : list_count ≤ i → bad_at s ends at i (list_count - i) ≡ 0
  unfolding bad_at
  bad_none h = let e : list_count - i ≡ 0 = omega arith in ap (bad_at s ends at i) e

-- ---- what is written

second_false : (a b c : Bool) → b ≡ false → a && b && c ≡ false
second_false true b c e = rw e
second_false false b c e = refl

third_false : (a b c : Bool) → c ≡ false → a && b && c ≡ false
third_false true true c e = e
third_false true false c e = refl
third_false false b c e = refl

-- what write_lists owes: its number, what it tells, and the output that it leaves
abbrev Answered : List ℕ → List ℕ → List ℕ → ℕ → ℕ → List ℕ → ℕ → List ℕ → List ℕ → Type 0
Answered cookie s ends follows reserved out n told after =
    (n ≡ table_cause (length out) cookie s ends follows reserved)
    × (told ≡ (wrote (table_cause (length out) cookie s ends follows reserved) (kexinit (proposed cookie s ends follows reserved))).count ∷ first_bad s ends ∷ [])
    × (after ≡ leaves (table_cause (length out) cookie s ends follows reserved) (kexinit (proposed cookie s ends follows reserved)) out)

module _ (cookie s ends : List ℕ) (follows reserved : ℕ) (out : List ℕ) (bad : ℕ) (f : bad ≡ first_bad s ends) where
  -- no count, and which list is bad
  refused : (n : ℕ) → 0 < n → table_cause (length out) cookie s ends follows reserved ≡ n → Answered cookie s ends follows reserved out n (0 ∷ bad ∷ []) out
  refused n h e =
      let t = told_refused (table_cause (length out) cookie s ends follows reserved) (kexinit (proposed cookie s ends follows reserved)) out n h e in
      (t.0, (λ i. t.1 i ∷ f i ∷ []), t.2)

  pub list_bad : ¬ (bad ≡ 0) → Answered cookie s ends follows reserved out 4 (0 ∷ bad ∷ []) out
  unfolding table_cause table_ok
  list_bad h = refused 4 (omega arith) (unless_fails _ 4 _ (rw (ne_eqb (first_bad s ends) 0 (λ q. h (f ∙ q)))))

  pub bytes_behind : ¬ (get_or ends 9 0 ≡ length s) → Answered cookie s ends follows reserved out 4 (0 ∷ bad ∷ []) out
  unfolding table_cause table_ok
  bytes_behind h = refused 4 (omega arith) (unless_fails _ 4 _ (second_false (eqb (first_bad s ends) 0) _ _ (ne_eqb (get_or ends 9 0) (length s) h)))

  pub reserved_wide : string_most < reserved → Answered cookie s ends follows reserved out 4 (0 ∷ bad ∷ []) out
  unfolding table_cause table_ok
  reserved_wide h =
      refused 4 (omega arith) (unless_fails _ 4 _ (third_false (eqb (first_bad s ends) 0) (eqb (get_or ends 9 0) (length s)) _ (lt-leb reserved string_most h)))

  module _ (z : bad ≡ 0) (g : get_or ends 9 0 ≡ length s) (h : reserved ≤ string_most) where
    table_good : table_cause (length out) cookie s ends follows reserved ≡ write_cause (length out) (proposed cookie s ends follows reserved)
    unfolding table_cause table_ok
    table_good = unless_holds _ 4 _ (rw (eq-eqb (first_bad s ends) 0 (sym f ∙ z), eq-eqb (get_or ends 9 0) (length s) g, le-leb reserved string_most h))

    pub cookie_wrong : ¬ (length cookie ≡ cookie_size) → Answered cookie s ends follows reserved out 4 (0 ∷ bad ∷ []) out
    unfolding proposed
    cookie_wrong e = refused 4 (omega arith) (table_good ∙ write_cookie (proposed cookie s ends follows reserved) (length out) e)

    module _ (c : length cookie ≡ cookie_size) where
      -- 57 bytes stand ahead of the boolean, but for the names, and 5 with it and behind
      proposed_length : length (kexinit (proposed cookie s ends follows reserved)) ≡ length s + 57 + 5
      unfolding proposed
      proposed_length =
          let n = length_kexinit (proposed cookie s ends follows reserved) in
          let m = all_length s ends (sym f ∙ z) in
          omega arith

      pub names_long : kexinit_most < length s + 57 + 5 → Answered cookie s ends follows reserved out 4 (0 ∷ bad ∷ []) out
      unfolding write_cause proposed
      names_long e =
          let n = proposed_length in
          refused 4 (omega arith)
          (table_good
          ∙ unless_fails
          (eqb (length cookie) cookie_size && every good_list (lists_at s ends 0 0 list_count) && leb (length (kexinit (proposed cookie s ends follows reserved))) kexinit_most)
          4
          (cause_if (ltb (length out) (length (kexinit (proposed cookie s ends follows reserved)))) 5 0)
          (third_false (eqb (length cookie) cookie_size) (every good_list (lists_at s ends 0 0 list_count)) _ (lt-leb (length (kexinit (proposed cookie s ends follows reserved))) kexinit_most (omega arith))))

      module _ (l : length s + 57 + 5 ≤ kexinit_most) where
        cause_left : table_cause (length out) cookie s ends follows reserved ≡ cause_if (ltb (length out) (length (kexinit (proposed cookie s ends follows reserved)))) 5 0
        unfolding write_cause proposed
        cause_left =
            let n = proposed_length in
            table_good
            ∙ unless_holds _ 4 _ (both (both (eq-eqb (length cookie) cookie_size c) (all_good s ends (sym f ∙ z))) (le-leb (length (kexinit (proposed cookie s ends follows reserved))) kexinit_most (omega arith)))

        pub out_short : length out < length s + 57 + 5 → Answered cookie s ends follows reserved out 5 (0 ∷ bad ∷ []) out
        out_short e =
            let n = proposed_length in
            refused 5 (omega arith) (cause_left ∙ if_holds _ 5 0 (lt-ltb (length out) (length (kexinit (proposed cookie s ends follows reserved))) (omega arith)))

        module _ (k : length s + 57 + 5 ≤ length out) where
          module _ (o1 : List ℕ) (e1 : o1 ≡ laid (set out 0 20) 1 cookie) where
            pub lists-fit : (length s + 57 ≡ 17 + length (strings (lists_at s ends 0 0 list_count))) × (length s + 57 ≤ length o1)
            lists-fit =
                let m = all_length s ends (sym f ∙ z) in
                let n = stored_length o1 out cookie 1 0 20 e1 in
                (omega arith, omega arith)

            module _ (o2 : List ℕ) (e2 : o2 ≡ laid o1 17 (strings (lists_at s ends 0 0 list_count))) where
              laid-lists : length o2 ≡ length out
              laid-lists = laid_length o2 o1 (strings (lists_at s ends 0 0 list_count)) 17 e2 ∙ stored_length o1 out cookie 1 0 20 e1

              -- the boolean and the reserved number fit behind the lists
              pub end_fits : length s + 57 + 5 ≤ length o2
              end_fits = let n = laid-lists in omega arith

              module _ (v : ℕ) (q : v ≡ cond (is_yes follows) 1 0) (o3 : List ℕ) (e3 : o3 ≡ laid (set o2 (length s + 57) v) (length s + 57 + 1) (bytes32 reserved)) where
                pub written-length : length o3 ≡ length out
                written-length = stored_length o3 o2 (bytes32 reserved) (length s + 57 + 1) (length s + 57) v e3 ∙ laid-lists

                pub table-written : Answered cookie s ends follows reserved out 0 ((length s + 57 + 5) ∷ 0 ∷ []) o3
                unfolding proposed
                table-written =
                    let m = end_fits in
                    let p = lists-fit.0 in
                    let n = proposed_length in
                    let w = cause_left ∙ if_fails _ 5 0 (le-ltb (length out) (length (kexinit (proposed cookie s ends follows reserved))) (omega arith)) in
                    let x : o3 ≡ onto out (kexinit (proposed cookie s ends follows reserved)) =
                    message_laid out cookie (lists_at s ends 0 0 list_count) (is_yes follows) reserved c (omega arith) (length s + 57) p o1 o2 o3 e1 e2
                    (e3 ∙ ap (λ (b : ℕ). laid (set o2 (length s + 57) b) (length s + 57 + 1) (bytes32 reserved)) q) in
                    let t = told_done (table_cause (length out) cookie s ends follows reserved) (kexinit (proposed cookie s ends follows reserved)) out (length s + 57 + 5) o3 w (sym n) x in
                    (t.0, (λ i. t.1 i ∷ (sym z ∙ f) i ∷ []), t.2)
