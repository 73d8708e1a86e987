-- `keys::derive` meets its contract. Assumes nothing.
use borrow.Author.Rules.{rules}
use Prim.Native.Nat.{ℕ, ◌+◌, ◌-◌}
use mathlib.Core.Path.{◌≡◌, sym, ap, ◌∙◌}
use mathlib.Core.List.{List, ◌++◌}
use native.Mathlib.Omega.{arith}
use lib.ListN.{length, take, drop, length-take}
use lib.Seq.{length-take-le}
use Rattle.limits.specs.Limits.{key_most, letter_first, letter_last}
use Rattle.limits.proofs.RangeLaws.{within_most}
use Rattle.limits.proofs.RefusalLaws.{number_some}
use Rattle.buffers.specs.Bytes.{onto}
use Rattle.wire.specs.Strings.{number_at}
use Rattle.sha_words.specs.Constants.{known}
use Rattle.exchange.proofs.StepLaws.{output_refused, output_accepted}
use Rattle.stored.specs.Stored.{decoded}
use Rattle.keys.specs.Keys.{key_of}
use Rattle.keys.specs.Derived.{key_in}
use Rattle.keys.proofs.KeyLaws.{length_key_of}
use Rattle.keys.proofs.DeriveLaws.{Derives, derives_known, Read, read, Named, named}
use Rattle.keys.proofs.derive.Goals.{After-id_len_in-id_len, After-u32_at, After-write_key, In_default}
use Rattle.keys.proofs.derive.Goals as goal

-- nothing is against it
known-there : (c : In_default) → let a = c.args in Derives a.ex.now a.letter a.len (length a.out.now)
known-there c = derives_known _ _ _ _ (sym c.in_default.ensures)

known-there-After-u32_at : (c : After-u32_at) → let a = c.args in Derives a.ex.now a.letter a.len (length a.out.now)
known-there-After-u32_at c = derives_known _ _ _ _ (sym c.in_default.ensures)

-- what was read of the exchange
reads : (c : After-u32_at) → Read c.args.ex.now c.digest_len-kind.result (4 + c.u32_at.result)
reads c = read c.args.ex.now _ _ _ (known-there-After-u32_at c).complete c.byte_in.ensures c.digest_len-kind.ensures (c.u32_at.ensures ∙ ap (λ (k : List ℕ). number_at k 0) c.k_in-k.ensures)

known-there-After-id_len_in-id_len : (c : After-id_len_in-id_len) → let a = c.args in Derives a.ex.now a.letter a.len (length a.out.now)
known-there-After-id_len_in-id_len c = derives_known _ _ _ _ (sym c.in_default.ensures)

-- the session identifier
names : (c : After-id_len_in-id_len) → Named c.args.ex.now c.id_len_in-id_len.result
names c = named c.args.ex.now _ (known-there-After-id_len_in-id_len c).complete c.id_len_in-id_len.ensures.0

less_none : (n : ℕ) → n - 0 ≡ n
less_none n = omega arith

known-there-After-write_key : (c : After-write_key) → let a = c.args in Derives a.ex.now a.letter a.len (length a.out.now)
known-there-After-write_key c = derives_known _ _ _ _ (sym c.in_default.ensures)

reads-After-write_key : (c : After-write_key) → Read c.args.ex.now c.digest_len-kind.result (4 + c.u32_at.result)
reads-After-write_key c = read c.args.ex.now _ _ _ (known-there-After-write_key c).complete c.byte_in.ensures c.digest_len-kind.ensures (c.u32_at.ensures ∙ ap (λ (k : List ℕ). number_at k 0) c.k_in-k.ensures)

names-After-write_key : (c : After-write_key) → Named c.args.ex.now c.id_len_in-id_len.result
names-After-write_key c = named c.args.ex.now _ (known-there-After-write_key c).complete c.id_len_in-id_len.ensures.0

-- what was written is the key
written : (c : After-write_key) →
    let a = c.args in
    c.write_key.new.out ≡ key_in (decoded a.ex.now) a.letter a.len
unfolding key_in
written c =
    let a = c.args in
    let r = reads-After-write_key c in
    let h = (λ i. take (less_none c.digest_len-kind.result i) (c.h_in.ensures i)) ∙ r.h_is in
    let k = (λ i. take (less_none (4 + c.u32_at.result) i) (c.k_in-k.ensures i)) ∙ r.k_is in
    let d = (λ i. take (less_none c.id_len_in-id_len.result i) (c.id_in.ensures i)) ∙ (names-After-write_key c).id_is in
    let l = ap (λ (n : ℕ). length (take n a.out.now)) (less_none a.len) ∙ length-take-le a.len a.out.now (known-there-After-write_key c).long_enough in
    c.write_key.ensures ∙ (λ i. key_of (r.kind_is i) (k i) (h i) a.letter (d i) (l i))

key-length : (c : After-write_key) → let a = c.args in length (key_in (decoded a.ex.now) a.letter a.len) ≡ a.len
unfolding key_in
key-length c =
    let a = c.args in
    let r = reads-After-write_key c in
    length_key_of _ _ _ _ _ (ap known (sym r.kind_is) ∙ r.hash_known) a.len

pub returns-in-Err : goal.returns-in-Err
returns-in-Err c =
    let a = c.args in
    let n = c.in-Err.ensures in
    (c.number.ensures ∙ n, output_refused _ a.out.now (key_in (decoded a.ex.now) a.letter a.len) (λ z. number_some c.in-Err.e (n ∙ z)))

pub slice_bounds-h-end : goal.slice_bounds-h-end
slice_bounds-h-end c = let r = reads (goal.at.slice_bounds-h-end c).After-u32_at in omega (arith, r.kind_most, r.h_length, ap length c.h_in.ensures)

pub slice_bounds-id-end : goal.slice_bounds-id-end
slice_bounds-id-end c = let n = names (goal.at.slice_bounds-id-end c).After-id_len_in-id_len in omega (arith, n.small, n.length_is, ap length c.id_in.ensures)

pub slice_bounds-write_key-end : goal.slice_bounds-write_key-end
slice_bounds-write_key-end c = let r = reads (goal.at.slice_bounds-write_key-end c).After-u32_at in omega (arith, r.size_most_is, ap length c.k_in-k.ensures)

pub overflow_cast-letter : goal.overflow_cast-letter
overflow_cast-letter c =
    let l = within_most letter_first letter_last c.args.letter (known-there (goal.at.overflow_cast-letter c).In_default).letter_ok in
    search (rules, l)

pub slice_bounds-write_key-end-2 : goal.slice_bounds-write_key-end-2
slice_bounds-write_key-end-2 c = (known-there (goal.at.slice_bounds-write_key-end-2 c).In_default).long_enough

pub write_key-requires : goal.write_key-requires
write_key-requires c =
    let r = reads (goal.at.write_key-requires c).After-u32_at in
    let l = (known-there (goal.at.write_key-requires c).In_default).length_ok in (
      r.hash_known,
      omega (arith, r.k_length_is, ap length c.k_in-k.ensures, length-take (4 + c.u32_at.result) c.k_in-k.result.now),
      omega (arith, r.kind_most, length-take c.digest_len-kind.result c.h_in.result.now),
      omega (arith, (names (goal.at.write_key-requires c).After-id_len_in-id_len).small, length-take c.id_len_in-id_len.result c.id_in.result.now),
      omega (arith, within_most 1 key_most c.args.len l, length-take c.args.len c.args.out.now),
    )

pub returns : goal.returns
unfolding onto
returns c =
    let a = c.args in
    let n = c.in_default.ensures in
    (n, (λ i. written (goal.at.returns c).After-write_key i ++ drop ((less_none a.len ∙ sym (key-length (goal.at.returns c).After-write_key)) i) a.out.now) ∙ output_accepted _ a.out.now (key_in (decoded a.ex.now) a.letter a.len) (sym n))
