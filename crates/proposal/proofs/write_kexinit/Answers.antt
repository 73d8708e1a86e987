-- `proposal::write_kexinit` meets its contract. Assumes nothing.
use Rattle.std.proofs.Common.{ℕ, Bool, true, false, cond, refl, sym, ◌+◌, ◌≡◌, ◌≤◌, ◌∙◌, length, ap, arith}
use borrow.Author.Rules.{rules}
use lib.ListN.{set}
use mir.Val.{bool_byte}
use Rattle.limits.specs.Limits.{kexinit_most}
use Rattle.buffers.specs.Bytes.{laid}
use Rattle.wire.specs.Strings.{bytes32, strings}
use Rattle.writers.proofs.WriterLaws.{writer_refused, writer_done}
use Rattle.proposal.specs.Proposal.{kexinit_of, kexinit}
use Rattle.proposal.specs.Total.{bodies, total}
use Rattle.proposal.proofs.WriterLaws.{total_none, total_some, total_true, write_cookie, write_lists, write_short, write_none, length_total, message_laid, laid_length, stored_length}
use Rattle.proposal.proofs.write_kexinit.Goals.{In_ok-total}
use Rattle.proposal.proofs.write_kexinit.Goals as goal

-- a boolean's byte
byte_of : (f : Bool) → bool_byte f ≡ cond f 1 0
byte_of true = refl
byte_of false = refl

-- the total that was found
total-is : (k : In_ok-total) →
    let l = bodies k.args.lists.now in
    (k.in_ok-total.total ≡ total 22 l) × (total 22 l ≤ kexinit_most) × (total 22 l ≡ 22 + length (strings l))
total-is k =
    let t = total_some _ _ (sym k.in_ok-total.ensures.ok_part ∙ k.total_of.ensures) in
    (t.0, t.1, total_true 22 _ t.1)

pub returns-then-cookie-ne-COOKIE_SIZE : goal.returns-then-cookie-ne-COOKIE_SIZE
returns-then-cookie-ne-COOKIE_SIZE c =
    let a = c.args in
    let o = a.out.now in
    let k = kexinit_of a.cookie.now (bodies a.lists.now) a.follows a.reserved in
    writer_refused _ (kexinit k) o 4 (omega arith) (write_cookie k (length o) (λ e. omega (arith, e)))

pub returns-in_err-total : goal.returns-in_err-total
returns-in_err-total c =
    let a = c.args in
    let o = a.out.now in
    let k = kexinit_of a.cookie.now (bodies a.lists.now) a.follows a.reserved in
    let t = total_none (total 22 k.lists) (sym c.in_err-total.ensures.ok_part ∙ c.total_of.ensures) in
    let r = writer_refused _ (kexinit k) o 4 (omega arith) (write_lists k (length o) (omega arith) t) in
    search (rules, r)

pub returns-then-out-total : goal.returns-then-out-total
returns-then-out-total c =
    let a = c.args in
    let o = a.out.now in
    let k = kexinit_of a.cookie.now (bodies a.lists.now) a.follows a.reserved in
    let t = total-is (goal.at.returns-then-out-total c).In_ok-total in
    writer_refused _ (kexinit k) o 5 (omega arith) (write_short k (length o) (omega arith) t.1 (omega (arith, t.0)))

pub bounds-out-0 : goal.bounds-out-0
bounds-out-0 c = let t = total-is (goal.at.bounds-out-0 c).In_ok-total in omega (arith, t)

pub put_lists-end-requires : goal.put_lists-end-requires
put_lists-end-requires c =
    let t = total-is (goal.at.put_lists-end-requires c).In_ok-total in
    let m1 = stored_length _ _ _ _ 0 20 c.put_bytes.ensures in
    omega (arith, t, m1)

pub bounds-out-end : goal.bounds-out-end
bounds-out-end c =
    let t = total-is (goal.at.bounds-out-end c).In_ok-total in
    let m1 = stored_length _ _ _ _ 0 20 c.put_bytes.ensures in
    let m2 = laid_length _ _ _ _ c.put_lists-end.ensures.1 in
    omega (arith, t, m1, m2, c.put_lists-end.ensures.0)

pub overflow_add-end : goal.overflow_add-end
overflow_add-end c =
    let t = total-is (goal.at.overflow_add-end c).In_ok-total in
    omega (arith, t, c.put_lists-end.ensures.0)

pub returns : goal.returns
returns c =
    let a = c.args in
    let o = a.out.now in
    let k = kexinit_of a.cookie.now (bodies a.lists.now) a.follows a.reserved in
    let t = total-is (goal.at.returns c).In_ok-total in
    writer_done _ (kexinit k) o _ _ (write_none k (length o) (omega arith) t.1 (omega (arith, t.0))) (t.0 ∙ length_total k (length o) (omega arith) t.1)
    (message_laid o a.cookie.now k.lists a.follows a.reserved (omega arith) (omega (arith, t)) _ c.put_lists-end.ensures.0 _ _ _
    c.put_bytes.ensures c.put_lists-end.ensures.1
    (c.put_u32.ensures
    ∙ ap (λ (v : ℕ). laid (set c.put_lists-end.new.out c.put_lists-end.result v) (c.put_lists-end.result + 1) (bytes32 a.reserved)) (c.from.ensures ∙ byte_of a.follows)))
