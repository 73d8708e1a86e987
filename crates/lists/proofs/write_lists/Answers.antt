-- `lists::write_lists` meets its contract. Assumes nothing.
use native.Mathlib.Omega.{arith}
use Rattle.lists.proofs.ListsLaws.{list_bad, bytes_behind, reserved_wide, cookie_wrong, names_long, out_short, lists-fit, end_fits, written-length, table-written}
use Rattle.lists.proofs.write_lists.Goals as goal

pub returns-then-bad-ne0 : goal.returns-then-bad-ne0
returns-then-bad-ne0 c =
    let a = c.args in
    let o = a.out.now in
    let k = a.cookie.now in
    let s = a.lists.now in
    let e = a.ends.now in
    list_bad k s e a.follows a.reserved o _ c.first_bad-bad.ensures c.if-bad-ne0.true

pub returns-then-ends-lists : goal.returns-then-ends-lists
returns-then-ends-lists c =
    let a = c.args in
    let o = a.out.now in
    let k = a.cookie.now in
    let s = a.lists.now in
    let e = a.ends.now in
    bytes_behind k s e a.follows a.reserved o _ c.first_bad-bad.ensures c.if-ends-lists.true

pub returns-then-number-gt-STRING_MOST : goal.returns-then-number-gt-STRING_MOST
returns-then-number-gt-STRING_MOST c =
    let a = c.args in
    let o = a.out.now in
    let k = a.cookie.now in
    let s = a.lists.now in
    let e = a.ends.now in
    reserved_wide k s e a.follows a.reserved o _ c.first_bad-bad.ensures c.if-number-gt-STRING_MOST.true

pub returns-then-cookie-ne-COOKIE_SIZE : goal.returns-then-cookie-ne-COOKIE_SIZE
returns-then-cookie-ne-COOKIE_SIZE c =
    let a = c.args in
    let o = a.out.now in
    let k = a.cookie.now in
    let s = a.lists.now in
    let e = a.ends.now in
    cookie_wrong k s e a.follows a.reserved o _ c.first_bad-bad.ensures c.if-bad-ne0.false (omega arith) (omega arith) c.if-cookie-ne-COOKIE_SIZE.true

pub returns-then-lists-gt-NAMES_MOST : goal.returns-then-lists-gt-NAMES_MOST
returns-then-lists-gt-NAMES_MOST c =
    let a = c.args in
    let o = a.out.now in
    let k = a.cookie.now in
    let s = a.lists.now in
    let e = a.ends.now in
    names_long k s e a.follows a.reserved o _ c.first_bad-bad.ensures c.if-bad-ne0.false (omega arith) (omega arith) c.if-cookie-ne-COOKIE_SIZE.false (omega arith)

pub returns-then-out-total : goal.returns-then-out-total
returns-then-out-total c =
    let a = c.args in
    let o = a.out.now in
    let k = a.cookie.now in
    let s = a.lists.now in
    let e = a.ends.now in
    out_short k s e a.follows a.reserved o _ c.first_bad-bad.ensures c.if-bad-ne0.false (omega arith) (omega arith) c.if-cookie-ne-COOKIE_SIZE.false (omega arith) c.if-out-total.true

pub put_lists-requires : goal.put_lists-requires
put_lists-requires c =
    let a = c.args in
    let o = a.out.now in
    let k = a.cookie.now in
    let s = a.lists.now in
    let e = a.ends.now in
    let f = lists-fit k s e a.follows a.reserved o _ c.first_bad-bad.ensures c.if-bad-ne0.false (omega arith) (omega arith) c.if-cookie-ne-COOKIE_SIZE.false (omega arith) c.if-out-total.false _ c.put_bytes.ensures in
    omega arith

pub bounds-out-end : goal.bounds-out-end
bounds-out-end c =
    let a = c.args in
    let o = a.out.now in
    let k = a.cookie.now in
    let s = a.lists.now in
    let e = a.ends.now in
    let n = end_fits k s e a.follows a.reserved o _ c.first_bad-bad.ensures c.if-bad-ne0.false (omega arith) (omega arith) c.if-cookie-ne-COOKIE_SIZE.false (omega arith) c.if-out-total.false _ c.put_bytes.ensures _ c.put_lists.ensures in
    omega arith

pub shape_of-out : goal.shape_of-out
shape_of-out c =
    let a = c.args in
    let o = a.out.now in
    let k = a.cookie.now in
    let s = a.lists.now in
    let e = a.ends.now in
    written-length k s e a.follows a.reserved o _ c.first_bad-bad.ensures c.if-bad-ne0.false (omega arith) (omega arith) c.if-cookie-ne-COOKIE_SIZE.false (omega arith) c.if-out-total.false _ c.put_bytes.ensures _ c.put_lists.ensures _ c.flag.ensures _ c.put_u32.ensures

pub returns : goal.returns
returns c =
    let a = c.args in
    let o = a.out.now in
    let k = a.cookie.now in
    let s = a.lists.now in
    let e = a.ends.now in
    table-written k s e a.follows a.reserved o _ c.first_bad-bad.ensures c.if-bad-ne0.false (omega arith) (omega arith) c.if-cookie-ne-COOKIE_SIZE.false (omega arith) c.if-out-total.false _ c.put_bytes.ensures _ c.put_lists.ensures _ c.flag.ensures _ c.put_u32.ensures
