-- `judge_versions::version_ok` meets its contract. Assumes nothing.
use mathlib.Core.Path.{sym, ap, ◌∙◌}
use native.Mathlib.Omega.{arith}
use lib.ListN.{drop_of_length-le}
use Rattle.exchange.specs.Causes.{plain}
use Rattle.judge_versions.proofs.PlainLaws.{plain_part, plain_at}
use Rattle.judge_versions.proofs.VersionLaws.{version_empty, version_long, version_plain}
use Rattle.judge_versions.proofs.version_ok.Goals as goal

pub returns-then-v-lt1 : goal.returns-then-v-lt1
returns-then-v-lt1 c = version_empty c.args.v.now (omega arith)

pub returns-then-v-gt-VERSION_MOST : goal.returns-then-v-gt-VERSION_MOST
returns-then-v-gt-VERSION_MOST c = version_long c.args.v.now (omega arith)

pub loop-i-init : goal.loop-i-init
loop-i-init c = (omega arith, version_plain c.args.v.now (omega arith) (omega arith))

pub returns-then-not-plain_sixteen : goal.returns-then-not-plain_sixteen
returns-then-not-plain_sixteen c =
    let l = c.loop-i in
    let v = c.args.v.now in
    sym (sym l.invariant.1 ∙ plain_part v l.i 16 ∙ rw (sym c.plain_sixteen.ensures ∙ c.if-not-plain_sixteen.true))

pub loop-i-preserved : goal.loop-i-preserved
loop-i-preserved c =
    let l = c.loop-i in
    let v = c.args.v.now in
    (omega arith, sym (plain_part v l.i 16 ∙ rw (sym c.plain_sixteen.ensures ∙ c.if-not-plain_sixteen.false)) ∙ l.invariant.1)

pub loop-i-2-init : goal.loop-i-2-init
loop-i-2-init c = c.loop-i.invariant

pub returns-then-not-plain_byte : goal.returns-then-not-plain_byte
returns-then-not-plain_byte c =
    let l = c.loop-i-2 in
    let v = c.args.v.now in
    sym (sym l.invariant.1 ∙ plain_at v l.i (omega arith) ∙ rw (sym c.plain_byte.ensures ∙ c.if-not-plain_byte.true))

pub loop-i-2-preserved : goal.loop-i-2-preserved
loop-i-2-preserved c =
    let l = c.loop-i-2 in
    let v = c.args.v.now in
    (omega arith, sym (plain_at v l.i (omega arith) ∙ rw (sym c.plain_byte.ensures ∙ c.if-not-plain_byte.false)) ∙ l.invariant.1)

pub returns : goal.returns
returns c =
    let l = c.loop-i-2 in
    let v = c.args.v.now in
    ap plain (sym (drop_of_length-le v {i = l.i} (omega arith))) ∙ l.invariant.1
