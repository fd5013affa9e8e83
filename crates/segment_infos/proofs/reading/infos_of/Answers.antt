use Rattle.std.proofs.Common.{arith}
use Rattle.segment_infos.proofs.BodyLaws.{no_head, no_records, other_user_data, number_twice, infos_spelled}
use Rattle.segment_infos.proofs.reading.infos_of.Goals as goal

pub returns-in_default : goal.returns-in_default
returns-in_default c = let e = c.in_default.ensures in no_head c.args.body.now e

pub returns-in_default-2 : goal.returns-in_default-2
returns-in_default-2 c =
    let e = c.in-Some.ensures in
    let r = rw c.in_default-2.is at c.in_ok-rest.ensures in
    no_records c.args.body.now c.in-Some.head c.in-Some.rest.now e r

pub returns-then-not-branch : goal.returns-then-not-branch
returns-then-not-branch c =
    let e = c.in-Some.ensures in
    let r = rw c.in-Some-2.is at c.in_ok-rest.ensures in
    let t = c.in_ok-is_user_data.ensures in
    other_user_data c.args.body.now c.in-Some.head c.in-Some.rest.now c.take_records.new.records.items c.in-Some-2.rest.now c.in_ok-is_user_data.field-0 e r t c.if-not-branch.true

pub returns-then-not-branch-2 : goal.returns-then-not-branch-2
returns-then-not-branch-2 c =
    let e = c.in-Some.ensures in
    let r = rw c.in-Some-2.is at c.in_ok-rest.ensures in
    let t = rw c.deref.ensures.value at c.in_ok-have_own_numbers.ensures in
    number_twice c.args.body.now c.in-Some.head c.in-Some.rest.now c.take_records.new.records.items c.in-Some-2.rest.now c.in_ok-have_own_numbers.field-0 e r t c.if-not-branch-2.true

pub returns : goal.returns
returns c =
    let e = c.in-Some.ensures in
    let r = rw c.in-Some-2.is at c.in_ok-rest.ensures in
    let d = c.in_ok-is_user_data.ensures in
    let t = rw c.deref.ensures.value at c.in_ok-have_own_numbers.ensures in
    rw c.from_vec.ensures (infos_spelled c.args.body.now c.in-Some.head c.in-Some.rest.now c.take_records.new.records.items c.in-Some-2.rest.now (λ i. omega (arith, c.type_inv.body i)) e r (d.0 c.if-not-branch.false) (t.0 c.if-not-branch-2.false))
