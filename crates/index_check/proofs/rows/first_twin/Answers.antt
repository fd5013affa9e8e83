use Rattle.index_check.proofs.Twins.{seen_none, seen_more, is_twin, all_own}
use Rattle.index_check.proofs.rows.first_twin.Goals as goal

pub loop-row-init : goal.loop-row-init
loop-row-init c = seen_none c.args.rows.now c.new-keys.result c.new-keys.ensures.empty

pub returns-then-not-branch : goal.returns-then-not-branch
returns-then-not-branch c =
    let insert = c.in_ok-insert.ensures in
    is_twin c.args.rows.now c.loop-row.row-index c.row-item.result c.loop-row-test.true c.row-item.is c.in_ok-share.field-0 c.in_ok-share.ensures c.loop-row.keys c.loop-row.invariant c.in_ok-insert.field-0 insert.added c.if-not-branch.true

pub loop-row-preserved : goal.loop-row-preserved
loop-row-preserved c =
    let insert = c.in_ok-insert.ensures in
    seen_more c.args.rows.now c.loop-row.row-index c.row-item.result c.loop-row-test.true c.row-item.is c.in_ok-share.field-0 c.in_ok-share.ensures c.loop-row.keys c.loop-row.invariant c.in_ok-insert.field-0 c.insert.new.self
    insert.added c.if-not-branch.false insert.updates.0

pub returns : goal.returns
returns c = all_own c.args.rows.now c.loop-row.row-index c.loop-row.keys c.loop-row-test.false c.loop-row.invariant
