use Rattle.std.proofs.Common.{arith, get_or}
use Rattle.std.proofs.lemmas.List.{get_or_default}
use Rattle.index_check.proofs.Walk.{no_record}
use Rattle.index_check.proofs.LiveRows.{segment_put, segments_ended}
use Rattle.index_check.proofs.rows.live_rows.Goals as goal

pub loop-at-preserved : goal.loop-at-preserved
loop-at-preserved c =
    let here = get_or c.args.records.now c.loop-at.at no_record in
    segment_put c.args.records.now c.args.segments.now c.loop-at.at here c.index-segments-at.result c.loop-at.rows.items c.push_rows.new.rows.items _ c.loop-at-test.true (omega (arith, c.loop-at-test.true, c.requires))
    (get_or_default c.args.records.now c.loop-at.at no_record here c.loop-at-test.true) c.index-segments-at.is c.in_ok-push_rows.ensures c.loop-at.invariant

pub returns : goal.returns
returns c = segments_ended c.args.records.now c.args.segments.now c.loop-at.at c.loop-at.rows.items _ c.loop-at-test.false c.loop-at.invariant
