use Rattle.std.proofs.Common.{refl, length, arith}
use Rattle.segment_steps.specs.Segments.{changed}
use Rattle.segment_steps.proofs.TermRows.{row_below, one_killed, dead_passed, hits_killed}
use Rattle.segment_steps.proofs.killing.kill_hits.Goals as goal

pub loop-row-preserved-then-live-row : goal.loop-row-preserved-then-live-row
loop-row-preserved-then-live-row c =
    let s = c.args.segment.now in
    let killed = c.in_ok-kill_row-in-Some-next_live.ensures in
    record {
      rows = killed.rows;
      killed =
          one_killed (length s.docs) c.in-Some.row c.loop-row.from _ c.args.hits c.loop-row.rows c.next_from.new.self (changed s c.args.change.now).live (changed s c.loop-row.change).live (changed s c.kill_row.new.change).live
          c.requires.rows c.loop-row.invariant.killed c.next_from.ensures.left c.in-Some.ensures.found killed.live refl;
    }

pub loop-row-preserved : goal.loop-row-preserved
loop-row-preserved c =
    let s = c.args.segment.now in
    let first = c.in-Some-next_live.ensures in
    let long = c.loop-row.invariant.rows in
    let within = first.within in
    record {
      rows = long;
      killed =
          dead_passed (length s.docs) c.in-Some.row c.loop-row.from c.in-Some-next_live.live c.args.hits c.loop-row.rows c.next_from.new.self (changed s c.args.change.now).live (changed s c.loop-row.change).live
          c.requires.rows c.loop-row.invariant.killed c.next_from.ensures.left c.in-Some.ensures.found first.above (omega (arith, within, long)) first.dead;
    }

pub returns-in-None : goal.returns-in-None
returns-in-None c =
    let s = c.args.segment.now in
    let was = (changed s c.args.change.now).live in
    let now = (changed s c.loop-row.change).live in
    let killed = c.loop-row.invariant.killed in
    let found = c.in-Some.ensures.found in
    let below = row_below (length s.docs) c.in-Some.row c.loop-row.from c.args.hits c.loop-row.rows was now killed found in
    let passed =
    dead_passed (length s.docs) c.in-Some.row c.loop-row.from (length s.docs) c.args.hits c.loop-row.rows c.next_from.new.self was now c.requires.rows killed c.next_from.ensures.left found (omega (arith, below)) (omega arith)
    (λ i le lt. c.in-None.ensures i le) in
    hits_killed s (length s.docs) c.args.hits c.next_from.new.self c.args.change.now c.loop-row.change c.loop-row.invariant.rows passed passed.below c.requires.rows

pub returns : goal.returns
returns c =
    let s = c.args.segment.now in
    hits_killed s c.loop-row.from c.args.hits c.loop-row.rows c.args.change.now c.loop-row.change c.loop-row.invariant.rows c.loop-row.invariant.killed c.in_default.ensures.none c.requires.rows
