use Rattle.std.proofs.Common.{◌-◌, length, ap, refl, arith}
use Rattle.query_eval.proofs.WordRowLemmas.{marking_start, taken_place, marking_step, marking_end}
use Rattle.query_eval.proofs.window.mark_word.Goals as goal

pub rows-init : goal.rows-init
rows-init c = marking_start c.args.start c.args.word.now c.next_from.new.self c.args.times.now c.next_from.ensures.left c.next_from.ensures.above

pub overflow_sub-place : goal.overflow_sub-place
overflow_sub-place c =
    (taken_place c.args.start c.args.word.now c.rows.word c.take_within.new.self c.args.times.now c.rows.times c.rows.marks (c.in-Some.row, c.in-Some.count) c.rows.invariant c.in-Some.ensures.taken).0

pub set_bit-requires : goal.set_bit-requires
set_bit-requires c =
    let within = taken_place c.args.start c.args.word.now c.rows.word c.take_within.new.self c.args.times.now c.rows.times c.rows.marks (c.in-Some.row, c.in-Some.count) c.rows.invariant c.in-Some.ensures.taken in
    let from = within.0 in
    let below = within.1 in
    omega (arith, from, below)

pub rows-preserved : goal.rows-preserved
rows-preserved c =
    marking_step c.args.start (c.in-Some.row - c.args.start) c.args.word.now c.rows.word c.take_within.new.self c.args.times.now c.rows.times c.add_at.new.times c.rows.marks c.set_bit.new.marks
    (c.in-Some.row, c.in-Some.count) c.rows.invariant c.in-Some.ensures.taken refl c.set_bit.ensures c.add_at.ensures

pub rows-smaller : goal.rows-smaller
rows-smaller c = let one = ap length c.in-Some.ensures.taken.first in omega (arith, one)

pub returns : goal.returns
returns c =
    marking_end c.args.start c.args.word.now c.rows.word c.take_within.new.self c.args.times.now c.rows.times c.rows.marks c.rows.invariant c.in_default.ensures.none c.in_default.ensures.same
