use Rattle.std.proofs.Common.{◌/◌, ◌^◌, refl, arith}
use Rattle.query_eval.proofs.WindowLemmas.{first_bit, none_left}
use Rattle.query_eval.proofs.SearchLemmas.{counting_start, counting_next, counting_end, counting_all, counting_room}
use Rattle.query_eval.proofs.search.count_window.Goals as goal

pub bits-init : goal.bits-init
bits-init c = (omega arith, counting_start c.args.seg.now c.args.start c.args.marks c.args.times.now c.args.best.now, c.requires.bar)

pub bounds-times-place : goal.bounds-times-place
bounds-times-place c =
    (first_bit c.args.marks c.bits.place (omega arith) c.if-left-eq0.false).within

pub overflow_add-start : goal.overflow_add-start
overflow_add-start c =
    let first = first_bit c.args.marks c.bits.place (omega arith) c.if-left-eq0.false in
    let within = c.requires.within _ first.set in
    let few = c.requires.few in
    omega (arith, within, few)

pub count_ranked-requires-clause-row : goal.count_ranked-requires-clause-row
count_ranked-requires-clause-row c =
    let first = first_bit c.args.marks c.bits.place (omega arith) c.if-left-eq0.false in
    c.requires.within _ first.set

pub count_ranked-requires-clause-room : goal.count_ranked-requires-clause-room
count_ranked-requires-clause-room c =
    let first = first_bit c.args.marks c.bits.place (omega arith) c.if-left-eq0.false in
    counting_room c.args.seg.now c.args.start c.args.marks c.args.times.now c.args.best.now c.bits.best c.bits.place _ c.bits.invariant.1 first
    (c.requires.within _ first.set) c.requires.room

pub bits-preserved : goal.bits-preserved
bits-preserved c =
    let first = first_bit c.args.marks c.bits.place (omega arith) c.if-left-eq0.false in
    let within = first.within in (
      omega (arith, within),
      counting_next c.args.seg.now c.args.start c.args.marks c.args.times.now c.args.best.now c.bits.best c.count_ranked.new.best c.bits.place _ _ _ c.bits.invariant.1 first (c.requires.within _ first.set) (omega arith) c.in_ok-count_ranked.ensures.counts refl,
      c.in_ok-count_ranked.ensures.bar,
    )

pub returns-then-left-eq0-clause-counts : goal.returns-then-left-eq0-clause-counts
returns-then-left-eq0-clause-counts c =
    counting_end c.args.seg.now c.args.start c.args.marks c.args.times.now c.args.best.now c.bits.best c.bits.place c.bits.invariant.1 c.bits.invariant.0
    (none_left c.args.marks c.bits.place (c.args.marks / 2 ^ c.bits.place) refl c.if-left-eq0.true)

pub returns-clause-counts : goal.returns-clause-counts
returns-clause-counts c =
    counting_all c.args.seg.now c.args.start c.args.marks c.args.times.now c.args.best.now c.bits.best c.bits.place c.bits.invariant.1 c.bits.invariant.0 c.bits-test.false
