use Rattle.std.proofs.Common.{◌∙◌, arith, map}
use Rattle.std.proofs.lemmas.List.{length-map}
use Rattle.postings_plain.specs.Postings.{entry}
use Rattle.nrt_base.proofs.Plain.{false_never}
use Rattle.postings_plain.proofs.Judging.{entry_more, next_more, is_body, body_items, body_next, entries_of}
use Rattle.postings_plain.proofs.RowCounts.{ends_more, end_at, count_of_ends}
use Rattle.postings_plain.proofs.body.row_count.Goals as goal

pub loop-place-preserved : goal.loop-place-preserved
loop-place-preserved c =
    let x = c.in_ok-end.ensures in
    rw c.max-rows.ensures (record {
      entries = λ items t. entry_more c.args.format items c.loop-place.place c.item_at.result.now (c.loop-place.invariant.entries items t) (c.item_at.ensures items t) (x.0, x.1, x.2);
      ends = λ items t. ends_more c.args.format items c.loop-place.place c.loop-place.rows c.in_ok-end.end (c.loop-place.invariant.ends items t) (end_at c.args.format items c.loop-place.place c.item_at.result.now c.in_ok-end.end (c.item_at.ensures items t) x);
    })

pub returns-in_err-end : goal.returns-in_err-end
returns-in_err-end c = rw c.from_residual.ensures (λ es p.
    let n = c.item_count-count.ensures (map (entry c.args.format) es) p.table in
    let e = body_items c.args.format c.args.body.now es p c.loop-place.place (omega (arith, n)) in
    let never = c.in_err-end.ensures in
    never (e.0, e.1, c.item_at.ensures (map (entry c.args.format) es) p.table ∙ e.2))

pub loop-low-preserved : goal.loop-low-preserved
loop-low-preserved c = λ items t.
    let n = c.item_count-count.ensures items t in
    let all = c.loop-place.invariant.entries items t in
    next_more c.args.format items c.loop-low.low (c.loop-low.invariant items t) ((c.is_below_next.ensures c.args.format items t (λ i h. all i (omega (arith, n)))).0 c.if-not-is_below_next.false)

pub returns-then-not-is_below_next : goal.returns-then-not-is_below_next
returns-then-not-is_below_next c = λ es p.
    let n = c.item_count-count.ensures (map (entry c.args.format) es) p.table in
    let next = body_next c.args.format c.args.body.now es p c.loop-low.low (omega (arith, n, length-map es (entry c.args.format))) in
    false_never c.is_below_next.result c.if-not-is_below_next.true ((c.is_below_next.ensures c.args.format (map (entry c.args.format) es) p.table (body_items c.args.format c.args.body.now es p)).1 next)

pub returns : goal.returns
returns c =
    let table = c.is_item_table.ensures.0 c.if-not-is_item_table.false in
    let items = table.0 in
    let t = table.1 in
    let n = c.item_count-count.ensures items t in
    let all = c.loop-place.invariant.entries items t in
    let next = c.loop-low.invariant items t in
    let ends = c.loop-place.invariant.ends items t in
    (entries_of c.args.format items, is_body c.args.format c.args.body.now items t (omega (arith, n)) (λ i h. all i (omega (arith, n))) (λ i h. next i (omega (arith, n))), count_of_ends c.args.format items c.loop-place.place c.loop-place.rows (omega (arith, n)) (omega (arith, n)) (λ i h. all i (omega (arith, n))) ends)

pub is_below_next-requires : goal.is_below_next-requires
is_below_next-requires c =
    let table = c.is_item_table.ensures.0 c.if-not-is_item_table.false in
    let n = c.item_count-count.ensures table.0 table.1 in
    record { table = (c.args.format, table.0, table.1, λ i h. c.loop-place.invariant.entries table.0 table.1 i (omega (arith, n)), omega (arith, n)) }
