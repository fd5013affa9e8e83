use Rattle.std.proofs.Common.{◌≤◌, ◌<◌, ◌+◌, ◌*◌, length, ◌∙◌, arith}
use Rattle.body_forms.proofs.ItemTables.{table_length, table_start, next_front, front_at_most, item_slice}
use Rattle.body_forms.proofs.item_table.item_at.Goals as goal

pub number_from-start-requires : goal.number_from-start-requires
number_from-start-requires c = omega (arith, table_length c.args.table.now c.requires.0 c.requires.1, c.requires.2)

pub number_from-end-requires : goal.number_from-end-requires
number_from-end-requires c = omega (arith, table_length c.args.table.now c.requires.0 c.requires.1, c.requires.2)

pub slice_bounds-result-count : goal.slice_bounds-result-count
slice_bounds-result-count c =
    let s = c.number_from-start.ensures ∙ table_start c.args.table.now c.requires.0 c.args.place c.requires.1 (omega (arith, c.requires.2)) in
    let e = c.number_from-end.ensures ∙ table_start c.args.table.now c.requires.0 (c.args.place + 1) c.requires.1 (omega (arith, c.requires.2)) in
    omega (arith, s, e, next_front c.args.place c.requires.0 c.requires.2)

pub slice_bounds-result-start : goal.slice_bounds-result-start
slice_bounds-result-start c =
    let s = c.number_from-start.ensures ∙ table_start c.args.table.now c.requires.0 c.args.place c.requires.1 (omega (arith, c.requires.2)) in
    let e = c.number_from-end.ensures ∙ table_start c.args.table.now c.requires.0 (c.args.place + 1) c.requires.1 (omega (arith, c.requires.2)) in
    let goes : 8 + 4 * c.item_count-count.result + c.number_from-start.result ≤ 8 + 4 * c.item_count-count.result + c.number_from-end.result = omega (arith, s, e, next_front c.args.place c.requires.0 c.requires.2) in
    goes

pub slice_bounds-result-end : goal.slice_bounds-result-end
slice_bounds-result-end c =
    let e = c.number_from-end.ensures ∙ table_start c.args.table.now c.requires.0 (c.args.place + 1) c.requires.1 (omega (arith, c.requires.2)) in
    let n = c.item_count-count.ensures c.requires.0 c.requires.1 in
    let goes : 8 + 4 * c.item_count-count.result + c.number_from-end.result ≤ length c.args.table.now = omega (arith, e, n, table_length c.args.table.now c.requires.0 c.requires.1, front_at_most (c.args.place + 1) c.requires.0) in
    goes

pub returns : goal.returns
returns c = λ items t.
    let lt : c.args.place < length items = omega (arith, c.item_count-count.ensures items t, c.item_count-count.ensures c.requires.0 c.requires.1, c.requires.2) in
    item_slice c.args.table.now items c.args.place c.item_count-count.result c.number_from-start.result c.number_from-end.result t lt (c.item_count-count.ensures items t)
    (c.number_from-start.ensures ∙ table_start c.args.table.now items c.args.place t (omega arith))
    (c.number_from-end.ensures ∙ table_start c.args.table.now items (c.args.place + 1) t (omega arith))
