use Rattle.std.proofs.Common.{refl, sym, subst, arith}
use Rattle.body_forms.specs.ItemTable.{items_in}
use Rattle.docs_plain.specs.Rows.{docs_in, IsRowOfSome}
use Rattle.nrt_base.proofs.Plain.{false_says, false_never}
use Rattle.docs_plain.proofs.BodyLaws.{rows_more, is_body, own_items, row_in, IsBody}
use Rattle.docs_plain.proofs.file.is_documents.Goals as goal

pub loop-place-preserved : goal.loop-place-preserved
loop-place-preserved c =
    let t = own_items c.args.body.now (c.is_item_table.ensures.0 c.if-not-is_item_table.false) in
    rows_more c.args.body.now c.loop-place.place c.item_at.result.now c.loop-place.invariant (c.item_at.ensures (items_in c.args.body.now) t) (c.is_row.ensures.0 c.if-not-is_row.false)

pub returns-then-not-is_row : goal.returns-then-not-is_row
returns-then-not-is_row c =
    let t = own_items c.args.body.now (c.is_item_table.ensures.0 c.if-not-is_item_table.false) in
    let n = c.item_count-count.ensures (items_in c.args.body.now) t in
    let same = c.item_at.ensures (items_in c.args.body.now) t in
    false_says (IsBody c.args.body.now) (λ x.
    false_never c.is_row.result c.if-not-is_row.true (c.is_row.ensures.1 (subst IsRowOfSome (sym same) (row_in c.args.body.now x c.loop-place.place (omega (arith, n, c.loop-place-test.true))))))

pub returns : goal.returns
returns c =
    let t = own_items c.args.body.now (c.is_item_table.ensures.0 c.if-not-is_item_table.false) in
    let n = c.item_count-count.ensures (items_in c.args.body.now) t in
    let b = is_body c.args.body.now c.item_count-count.result t n (omega arith) (λ i h. c.loop-place.invariant i (omega arith)) in
    (λ _. (docs_in c.args.body.now, b), λ _. refl)
