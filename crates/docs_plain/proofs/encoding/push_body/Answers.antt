use Rattle.std.proofs.Common.{length, refl}
use Rattle.docs_plain.proofs.WritingLaws.{rows_start, rows_next, rows_end}
use Rattle.docs_plain.proofs.encoding.push_body.Goals as goal

pub loop-doc-init : goal.loop-doc-init
loop-doc-init c =
    let e = c.in_ok-push_end.ensures in
    rows_start c.args.docs.now c.new-offsets.result.items c.push_end.new.offsets.items c.new-area.result.items c.deref.result.now c.new-offsets.ensures.items c.new-area.ensures.items c.deref.ensures.value e.end

pub loop-doc-preserved : goal.loop-doc-preserved
loop-doc-preserved c =
    let r = c.in_ok-push_row.ensures in
    let e = c.in_ok-push_end-2.ensures in
    rows_next c.args.docs.now c.loop-doc.doc-index c.loop-doc.offsets.items c.loop-doc.area.items c.doc-item.result c.push_end-in-loop-doc.new.offsets.items c.push_row.new.out.items c.deref-in-loop-doc.result.now
    c.loop-doc-test.true c.doc-item.is r.kind c.loop-doc.invariant r.row c.deref-in-loop-doc.ensures.value e.small e.end

pub returns : goal.returns
returns c =
    let t = c.in_ok-push_table.ensures in
    rows_end c.args.docs.now c.loop-doc.doc-index (length c.args.docs.now) c.loop-doc.offsets.items c.loop-doc.area.items c.deref-2.result.now c.deref-3.result.now c.args.out.now.items c.push_table.new.out.items
    c.requires refl c.loop-doc-test.false c.loop-doc.invariant c.deref-2.ensures.value c.deref-3.ensures.value t.ok
