use Rattle.std.proofs.Common.{◌≡◌, ◌++◌, ◌+◌, ◌<◌, length, drop, [], arith, sym, ap, ◌∙◌, Vec, Global}
use Rattle.nrt_base.specs.declared.doc.Doc.{Doc}
use Rattle.index_check.specs.declared.rows.LiveRow.{LiveRow}
use Rattle.index_check.proofs.LiveRows.{rows_from, row_put, row_passed}
use Rattle.index_check.proofs.rows.push_rows.Goals as goal
use Rattle.index_check.proofs.rows.push_rows.Goals.{then-is_live+in_ok-doc+in_ok-push, else-is_live}

no_doc : Doc
no_doc = record { key = []; text = [] }

pub loop-row-preserved : goal.loop-row-preserved
loop-row-preserved c =
    let seg = c.args.record.now.seg in
    let docs = c.args.segment.now.docs in
    let live = c.args.segment.now.live in
    let rows = c.rows-row-end.ensures in
    let lt : c.loop-row.row < length docs = omega (arith, c.loop-row-test.true, rows.docs) in
    let long : length live ≡ length docs = omega (arith, rows.docs, rows.live) in
    elim c.if-is_live.branch [
      | then-is_live+in_ok-doc+in_ok-push w ↦
          let put = ap (λ (v : Vec LiveRow Global). v.items) w.rows-is ∙ w.in_ok-push.ensures.items in
          row_put seg docs live c.loop-row.row c.loop-row.rows.items _ lt long c.loop-row.invariant w.in_ok-doc.doc c.if-is_live.rows.items (sym w.if-is_live.true ∙ c.is_live.ensures) w.in_ok-doc.ensures put
      | else-is_live w ↦
          let passed = row_passed seg docs live c.loop-row.row c.loop-row.rows.items _ lt long c.loop-row.invariant no_doc (sym w.if-is_live.false ∙ c.is_live.ensures) in
          ap (λ (v : Vec LiveRow Global). v.items ++ rows_from seg (drop (c.loop-row.row + 1) docs) (drop (c.loop-row.row + 1) live)) w.rows-is ∙ passed
    ]
