use Rattle.std.proofs.Common.{◌≡◌, ◌++◌, ◌+◌, ◌<◌, length, drop, [], arith, sym, ap, ◌∙◌, Vec, Global}
use Rattle.nrt_base.specs.declared.doc.Doc.{Doc}
use Rattle.cluster_documents.proofs.ShownRows.{live_from, row_taken, row_dead}
use Rattle.cluster_documents.proofs.node_documents.push_documents.Goals as goal
use Rattle.cluster_documents.proofs.node_documents.push_documents.Goals.{then-is_live+in_ok-doc+in_ok-push, else-is_live}

no_doc : Doc
no_doc = record { key = []; text = [] }

pub loop-row-preserved : goal.loop-row-preserved
loop-row-preserved c =
    let docs = c.args.segment.now.docs in
    let live = c.args.segment.now.live in
    let rows = c.rows-row-end.ensures in
    let lt : c.loop-row.row < length docs = omega (arith, c.loop-row-test.true, rows.docs) in
    let long : length live ≡ length docs = omega (arith, rows.docs, rows.live) in
    elim c.if-is_live.branch [
      | then-is_live+in_ok-doc+in_ok-push w ↦
          let put = ap (λ (v : Vec Doc Global). v.items) w.docs-is ∙ w.in_ok-push.ensures.items in
          row_taken docs live c.loop-row.row c.loop-row.docs.items _ lt long c.loop-row.invariant w.in_ok-doc.doc c.if-is_live.docs.items (sym w.if-is_live.true ∙ c.is_live.ensures) w.in_ok-doc.ensures put
      | else-is_live w ↦
          let passed = row_dead docs live c.loop-row.row c.loop-row.docs.items _ lt long c.loop-row.invariant no_doc (sym w.if-is_live.false ∙ c.is_live.ensures) in
          ap (λ (v : Vec Doc Global). v.items ++ live_from (drop (c.loop-row.row + 1) docs) (drop (c.loop-row.row + 1) live)) w.docs-is ∙ passed
    ]
