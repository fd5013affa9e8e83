use Rattle.std.proofs.Common.{List, subst}
use Rattle.std.specs.List.Sorted.{IsPermutation}
use Rattle.nrt_base.specs.declared.doc.Doc.{Doc}
use Rattle.cluster_documents.proofs.ShownRows.{segment_taken, segments_taken}
use Rattle.cluster_documents.proofs.node_documents.documents_in.Goals as goal

pub loop-at-preserved : goal.loop-at-preserved
loop-at-preserved c = segment_taken c.args.segments.now c.loop-at.at c.index-segments-at.result c.loop-at.docs.items c.push_documents.new.docs.items _ c.loop-at-test.true c.index-segments-at.is c.in_ok-push_documents.ensures c.loop-at.invariant

pub returns : goal.returns
returns c =
    let all = segments_taken c.args.segments.now c.loop-at.at c.loop-at.docs.items _ c.loop-at-test.false c.loop-at.invariant in
    record { same = subst (λ (ds : List Doc). IsPermutation ds c.in_order.result.items) all c.in_order.ensures.same; in_order = c.in_order.ensures.in_order }
