use Rattle.std.proofs.Common.{List, ap, ◌∙◌, take, subst}
use Rattle.std.specs.BTreeMap.{is_at}
use Rattle.std.specs.Map.{lookup}
use Rattle.nrt_base.specs.declared.doc.Doc.{Doc}
use Rattle.documents.specs.declared.operation.Op.TheVariants.{Put}
use Rattle.documents.specs.Documents.{after_op, key_cmp}
use Rattle.documents.specs.Ranking.{matching_hits}
use Rattle.documents.proofs.DocumentLemmas.{put_next}
use Rattle.history_points.specs.Kept.{HasHits}
use Rattle.history_points.proofs.kept.ranks_among.Goals as goal

pub loop-doc-init : goal.loop-doc-init
loop-doc-init c = λ key. ap (lookup (is_at (key_cmp key))) c.new-ranks.ensures.empty

pub loop-doc-preserved : goal.loop-doc-preserved
loop-doc-preserved c =
    let i = c.loop-doc.doc-index in
    let next =
    ap (λ (doc : Doc). after_op (take i c.args.docs.now) (Put doc)) c.doc-item.is ∙ put_next c.args.docs.now i c.doc-item.result c.requires c.loop-doc-test.true in
    subst (λ (docs : List Doc). HasHits (matching_hits c.args.query.now docs) c.follow_put.new.ranks) next
    (c.in_ok-follow_put.ensures c.if-not-branch.false (take i c.args.docs.now) c.loop-doc.invariant)
