use Rattle.std.proofs.Common.{◌≡◌, rules}
use Rattle.std.specs.Ordering.{is_lt}
use Rattle.std.proofs.lemmas.Cmp.{nat_list_cmp_total}
use Rattle.std.proofs.lemmas.List.Sorted.{ranks_by, answers_always}
use Rattle.nrt_base.specs.declared.doc.Doc.{Doc}
use Rattle.documents.specs.Documents.{key_cmp}
use Rattle.cluster_documents.proofs.node_documents.in_order.Goals as goal

pub returns-clause-in_order : goal.returns-clause-in_order
returns-clause-in_order c =
    c.sort_unstable_by.ensures.sorted (λ x y. is_lt (key_cmp x.key y.key)) (ranks_by nat_list_cmp_total (λ (d : Doc). d.key)) (answers_always _ (λ a r. is_lt r ≡ is_lt (key_cmp a.0.now.key a.1.0.now.key)) _ (λ f a r q k. search rules))
