use Rattle.std.proofs.Common.{◌∙◌, sym}
use Rattle.std.proofs.lemmas.Result.{on_ok_weaker}
use Rattle.cluster_documents.proofs.KeptPoint.{all_point}
use Rattle.cluster_documents.proofs.PublishEnding.{here, ends_lost}
use Rattle.cluster_documents.proofs.publishes.publish_end.Goals as goal

pub returns-then-not-source_survives-clause-ok : goal.returns-then-not-source_survives-clause-ok
returns-then-not-source_survives-clause-ok g c = on_ok_weaker c.lose_publish.result
    (λ refused. ends_lost c.args.at c.args.state.now c.lose_publish.new.state _ c.source_survives.result c.book-2.ensures.log c.source_survives.ensures c.if-not-source_survives.true refused) c.lose_publish.ensures.ok

pub finish_publish-requires-clause-lives : goal.finish_publish-requires-clause-lives
finish_publish-requires-clause-lives g c = sym (here c.args.at c.args.state.now c.args.state.now _ c.source_survives.result c.book-2.ensures.log c.source_survives.ensures) ∙ c.if-not-source_survives.false

pub returns-then-not-source_survives-clause-rest : goal.returns-then-not-source_survives-clause-rest
returns-then-not-source_survives-clause-rest g c = on_ok_weaker c.lose_publish.result (λ kept. all_point c.args.state.now c.lose_publish.new.state kept) c.lose_publish.ensures.rest
