use Rattle.std.proofs.Common.{refl}
use Rattle.cluster_documents.proofs.PublishEnding.{ends_made}
use Rattle.cluster_documents.proofs.publishes.finish_publish.Goals as goal

pub returns-clause-ok : goal.returns-clause-ok
returns-clause-ok g c =
    ends_made c.args.at c.args.state.now c.end_publish.new.cluster c.args.state.now.log _ refl refl c.requires.lives c.in_ok-end_publish.field-0 c.in_ok-end_publish.ensures.ok

pub returns-clause-rest : goal.returns-clause-rest
returns-clause-rest g c = c.in_ok-end_publish.ensures.rest
