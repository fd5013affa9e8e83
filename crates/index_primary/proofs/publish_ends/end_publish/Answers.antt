use Rattle.index_primary.proofs.PublishStarts.{primary_idle}
use Rattle.index_primary.proofs.publish_ends.end_publish.Goals as goal

pub returns-clause-whole : goal.returns-clause-whole
returns-clause-whole g c = primary_idle g.D.Dir.cells c.args.parts.now c.requires
