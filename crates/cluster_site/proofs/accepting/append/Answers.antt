use Rattle.cluster_site.proofs.Accepts.{memory_is, appended}
use Rattle.cluster_site.proofs.accepting.append.Goals as goal

pub memory_alone-requires : goal.memory_alone-requires
memory_alone-requires g c = memory_is c.append.result c.in-Err.fault c.in-Err.is (c.append.ensures.only c.requires.calm)

pub returns-in-Ok-clause-goes_on : goal.returns-in-Ok-clause-goes_on
returns-in-Ok-clause-goes_on g c = appended g.D.Dir.cells g.D.Dir.plans c.args.log.now c.append.new.self c.args.entry.now c.append.result _ c.in-Ok.is c.requires c.append.ensures.ended c.append.ensures.log c.append.ensures.safe c.append.ensures.calm
