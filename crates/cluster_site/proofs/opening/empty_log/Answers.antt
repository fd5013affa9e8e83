use Rattle.std.proofs.Common.{[], arith}
use Rattle.cluster_site.proofs.Opens.{reads_none, refused_for_memory, opened_none, opened_calm}
use Rattle.cluster_site.proofs.opening.empty_log.Goals as goal

pub memory_alone-requires : goal.memory_alone-requires
memory_alone-requires g c =
    refused_for_memory c.start.result (c.start.ensures.whole [] (omega arith) (reads_none (g.D.Dir.cells c.args.dir) c.requires.empty)) c.in-Err.refused c.in-Err.is (c.start.ensures.unfailed c.requires.calm)

pub returns-in-Ok-clause-records : goal.returns-in-Ok-clause-records
returns-in-Ok-clause-records g c = opened_none c.start.result (c.start.ensures.whole [] (omega arith) (reads_none (g.D.Dir.cells c.args.dir) c.requires.empty)) c.in-Ok.log c.in-Ok.is

pub returns-in-Ok-clause-goes_on : goal.returns-in-Ok-clause-goes_on
returns-in-Ok-clause-goes_on g c = record {
  unended = c.in-Ok.ensures.ended;
  files = c.in-Ok.ensures.log;
  safe = c.in-Ok.ensures.safe c.requires.same;
  calm = opened_calm g.D.Dir.plans c.start.result c.in-Ok.log c.in-Ok.is (c.start.ensures.calm c.requires.calm);
}
