use Rattle.std.proofs.Common.{subst}
use Rattle.std.specs.Prelude.{Option}
use Rattle.trans_log.specs.declared.log.TransLog.{TransLog}
use Rattle.cluster_site.specs.Sites.{LogStands}
use Rattle.cluster_site.proofs.Accepts.{noted}
use Rattle.cluster_site.proofs.accepting.note.Goals as goal

pub append-requires : goal.append-requires
append-requires g c = subst (λ (o : Option (TransLog _)). LogStands g.D.Dir.cells g.D.Dir.plans o) c.in-Some.is c.requires

pub returns-in-Some-clause-records : goal.returns-in-Some-clause-records
returns-in-Some-clause-records g c = noted c.args.log.now c.in-Some.log c.append.new.log c.args.entry.now c.append.result c.in-Some.is c.append.ensures.records
