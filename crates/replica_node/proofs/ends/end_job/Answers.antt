use Rattle.std.proofs.Common.{sym, arith}
use Rattle.replica_node.proofs.Beside.{standing_jobs}
use Rattle.replica_node.proofs.Keeping.{core_of}
use Rattle.replica_node.proofs.Ended.{job_counted, ended_core, ended_whole, ended_sourced, ended_held}
use Rattle.searcher_switch.proofs.Appearing.{keeps_none}
use Rattle.replica_node.proofs.ends.end_job.Goals as goal

pub end-requires : goal.end-requires
end-requires g c = job_counted g.D.Dir.cells c.args.parts.now c.requires.whole c.in-Some.job (sym c.in-Some.ensures.value)

pub returns-clause-back : goal.returns-clause-back
returns-clause-back g c = record {
  whole = ended_whole g.D.Dir.cells c.args.parts.now c.requires.whole c.in-Some.job (sym c.in-Some.ensures.value) c.end.new.dir c.end.new.files c.take.new.self c.take.ensures.after c.end.ensures.lets_go;
  standing = standing_jobs g.D.Dir.cells c.args.parts.now (core_of g.D.Dir.cells c.args.parts.now c.requires.whole) c.end.new.dir c.end.new.files c.take.new.self c.args.parts.now.known
      (ended_core g.D.Dir.cells c.args.parts.now c.requires.whole c.in-Some.job (sym c.in-Some.ensures.value) c.end.new.dir c.end.new.files c.take.new.self c.take.ensures.after c.end.ensures.lets_go) c.end.ensures.lets_go.keeps.reads;
  sourced = ended_sourced g.D.Dir.cells c.args.parts.now c.requires.whole c.in-Some.job (sym c.in-Some.ensures.value) c.end.new.dir c.end.new.files c.take.new.self c.take.ensures.after c.end.ensures.lets_go;
  held = ended_held g.D.Dir.cells c.args.parts.now c.requires.whole c.in-Some.job (sym c.in-Some.ensures.value) c.end.new.dir c.end.new.files c.take.new.self c.take.ensures.after c.end.ensures.lets_go;
  fewer = λ q. omega (arith, c.end.ensures.lets_go.counts q);
  stays = record { held = c.end.ensures.lets_go.keeps.reads };
  appears = keeps_none c.args.parts.now.files c.end.new.files (g.D.Dir.cells c.args.parts.now.dir) (g.D.Dir.cells c.end.new.dir) c.end.ensures.lets_go.keeps;
  later = c.end.ensures.later;
}
