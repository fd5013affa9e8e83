use Rattle.std.proofs.Common.{sym, arith}
use Rattle.copy_job.specs.Jobs.{job_names}
use Rattle.searcher_switch.proofs.Appearing.{keeps_none}
use Rattle.replica_node.specs.Merges.{copies_without}
use Rattle.replica_node.proofs.Cancelled.{cancelled_counted, copy_split, left_whole, left_sourced, left_standing, without_held}
use Rattle.replica_node.proofs.ends.end_copy.Goals as goal

pub end-requires : goal.end-requires
end-requires g c =
    let p = c.args.parts.now in
    cancelled_counted g.D.Dir.cells p c.requires.whole (record { running = copies_without c.args.job p.copies.running; pending = p.copies.pending }) (job_names c.take-copy.result)
    (copy_split g.D.Dir.cells p c.requires.whole c.args.job c.take-copy.result (sym c.take-copy.ensures.copy))

pub returns-clause-back : goal.returns-clause-back
returns-clause-back g c = record {
  whole = left_whole g.D.Dir.cells c.args.parts.now c.requires.whole c.args.job c.take-copy.result (sym c.take-copy.ensures.copy) c.end.new.dir c.end.new.files c.end.ensures.lets_go c.take-copy.new.self c.take-copy.ensures.rest;
  standing = left_standing g.D.Dir.cells c.args.parts.now c.requires.whole c.args.job c.take-copy.result (sym c.take-copy.ensures.copy) c.end.new.dir c.end.new.files c.end.ensures.lets_go c.take-copy.new.self c.take-copy.ensures.rest;
  sourced = left_sourced g.D.Dir.cells c.args.parts.now c.requires.whole c.args.job c.take-copy.result (sym c.take-copy.ensures.copy) c.end.new.dir c.end.new.files c.end.ensures.lets_go c.take-copy.new.self c.take-copy.ensures.rest;
  held = without_held g.D.Dir.cells c.args.parts.now c.requires.whole c.args.job c.take-copy.result (sym c.take-copy.ensures.copy) c.end.new.dir c.end.new.files c.end.ensures.lets_go;
  fewer = λ q. omega (arith, c.end.ensures.lets_go.counts q);
  stays = record { held = c.end.ensures.lets_go.keeps.reads };
  appears = keeps_none c.args.parts.now.files c.end.new.files (g.D.Dir.cells c.args.parts.now.dir) (g.D.Dir.cells c.end.new.dir) c.end.ensures.lets_go.keeps;
  later = c.end.ensures.later;
}
