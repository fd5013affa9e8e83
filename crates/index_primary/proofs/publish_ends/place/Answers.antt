use Rattle.std.proofs.Common.{false}
use Rattle.index_primary.proofs.Publishing.{gone_counted, primary_placed, swept, failed_twice}
use Rattle.searcher_switch.proofs.Appearing.{keeps_none}
use Rattle.index_primary.proofs.publish_ends.place.Goals as goal

pub release-requires : goal.release-requires
release-requires g c = rw c.as_slice.ensures (gone_counted g.D.Dir.cells c.args.parts.now c.args.ready c.requires c.replace-former.new.self c.replace-former.ensures.point c.replace-former.ensures.tickets)

pub returns-clause-whole : goal.returns-clause-whole
returns-clause-whole g c = primary_placed g.D.Dir.cells c.args.parts.now c.args.ready c.requires c.replace-former.new.self c.replace-former.ensures.point c.replace-former.ensures.tickets
    c.sweep.new.dir c.sweep.new.self
    (swept c.args.ready.gone c.args.parts.now.files c.release.new.self c.sweep.new.self (g.D.Dir.cells c.args.parts.now.dir) (g.D.Dir.cells c.release.new.dir) (g.D.Dir.cells c.sweep.new.dir)
    (rw c.as_slice.ensures at c.release.ensures.lets_go) c.sweep.ensures.lets_go)
    c.end_cut.new.waiting c.end_cut.new.publish false c.end_cut.ensures.none

pub returns-clause-appears : goal.returns-clause-appears
returns-clause-appears g c = keeps_none c.args.parts.now.files c.sweep.new.self (g.D.Dir.cells c.args.parts.now.dir) (g.D.Dir.cells c.sweep.new.dir)
    (swept c.as_slice.result.now c.args.parts.now.files c.release.new.self c.sweep.new.self (g.D.Dir.cells c.args.parts.now.dir) (g.D.Dir.cells c.release.new.dir) (g.D.Dir.cells c.sweep.new.dir)
    c.release.ensures.lets_go c.sweep.ensures.lets_go).keeps

pub returns-clause-twice : goal.returns-clause-twice
returns-clause-twice g c some = failed_twice (g.D.Dir.faults c.args.parts.now.dir) (g.D.Dir.faults c.release.new.dir) (g.D.Dir.faults c.sweep.new.dir) c.release.ensures.cause c.sweep.ensures.removals c.sweep.ensures.cause some

pub returns-clause-stays : goal.returns-clause-stays
returns-clause-stays g c = record {
  held = (swept c.as_slice.result.now c.args.parts.now.files c.release.new.self c.sweep.new.self (g.D.Dir.cells c.args.parts.now.dir) (g.D.Dir.cells c.release.new.dir) (g.D.Dir.cells c.sweep.new.dir)
      c.release.ensures.lets_go c.sweep.ensures.lets_go).keeps.reads;
}
