use Rattle.searcher_switch.proofs.Appearing.{keeps_none, only_then_none}
use Rattle.index_primary.specs.Held.{IsOwnFile}
use Rattle.index_primary.specs.Primary.{loose_of}
use Rattle.index_primary.proofs.Publishing.{fresh, once, twice_there, has_written, primary_unheld, primary_unwritten, written_appears}
use Rattle.index_primary.proofs.publish_ends.write.Goals as goal

pub write_all-requires-clause-fresh : goal.write_all-requires-clause-fresh
write_all-requires-clause-fresh g c = rw c.as_slice.ensures (fresh g.D.Dir.cells c.args.parts.now c.args.ready.now c.requires.whole c.requires.ready)

pub write_all-requires-clause-once : goal.write_all-requires-clause-once
write_all-requires-clause-once g c = rw c.as_slice.ensures (once g.D.Dir.cells c.args.parts.now c.args.ready.now c.requires.whole c.requires.ready)

pub returns-in-Err-clause-whole : goal.returns-in-Err-clause-whole
returns-in-Err-clause-whole g c = primary_unwritten g.D.Dir.cells c.args.parts.now c.args.ready.now c.requires.whole c.requires.ready c.write_all.new.dir c.write_all.new.files c.in-Err.ensures.same (rw c.as_slice.ensures at c.in-Err.ensures.keeps)

pub hold_there-requires : goal.hold_there-requires
hold_there-requires g c = rw c.as_slice-3.ensures (twice_there g.D.Dir.cells c.args.parts.now c.args.ready.now c.requires.whole c.requires.ready c.write_all.new.dir c.write_all.new.files
    (rw c.as_slice.ensures at c.in-Ok.ensures.counts) (rw c.as_slice.ensures at c.in-Ok.ensures.keeps))

pub returns-in-Ok-hold_there-clause-written : goal.returns-in-Ok-hold_there-clause-written
returns-in-Ok-hold_there-clause-written g c = has_written g.D.Dir.cells c.args.parts.now c.args.ready.now c.requires.whole c.requires.ready c.write_all.new.dir c.write_all.new.files
    (rw c.as_slice.ensures at c.in-Ok.ensures.counts) (rw c.as_slice.ensures at c.in-Ok.ensures.keeps) c.hold_there.new.self (rw c.as_slice-3.ensures at c.in-Ok-hold_there.ensures.holds) (rw c.as_slice-2.ensures at c.in-Ok.ensures.reads)

pub returns-in-Err-hold_there-clause-whole : goal.returns-in-Err-hold_there-clause-whole
returns-in-Err-hold_there-clause-whole g c = primary_unheld g.D.Dir.cells c.args.parts.now c.args.ready.now c.requires.whole c.requires.ready c.write_all.new.dir c.write_all.new.files
    (rw c.as_slice.ensures at c.in-Ok.ensures.counts) (rw c.as_slice.ensures at c.in-Ok.ensures.keeps) c.release.new.dir c.release.new.self
    (rw (c.in-Err-hold_there.ensures.err, c.as_slice-in-Err-hold_there.ensures) at c.release.ensures.lets_go)

pub returns-in-Err-clause-appears : goal.returns-in-Err-clause-appears
returns-in-Err-clause-appears g c = written_appears g.D.Dir.cells c.args.parts.now c.args.ready.now c.requires.ready c.write_all.new.dir c.write_all.new.files (rw c.as_slice.ensures at c.in-Err.ensures.keeps)

pub returns-in-Ok-hold_there-clause-appears : goal.returns-in-Ok-hold_there-clause-appears
returns-in-Ok-hold_there-clause-appears g c = written_appears g.D.Dir.cells c.args.parts.now c.args.ready.now c.requires.ready c.write_all.new.dir c.write_all.new.files (rw c.as_slice.ensures at c.in-Ok.ensures.keeps)

pub returns-in-Err-hold_there-clause-appears : goal.returns-in-Err-hold_there-clause-appears
returns-in-Err-hold_there-clause-appears g c =
    let p = c.args.parts.now in
    only_then_none (IsOwnFile p.infos (loose_of p)) (g.D.Dir.cells p.dir) (g.D.Dir.cells c.write_all.new.dir) (g.D.Dir.cells c.release.new.dir)
    (written_appears g.D.Dir.cells p c.args.ready.now c.requires.ready c.write_all.new.dir c.write_all.new.files (rw c.as_slice.ensures at c.in-Ok.ensures.keeps))
    (keeps_none c.hold_there.new.self c.release.new.self (g.D.Dir.cells c.write_all.new.dir) (g.D.Dir.cells c.release.new.dir) c.release.ensures.lets_go.keeps)
