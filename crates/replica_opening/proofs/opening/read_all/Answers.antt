use Rattle.std.proofs.Common.{◌∙◌, arith, refl}
use Rattle.disk_model.specs.Disk.{reads_of}
use Rattle.replica_opening.proofs.Metas.{knows_more}
use Rattle.replica_opening.proofs.Segments.{files_among, read_more, first_refused, there_along, still_before, refused_among, cut_off_among, none_refused}
use Rattle.replica_opening.proofs.opening.read_all.Goals as goal

pub read_next-requires-clause-there : goal.read_next-requires-clause-there
read_next-requires-clause-there g c q named =
    there_along (g.D.Dir.cells c.args.dir.now) (g.D.Dir.cells c.loop-record.dir) q q c.loop-record.invariant.cells refl (c.requires.there q (files_among c.args.records.now c.loop-record.record-index _ q (omega arith) named))

pub loop-record-preserved : goal.loop-record-preserved
loop-record-preserved g c = record {
  readers = read_more (g.D.Dir.cells c.args.dir.now) (g.D.Dir.cells c.loop-record.dir) c.args.records.now c.loop-record.record-index _ c.loop-record.point.segs c.read_next.new.point.segs c.loop-record.invariant.cells (omega arith) c.loop-record.invariant.readers c.in_default.ensures.read;
  known = knows_more (g.D.Dir.cells c.args.dir.now) (g.D.Dir.cells c.loop-record.dir) c.args.records.now c.loop-record.record-index _ c.loop-record.point.known c.read_next.new.point.known c.loop-record.invariant.cells (omega arith) c.loop-record.invariant.known c.in_default.ensures.known;
  behind = still_before (g.D.Dir.cells c.args.dir.now) (g.D.Dir.cells c.loop-record.dir) c.args.records.now c.loop-record.record-index _ c.loop-record.invariant.cells (omega arith) c.loop-record.invariant.behind c.in_default.ensures.refused;
  cells = c.read_next.ensures.cells ∙ c.loop-record.invariant.cells;
  later = omega (arith, c.read_next.ensures.later);
}

pub returns-in-Err-clause-err : goal.returns-in-Err-clause-err
returns-in-Err-clause-err g c = first_refused (g.D.Dir.cells c.args.dir.now) (g.D.Dir.cells c.loop-record.dir) c.args.records.now c.loop-record.record-index _ c.loop-record.point.segs c.in-Err.fault c.loop-record.invariant.cells (omega arith) c.loop-record.invariant.readers c.in-Err.ensures.err

pub returns-in-Err-clause-refused : goal.returns-in-Err-clause-refused
returns-in-Err-clause-refused g c =
    refused_among (g.D.Dir.cells c.args.dir.now) (g.D.Dir.cells c.loop-record.dir) c.args.records.now c.loop-record.record-index _ c.in-Err.fault c.loop-record.invariant.cells (omega arith) c.loop-record.invariant.behind c.in-Err.ensures.shown c.in-Err.ensures.refused

pub returns-clause-refused : goal.returns-clause-refused
returns-clause-refused g c = none_refused (reads_of (g.D.Dir.cells c.args.dir.now)) c.args.records.now c.loop-record.record-index (omega arith) c.loop-record.invariant.behind

pub returns-in-Err-clause-opens : goal.returns-in-Err-clause-opens
returns-in-Err-clause-opens g c = cut_off_among (g.D.Dir.cells c.args.dir.now) (g.D.Dir.cells c.loop-record.dir) c.args.records.now c.loop-record.record-index _ c.in-Err.fault c.loop-record.invariant.cells (omega arith) c.in-Err.ensures.shown
