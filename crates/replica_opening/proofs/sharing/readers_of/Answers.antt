use Rattle.std.proofs.Common.{◌∙◌, arith}
use Rattle.replica_opening.proofs.Segments.{read_more, stands_next}
use Rattle.replica_opening.proofs.sharing.readers_of.Goals as goal

pub next_reader-requires-clause-stands : goal.next_reader-requires-clause-stands
next_reader-requires-clause-stands g c =
    stands_next (g.D.Dir.cells c.args.dir.now) (g.D.Dir.cells c.loop-record.dir) c.args.records.now c.requires.stands.0 c.loop-record.record-index _ c.loop-record.invariant.cells c.requires.stands.1 (omega arith)

pub loop-record-preserved : goal.loop-record-preserved
loop-record-preserved g c = record {
  readers = read_more (g.D.Dir.cells c.args.dir.now) (g.D.Dir.cells c.loop-record.dir) c.args.records.now c.loop-record.record-index _ c.loop-record.segs.items c.next_reader.new.segs.items c.loop-record.invariant.cells (omega arith) c.loop-record.invariant.readers c.in_default-next_reader.ensures.read;
  cells = c.next_reader.ensures.cells ∙ c.loop-record.invariant.cells;
  later = omega (arith, c.next_reader.ensures.later);
}
