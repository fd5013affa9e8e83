use Rattle.std.proofs.Common.{◌≡◌, ◌≤◌}
use Rattle.disk_model.specs.Disk.{reads_of}
use Rattle.index_check.proofs.Walk.{HaveRead}
use Rattle.index_check.proofs.segment.read_segments.Given as goal

abbrev pub invariant-loop-each : goal.invariant-loop-each
invariant-loop-each g l = record {
  read : HaveRead (reads_of (g.D.Dir.cells l.initial.dir)) l.records l.each-index l.segments;
  cells : g.D.Dir.cells l.dir ≡ g.D.Dir.cells l.initial.dir;
  later : g.D.Dir.faults l.initial.dir ≤ g.D.Dir.faults l.dir;
}
