use Rattle.std.proofs.Common.{◌≡◌, ◌≤◌, length}
use Rattle.codec_frame.specs.declared.frame.FileFault.{FileFault}
use Rattle.disk_model.specs.Disk.{Name, reads_of}
use Rattle.trans_log.specs.Opening.{IsBrokenRecord}
use Rattle.trans_log.specs.Logs.{Numbered, HasRecord, IsCalm}
use Rattle.trans_log.proofs.opening.read_records.Given as goal

-- the records of the numbers so far were read, and none of their files is refused
abbrev pub invariant-loop-index : goal.invariant-loop-index
invariant-loop-index g l = record {
  len : length l.records.items ≡ l.index;
  reads : Numbered (HasRecord (reads_of (g.D.Dir.cells l.initial.dir))) 0 l.records.items;
  passed : (name : Name) (fault : FileFault) (b : IsBrokenRecord (reads_of (g.D.Dir.cells l.initial.dir)) name fault) → l.index ≤ length b.before;
  cells : g.D.Dir.cells l.dir ≡ g.D.Dir.cells l.initial.dir;
  later : g.D.Dir.faults l.initial.dir ≤ g.D.Dir.faults l.dir;
  calm : IsCalm (g.D.Dir.plans l.initial.dir) → IsCalm (g.D.Dir.plans l.dir);
}
