use Rattle.std.proofs.Common.{◌≡◌, ◌≤◌, ℕ, List, take, true, None}
use Rattle.disk_model.specs.Disk.{is_among}
use Rattle.trans_log.specs.Names.{IsRecordNumber, pending_log_name_of}
use Rattle.trans_log.specs.Logs.{IsCalm}
use Rattle.trans_log.specs.Opening.{KeepsButPending}
use Rattle.trans_log.proofs.opening.sweep.Given as goal

-- no file has one of the pending names so far
abbrev pub invariant-loop-name : goal.invariant-loop-name
invariant-loop-name g l = record {
  gone : (m : ℕ) → IsRecordNumber m → is_among (take l.name-index l.names) (pending_log_name_of m) ≡ true → (g.D.Dir.cells l.dir (pending_log_name_of m)).now ≡ None;
  none : (q : List ℕ) → (g.D.Dir.cells l.initial.dir q).now ≡ None → (g.D.Dir.cells l.dir q).now ≡ None;
  others : KeepsButPending (g.D.Dir.cells l.initial.dir) (g.D.Dir.cells l.dir);
  later : g.D.Dir.faults l.initial.dir ≤ g.D.Dir.faults l.dir;
  calm : IsCalm (g.D.Dir.plans l.initial.dir) → IsCalm (g.D.Dir.plans l.dir);
}
