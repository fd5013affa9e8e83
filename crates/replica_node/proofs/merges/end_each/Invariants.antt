use Rattle.std.proofs.Common.{◌≤◌, [], vec_len}
use Rattle.file_deleter.specs.Moves.{MovesCounts}
use Rattle.replica_node.specs.Merges.{running_names}
use Rattle.replica_node.proofs.merges.end_each.Given as goal

abbrev pub invariant-loop-copy : goal.invariant-loop-copy
invariant-loop-copy g l = record {
  moves : MovesCounts [] (running_names l.initial.copies.items) (running_names l.copies.items) l.initial.files l.files (g.D.Dir.cells l.initial.dir) (g.D.Dir.cells l.dir);
  later : g.D.Dir.faults l.initial.dir ≤ g.D.Dir.faults l.dir;
}

abbrev pub decreases-loop-copy : goal.decreases-loop-copy
decreases-loop-copy g l = vec_len l.copies
