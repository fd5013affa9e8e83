use Rattle.std.proofs.Common.{◌≡◌, ◌≤◌, [], length}
use Rattle.copy_state.specs.States.{meta_names}
use Rattle.file_deleter.specs.Holdings.{AreCounted}
use Rattle.file_deleter.specs.Moves.{MovesCounts}
use Rattle.replica_node.specs.Merges.{running_names, AreCopiesApart}
use Rattle.replica_node.specs.Overlapping.{copies_beside}
use Rattle.replica_node.proofs.overlapping.end_overlapping.Given as goal

-- the copies that are to end are those that were, and what others held is counted
abbrev pub invariant-loop-number : goal.invariant-loop-number
invariant-loop-number g l = record {
  rest : copies_beside (meta_names l.wanted) l.running ≡ copies_beside (meta_names l.wanted) l.initial.running;
  apart : AreCopiesApart l.running;
  counted : AreCounted (running_names l.running) l.files;
  moves : MovesCounts [] (running_names l.initial.running) (running_names l.running) l.initial.files l.files (g.D.Dir.cells l.initial.dir) (g.D.Dir.cells l.dir);
  later : g.D.Dir.faults l.initial.dir ≤ g.D.Dir.faults l.dir;
}

abbrev pub decreases-loop-number : goal.decreases-loop-number
decreases-loop-number g l = length l.running
