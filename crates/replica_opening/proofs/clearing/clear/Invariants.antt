use Rattle.std.proofs.Common.{◌≡◌, ◌≤◌, [], take}
use Rattle.file_deleter.specs.Moves.{LetsGo}
use Rattle.replica_opening.proofs.clearing.clear.Given as goal

abbrev pub invariant-loop-name : goal.invariant-loop-name
invariant-loop-name g l = record {
  lets_go : LetsGo (take l.name-index l.names) l.initial.files l.files (g.D.Dir.cells l.initial.dir) (g.D.Dir.cells l.dir);
  none : l.files.due ≡ [];
  later : g.D.Dir.faults l.initial.dir ≤ g.D.Dir.faults l.dir;
}
