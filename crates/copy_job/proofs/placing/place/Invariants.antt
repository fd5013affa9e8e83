use Rattle.std.proofs.Common.{◌≡◌, ◌≤◌, length}
use Rattle.std.specs.Vec.{vec_capacity}
use Rattle.file_deleter.specs.Holdings.{IsWhole}
use Rattle.copy_job.specs.Parts.{ArePlaceable}
use Rattle.copy_job.specs.Placing.{Places, KeepsNames}
use Rattle.copy_job.proofs.placing.place.Given as goal

abbrev pub invariant-loop-at : goal.invariant-loop-at
invariant-loop-at g l = record {
  places : Places l.at l.initial.parts.items l.parts.items l.initial.files l.files (g.D.Dir.cells l.initial.dir) (g.D.Dir.cells l.dir);
  able : ArePlaceable l.files l.parts.items;
  whole : IsWhole (g.D.Dir.cells l.dir) l.files;
  len : length l.parts.items ≡ length l.initial.parts.items;
  names : KeepsNames l.initial.parts.items l.initial.names.items l.parts.items l.names.items;
  long : length l.names.items ≡ length l.initial.names.items;
  parts_capacity : vec_capacity l.parts ≡ vec_capacity l.initial.parts;
  names_capacity : vec_capacity l.names ≡ vec_capacity l.initial.names;
  later : g.D.Dir.faults l.initial.dir ≤ g.D.Dir.faults l.dir;
}
