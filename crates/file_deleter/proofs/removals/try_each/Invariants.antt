use Rattle.std.proofs.Common.{◌≡◌}
use Rattle.std.specs.Vec.{vec_capacity}
use Rattle.file_deleter.specs.Removals.{directory_of}
use Rattle.file_deleter.proofs.Removing.{Tried}
use Rattle.file_deleter.proofs.removals.try_each.Given as goal

-- the names so far were tried; those that failed stand in front, and the rest is as it was
abbrev pub invariant-loop-index : goal.invariant-loop-index
invariant-loop-index g l = record {
  tried : Tried l.initial.names.items l.names.items l.index l.kept (directory_of g.D.Dir.cells g.D.Dir.plans g.D.Dir.faults l.initial.dir) (directory_of g.D.Dir.cells g.D.Dir.plans g.D.Dir.faults l.dir);
  capacity : vec_capacity l.names ≡ vec_capacity l.initial.names;
}
