use Rattle.std.proofs.Common.{◌≡◌, ◌≤◌, length, take}
use Rattle.std.specs.List.{All}
use Rattle.disk_model.specs.Disk.{reads_of}
use Rattle.commit_steps.specs.StepCalls.{MakesCalls}
use Rattle.copy_state.specs.States.{meta_names}
use Rattle.index_primary.specs.States.{IsMetaIn}
use Rattle.index_primary.proofs.states.metas_of.Given as goal

abbrev pub invariant-loop-name : goal.invariant-loop-name
invariant-loop-name g l = record {
  names : meta_names l.files ≡ take l.name-index l.names;
  metas : All (IsMetaIn (reads_of (g.D.Dir.cells l.initial.dir))) l.files;
  cells : g.D.Dir.cells l.dir ≡ g.D.Dir.cells l.initial.dir;
  counted : l.name-index ≤ length l.names;
  calls : MakesCalls l.name-index (g.D.Dir.plans l.initial.dir) (g.D.Dir.plans l.dir);
  later : g.D.Dir.faults l.initial.dir ≤ g.D.Dir.faults l.dir;
}
