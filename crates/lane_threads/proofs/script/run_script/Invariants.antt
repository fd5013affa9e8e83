use Rattle.std.proofs.Common.{◌≤◌, length}
use Rattle.lane_threads.specs.Lanes.{ArePhasesDone}
use Rattle.lane_threads.proofs.script.run_script.Given as goal

abbrev pub invariant-loop-phase : goal.invariant-loop-phase
invariant-loop-phase g l = ArePhasesDone l.script.log l.lock (length l.initial.lanes.items) l.script.phases l.phase-index l.hub l.lanes.items × (l.phase-index ≤ length l.script.phases)
