use Rattle.std.proofs.Common.{length, ◌-◌}
use Rattle.segment_steps.specs.Segments.{changed}
use Rattle.segment_steps.specs.Killing.{HasAllRows}
use Rattle.segment_steps.proofs.TermRows.{AreKilledTo}
use Rattle.segment_steps.proofs.killing.kill_hits.Given as goal

abbrev pub invariant-loop-row : goal.invariant-loop-row
invariant-loop-row l = record {
  rows : HasAllRows l.segment l.change;
  killed : AreKilledTo (length l.segment.docs) l.initial.rows l.rows (changed l.segment l.initial.change).live (changed l.segment l.change).live l.from;
}

abbrev pub decreases-loop-row : goal.decreases-loop-row
decreases-loop-row l = length l.segment.docs - l.from
