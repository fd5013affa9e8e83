use Rattle.std.proofs.Common.{◌≡◌}
use Rattle.seg_build.proofs.LiveMarks.{so_far}
use Rattle.seg_build.proofs.rows.live_except.Given as goal

abbrev pub invariant-loop-row : goal.invariant-loop-row
invariant-loop-row l = l.live ≡ so_far l.dead l.row
