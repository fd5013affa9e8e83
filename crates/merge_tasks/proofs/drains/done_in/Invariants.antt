use Rattle.std.proofs.Common.{◌≡◌, drop}
use Rattle.merge_tasks.specs.Board.{done_under}
use Rattle.merge_tasks.proofs.drains.done_in.Given as goal

abbrev pub invariant-loop-row : goal.invariant-loop-row
invariant-loop-row l = done_under l.at (drop l.row-index l.counts) ≡ done_under l.at l.initial.counts
