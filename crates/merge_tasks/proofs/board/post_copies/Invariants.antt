use Rattle.std.proofs.Common.{◌≡◌, ◌++◌, drop}
use Rattle.merge_tasks.specs.Board.{posts_of}
use Rattle.merge_tasks.proofs.board.post_copies.Given as goal

abbrev pub invariant-loop-s : goal.invariant-loop-s
invariant-loop-s l = l.posted.items ++ posts_of l.seg l.line (drop l.s-index l.sent) ≡ l.initial.posted.items ++ posts_of l.seg l.line l.sent
