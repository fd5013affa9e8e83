use Rattle.std.proofs.Common.{◌∙◌, ap, List}
use Rattle.merge_tasks.specs.declared.tasks.OpenMerge.{OpenMerge}
use Rattle.merge_tasks.specs.Board.{Board, without_merge}
use Rattle.merge_tasks.proofs.BoardRows.{without_with}
use Rattle.merge_tasks.proofs.board.Tasks.close.Goals as goal

pub returns-clause-rows : goal.returns-clause-rows
returns-clause-rows c = c.leave_out.ensures ∙ (ap (λ (l : List OpenMerge). without_merge c.args.seg.0 l) c.take_spread-spread.ensures.rows ∙ (without_with _ c.args.seg.0 _ ∙ ap (λ (b : Board). without_merge c.args.seg.0 b.rows) c.self.view_is))
