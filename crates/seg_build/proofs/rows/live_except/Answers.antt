use Rattle.std.proofs.Common.{ap, ◌∙◌, false, set}
use Rattle.seg_build.proofs.LiveMarks.{marked_dead, left_live}
use Rattle.seg_build.proofs.rows.live_except.Goals as goal
use Rattle.seg_build.proofs.rows.live_except.Goals.{then-is_dead, else-is_dead}

pub loop-row-preserved : goal.loop-row-preserved
loop-row-preserved c =
    elim c.if-is_dead.branch [
      | then-is_dead w ↦ w.live-is ∙ w.kill.ensures ∙ ap (λ xs. set xs c.loop-row.row false) c.loop-row.invariant ∙ marked_dead c.args.dead.now c.loop-row.row _ c.loop-row-test.true w.if-is_dead.true
      | else-is_dead w ↦ w.live-is ∙ c.loop-row.invariant ∙ left_live c.args.dead.now c.loop-row.row _ c.loop-row-test.true w.if-is_dead.false
    ]
