use Rattle.std.proofs.Common.{◌≡◌, ◌++◌, ◌+◌, ◌∙◌, ℕ, List, ap, arith}
use Rattle.run_picture.proofs.ViewLemmas.{each_more}
use Rattle.run_drawing.specs.Drawing.{lane_label}
use Rattle.run_drawing.proofs.pages.push_lane_labels.Goals as goal

pub loop-next-preserved : goal.loop-next-preserved
loop-next-preserved c =
    let number : 1 + c.loop-next.next ≡ c.from.result + 1 = omega (arith, c.from.ensures) in
    c.in_ok-push_lane_label.ensures ∙ ap (λ (t : List ℕ). t ++ lane_label (c.from.result + 1)) c.loop-next.invariant
    ∙ each_more lane_label 1 c.loop-next.next (c.from.result + 1) c.args.out.now.items number
