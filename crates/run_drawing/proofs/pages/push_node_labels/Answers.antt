use Rattle.std.proofs.Common.{◌≡◌, ◌++◌, ◌+◌, ◌∙◌, ℕ, List, ap, arith}
use Rattle.run_picture.proofs.ViewLemmas.{each_more}
use Rattle.run_drawing.specs.Drawing.{node_label}
use Rattle.run_drawing.proofs.pages.push_node_labels.Goals as goal

pub loop-next-preserved : goal.loop-next-preserved
loop-next-preserved c =
    let number : 1 + c.loop-next.next ≡ c.loop-next.next + 1 = omega arith in
    c.in_ok-push_node_label.ensures ∙ ap (λ (t : List ℕ). t ++ node_label c.args.page (c.loop-next.next + 1)) c.loop-next.invariant
    ∙ each_more (node_label c.args.page) 1 c.loop-next.next (c.loop-next.next + 1) c.args.out.now.items number
