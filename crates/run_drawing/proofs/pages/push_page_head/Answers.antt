use Rattle.std.proofs.Common.{◌++◌, ◌∷◌, ◌∙◌, [], ℕ, ap}
use Rattle.std.specs.Prelude.{codes}
use Rattle.std.specs.Fmt.{decimal}
use Rattle.run_drawing.specs.Drawing.{pages_height}
use Rattle.run_drawing.proofs.PageLemmas.{head_pieces}
use Rattle.run_drawing.proofs.pages.push_page_head.Goals as goal

pub returns : goal.returns
returns c =
    let out = c.args.out.now.items in
    let before = codes "<g transform='translate(0 " in
    head_pieces out before (decimal (pages_height c.args.page.lanes c.args.size c.args.p)) (codes ")'>") _ _ _ (10 ∷ []) _ _ _ _ _ _
    (c.in_ok-push_with.ensures ∙ ap (λ (k : ℕ). out ++ (before ++ decimal k)) c.pages_height-top.ensures) c.in_ok-extend_from_slice.ensures.items c.in_ok-push_range.ensures
    c.in_ok-push_lane_labels.ensures c.in_ok-push_node_labels.ensures c.in_ok-push.ensures.items
