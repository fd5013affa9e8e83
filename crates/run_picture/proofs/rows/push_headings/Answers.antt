use Rattle.std.proofs.Common.{◌≡◌, ◌++◌, ◌+◌, ◌∙◌, ℕ, List, ap, arith}
use Rattle.run_picture.specs.Picture.{heading_text}
use Rattle.run_picture.proofs.ViewLemmas.{each_more}
use Rattle.run_picture.proofs.rows.push_headings.Goals as goal

pub loop-next-preserved : goal.loop-next-preserved
loop-next-preserved c =
    let number : 1 + c.loop-next.next ≡ c.from.result + 1 = omega (arith, c.from.ensures) in
    c.in_ok-push_heading.ensures ∙ ap (λ (t : List ℕ). t ++ heading_text c.args.width (c.from.result + 1)) c.loop-next.invariant
    ∙ each_more (heading_text c.args.width) 1 c.loop-next.next (c.from.result + 1) c.args.out.now.items number
