use Rattle.std.proofs.Common.{◌++◌, ◌∙◌, ℕ, List, ap}
use Rattle.std.proofs.lemmas.List.{append_assoc}
use Rattle.run_picture.specs.Picture.{legend_text, columns_text}
use Rattle.run_picture.proofs.rows.push_head.Goals as goal

pub returns : goal.returns
returns c =
    let columns = columns_text c.args.width c.args.size in
    c.in_ok-push_columns.ensures ∙ ap (λ (t : List ℕ). t ++ columns) c.in_ok-push_legend.ensures
    ∙ append_assoc c.args.out.now.items legend_text columns
