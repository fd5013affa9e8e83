use Rattle.std.proofs.Common.{◌∷◌, []}
use Rattle.std.specs.Prelude.{codes}
use Rattle.std.specs.Fmt.{decimal}
use Rattle.run_drawing.proofs.PageLemmas.{open_pieces}
use Rattle.run_drawing.proofs.whole.push_open.Goals as goal

pub returns : goal.returns
returns c =
    open_pieces c.args.out.now.items (codes "<svg xmlns='http://www.w3.org/2000/svg' width='1180' height='") (decimal c.args.height) (codes "' viewBox='0 0 1180 ") (codes "'>")
    (10 ∷ []) _ _ _ c.in_ok-push_with.ensures c.in_ok-push_with-2.ensures c.in_ok-extend_from_slice.ensures.items
