use Rattle.std.proofs.Common.{◌≡◌, ◌++◌, drop}
use Rattle.std.specs.List.{flat_map}
use Rattle.run_picture.specs.Picture.{cell_text}
use Rattle.run_picture.proofs.rows.push_cells.Given as goal

abbrev pub invariant-loop-view : goal.invariant-loop-view
invariant-loop-view l =
    l.out.items ++ flat_map (cell_text l.width l.event l.heads) (drop l.view-index l.views)
    ≡ l.fn.out.items ++ flat_map (cell_text l.width l.event l.heads) l.views
