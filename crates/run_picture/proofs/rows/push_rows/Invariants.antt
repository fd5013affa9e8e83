use Rattle.std.proofs.Common.{◌≡◌, ◌++◌, reverse, take}
use Rattle.run_picture.specs.Picture.{rows_shown}
use Rattle.run_picture.specs.Views.{ShowsPlace}
use Rattle.run_picture.proofs.rows.push_rows.Given as goal

abbrev pub invariant-loop-entry : goal.invariant-loop-entry
invariant-loop-entry l = record {
  shows : ShowsPlace l.size (reverse (take l.entry-index l.entries)) l.view;
  place : l.place ≡ l.entry-index;
  text : l.out.items ≡ l.fn.out.items ++ rows_shown l.width l.size (reverse (take l.entry-index l.entries));
}
