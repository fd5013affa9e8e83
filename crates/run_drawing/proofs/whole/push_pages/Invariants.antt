use Rattle.std.proofs.Common.{◌≡◌, ◌++◌, ◌*◌, length, min}
use Rattle.std.specs.List.{flat_map, range_with_len}
use Rattle.run_drawing.specs.Scenes.{ShowsScene}
use Rattle.run_drawing.specs.Drawing.{first_of, page_at}
use Rattle.run_drawing.proofs.whole.push_pages.Given as goal

abbrev pub invariant-loop-p : goal.invariant-loop-p
invariant-loop-p l = record {
  start : l.start ≡ min (l.p * 100) (length l.entries);
  shows : ShowsScene l.nodes (first_of l.entries l.start) l.scene;
  text : l.out.items ≡ l.fn.out.items ++ flat_map (page_at l.nodes l.entries) (range_with_len 0 l.p);
}
