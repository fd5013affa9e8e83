use Rattle.std.proofs.Common.{ℕ, ◌≤◌}
use Rattle.run_drawing.specs.Scenes.{ShowsScene}
use Rattle.run_drawing.specs.Drawing.{first_of, AreDrawn}
use Rattle.run_drawing.proofs.pages.push_entries.Given as goal

abbrev pub invariant-loop-i : goal.invariant-loop-i
invariant-loop-i l = record {
  low : l.page.start ≤ l.i;
  drawn : (size : ℕ) → ShowsScene size (first_of l.entries l.page.start) l.fn.scene
      → AreDrawn l.page size (first_of l.entries l.i) l.fn.out.items l.out.items l.scene;
}
