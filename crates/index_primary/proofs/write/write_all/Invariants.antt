use Rattle.std.proofs.Common.{length, ◌-◌, ◌≡◌, ◌+◌, ◌≤◌, ℕ, List, take}
use Rattle.std.specs.List.{All}
use Rattle.file_deleter.specs.Holdings.{count_of, times}
use Rattle.file_deleter.specs.Moves.{KeepsFiles}
use Rattle.index_primary.specs.Written.{names_of, ReadsSo}
use Rattle.index_primary.proofs.write.write_all.Given as goal

abbrev pub invariant-loop-i : goal.invariant-loop-i
invariant-loop-i g l =
    let cells = g.D.Dir.cells in
    record {
      within : l.i ≤ length l.made;
      counts : (q : List ℕ) → count_of l.files q ≡ count_of l.initial.files q + times (take l.i (names_of l.made)) q;
      keeps : KeepsFiles (names_of l.made) l.initial.files l.files (cells l.initial.dir) (cells l.dir);
      reads : All (ReadsSo (cells l.dir)) (take l.i l.made);
      later : g.D.Dir.faults l.initial.dir ≤ g.D.Dir.faults l.dir;
    }

abbrev pub decreases-loop-i : goal.decreases-loop-i
decreases-loop-i g l = length l.made - l.i
