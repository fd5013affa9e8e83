-- The files of a point that is searched from now on are there.
use Rattle.std.proofs.Common.{◌≡◌, ℕ, ◌≤◌, true, List, is_some, get_or, sym, subst, arith}
use Rattle.disk_model.specs.Disk.{Name, Cell, Cells}
use Rattle.file_deleter.specs.Holdings.{Holdings, count_of, times, AreThere}
use Rattle.file_deleter.specs.Moves.{HoldsFiles, Releases}
use Rattle.file_deleter.proofs.NameLemmas.{times_within}

-- names that are held before others are given back stay there
pub switched_there : (names freed : List Name) (old mid new : Holdings) (before after : Cells) → AreThere before names → HoldsFiles names old mid before
    → ((q : Name) → times freed q ≤ count_of old q) → Releases freed mid new before after → AreThere after names
switched_there names freed old mid new before after there holds counted releases = record {
  each = λ k d lt.
      let q : Name = get_or names k d in
      subst (λ (c : Cell). is_some c.now ≡ true) (sym (releases.held q (omega (arith, times_within names k d lt, holds.counts q, counted q, releases.counts q)))) (there.each k d lt);
}
