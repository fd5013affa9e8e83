use Rattle.file_deleter.specs.Holdings.{AreCounted}
use Rattle.commit_steps.specs.Book.{book_names, IsBookSound}
use Rattle.base_tests.proofs.site.Site.commit.Given as goal

-- the site stays as its calls leave it
abbrev pub invariant-loop-count : goal.invariant-loop-count
invariant-loop-count g l = record {
  sound : IsBookSound (g.D.Dir.cells l.self.dir) l.self.files l.self.book;
  counted : AreCounted (book_names l.self.book) l.self.files;
}
