-- Calls beside the book, that are lent the same directory and the same deleter.
use Rattle.std.specs.Prelude.{◌≡◌, ◌≤◌, true, false, List}
use Rattle.disk_model.specs.Disk.{Name, Cells, is_among}
use Rattle.file_names.specs.Names.{is_commit_name, is_pending_name}
use Rattle.file_deleter.specs.Holdings.{Holdings, count_of, AreCounted}
use Rattle.file_deleter.specs.Moves.{KeepsFiles}
use Rattle.commit_steps.specs.declared.stage.CommitBook.{CommitBook}
use Rattle.commit_steps.specs.Book.{book_names}

-- What a call beside the book does: no name that it writes is that of a commit or of one in preparation, or is held by the book, and what it
-- does not write is kept; the book's names are counted before and after; and no file of a commit in preparation is held once more.
pub record IsBeside (book : CommitBook) (old new : Holdings) (before after : Cells) : Type 0 where
  pub written : List Name
  pub plain : (q : Name) → is_among written q ≡ true → (is_commit_name q ≡ false) × (is_pending_name q ≡ false)
  pub apart : (q : Name) → is_among (book_names book) q ≡ true → is_among written q ≡ false
  pub keeps : KeepsFiles written old new before after
  pub counted : AreCounted (book_names book) old
  pub still_counted : AreCounted (book_names book) new
  pub alone : (q : Name) → is_pending_name q ≡ true → count_of new q ≤ count_of old q
