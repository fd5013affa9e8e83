-- A directory, the counts of its files, and the holders of these.
use Rattle.std.specs.Prelude.{◌≡◌, ◌≤◌, ◌<◌, ◌+◌, ℕ, true, false, None, List}
use Rattle.disk_model.specs.Disk.{Name, Cells, is_among}
use Rattle.file_names.specs.Names.{is_commit_name, is_pending_name, commit_number, pending_number}
use Rattle.file_deleter.specs.Holdings.{Holdings, count_of, times, IsWhole}
use Rattle.commit_steps.specs.Book.{book_names, IsBookSound}
use Rattle.commit_steps.specs.declared.stage.CommitBook.{CommitBook}

-- no file has the name of a commit, or of one in preparation, from this number on
pub record AreFree (cells : Cells) (next : ℕ) : Type 0 where
  pub commits : (q : Name) → is_commit_name q ≡ true → next ≤ commit_number q → (cells q).now ≡ None
  pub pending : (q : Name) → is_pending_name q ≡ true → next ≤ pending_number q → (cells q).now ≡ None

-- none of the names is that of a commit in preparation
pub record HasNoPending (names : List Name) : Type 0 where
  pub each : (q : Name) → is_pending_name q ≡ true → times names q ≡ 0

-- The node's files: each count is the number of its holders, the names in the directory are just the counted and the pending ones,
-- the commits are as the book's calls left them, nobody else holds a file of a commit in preparation, and the names of the commits to come are free.
-- `others` are the names, with repeats, that hold beside the commits.
pub record IsWholeNode (cells : Cells) (holdings : Holdings) (others : List Name) (book : CommitBook) : Type 0 where
  pub counts : (q : Name) → count_of holdings q ≡ times others q + times (book_names book) q
  pub whole : IsWhole cells holdings
  pub sound : IsBookSound cells holdings book
  pub plain : HasNoPending others
  pub free : AreFree cells book.next

-- names that calls beside the commits may write: none of a commit or of one in preparation, and none that the book holds
pub record IsApart (names : List Name) (book : CommitBook) : Type 0 where
  pub plain : (q : Name) → is_among names q ≡ true → (is_commit_name q ≡ false) × (is_pending_name q ≡ false)
  pub files : (q : Name) → is_among (book_names book) q ≡ true → is_among names q ≡ false

-- the names of a value go from `from` to `to`, and those in `to` are of `from` or of these
pub record AddsOnly (names from to : List Name) : Type 0 where
  pub each : (q : Name) → times from q ≡ 0 → times names q ≡ 0 → times to q ≡ 0

-- no count falls
pub record KeepsCounts (old new : Holdings) : Type 0 where
  pub each : (q : Name) → count_of old q ≤ count_of new q

-- a file that is counted before and after reads the same
pub record KeepsBytes (old new : Holdings) (before after : Cells) : Type 0 where
  pub held : (q : Name) → 0 < count_of old q → 0 < count_of new q → (after q).now ≡ (before q).now

-- a name that is no commit's, nor one in preparation, and that nobody holds, is held by nobody afterwards
pub record HoldsNoMore (old new : Holdings) : Type 0 where
  pub each : (q : Name) → is_commit_name q ≡ false → is_pending_name q ≡ false → count_of old q ≡ 0 → count_of new q ≡ 0
