-- What a book of commits stands for.
use Rattle.std.specs.Prelude.{◌≡◌, ◌<◌, ◌+◌, ℕ, Bool, true, false, Option, Some, None, IfSome, List, [], ◌∷◌, ◌++◌, Result, IfOk, IfErr}
use Rattle.disk_model.specs.Disk.{Cells, Name}
use Rattle.file_deleter.specs.Holdings.{Holdings, AreCounted}
use Rattle.file_deleter.specs.Moves.{Shifts}
use Rattle.commit_steps.specs.Commits.{ImagesAre, IsAbove, IsSafe}
use Rattle.segment_infos.specs.declared.infos.Infos.{Infos}
use Rattle.commit_steps.specs.Flights.{own_name, pending_name, IsCommit}
use Rattle.commit_steps.specs.Calls.{StandsBegun, StandsSynced, StandsWritten, StandsPending, StandsNamed, StandsRenamed}
use Rattle.commit_steps.specs.declared.states.Commit.{Commit}
use Rattle.commit_steps.specs.declared.states.Flight.{Flight}
use Rattle.commit_steps.specs.declared.states.Stopped.{Stopped}
use Rattle.commit_steps.specs.declared.stage.Stage.{Stage}
use Rattle.commit_steps.specs.declared.stage.Stage.TheVariants.{Begun, Synced, Written, Pending, Named, Renamed}
use Rattle.commit_steps.specs.declared.stage.Progress.{Progress}
use Rattle.commit_steps.specs.declared.stage.Progress.TheVariants.{Going, Made}
use Rattle.commit_steps.specs.declared.stage.CommitBook.{CommitBook}

-- the commit in flight, with its bytes
abbrev pub flight_of : Stage → Flight
flight_of (Begun s) = s.0
flight_of (Synced s) = s.0
flight_of (Written s) = s.0
flight_of (Pending s) = s.0
flight_of (Named s) = s.0
flight_of (Renamed s) = s.0

-- the commit in flight
abbrev pub commit_of : Stage → Commit
commit_of s = (flight_of s).commit

-- where the next call of the directory leads, if it is not refused
abbrev pub progress_of : Stage → Progress
progress_of (Begun s) = Going (Synced (record { 0 = s.0 }))
progress_of (Synced s) = Going (Written (record { 0 = s.0 }))
progress_of (Written s) = Going (Pending (record { 0 = s.0 }))
progress_of (Pending s) = Going (Named (record { 0 = s.0 }))
progress_of (Named s) = Going (Renamed (record { 0 = s.0 }))
progress_of (Renamed s) = Made s.0.commit

-- the next call is the last one
abbrev pub is_last_call : Stage → Bool
is_last_call (Renamed s) = true
is_last_call (Begun s) = false
is_last_call (Synced s) = false
is_last_call (Written s) = false
is_last_call (Pending s) = false
is_last_call (Named s) = false

-- the commit in flight that a crash may show: from the first sync of names on
abbrev pub shown_in : Stage → Option Commit
shown_in (Named s) = Some s.0.commit
shown_in (Renamed s) = Some s.0.commit
shown_in (Begun s) = None
shown_in (Synced s) = None
shown_in (Written s) = None
shown_in (Pending s) = None

-- the same of a book's stage
abbrev pub shown_by : Option Stage → Option Commit
shown_by None = None
shown_by (Some s) = shown_in s

-- the names that a commit in flight holds: its files, and from the write on its own file under its present name
abbrev pub stage_names : Stage → List Name
stage_names (Begun s) = s.0.commit.files
stage_names (Synced s) = s.0.commit.files
stage_names (Written s) = pending_name s.0.commit ∷ s.0.commit.files
stage_names (Pending s) = pending_name s.0.commit ∷ s.0.commit.files
stage_names (Named s) = pending_name s.0.commit ∷ s.0.commit.files
stage_names (Renamed s) = own_name s.0.commit ∷ s.0.commit.files

-- the same of a book's stage
abbrev pub flying_names : Option Stage → List Name
flying_names None = []
flying_names (Some s) = stage_names s

-- the names that the last commit holds
abbrev pub last_names : Option Commit → List Name
last_names None = []
last_names (Some c) = c.names

-- the names that a book holds: those of the last commit, and those of the one in flight
abbrev pub book_names : CommitBook → List Name
book_names book = last_names book.last ++ flying_names book.stage

-- the names of a commit in flight are as the book's calls left them
abbrev pub Stands : Cells → Holdings → Stage → Type 0
Stands cells holdings (Begun s) = StandsBegun cells holdings s.0
Stands cells holdings (Synced s) = StandsSynced cells holdings s.0
Stands cells holdings (Written s) = StandsWritten cells holdings s.0
Stands cells holdings (Pending s) = StandsPending cells holdings s.0
Stands cells holdings (Named s) = StandsNamed cells holdings s.0
Stands cells holdings (Renamed s) = StandsRenamed cells holdings s.0

-- a commit in flight is above the last one, and its number was drawn
pub record IsNumbered (last : Option Commit) (next : ℕ) (s : Stage) : Type 0 where
  pub above : IsAbove last (commit_of s).number
  pub drawn : (commit_of s).number < next

-- the directory and the deleter are as the calls of the book leave them
pub record IsBookSound (cells : Cells) (holdings : Holdings) (book : CommitBook) : Type 0 where
  pub safe : IsSafe cells book.last (shown_by book.stage)
  pub stands : IfSome book.stage (Stands cells holdings)
  pub numbered : IfSome book.stage (IsNumbered book.last book.next)
  pub next : IsAbove book.last book.next
  pub some : 0 < book.next

-- ---- steps
-- the book after a call that was not refused
abbrev pub book_along : CommitBook → Progress → CommitBook
book_along book (Going s) = record { last = book.last; stage = Some s; next = book.next }
book_along book (Made c) = record { last = Some c; stage = None; next = book.next }

-- the book after a call of its stage that was not refused
abbrev pub book_by : CommitBook → Option Stage → CommitBook
book_by book None = book
book_by book (Some s) = book_along book (progress_of s)

-- the book after a step that was not refused
abbrev pub book_after : CommitBook → CommitBook
book_after book = book_by book book.stage

-- the next call is the last one of the commit in flight
abbrev pub is_last_step : Option Stage → Bool
is_last_step None = false
is_last_step (Some s) = is_last_call s

-- the last commit, after a call
abbrev pub last_along : Option Commit → Progress → Option Commit
last_along last (Going s) = last
last_along last (Made c) = Some c

-- the commit in flight that a crash may show, after a call
abbrev pub shown_along : Progress → Option Commit
shown_along (Going s) = shown_in s
shown_along (Made c) = None

-- the commit of which a call was made
abbrev pub commit_along : Progress → Commit
commit_along (Going s) = commit_of s
commit_along (Made c) = c

-- the names of a commit that is still in flight are as the book's calls left them
abbrev pub StandsAlong : Cells → Holdings → Progress → Type 0
StandsAlong cells holdings (Going s) = Stands cells holdings s
StandsAlong cells holdings (Made c) = Unit {0}

-- the names that the commit of a call holds after it
abbrev pub names_along : Progress → List Name
names_along (Going s) = stage_names s
names_along (Made c) = own_name c ∷ c.files

-- what a call of the directory does to a commit in flight, that leads from a stage to where it then is
pub record Leads (before after : Cells) (old new : Holdings) (from : Stage) (to : Progress) : Type 0 where
  pub same : commit_along to ≡ commit_of from
  pub safe : (last : Option Commit) → IsAbove last (commit_of from).number → IsSafe before last (shown_in from) → IsSafe after (last_along last to) (shown_along to)
  pub stands : StandsAlong after new to
  pub shifts : Shifts (stage_names from) (names_along to) old new before after

-- a call that is not refused makes progress, and one that is refused hands the stage back
pub record Advances (before after : Cells) (old new : Holdings) (from : Stage) (result : Result Progress (Stopped Stage)) : Type 0 where
  pub ok : IfOk result (λ to. (to ≡ progress_of from) × Leads before after old new from to)
  pub err : IfErr result (λ stopped. (stopped.state ≡ from) × Leads before after old new from (Going from))

-- What a step of the book does, whatever it answers: the directory stays sound, each image shows the last commit, or the one in flight, or nothing where
-- there is no last one, counts move as the names of the book, and these stay counted.
pub record IsBookStep (before after : Cells) (old new : Holdings) (was now : CommitBook) : Type 0 where
  pub sound : IsBookSound after new now
  pub images : ImagesAre after now.last (shown_by now.stage)
  pub shifts : Shifts (book_names was) (book_names now) old new before after
  pub counted : AreCounted (book_names now) new

-- ---- how a book begins
-- this is the last commit
abbrev pub IsLast : ℕ → Infos → Option Commit → Type 0
IsLast number infos None = ⊥
IsLast number infos (Some c) = (c.number ≡ number) × (c.infos ≡ infos) × IsCommit c

-- the book has this last commit, nothing in flight, and this next number
pub record IsOpened (number : ℕ) (infos : Infos) (next : ℕ) (book : CommitBook) : Type 0 where
  pub last : IsLast number infos book.last
  pub none : book.stage ≡ None
  pub next_is : book.next ≡ next

-- this commit has begun, and made no call
abbrev pub IsBegun : ℕ → Infos → Option Stage → Type 0
IsBegun number infos (Some (Begun s)) = (s.0.commit.number ≡ number) × (s.0.commit.infos ≡ infos)
IsBegun number infos _ = ⊥

-- a commit of these infos has begun with the number that was the next
pub record HasBegun (infos : Infos) (was now : CommitBook) : Type 0 where
  pub begun : IsBegun was.next infos now.stage
  pub last : now.last ≡ was.last
  pub next_is : now.next ≡ was.next + 1
