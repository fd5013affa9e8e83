-- What callers see of a cluster.
use Rattle.std.specs.Prelude.{ℕ, zero, suc, ◌≡◌, ◌==◌, ◌&&◌, if◌then◌else◌, List, [], ◌∷◌, Bool, true, false, Option, Some, None, unwrap_or}
use Rattle.std.specs.List.{slice_get}
use Rattle.disk_model.specs.Disk.{Name, same}
use Rattle.disk_model.specs.Faults.{Plans}
use Rattle.file_names.specs.Names.{part_name_of}
use Rattle.file_names.specs.declared.composed.SegPart.TheVariants.{Docs}
use Rattle.history_book.specs.declared.inner.Mark.{Mark}
use Rattle.merge_tasks.specs.Board.{Board}

-- a copy of a merged segment that runs at a node: its number, the first of the files that it wants, and whether it misses one
pub record MergedCopy : Type 0 where
  pub number : ℕ
  pub first : Option Name
  pub misses : Bool

-- the files of a job that copies a point to a node, and the generation that the node has seen: the names of the files that the job still
-- lacks, and of those that it has brought over
pub record JobFiles : Type 0 where
  pub seen : ℕ
  pub missing : List Name
  pub brought : List Name

-- How many calls of its directory the commit in flight at each node still needs, 0 where none is in flight; whether a merge was cut over
-- since the last point; the sizes of the primary's segments, of which merges are chosen; the files of the job at each node, which runs or
-- was stopped, none where it has no job; the copies of merged segments that run at each node; the tasks of merges; the faults that are planned
-- for each disk, with how many it has met; and the names of the files in the directory of each node, ascending.
pub record Rest : Type 0 where
  pub calls_left : List ℕ
  pub cut : Bool
  pub sizes : List (Option ℕ)
  pub jobs : List JobFiles
  pub copies : List (List MergedCopy)
  pub tasks : Board
  pub plans : List Plans
  pub names : List (List Name)

-- whether it has ended, how many nodes it has, all that happened, newest first, and what else callers are told
pub record Run : Type 0 where
  pub ended : Bool
  pub nodes : ℕ
  pub log : List Mark
  pub rest : Rest

-- how many calls of its directory the commit in flight at a node still needs
abbrev pub calls_at : ℕ → Run → ℕ
calls_at zero r = 0
calls_at (suc k) r = unwrap_or (slice_get r.rest.calls_left k) 0

-- none, of a node that is no replica
abbrev pub no_files : JobFiles
no_files = record { seen = 0; missing = []; brought = [] }

-- the files of the job at a node, which runs or was stopped, none where it has no job
abbrev pub files_at : ℕ → Run → JobFiles
files_at zero r = no_files
files_at (suc k) r = unwrap_or (slice_get r.rest.jobs k) no_files

-- none, of a disk that is not there
abbrev pub no_plans : Plans
no_plans = record { once = 0; stop = 0; met_once = 0; met_stop = 0 }

-- the faults that are planned for the disk of a node, with how many it has met
abbrev pub plans_at : ℕ → Run → Plans
plans_at zero r = no_plans
plans_at (suc k) r = unwrap_or (slice_get r.rest.plans k) no_plans

-- the names of the files in the directory of a node, ascending
abbrev pub names_at : ℕ → Run → List Name
names_at zero r = []
names_at (suc k) r = unwrap_or (slice_get r.rest.names k) []

-- the file is that of the stored documents of this segment
abbrev pub is_docs_of : ℕ → Option Name → Bool
is_docs_of seg None = false
is_docs_of seg (Some q) = same q (part_name_of seg Docs)

-- the copies of merged segments that run at a node
abbrev pub merged_at : ℕ → Run → List MergedCopy
merged_at zero r = []
merged_at (suc k) r = unwrap_or (slice_get r.rest.copies k) []

-- among these copies the one of this number is of this segment, and misses a file
abbrev pub misses_file : ℕ → ℕ → List MergedCopy → Bool
misses_file seg number [] = false
misses_file seg number (c ∷ copies) = if c.number == number then is_docs_of seg c.first && c.misses else misses_file seg number copies

-- the same of the copies at a node
abbrev pub misses_at : ℕ → ℕ → ℕ → Run → Bool
misses_at seg zero number r = false
misses_at seg (suc k) number r = misses_file seg number (merged_at (suc k) r)

-- the call has ended well, and this is the log now
pub record IsNow (old new : Run) (now : List Mark) : Type 0 where
  pub running : new.ended ≡ false
  pub nodes : new.nodes ≡ old.nodes
  pub log : new.log ≡ now

-- what callers are told beside the log is as before, but for what is planned for disks, what they have met, and the names of their files
abbrev pub KeepsRest : Run → Run → Type 0
KeepsRest old new = new.rest ≡ record old.rest { plans = new.rest.plans; names = new.rest.names }

-- the call found no memory: the cluster has ended, and the log is as before
pub record IsEnded (old new : Run) : Type 0 where
  pub ended : new.ended ≡ true
  pub nodes : new.nodes ≡ old.nodes
  pub log : new.log ≡ old.log
