-- The copies of merged segments that run, by their numbers, and the names that they hold.
use Rattle.std.specs.Prelude.{◌≡◌, ◌≢◌, ◌==◌, ◌<◌, ◌^◌, ℕ, suc, nat_lt, if◌then◌else◌, List, [], ◌∷◌, ◌++◌, Option, Some, None}
use Rattle.std.specs.List.{AllByRecursion}
use Rattle.nrt_base.specs.declared.numbers.SegNo.{SegNo}
use Rattle.file_names.specs.Names.{part_name_of, temp_name_of}
use Rattle.file_names.specs.declared.composed.SegPart.TheVariants.{Docs, Post, Info}
use Rattle.disk_model.specs.Disk.{Name}
use Rattle.file_deleter.specs.Holdings.{Holdings, count_of, times}
use Rattle.copy_state.specs.declared.state.CopyState.{CopyState}
use Rattle.copy_state.specs.States.{meta_names, meta_in}
use Rattle.copy_job.specs.declared.copying.Part.{Part}
use Rattle.copy_job.specs.Parts.{own_names}
use Rattle.copy_job.specs.Jobs.{Job, job_names}
use Rattle.replica_node.specs.declared.merges.MergeCopies.{MergeCopies}

-- the copy with the number
abbrev pub copy_at : ℕ → List Job → Option Job
copy_at number [] = None
copy_at number (c ∷ cs) = if c.number == number then Some c else copy_at number cs

-- the copies without the one of this number
abbrev pub copies_without : ℕ → List Job → List Job
copies_without number [] = []
copies_without number (c ∷ cs) = if c.number == number then cs else c ∷ copies_without number cs

-- the copies, with this one in the place of the one of this number
abbrev pub copies_with : ℕ → Job → List Job → List Job
copies_with number job [] = []
copies_with number job (c ∷ cs) = if c.number == number then job ∷ cs else c ∷ copies_with number job cs

-- the place of the copy with the number, or the length
abbrev pub copy_place : ℕ → List Job → ℕ
copy_place number [] = 0
copy_place number (c ∷ cs) = if c.number == number then 0 else suc (copy_place number cs)

-- the names that copies hold
abbrev pub running_names : List Job → List Name
running_names [] = []
running_names (c ∷ cs) = job_names c ++ running_names cs

-- the names that the copies that run and the pending files hold
abbrev pub copies_names : MergeCopies → List Name
copies_names c = running_names c.running ++ meta_names c.pending.files

-- nothing runs, nothing is pending, and nothing is expected
abbrev pub no_copies : MergeCopies
no_copies = record { running = []; pending = record { expected = []; files = [] } }

-- what is left of the copies where a generation is told: nothing, where it is above the greatest that was seen
abbrev pub copies_seen : (seen generation : ℕ) → MergeCopies → MergeCopies
copies_seen seen generation c = if nat_lt seen generation then no_copies else c

-- the files that a job copies: those that it lacks, and its parts
abbrev pub copied_names : Job → List Name
copied_names j = j.missing ++ own_names j.parts

-- the job lacks the part, which has the metadata that is wanted, and nobody holds a file of the part's temporary name
pub record CanTakePart (part : Part) (holdings : Holdings) (j : Job) : Type 0 where
  pub missing : 0 < times j.missing part.name
  pub meta : meta_in j.want.files part.name ≡ Some part.meta
  pub free : count_of holdings (temp_name_of part.name j.number) ≡ 0

-- no name of the one list is in the other
abbrev pub SharesNone : List Name → List Name → Type 0
SharesNone names others = (q : Name) → 0 < times names q → times others q ≡ 0

-- two jobs have other numbers, and copy no file both
pub record CopyApart (a b : Job) : Type 0 where
  pub numbers : a.number ≢ b.number
  pub files : SharesNone (copied_names a) (copied_names b)

-- any two of the jobs are so
abbrev pub AreCopiesApart : List Job → Type 0
AreCopiesApart [] = Unit {0}
AreCopiesApart (c ∷ cs) = AllByRecursion (CopyApart c) cs × AreCopiesApart cs

-- the files of the state are the three of one segment, which has no live file
pub record IsSegmentState (state : CopyState) : Type 0 where
  pub seg : SegNo
  pub numbered : seg.0 < 2 ^ 64
  pub files : meta_names state.files ≡ part_name_of seg.0 Docs ∷ part_name_of seg.0 Post ∷ part_name_of seg.0 Info ∷ []
