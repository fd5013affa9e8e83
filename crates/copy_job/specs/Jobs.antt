-- A job: what it is to copy, what it has of it, and what the files of its point are meanwhile.
use Rattle.std.specs.Prelude.{◌≡◌, ◌≢◌, ◌&&◌, ℕ, ◌+◌, ◌==◌, Bool, true, false, not, is_none, is_some, if◌then◌else◌, List, [], ◌∷◌, ◌++◌, filter, Option, Some, None, IsSomeAnd}
use Rattle.std.specs.List.{All}
use Rattle.std.specs.List.Sorted.{IsStrictlySortedBy}
use Rattle.std.specs.Ordering.{nat_cmp}
use Rattle.std.specs.Cmp.Lexicographic.{slice_cmp}
use Rattle.file_names.specs.Names.{temp_name_of}
use Rattle.disk_model.specs.Disk.{Name, Content, same, is_among}
use Rattle.file_deleter.specs.Holdings.{times}
use Rattle.copy_state.specs.declared.meta.FileMetaData.{FileMetaData}
use Rattle.copy_state.specs.declared.state.CopyState.{CopyState}
use Rattle.copy_state.specs.States.{meta_names, meta_in, IsCopyState}
use Rattle.copy_job.specs.declared.part.JobPart.{JobPart}
use Rattle.copy_job.specs.declared.part.JobKind.{JobKind}
use Rattle.copy_job.specs.declared.fault.JobFault.{JobFault}
use Rattle.copy_job.specs.declared.fault.JobFault.TheVariants.{Memory, LinkFailed, Damaged, DirFailed, NameClash}
use Rattle.copy_job.specs.Parts.{present_names, own_names, insert_part}

-- a job: its number, what is copied by it, the files that it lacks, those that it has, and those that it reuses
pub record Job : Type 0 where
  pub number : ℕ
  pub kind : JobKind
  pub want : CopyState
  pub missing : List Name
  pub parts : List JobPart
  pub reused : List Name

-- the names that a job holds: its parts under their present names, and the files that it reuses
abbrev pub job_names : Job → List Name
job_names j = present_names j.parts ++ j.reused

-- the name under which a file of the point stands now
abbrev pub present_of : List JobPart → Name → Name
present_of [] q = q
present_of (p ∷ ps) q = if same p.own q then p.now else present_of ps q

-- what reads of the point's files under the names that they have now
abbrev pub reads_under : List JobPart → (Name → Content) → Name → Content
reads_under parts reads q = reads (present_of parts q)

-- each file of the state is missing, a part or reused, and one of these alone; what is missing ascends, and so do the parts by their own names
pub record IsJob (j : Job) : Type 0 where
  pub state : IsCopyState j.want
  pub each : (q : Name) → times j.missing q + times (own_names j.parts) q + times j.reused q ≡ times (meta_names j.want.files) q
  pub lacking : IsStrictlySortedBy (slice_cmp nat_cmp) j.missing
  pub ascending : IsStrictlySortedBy (slice_cmp nat_cmp) (own_names j.parts)

-- the names of which the list has no metadata
abbrev pub unheld_names : List (Name × FileMetaData) → List Name → List Name
unheld_names held names = filter (λ q. is_none (meta_in held q)) names

-- the names of which it has
abbrev pub held_names : List (Name × FileMetaData) → List Name → List Name
held_names held names = filter (λ q. is_some (meta_in held q)) names

-- a job without parts: it lacks the files that are not held, and reuses those that are
abbrev pub begun_job : ℕ → JobKind → CopyState → List (Name × FileMetaData) → Job
begun_job number kind want held = record {
  number = number;
  kind = kind;
  want = want;
  missing = unheld_names held (meta_names want.files);
  parts = [];
  reused = held_names held (meta_names want.files);
}

-- the job with one part more, which has its temporary name, and which it lacks no more
abbrev pub with_part : Job → Name → Job
with_part j name = record j {
  missing = filter (λ q. not (same q name)) j.missing;
  parts = insert_part (record { own = name; now = temp_name_of name j.number }) j.parts;
}

-- both files are listed, with the same metadata
abbrev pub is_same_meta : Option FileMetaData → Option FileMetaData → Bool
is_same_meta (Some a) (Some b) = same a.header b.header && (same a.footer b.footer && ((a.length == b.length) && (a.checksum == b.checksum)))
is_same_meta a b = false

-- the part is that of a missing file, which is wanted with the metadata that it has
abbrev pub is_still_wanted : List Name → (had wanted : List (Name × FileMetaData)) → JobPart → Bool
is_still_wanted missing had wanted p = is_among missing p.own && is_same_meta (meta_in had p.own) (meta_in wanted p.own)

-- the part of an older job is of a file that this one lacks, and wants with the same metadata
abbrev pub is_taken : Job → Job → JobPart → Bool
is_taken j old p = is_still_wanted j.missing old.want.files j.want.files p

-- the finished parts of an older job that are taken over
abbrev pub taken_parts : Job → Job → List JobPart
taken_parts j old = filter (is_taken j old) old.parts

-- the job with the parts that it takes over from an older one, which it lacks no more
abbrev pub taken_over : Job → Job → Job
taken_over j old = record j {
  missing = filter (λ q. not (is_among (own_names (taken_parts j old)) q)) j.missing;
  parts = taken_parts j old;
}

-- a held file of this name has other metadata
abbrev pub HasClash : List (Name × FileMetaData) → Name × FileMetaData → Type 0
HasClash held file = IsSomeAnd (meta_in held file.0) (λ ours. ours ≢ file.1)

-- none of the files has a clash
abbrev pub AreAgreed : List (Name × FileMetaData) → List (Name × FileMetaData) → Type 0
AreAgreed held files = All (λ f. ¬ HasClash held f) files

-- the first of the files that has a clash is this one: what is held of it, and what is wanted
pub record IsFirstClash (held files : List (Name × FileMetaData)) (name : Name) (ours theirs : FileMetaData) : Type 0 where
  pub front : List (Name × FileMetaData)
  pub rest : List (Name × FileMetaData)
  pub files_are : files ≡ front ++ (name, theirs) ∷ rest
  pub agreed : AreAgreed held front
  pub found : meta_in held name ≡ Some ours
  pub other : ours ≢ theirs

-- the files have no clash, and these are the names that are not held and those that are
pub record AreSortedOut (held files : List (Name × FileMetaData)) (missing reused : List Name) : Type 0 where
  pub agreed : AreAgreed held files
  pub missing_are : missing ≡ unheld_names held (meta_names files)
  pub reused_are : reused ≡ held_names held (meta_names files)

-- a job of these files is not begun: memory is wanting, or this is their first clash
abbrev pub IsBeginningFault : List (Name × FileMetaData) → List (Name × FileMetaData) → JobFault → Type 0
IsBeginningFault held files Memory = Unit {0}
IsBeginningFault held files (NameClash name ours theirs) = IsFirstClash held files name ours theirs
IsBeginningFault held files LinkFailed = ⊥
IsBeginningFault held files (Damaged name want found) = ⊥
IsBeginningFault held files DirFailed = ⊥
