-- What a crash may leave of the commits of a directory.
use Rattle.std.specs.Prelude.{◌≡◌, ◌≢◌, ◌⊎◌, ◌<◌, ℕ, true, List, Option, None, IfSome, IsSomeAnd, Contains, is_some}
use Rattle.std.specs.List.{flat_map}
use Rattle.disk_model.specs.Disk.{Name, Content, Cell, Cells, Image, IsImage, may_leave, is_among}
use Rattle.file_deleter.specs.Holdings.{IsThere}
use Rattle.file_names.specs.Names.{is_commit_name, commit_number}
use Rattle.segment_infos.specs.Files.{files_of_segment}
use Rattle.segment_infos.specs.declared.infos.Infos.{Infos}
use Rattle.commit_steps.specs.declared.states.Commit.{Commit}
use Rattle.commit_steps.specs.Found.{ShowsNothing, ShowsCommit}
use Rattle.commit_steps.specs.Flights.{own_name, IsCommit, Spells}

-- each file that the infos name is in the directory
abbrev pub HasFilesOf : Cells → Infos → Type 0
HasFilesOf cells infos = (q : Name) → Contains (flat_map files_of_segment infos.segs) q → IsThere cells q

-- an image shows commit N with these infos, and each file that they name is there, as the directory now reads it
pub record HasInfos (cells : Cells) (image : Image) (number : ℕ) (infos : Infos) : Type 0 where
  pub shown : ShowsCommit image number infos
  pub files : (q : Name) → Contains (flat_map files_of_segment infos.segs) q → (image q ≡ (cells q).now) × (is_some (image q) ≡ true)

-- an image shows this commit, with its files
abbrev pub HasCommit : Cells → Image → Commit → Type 0
HasCommit cells image c = HasInfos cells image c.number c.infos

-- each image shows the last commit, or the one in flight, or nothing where there is no last one
pub record ImagesAre (cells : Cells) (last flight : Option Commit) : Type 0 where
  pub each : (image : Image) → IsImage cells image →
      (ShowsNothing image × (last ≡ None)) ⊎ (IsSomeAnd last (HasCommit cells image) ⊎ IsSomeAnd flight (HasCommit cells image))

-- each image shows nothing
pub record ImagesShowNothing (cells : Cells) : Type 0 where
  pub each : (image : Image) → IsImage cells image → ShowsNothing image

-- each image shows commit N with these infos, with their files
pub record ImagesShow (cells : Cells) (number : ℕ) (infos : Infos) : Type 0 where
  pub each : (image : Image) → IsImage cells image → HasInfos cells image number infos

-- each image shows this commit
abbrev pub ImagesHave : Cells → Commit → Type 0
ImagesHave cells c = ImagesShow cells c.number c.infos

-- ---- the same by cells, which is carried from call to call
-- a crash leaves what reads
abbrev pub IsSettled : Cell → Type 0
IsSettled cell = (o : Content) → may_leave cell o ≡ true → o ≡ cell.now

-- a crash leaves nothing
abbrev pub LeavesNothing : Cell → Type 0
LeavesNothing cell = (o : Content) → may_leave cell o ≡ true → o ≡ None

-- a file is there, and a crash leaves it as it reads
abbrev pub IsSettledFile : Cell → Type 0
IsSettledFile cell = IsSettled cell × (is_some cell.now ≡ true)

-- each of these files is there, and a crash leaves it as it reads
abbrev pub AreSettled : Cells → List Name → Type 0
AreSettled cells files = (q : Name) → is_among files q ≡ true → IsSettledFile (cells q)

-- a number is above that of the last commit
abbrev pub IsAbove : Option Commit → ℕ → Type 0
IsAbove last n = IfSome last (λ c. c.number < n)

-- a crash leaves the last commit: its file spells its infos, and its files are as they read
pub record Stays (cells : Cells) (c : Commit) : Type 0 where
  pub commit : IsCommit c
  pub own : (o : Content) → may_leave (cells (own_name c)) o ≡ true → Spells c o
  pub files : AreSettled cells c.files

-- a crash leaves the commit in flight, or nothing in the place of its file
pub record MayStay (cells : Cells) (last : Option Commit) (c : Commit) : Type 0 where
  pub commit : IsCommit c
  pub above : IsAbove last c.number
  pub own : (o : Content) → may_leave (cells (own_name c)) o ≡ true → (o ≡ None) ⊎ Spells c o
  pub files : AreSettled cells c.files

-- a crash leaves the last commit, maybe the one in flight, and no other above the last
pub record IsSafe (cells : Cells) (last flight : Option Commit) : Type 0 where
  pub last_stays : IfSome last (Stays cells)
  pub in_flight : IfSome flight (MayStay cells last)
  pub no_other : (q : Name) → is_commit_name q ≡ true → IsAbove last (commit_number q) → IfSome flight (λ c. own_name c ≢ q) → LeavesNothing (cells q)
