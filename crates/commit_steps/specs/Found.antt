-- The commit that a directory shows, by what stands under each name.
use Rattle.std.specs.Prelude.{◌≡◌, ℕ, ◌<◌, ◌^◌, true, List, Option, Some, None, is_some}
use Rattle.disk_model.specs.Disk.{Name, Image}
use Rattle.file_names.specs.Names.{commit_name_of, is_commit_name, commit_number}
use Rattle.segment_infos.specs.Infos.{IsInfosFile}
use Rattle.segment_infos.specs.declared.infos.Infos.{Infos}

-- no `segments_N` stands there
abbrev pub ShowsNothing : Image → Type 0
ShowsNothing image = (q : Name) → is_commit_name q ≡ true → image q ≡ None

-- `segments_N` stands there with these bytes, and no `segments_M` does with a greater M
pub record IsNewest (image : Image) (n : ℕ) (bytes : List ℕ) : Type 0 where
  pub some : 0 < n
  pub below : n < 2 ^ 62
  pub there : image (commit_name_of n) ≡ Some bytes
  pub greatest : (q : Name) → is_commit_name q ≡ true → n < commit_number q → image q ≡ None

-- what stands there shows commit N with these infos: its `segments_N` is the one with the greatest N, and its bytes spell the infos
pub record ShowsCommit (image : Image) (n : ℕ) (infos : Infos) : Type 0 where
  pub bytes : List ℕ
  pub newest : IsNewest image n bytes
  pub spelled : IsInfosFile infos bytes

-- `segments_N` stands there, and no `segments_M` does with a greater M
pub record IsNewestNumber (image : Image) (n : ℕ) : Type 0 where
  pub some : 0 < n
  pub below : n < 2 ^ 62
  pub there : is_some (image (commit_name_of n)) ≡ true
  pub greatest : (q : Name) → is_commit_name q ≡ true → n < commit_number q → image q ≡ None

-- the greatest N of the `segments_N`, or nothing where there is none
abbrev pub IsNewestAnswer : Image → Option ℕ → Type 0
IsNewestAnswer image None = ShowsNothing image
IsNewestAnswer image (Some n) = IsNewestNumber image n
