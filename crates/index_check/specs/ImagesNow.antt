-- The image of a directory as it reads now.
use Rattle.std.specs.Prelude.{ℕ, ◌≡◌, ◌+◌, ◌-◌, ◌^◌, List, Some, map}
use Rattle.std.specs.List.{All}
use Rattle.disk_model.specs.Disk.{Name, Image}
use Rattle.disk_model.specs.Faults.{Plans}
use Rattle.index_check.specs.Images.{NamedFile, IsImageOf}
use Rattle.index_check.specs.Directory.{directory_with}

-- the plans stood 2^64 - 1 calls ahead, these many calls ago
pub record ArePutOff (ago : ℕ) (p : Plans) : Type 0 where
  pub once : p.once + ago ≡ 2 ^ 64 - 1
  pub stop : p.stop + ago ≡ 2 ^ 64 - 1

-- these are the files of these names, in order, each with the bytes that it reads
pub record AreReadAs (reads : Image) (names : List Name) (files : List NamedFile) : Type 0 where
  pub called : map (λ f. f.0) files ≡ names
  pub bytes : All (λ f. reads f.0 ≡ Some f.1) files

-- the bytes are the image of the files that stand in the directory, all of them and no others
pub record IsImageNow (reads : Image) (bytes : List ℕ) : Type 0 where
  pub files : List NamedFile
  pub image : IsImageOf bytes files
  pub same : directory_with files ≡ reads
