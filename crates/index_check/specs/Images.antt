-- The image of files: their number, and each of them with its name.
use Rattle.std.specs.Prelude.{◌≡◌, ℕ, ◌^◌, ◌<◌, List, ◌++◌, length, map, IsTrue}
use Rattle.std.specs.List.{All, flat_map}
use Rattle.file_names.specs.Names.{is_file_name, is_ascending}
use Rattle.body_forms.specs.Numbers.{u32_bytes, string}

-- a file: its name and its bytes
abbrev pub NamedFile : Type 0
NamedFile = List ℕ × List ℕ

-- bytes behind their length
abbrev pub sized : List ℕ → List ℕ
sized bytes = u32_bytes (length bytes) ++ bytes

-- a file in an image: its name as a string, and its bytes behind their length
abbrev pub file_bytes : NamedFile → List ℕ
file_bytes f = string f.0 ++ sized f.1

-- how many files there are, and each after the one before
unfoldable pub image_bytes : List NamedFile → List ℕ
image_bytes files = u32_bytes (length files) ++ flat_map file_bytes files

-- an image can hold the file: its name is one that files have, and it has fewer than 2^32 bytes
pub record FileFits (f : NamedFile) : Type 0 where
  pub name : IsTrue (is_file_name f.0)
  pub small : length f.1 < 2 ^ 32

-- the bytes are the image of these files: there are fewer than 2^32, and each has a name above that of the one before
pub record IsImageOf (bytes : List ℕ) (files : List NamedFile) : Type 0 where
  pub few : length files < 2 ^ 32
  pub fit : All FileFits files
  pub ascending : IsTrue (is_ascending (map (λ f. f.0) files))
  pub whole : bytes ≡ image_bytes files

-- the bytes are the image of no files
abbrev pub IsNoImage : List ℕ → Type 0
IsNoImage bytes = (files : List NamedFile) → IsImageOf bytes files → ⊥
