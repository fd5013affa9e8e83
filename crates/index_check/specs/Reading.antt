-- How the fronts of images are read.
use Rattle.std.specs.Prelude.{ℕ, List, [], Bool, ◌&&◌, nat_lt, ◌==◌, length, take, drop, Option, Some, None, if◌then◌else◌}
use Rattle.std.specs.Ordering.{nat_cmp}
use Rattle.std.specs.Cmp.Lexicographic.{slice_cmp}
use Rattle.file_names.specs.Names.{is_file_name, is_less}
use Rattle.body_forms.specs.Format.{Read, ◌>>=◌, then_at, chain_at}
use Rattle.body_forms.specs.Numbers.{u32_at, string_at}
use Rattle.index_check.specs.Images.{NamedFile}

-- the bytes behind their length
unfoldable pub sized_at : List ℕ → Read (List ℕ)
sized_at bytes = u32_at bytes >>= λ n. if nat_lt (length n.1) n.0 then None else Some (take n.0 n.1, drop n.0 n.1)

-- a file may come behind one of this name: its own is one that files have, and is above it; no name stands before the first
abbrev pub may_follow : List ℕ → NamedFile → Bool
may_follow before f = is_file_name f.0 && is_less (slice_cmp nat_cmp before f.0)

-- the file at the front, which comes behind one of this name
unfoldable pub image_file_at : List ℕ → List ℕ → Read NamedFile
image_file_at before bytes = then_at string_at (λ _. sized_at) bytes >>= λ x. if may_follow before x.0 then Some x else None

-- so many files, the first of which comes first of all
unfoldable pub image_files_at : ℕ → List ℕ → Read (List NamedFile)
image_files_at count bytes = chain_at image_file_at (λ f. f.0) count [] bytes

-- what was read, where nothing follows it
abbrev pub whole_of : {X : Type 0} → X × List ℕ → Option X
whole_of x = if length x.1 == 0 then Some x.0 else None

-- the files whose image the bytes are
unfoldable pub held_image : List ℕ → Option (List NamedFile)
held_image bytes = u32_at bytes >>= λ n. image_files_at n.0 n.1 >>= whole_of
