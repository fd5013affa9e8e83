-- The files that a copy state names.
use Rattle.std.specs.Prelude.{ℕ, ◌≤◌, List, map, length, Option, nat_eq}
use Rattle.std.specs.List.{All}
use Rattle.std.specs.List.Sorted.{IsStrictlySortedBy}
use Rattle.std.specs.Map.{lookup}
use Rattle.std.specs.Ordering.{nat_cmp}
use Rattle.std.specs.Cmp.Lexicographic.{pointwise, slice_cmp}
use Rattle.segment_infos.specs.declared.infos.Infos.{Infos}
use Rattle.segment_infos.specs.Infos.{IsInfosFile}
use Rattle.copy_state.specs.declared.meta.FileMetaData.{FileMetaData}
use Rattle.copy_state.specs.declared.state.CopyState.{CopyState}

-- the names of files that are listed with their metadata
abbrev pub meta_names : List (List ℕ × FileMetaData) → List (List ℕ)
meta_names files = map (λ f. f.0) files

-- the metadata that is listed under a name
abbrev pub meta_in : List (List ℕ × FileMetaData) → List ℕ → Option FileMetaData
meta_in files q = lookup (pointwise nat_eq q) files

-- the names ascend, each once, and have room for the number of a job behind them
pub record AreShortNames (names : List (List ℕ)) : Type 0 where
  pub ascending : IsStrictlySortedBy (slice_cmp nat_cmp) names
  pub short : All (λ q. length q ≤ 46) names

-- a copy state that a job can be begun with: its infos are in their grammar, and its files have short names that ascend
pub record IsCopyState (state : CopyState) : Type 0 where
  pub infos : Infos
  pub spelled : IsInfosFile infos state.infos
  pub files : AreShortNames (meta_names state.files)
  pub completed : AreShortNames state.completed
