-- Copy states that are out.
use Rattle.std.specs.Prelude.{◌≡◌, ◌+◌, ◌==◌, ◌<◌, ◌^◌, ℕ, suc, Bool, true, false, ◌&&◌, if◌then◌else◌, List, [], ◌∷◌, ◌++◌, length, Some}
use Rattle.std.specs.Cmp.Lexicographic.{pointwise}
use Rattle.std.specs.List.{All}
use Rattle.codec_frame.specs.Frame.{Wanted, IsFramed}
use Rattle.copy_state.specs.Meta.{IsMetaOf}
use Rattle.copy_state.specs.States.{meta_names}
use Rattle.copy_state.specs.declared.meta.FileMetaData.{FileMetaData}
use Rattle.copy_state.specs.declared.state.CopyState.{CopyState}
use Rattle.disk_model.specs.Disk.{Name, Content, same}
use Rattle.file_deleter.specs.Holdings.{times}
use Rattle.segment_infos.specs.declared.infos.Infos.{Infos}
use Rattle.segment_infos.specs.Infos.{IsInfosFile}
use Rattle.index_primary.specs.declared.states.Out.{Out}

-- what is held for a copy state
abbrev pub out_of : CopyState → Out
out_of s = record { version = s.version; names = meta_names s.files }

-- the bytes are a framed file, of a version and with names that a header can carry
pub record IsFramedFile (bytes : List ℕ) : Type 0 where
  pub want : Wanted
  pub version : ℕ
  pub id : List ℕ
  pub body : List ℕ
  pub framed : IsFramed want version id body bytes
  pub small : want.max < 2 ^ 32
  pub short_name : length want.name < 128
  pub short_suffix : length want.suffix < 256

-- under the name reads a framed file
pub record IsFramedIn (reads : Name → Content) (q : Name) : Type 0 where
  pub bytes : List ℕ
  pub there : reads q ≡ Some bytes
  pub file : IsFramedFile bytes

-- the file reads bytes of this metadata
pub record IsMetaIn (reads : Name → Content) (f : List ℕ × FileMetaData) : Type 0 where
  pub bytes : List ℕ
  pub there : reads f.0 ≡ Some bytes
  pub meta : IsMetaOf bytes f.1

-- the names that the copy states out hold
abbrev pub state_names : List Out → List Name
state_names [] = []
state_names (s ∷ ss) = s.names ++ state_names ss

-- two states of one version and of the same files
abbrev pub same_out : Out → Out → Bool
same_out s t = (s.version.0 == t.version.0) && pointwise same t.names s.names

-- the place of the first state like it, or the length
abbrev pub state_place : Out → List Out → ℕ
state_place s [] = 0
state_place s (t ∷ ts) = if same_out s t then 0 else suc (state_place s ts)

-- the states without the first one like it
abbrev pub states_without : Out → List Out → List Out
states_without s [] = []
states_without s (t ∷ ts) = if same_out s t then ts else t ∷ states_without s ts

-- a state like it is out
abbrev pub is_out : Out → List Out → Bool
is_out s [] = false
is_out s (t ∷ ts) = if same_out s t then true else is_out s ts

-- one is taken out
pub record TakesOut (s : Out) (old new : List Out) : Type 0 where
  pub names : (q : Name) → times (state_names old) q ≡ times (state_names new) q + times s.names q

-- The copy state of a point: its infos spelled, the number of the last commit, its files with their metadata, in ascending order, and
-- the files of the merges that were cut over.
pub record IsStateOf (reads : Name → Content) (infos : Infos) (names : List Name) (last : ℕ) (completed : List Name) (s : CopyState) : Type 0 where
  pub version : s.version ≡ infos.version
  pub primary_gen : s.primary_gen ≡ infos.generation
  pub generation : s.generation ≡ last
  pub infos_file : IsInfosFile infos s.infos
  pub names_are : meta_names s.files ≡ names
  pub metas : All (IsMetaIn reads) s.files
  pub completed_are : s.completed ≡ completed
