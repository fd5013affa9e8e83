-- What is known of files that are held.
use Rattle.std.specs.Prelude.{◌≡◌, ◌≢◌, ◌<◌, ℕ, false, List, Some, None, Contains, if◌then◌else◌}
use Rattle.codec_frame.specs.Bytes.{AreBytes}
use Rattle.file_names.specs.Names.{is_commit_name, is_pending_name, temp_name_of}
use Rattle.disk_model.specs.Disk.{Name, Content, same}
use Rattle.file_deleter.specs.Holdings.{Holdings, count_of}
use Rattle.copy_state.specs.declared.meta.FileMetaData.{FileMetaData}
use Rattle.copy_state.specs.Meta.{meta_fault, IsMetaOf}
use Rattle.copy_state.specs.States.{meta_in}

-- the name is none of a commit, of one in preparation or of a file that is being copied
pub record IsLasting (q : Name) : Type 0 where
  pub commit : is_commit_name q ≡ false
  pub pending : is_pending_name q ≡ false
  pub temporary : (name : Name) (job : ℕ) → q ≢ temp_name_of name job

-- bytes of this metadata read under the name
pub record HasMeta (reads : Name → Content) (q : Name) (meta : FileMetaData) : Type 0 where
  pub bytes : List ℕ
  pub there : reads q ≡ Some bytes
  pub meta_is : IsMetaOf bytes meta

-- the metadata of what reads under the name is known
pub record KnowsFile (reads : Name → Content) (known : List (Name × FileMetaData)) (q : Name) : Type 0 where
  pub meta : FileMetaData
  pub known_is : meta_in known q ≡ Some meta
  pub has : HasMeta reads q meta

-- that of each of the files is known
pub record KnowsFiles (reads : Name → Content) (names : List Name) (known : List (Name × FileMetaData)) : Type 0 where
  pub each : (q : Name) → Contains names q → KnowsFile reads known q

-- that of each file is known that is held and is no commit's and not being copied
pub record KnowsHeld (reads : Name → Content) (holdings : Holdings) (known : List (Name × FileMetaData)) : Type 0 where
  pub each : (q : Name) → IsLasting q → 0 < count_of holdings q → KnowsFile reads known q

-- the bytes tell their metadata
abbrev pub TellsMeta : List ℕ → Type 0
TellsMeta bytes = AreBytes bytes → meta_fault bytes ≡ None

-- under this name this metadata is known, and else what was known before
abbrev pub LearnsMeta : Name → FileMetaData → (old new : List (Name × FileMetaData)) → Type 0
LearnsMeta name meta old new = (q : Name) → meta_in new q ≡ (if same name q then Some meta else meta_in old q)

-- the metadata of these bytes is known under this name, and else what was known before
pub record LearnsFile (name : Name) (bytes : List ℕ) (old new : List (Name × FileMetaData)) : Type 0 where
  pub meta : FileMetaData
  pub meta_is : IsMetaOf bytes meta
  pub learns : LearnsMeta name meta old new

-- the metadata of these files is known, and what was known of others is still
pub record LearnsFiles (reads : Name → Content) (names : List Name) (old new : List (Name × FileMetaData)) : Type 0 where
  pub files : KnowsFiles reads names new
  pub kept : (q : Name) → KnowsFile reads old q → KnowsFile reads new q
