-- What is known of the files of a state that are held, and what is noted of them.
use Rattle.std.specs.Prelude.{◌≡◌, ◌⊎◌, ◌==◌, List, [], ◌∷◌, ◌++◌, Option, Some, None, if◌then◌else◌, Contains}
use Rattle.disk_model.specs.Disk.{Name}
use Rattle.file_deleter.specs.Holdings.{Holdings, count_of}
use Rattle.copy_state.specs.declared.meta.FileMetaData.{FileMetaData}
use Rattle.copy_state.specs.States.{meta_in}

-- a file with its metadata, where that is known
abbrev pub with_meta : Name → Option FileMetaData → List (Name × FileMetaData)
with_meta q None = []
with_meta q (Some meta) = (q, meta) ∷ []

-- the names that are held and known, with their metadata
abbrev pub held_metas : List (Name × FileMetaData) → Holdings → List Name → List (Name × FileMetaData)
held_metas known holdings [] = []
held_metas known holdings (q ∷ names) = (if count_of holdings q == 0 then [] else with_meta q (meta_in known q)) ++ held_metas known holdings names

-- of each file is known what was known, or what is wanted of it
pub record LearnsSome (wanted old new : List (Name × FileMetaData)) : Type 0 where
  pub each : (q : Name) → (meta_in new q ≡ meta_in old q) ⊎ ((meta : FileMetaData) × Contains wanted (q, meta) × (meta_in new q ≡ Some meta))

-- of each file that is wanted something is known that is wanted of it
pub record LearnsAll (wanted new : List (Name × FileMetaData)) : Type 0 where
  pub each : (q : Name) (meta : FileMetaData) → Contains wanted (q, meta) → (other : FileMetaData) × Contains wanted (q, other) × (meta_in new q ≡ Some other)
