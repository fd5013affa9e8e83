-- Files with their names apart, and how they are parted.
use Rattle.std.specs.Prelude.{◌≡◌, List}
use Rattle.disk_model.specs.Disk.{Name}
use Rattle.copy_state.specs.declared.meta.FileMetaData.{FileMetaData}
use Rattle.copy_state.specs.States.{meta_names}
use Rattle.merge_precopy.specs.declared.table.Table.{Table}
use Rattle.merge_precopy.specs.Pending.{files_named, files_not_named}

-- the table has these files, and their names
pub record HasFiles (files : List (Name × FileMetaData)) (table : Table) : Type 0 where
  pub files_are : table.files ≡ files
  pub names_are : table.names ≡ meta_names files

-- the files of these names are taken out, and the others are kept
pub record AreParted (names : List Name) (files : List (Name × FileMetaData)) (kept : Table) (taken : List Name) : Type 0 where
  pub kept_are : HasFiles (files_not_named names files) kept
  pub taken_are : taken ≡ meta_names (files_named names files)
