-- The lines that a check writes.
use Rattle.std.specs.Prelude.{ℕ, List, ◌++◌, length, codes, Option, Some, None}
use Rattle.std.specs.Fmt.{decimal}
use Rattle.nrt_base.specs.declared.doc.Doc.{Doc}
use Rattle.segment_infos.specs.declared.infos.Infos.{Infos}
use Rattle.index_check.specs.declared.fault.CheckFault.{CheckFault}
use Rattle.index_check.specs.declared.fault.CheckFault.TheVariants.{NoFile, File, Disagrees, Postings, TwoRows}

-- the line of a directory without a commit
abbrev pub none_line : List ℕ
none_line = codes "check none\n"

-- the line of commit N: its number, its version, and how many segments and documents it has
unfoldable pub commit_line : ℕ → Infos → List Doc → List ℕ
commit_line n infos docs =
    codes "check commit " ++ decimal n ++ codes " version " ++ decimal infos.version.0 ++ codes " segments " ++ decimal (length infos.segs) ++ codes " documents " ++ decimal (length docs) ++ codes "\n"

-- what a fault is called in a line: the name of its file, and its number
abbrev pub name_and_number : CheckFault → Option (List ℕ × ℕ)
name_and_number (NoFile name) = Some (name, 2)
name_and_number (File name fault) = Some (name, 3)
name_and_number (Disagrees name want found) = Some (name, 4)
name_and_number (Postings name) = Some (name, 5)
name_and_number (TwoRows name key) = Some (name, 6)
name_and_number other = None

-- the line of the fault of this number in this file
unfoldable pub fault_line : List ℕ → ℕ → List ℕ
fault_line name number = codes "check fault " ++ name ++ codes " " ++ decimal number ++ codes "\n"
