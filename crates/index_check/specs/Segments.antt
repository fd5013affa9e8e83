-- What is wrong with the segments of a directory.
use Rattle.std.specs.Prelude.{◌≡◌, ◌⊎◌, ℕ, List, [], ◌∷◌, Some}
use Rattle.codec_frame.specs.declared.frame.FileFault.{FileFault}
use Rattle.disk_model.specs.Disk.{Name, Image, first_missing}
use Rattle.file_names.specs.Names.{part_name_of, live_name_of}
use Rattle.file_names.specs.declared.composed.SegPart.TheVariants.{Docs as DocsPart, Post as PostPart, Info as InfoPart}
use Rattle.segment_infos.specs.Files.{files_of_segment}
use Rattle.segment_infos.specs.declared.infos.SegRecord.{SegRecord}
use Rattle.seg_reader.specs.declared.parts.SegFile.{SegFile}
use Rattle.seg_reader.specs.declared.parts.SegFile.TheVariants.{Docs, Post, Info, Live}
use Rattle.seg_reader.specs.declared.parts.SegParts.{SegParts}
use Rattle.seg_reader.specs.declared.parts.SegFault.{SegFault}
use Rattle.seg_reader.specs.declared.parts.SegFault.TheVariants.{Memory as NoMemory, File as OfFile, Disagrees as OtherNumber}
use Rattle.seg_reader.specs.Shown.{Shown}
use Rattle.seg_reader.specs.Files.{IsSegmentOf}
use Rattle.seg_reader.specs.Faults.{number, IsFirstOutside, IsFirstDifference}
use Rattle.seg_reader.specs.Sound.{IsSound}
use Rattle.seg_reader.specs.Stands.{ArePartsIn, IsSegmentIn}
use Rattle.index_check.specs.declared.fault.CheckFault.{CheckFault}
use Rattle.index_check.specs.declared.fault.CheckFault.TheVariants.{Memory, NoFile, File, Disagrees, Postings}

-- the name of a file of a segment
abbrev pub segment_file_name : SegRecord → SegFile → Name
segment_file_name r Docs = part_name_of r.seg.0 DocsPart
segment_file_name r Post = part_name_of r.seg.0 PostPart
segment_file_name r Info = part_name_of r.seg.0 InfoPart
segment_file_name r Live = live_name_of r.seg.0 r.live_gen

-- of the segment's files, in ascending order, this is the first that does not exist
abbrev pub LacksFile : Image → SegRecord → CheckFault → Type 0
LacksFile reads r (NoFile name) = first_missing reads (files_of_segment r) ≡ Some name
LacksFile reads r other = ⊥

-- this is the first of the segment's files that its reader refuses, for this fault
pub record RefusesFile (parts : SegParts) (r : SegRecord) (name : Name) (fault : FileFault) : Type 0 where
  pub part : SegFile
  pub first : IsFirstOutside parts r part fault
  pub name_is : name ≡ segment_file_name r part

-- every file is in its grammar, and of the numbers in them this is the first that is not the infos' one
pub record HasOtherNumber (parts : SegParts) (r : SegRecord) (name : Name) (want found : ℕ) : Type 0 where
  pub part : SegFile
  pub first : IsFirstDifference parts r (number part want found)
  pub name_is : name ≡ segment_file_name r part

-- the files are those of a segment whose postings are not those of its rows
pub record HasOtherPostings (parts : SegParts) (r : SegRecord) (name : Name) : Type 0 where
  pub shown : Shown
  pub segment : IsSegmentOf parts r shown
  pub unsound : IsSound shown → ⊥
  pub name_is : name ≡ segment_file_name r Post

-- the files are those of a segment that shows this, and its postings are those of its rows
pub record IsRightOf (parts : SegParts) (r : SegRecord) (shown : Shown) : Type 0 where
  pub segment : IsSegmentOf parts r shown
  pub sound : IsSound shown

-- a fault of a segment's reader, with the name of the file
abbrev pub fault_of_reader : SegRecord → SegFault → CheckFault
fault_of_reader r NoMemory = Memory
fault_of_reader r (OfFile part fault) = File (segment_file_name r part) fault
fault_of_reader r (OtherNumber part want found) = Disagrees (segment_file_name r part) want found

-- what is wrong with the segment's files, which all exist
abbrev pub HaveFault : SegParts → SegRecord → CheckFault → Type 0
HaveFault parts r (File name fault) = RefusesFile parts r name fault
HaveFault parts r (Disagrees name want found) = HasOtherNumber parts r name want found
HaveFault parts r (Postings name) = HasOtherPostings parts r name
HaveFault parts r other = ⊥

-- the segment's files all exist, and this is wrong with them
pub record ExistWithFault (reads : Image) (r : SegRecord) (fault : CheckFault) : Type 0 where
  pub parts : SegParts
  pub files : ArePartsIn reads r parts
  pub have : HaveFault parts r fault

-- what is wrong with the segment: a file of it does not exist, or all exist and this is wrong with them
abbrev pub IsSegmentWrong : Image → SegRecord → CheckFault → Type 0
IsSegmentWrong reads r fault = LacksFile reads r fault ⊎ ExistWithFault reads r fault

-- the segment's files are in the directory and show this, and its postings are those of its rows
pub record IsRightSegment (reads : Image) (r : SegRecord) (shown : Shown) : Type 0 where
  pub segment : IsSegmentIn reads r shown
  pub sound : IsSound shown

-- what is wrong first with the segments: with the first of them, or, where that is right, with the others
abbrev pub IsFirstWrong : Image → List SegRecord → CheckFault → Type 0
IsFirstWrong reads [] fault = ⊥
IsFirstWrong reads (r ∷ rs) fault = IsSegmentWrong reads r fault ⊎ (((shown : Shown) × IsRightSegment reads r shown) × IsFirstWrong reads rs fault)
