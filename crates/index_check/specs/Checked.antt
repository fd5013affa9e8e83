-- What a check of a directory answers.
use Rattle.std.specs.Prelude.{◌≡◌, ◌≢◌, ◌⊎◌, ℕ, List, take}
use Rattle.std.specs.List.{AllZip, slice_get}
use Rattle.nrt_base.specs.declared.doc.Doc.{Doc}
use Rattle.disk_model.specs.Disk.{Image}
use Rattle.segment_infos.specs.declared.infos.Infos.{Infos}
use Rattle.seg_reader.specs.Shown.{Shown}
use Rattle.seg_reader.specs.Stands.{StandsFor}
use Rattle.index_check.specs.declared.fault.CheckFault.{CheckFault}
use Rattle.index_check.specs.declared.fault.CheckFault.TheVariants.{OtherDocs}
use Rattle.index_check.specs.Segments.{IsRightSegment, IsFirstWrong}
use Rattle.index_check.specs.Rows.{rows_of_segments, HaveTwin}

-- every segment is right, and two live rows have one key
pub record HasTwins (reads : Image) (infos : Infos) (fault : CheckFault) : Type 0 where
  pub segs : List Shown
  pub right : AllZip (IsRightSegment reads) infos.segs segs
  pub twin : HaveTwin (rows_of_segments infos.segs segs) fault

-- why a directory stands for no documents under the infos: the first thing that is wrong with its segments, or else with their rows
abbrev pub IsWrong : Image → Infos → CheckFault → Type 0
IsWrong reads infos fault = IsFirstWrong reads infos.segs fault ⊎ HasTwins reads infos fault

-- the documents differ first at this place
pub record DifferFirst (found docs : List Doc) (at : ℕ) : Type 0 where
  pub same : take at found ≡ take at docs
  pub differ : slice_get found at ≢ slice_get docs at

-- the directory stands for documents which differ from these, first at this place
pub record StandsForOthers (reads : Image) (infos : Infos) (docs : List Doc) (at : ℕ) : Type 0 where
  pub found : List Doc
  pub stands : StandsFor reads infos found
  pub first : DifferFirst found docs at

-- the documents are others
abbrev pub AreOthers : Image → Infos → List Doc → CheckFault → Type 0
AreOthers reads infos docs (OtherDocs at) = StandsForOthers reads infos docs at
AreOthers reads infos docs other = ⊥

-- why a directory does not stand for these documents under the infos
abbrev pub IsCheckFault : Image → Infos → List Doc → CheckFault → Type 0
IsCheckFault reads infos docs fault = IsWrong reads infos fault ⊎ AreOthers reads infos docs fault
