-- Why the files of a segment are refused: the first that is outside its grammar, or the first number that is not the infos'.
use Rattle.std.specs.Prelude.{◌≡◌, ℕ, ◌<◌, ◌==◌, not, List, [], ◌∷◌, length, Bool, Option, Some, None}
use Rattle.std.specs.List.{find}
use Rattle.nrt_base.specs.declared.doc.Doc.{Doc}
use Rattle.codec_frame.specs.Frame.{Wanted, IsFramedAs}
use Rattle.codec_frame.specs.Checking.{IsFirstFault}
use Rattle.codec_frame.specs.declared.frame.FileFault.{FileFault}
use Rattle.codec_frame.specs.declared.frame.FileFault.TheVariants.{Frame, Body}
use Rattle.docs_plain.specs.Documents.{documents_wanted, IsDocumentsFile}
use Rattle.postings_plain.specs.Postings.{format_number}
use Rattle.postings_plain.specs.Body.{postings_wanted, FormattedEntries, IsPostingsFile, IsRowCount}
use Rattle.live_bits.specs.LiveRows.{live_rows, live_wanted, IsLiveFile}
use Rattle.segment_infos.specs.declared.info.SegInfo.{SegInfo}
use Rattle.segment_infos.specs.declared.infos.SegRecord.{SegRecord}
use Rattle.segment_infos.specs.SegmentInfo.{info_wanted, IsInfoFile}
use Rattle.seg_reader.specs.declared.parts.SegParts.{SegParts}
use Rattle.seg_reader.specs.declared.parts.SegFile.{SegFile}
use Rattle.seg_reader.specs.declared.parts.SegFile.TheVariants.{Docs, Post, Info, Live}
use Rattle.seg_reader.specs.declared.parts.SegFault.{SegFault}
use Rattle.seg_reader.specs.declared.parts.SegFault.TheVariants.{Memory, File, Disagrees}
use Rattle.seg_reader.specs.declared.reading.Contents.{Contents}
use Rattle.seg_reader.specs.Files.{record_id}

-- the bytes have this fault as a file of some values: that of their frame, or the frame is right and the body spells no value
abbrev pub IsFaultOf : {X : Type 0} → (X → Type 0) → Wanted → List ℕ → FileFault → Type 0
IsFaultOf IsFileOf want bytes (Frame fault) = IsFirstFault want bytes fault
IsFaultOf {X} IsFileOf want bytes Body = IsFramedAs want bytes × ((x : X) → IsFileOf x → ⊥)

-- there is a live file, and it has the fault
abbrev pub HasLiveFault : Option (List ℕ) → SegRecord → FileFault → Type 0
HasLiveFault None r fault = ⊥
HasLiveFault (Some bytes) r fault = IsFaultOf (λ live. IsLiveFile (record_id r) r.live_gen live bytes) (live_wanted (record_id r) r.live_gen) bytes fault

-- the fault of each file, whatever the others are
abbrev pub HasFault : SegParts → SegRecord → SegFile → FileFault → Type 0
HasFault parts r Docs fault = IsFaultOf (λ docs. IsDocumentsFile (record_id r) docs parts.docs) (documents_wanted (record_id r)) parts.docs fault
HasFault parts r Post fault = IsFaultOf (λ post. IsPostingsFile (record_id r) post parts.post) (postings_wanted (record_id r)) parts.post fault
HasFault parts r Info fault = IsFaultOf (λ info. IsInfoFile (record_id r) info parts.info) (info_wanted (record_id r)) parts.info fault
HasFault parts r Live fault = HasLiveFault parts.live r fault

-- the live file is in its grammar and has these live rows, where there is one
abbrev pub SaysLive : Option (List ℕ) → SegRecord → Option (List Bool) → Type 0
SaysLive None r None = Unit {0}
SaysLive None r (Some live) = ⊥
SaysLive (Some bytes) r None = ⊥
SaysLive (Some bytes) r (Some live) = IsLiveFile (record_id r) r.live_gen live bytes

-- each file is in its grammar and has these contents; the rows of postings are one above the greatest in them
pub record HaveContents (parts : SegParts) (r : SegRecord) (contents : Contents) : Type 0 where
  pub docs : IsDocumentsFile (record_id r) contents.docs parts.docs
  pub post : IsPostingsFile (record_id r) contents.post parts.post
  pub post_rows : IsRowCount contents.post.entries contents.post_rows
  pub info : IsInfoFile (record_id r) contents.info parts.info
  pub live : SaysLive parts.live r contents.live

-- a file is in its grammar
abbrev pub IsInGrammar : SegParts → SegRecord → SegFile → Type 0
IsInGrammar parts r Docs = (docs : List Doc) × IsDocumentsFile (record_id r) docs parts.docs
IsInGrammar parts r Post = (post : FormattedEntries) × IsPostingsFile (record_id r) post parts.post
IsInGrammar parts r Info = (info : SegInfo) × IsInfoFile (record_id r) info parts.info
IsInGrammar parts r Live = (live : Option (List Bool)) × SaysLive parts.live r live

-- the order in which files are looked at
abbrev pub file_place : SegFile → ℕ
file_place Docs = 1
file_place Post = 2
file_place Info = 3
file_place Live = 4

-- the file has the fault, and each file before it is in its grammar
pub record IsFirstOutside (parts : SegParts) (r : SegRecord) (part : SegFile) (fault : FileFault) : Type 0 where
  pub has : HasFault parts r part fault
  pub before : (other : SegFile) → file_place other < file_place part → IsInGrammar parts r other

-- a number that infos, or the info file, and a file both give: which file it is, the number that is wanted and the file's
pub record Number : Type 0 where
  pub part : SegFile
  pub want : ℕ
  pub found : ℕ

-- a number that is wanted of a file, and what it has
abbrev pub number : SegFile → (want found : ℕ) → Number
number part want found = record { part = part; want = want; found = found }

-- the file has another number than is wanted
abbrev pub differs : Number → Bool
differs n = not (n.want == n.found)

-- the numbers of the live file, where there is one: its rows, and its live rows
abbrev pub live_numbers : SegRecord → Option (List Bool) → List Number
live_numbers r None = []
live_numbers r (Some live) = number Live r.rows (length live) ∷ number Live r.live (live_rows live) ∷ []

-- The numbers in the order in which they are compared: in one file the segment's, then the rows, then the live rows. After the
-- rows of postings comes their version, which is to be the format that the info file gives.
abbrev pub numbers_of : SegRecord → Contents → List Number
numbers_of r contents =
    number Docs r.rows (length contents.docs)
    ∷ number Post r.rows contents.post_rows
    ∷ number Post contents.info.format (format_number contents.post.format)
    ∷ number Info r.seg.0 contents.info.seg.0
    ∷ number Info r.rows contents.info.rows
    ∷ live_numbers r contents.live

-- each file is in its grammar, and of the numbers this is the first that is not the one wanted
pub record IsFirstDifference (parts : SegParts) (r : SegRecord) (n : Number) : Type 0 where
  pub contents : Contents
  pub have : HaveContents parts r contents
  pub first : find differs (numbers_of r contents) ≡ Some n

-- the fault of the files
abbrev pub IsSegmentFault : SegParts → SegRecord → SegFault → Type 0
IsSegmentFault parts r (File part fault) = IsFirstOutside parts r part fault
IsSegmentFault parts r (Disagrees part want found) = IsFirstDifference parts r (number part want found)
IsSegmentFault parts r Memory = ⊥
