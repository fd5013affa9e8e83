-- Infos with what reads their segments and with the names of their files, and the names that are not drawn yet.
use Rattle.std.specs.Prelude.{◌≡◌, ◌≢◌, ◌⊎◌, ◌<◌, ◌≤◌, ◌+◌, ◌^◌, ℕ, List}
use Rattle.std.specs.List.{All, Contains}
use Rattle.file_names.specs.Names.{part_name_of, live_name_of, IsFileOfSegment}
use Rattle.nrt_base.specs.declared.doc.Doc.{Doc}
use Rattle.file_names.specs.declared.composed.SegPart.{SegPart}
use Rattle.disk_model.specs.Disk.{Name, Content}
use Rattle.file_deleter.specs.Holdings.{Holdings, count_of}
use Rattle.nrt_base.specs.SegNumbers.{segments_of_generation, segment_number}
use Rattle.segment_steps.specs.Next.{record_generation, live_base}
use Rattle.segment_infos.specs.declared.infos.SegRecord.{SegRecord}
use Rattle.segment_infos.specs.declared.infos.Infos.{Infos}
use Rattle.segment_infos.specs.Infos.{CanSpell}
use Rattle.segment_infos.specs.Files.{AreFilesOf}
use Rattle.segment_steps.specs.Given.{Shown, StandsWith}

-- where files read so, the infos can be spelled, are of some documents, show this and have these files
pub record IsHeld (reads : Name → Content) (infos : Infos) (segs : List Shown) (names : List Name) : Type 0 where
  pub spelled : CanSpell infos
  pub files : AreFilesOf infos names
  pub docs : List Doc
  pub stands : StandsWith reads infos segs docs

-- ---- names
-- the first number that the generation has not drawn
abbrev pub drawn_to : Infos → ℕ
drawn_to infos = segment_number infos.generation.0 infos.counter

-- a segment of this number is none of the infos': it is not drawn, or is one of those that are drawn and not there yet
abbrev pub IsUnused : Infos → List ℕ → ℕ → Type 0
IsUnused infos loose seg = (seg < 2 ^ 64) × ((drawn_to infos ≤ seg) ⊎ Contains loose seg)

-- the live generations that a segment's next live file may have
pub record IsNextLive (infos : Infos) (r : SegRecord) (live_gen : ℕ) : Type 0 where
  pub of : Contains infos.segs r
  pub above : r.live_gen < live_gen
  pub apart : live_base infos.generation.0 r < live_gen
  pub small : live_gen < 2 ^ 64

-- The name is that of a file that is not written yet: of a segment that is not there, where it is no part of one whose parts are written
-- already, or the next live file of a segment.
pub data IsUndrawn (infos : Infos) (loose filled : List ℕ) (q : Name) : Type 0 where
  part : (seg : ℕ) (which : SegPart) → IsUnused infos loose seg → (Contains filled seg → ⊥) → q ≡ part_name_of seg which → IsUndrawn infos loose filled q
  live : (seg live_gen : ℕ) → IsUnused infos loose seg → live_gen < 2 ^ 64 → q ≡ live_name_of seg live_gen → IsUndrawn infos loose filled q
  next_live : (r : SegRecord) (live_gen : ℕ) → IsNextLive infos r live_gen → q ≡ live_name_of r.seg.0 live_gen → IsUndrawn infos loose filled q

-- the number is that of a segment that was drawn and is not there yet, or of one of the infos
abbrev pub IsOwnSegment : Infos → List ℕ → ℕ → Type 0
IsOwnSegment infos loose seg = Contains loose seg ⊎ ((r : SegRecord) × Contains infos.segs r × (seg ≡ r.seg.0))

-- the name is that of a file of such a segment
abbrev pub IsOwnFile : Infos → List ℕ → Name → Type 0
IsOwnFile infos loose q = (seg : ℕ) × IsOwnSegment infos loose seg × IsFileOfSegment seg q

-- nobody holds a file that is not written yet
pub record AreUndrawn (holdings : Holdings) (infos : Infos) (loose filled : List ℕ) : Type 0 where
  pub each : (q : Name) → IsUndrawn infos loose filled q → count_of holdings q ≡ 0

-- the numbers of a segment's record: it is drawn, no later generation made it, and its live generations are as many as its dead rows allow
pub record IsDrawnRecord (infos : Infos) (r : SegRecord) : Type 0 where
  pub below : r.seg.0 < drawn_to infos
  pub made : record_generation r ≤ infos.generation.0
  pub live_gen : r.live_gen + r.live ≤ live_base infos.generation.0 r + r.rows

-- the numbers of infos, and those that are drawn and not there yet, which are the numbers of no segment
pub record AreNumbered (infos : Infos) (loose : List ℕ) : Type 0 where
  pub generation : infos.generation.0 < 2 ^ 31
  pub counter : infos.counter ≤ segments_of_generation
  pub segs : All (IsDrawnRecord infos) infos.segs
  pub loose_below : (seg : ℕ) → Contains loose seg → seg < drawn_to infos
  pub loose_apart : (seg : ℕ) → Contains loose seg → All (λ r. r.seg.0 ≢ seg) infos.segs

-- the infos of the next point
abbrev pub next_infos : Infos → List SegRecord → Infos
next_infos infos records = record { generation = infos.generation; version = record { 0 = infos.version.0 + 1 }; counter = infos.counter; segs = records }
