-- What judging the postings of a segment refuses.
use Rattle.std.specs.Prelude.{◌≡◌, ◌⊎◌}
use Rattle.segment_infos.specs.declared.infos.SegRecord.{SegRecord}
use Rattle.seg_reader.specs.declared.parts.SegFile.TheVariants.{Post}
use Rattle.seg_reader.specs.Shown.{Shown}
use Rattle.seg_reader.specs.Sound.{IsSound}
use Rattle.index_check.specs.declared.fault.CheckFault.{CheckFault}
use Rattle.index_check.specs.declared.fault.CheckFault.TheVariants.{Memory, Postings}
use Rattle.index_check.specs.Segments.{segment_file_name}

-- out of memory, or the segment's postings are not those of its rows
abbrev pub IsMemoryOrUnsound : Shown → SegRecord → CheckFault → Type 0
IsMemoryOrUnsound shown r fault = (fault ≡ Memory) ⊎ ((fault ≡ Postings (segment_file_name r Post)) × (IsSound shown → ⊥))
