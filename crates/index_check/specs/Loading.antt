-- Files that do not exist, as a fault.
use Rattle.std.specs.Prelude.{◌≡◌, ◌<◌, None}
use Rattle.disk_model.specs.Disk.{Name, Image}
use Rattle.file_names.specs.Names.{live_name_of}
use Rattle.segment_infos.specs.declared.infos.SegRecord.{SegRecord}
use Rattle.index_check.specs.declared.fault.CheckFault.{CheckFault}
use Rattle.index_check.specs.declared.fault.CheckFault.TheVariants.{NoFile}

-- the file of this name does not exist, and the fault says so
abbrev pub IsAbsent : Image → Name → CheckFault → Type 0
IsAbsent reads name fault = (reads name ≡ None) × (fault ≡ NoFile name)

-- the segment has a live file, which does not exist
abbrev pub LacksLive : Image → SegRecord → CheckFault → Type 0
LacksLive reads r fault = (0 < r.live_gen) × IsAbsent reads (live_name_of r.seg.0 r.live_gen) fault
