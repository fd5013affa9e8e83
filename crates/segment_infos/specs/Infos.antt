-- The infos of a point: the segments that it has, the body of their file, and the file.
use Rattle.std.specs.Prelude.{◌≡◌, ◌≢◌, ℕ, ◌^◌, ◌<◌, ◌≤◌, List, [], ◌++◌, length, codes, None}
use Rattle.std.specs.List.{All, AllPairs, flat_map}
use Rattle.std.specs.Fmt.{decimal}
use Rattle.body_forms.specs.Given.{Wanted, IsFramedAs}
use Rattle.body_forms.specs.Numbers.{u32_bytes, u64_bytes, string}
use Rattle.body_forms.specs.File.{IsFile}
use Rattle.segment_infos.specs.declared.infos.SegRecord.{SegRecord}
use Rattle.segment_infos.specs.declared.infos.Infos.{Infos}

-- the number of the segment, how many rows it has, the generation of its live file, and how many rows are live
unfoldable pub record_bytes : SegRecord → List ℕ
record_bytes r = u64_bytes r.seg.0 ++ (u32_bytes r.rows ++ (u64_bytes r.live_gen ++ u32_bytes r.live))

-- no more rows are live than there are, and all are where there is no live file
pub record IsRecord (r : SegRecord) : Type 0 where
  pub most : r.live ≤ r.rows
  pub all : r.live_gen ≡ 0 → r.live ≡ r.rows

-- each number of the record fits into its field
pub record RecordFits (r : SegRecord) : Type 0 where
  pub seg : r.seg.0 < 2 ^ 64
  pub rows : r.rows < 2 ^ 32
  pub live_gen : r.live_gen < 2 ^ 64
  pub live : r.live < 2 ^ 32

-- two entries: each a name, and a number in decimal digits
unfoldable pub user_data : (generation version : ℕ) → List ℕ
user_data generation version =
    u32_bytes 2 ++ (string (codes "__primaryGen") ++ (string (decimal generation) ++ (string (codes "__version") ++ string (decimal version))))

-- the generation, the version, the counter, how many segments there are, their records, and the user data
unfoldable pub infos_body : Infos → List ℕ
infos_body infos =
    u64_bytes infos.generation.0 ++ (u64_bytes infos.version.0 ++ (u32_bytes infos.counter ++ (u32_bytes (length infos.segs)
    ++ (flat_map record_bytes infos.segs ++ user_data infos.generation.0 infos.version.0))))

-- Infos that a file can hold: generation and version count from 1, there are at most 256 segments, each record is one,
-- and no two segments have one number.
pub record CanSpell (infos : Infos) : Type 0 where
  pub generation : 0 < infos.generation.0
  pub version : 0 < infos.version.0
  pub few : length infos.segs ≤ 256
  pub records : All IsRecord infos.segs
  pub apart : AllPairs (λ r s. r.seg.0 ≢ s.seg.0) infos.segs

-- each number of the infos fits into its field
pub record InfosFit (infos : Infos) : Type 0 where
  pub generation : infos.generation.0 < 2 ^ 64
  pub version : infos.version.0 < 2 ^ 64
  pub counter : infos.counter < 2 ^ 32
  pub records : All RecordFits infos.segs

-- the bytes are the body of these infos
pub record SpellsInfos (body : List ℕ) (infos : Infos) : Type 0 where
  pub can : CanSpell infos
  pub fit : InfosFit infos
  pub whole : body ≡ infos_body infos

-- the body spells no infos
abbrev pub SpellsNoInfos : List ℕ → Type 0
SpellsNoInfos body = (infos : Infos) → SpellsInfos body infos → ⊥

-- the id of a file of infos: their generation and their version
abbrev pub infos_id : Infos → List ℕ
infos_id infos = u64_bytes infos.generation.0 ++ u64_bytes infos.version.0

-- what is wanted of a file of infos, whose id is told by its body
abbrev pub infos_wanted : Wanted
infos_wanted = record { name = codes "NrtInfos"; min = 1; max = 1; id = None; suffix = [] }

-- the bytes are the file of these infos: their body, framed, with their id
abbrev pub IsInfosFile : Infos → List ℕ → Type 0
IsInfosFile infos bytes = IsFile SpellsInfos infos_wanted (infos_id infos) infos bytes

-- the bytes are framed as wanted, and are the file of no infos
abbrev pub IsOfNoInfos : List ℕ → Type 0
IsOfNoInfos bytes = IsFramedAs infos_wanted bytes × ((infos : Infos) → IsInfosFile infos bytes → ⊥)
