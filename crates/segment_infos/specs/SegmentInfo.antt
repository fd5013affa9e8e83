-- What a segment's info file says of it: the body, and the file.
use Rattle.std.specs.Prelude.{◌≡◌, ℕ, ◌^◌, ◌<◌, ◌≤◌, List, [], ◌∷◌, ◌++◌, codes, Some}
use Rattle.body_forms.specs.Given.{Wanted}
use Rattle.body_forms.specs.Numbers.{u32_bytes, u64_bytes}
use Rattle.body_forms.specs.File.{IsFile}
use Rattle.segment_infos.specs.declared.info.SegInfo.{SegInfo}

-- the number of the segment, how many rows it has, and the number of its format
unfoldable pub info_body : SegInfo → List ℕ
info_body info = u64_bytes info.seg.0 ++ (u32_bytes info.rows ++ info.format ∷ [])

-- an info file can say this of a segment: it has a row, and its format is 1 or 2
pub record CanSpellInfo (info : SegInfo) : Type 0 where
  pub some : 0 < info.rows
  pub not_older : 1 ≤ info.format
  pub not_newer : info.format ≤ 2

-- the bytes are the body of this info
pub record SpellsSegmentInfo (body : List ℕ) (info : SegInfo) : Type 0 where
  pub can : CanSpellInfo info
  pub seg_fits : info.seg.0 < 2 ^ 64
  pub rows_fit : info.rows < 2 ^ 32
  pub whole : body ≡ info_body info

-- what is wanted of a segment's info file
abbrev pub info_wanted : List ℕ → Wanted
info_wanted id = record { name = codes "NrtSegmentInfo"; min = 1; max = 1; id = Some id; suffix = [] }

-- the bytes are the file of this info: its body, framed
abbrev pub IsInfoFile : List ℕ → SegInfo → List ℕ → Type 0
IsInfoFile id info bytes = IsFile SpellsSegmentInfo (info_wanted id) id info bytes
