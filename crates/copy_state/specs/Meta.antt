-- The metadata of a file: what its bytes tell of it, apart from its body.
use Rattle.std.specs.Prelude.{◌≡◌, ℕ, ◌+◌, ◌-◌, ◌≤◌, ◌==◌, nat_lt, not, if◌then◌else◌, List, length, take, drop, slice_index, Option, Some, None}
use Rattle.codec_frame.specs.Checking.{be32_at, be64_at}
use Rattle.codec_frame.specs.Frame.{header_magic, footer_magic}
use Rattle.codec_frame.specs.declared.frame.FrameFault.{FrameFault}
use Rattle.codec_frame.specs.declared.frame.FrameFault.TheVariants.{Truncated, Magic, Codec, FooterMagic, Algorithm}
use Rattle.copy_state.specs.declared.meta.FileMetaData.{FileMetaData}

-- how long the name in the header is, by the byte before it
abbrev pub name_length : List ℕ → ℕ
name_length bytes = slice_index bytes 4

-- how long the suffix is, by the byte before it
abbrev pub suffix_length : List ℕ → ℕ
suffix_length bytes = slice_index bytes (25 + name_length bytes)

-- how long the index header is that the bytes tell of
abbrev pub told_header : List ℕ → ℕ
told_header bytes = 26 + name_length bytes + suffix_length bytes

-- the fault of the last sixteen bytes, but for their checksum
abbrev pub meta_fault_by : List ℕ → Option FrameFault
meta_fault_by bytes =
    if not (be32_at bytes (length bytes - 16) == footer_magic) then Some FooterMagic
    else if not (be32_at bytes (length bytes - 12) == 0) then Some Algorithm
    else None

-- Why no metadata can be read, the first reason in this order: too few bytes for any file, no magic, no name, too few bytes
-- for the name and for the suffix, no magic of a footer, another algorithm. Nothing where metadata can be read.
abbrev pub meta_fault : List ℕ → Option FrameFault
meta_fault bytes =
    if nat_lt (length bytes) 42 then Some Truncated
    else if not (be32_at bytes 0 == header_magic) then Some Magic
    else if nat_lt 127 (name_length bytes) then Some Codec
    else if nat_lt (length bytes) (42 + name_length bytes) then Some Truncated
    else if nat_lt (length bytes) (told_header bytes + 16) then Some Truncated
    else meta_fault_by bytes

-- the metadata is that of the bytes
pub record IsMetaOf (bytes : List ℕ) (meta : FileMetaData) : Type 0 where
  pub readable : meta_fault bytes ≡ None
  pub long : told_header bytes + 16 ≤ length bytes
  pub header : meta.header ≡ take (told_header bytes) bytes
  pub footer : meta.footer ≡ drop (length bytes - 16) bytes
  pub length_is : meta.length ≡ length bytes
  pub checksum : meta.checksum ≡ be64_at bytes (length bytes - 8)
