-- Where bytes are refused, and why.
use Rattle.std.specs.Prelude.{◌≡◌, ◌≢◌, ℕ, ◌+◌, ◌-◌, ◌<◌, ◌≤◌, List, length, take, Result, Ok, Err, ◌↔◌, IfSome, IsSomeAnd, IsOkAnd, slice_range}
use Rattle.std.specs.Int.{w32, w64, from_be_bytes}
use Rattle.codec_frame.specs.Division.{crc_of}
use Rattle.codec_frame.specs.Frame.{header_magic, footer_magic, Wanted, IsFramed, IsFrame, short_string, header_length}
use Rattle.codec_frame.specs.declared.frame.Framed.{Framed}
use Rattle.codec_frame.specs.declared.frame.FrameFault.{FrameFault}
use Rattle.codec_frame.specs.declared.frame.FrameFault.TheVariants.{Truncated, Magic, Codec, TooOld, TooNew, Id, Suffix, FooterMagic, Algorithm, Checksum}

-- the big-endian number in the four bytes from a place on
abbrev pub be32_at : List ℕ → ℕ → ℕ
be32_at bytes at = from_be_bytes w32 (slice_range bytes at (at + 4))

-- the big-endian number in the eight bytes from a place on
abbrev pub be64_at : List ℕ → ℕ → ℕ
be64_at bytes at = from_be_bytes w64 (slice_range bytes at (at + 8))

-- the bytes from a place on that a string of that length takes
abbrev pub short_string_at : List ℕ → ℕ → ℕ → List ℕ
short_string_at bytes at n = slice_range bytes at (at + (1 + n))

-- the text stands at a place, with its length before it in one byte
abbrev pub HasShortString : List ℕ → ℕ → List ℕ → Type 0
HasShortString bytes at text = short_string_at bytes at (length text) ≡ short_string text

-- where the version stands
abbrev pub version_place : Wanted → ℕ
version_place want = 5 + length want.name

-- where the id stands
abbrev pub id_place : Wanted → ℕ
id_place want = 9 + length want.name

-- where the suffix stands
abbrev pub suffix_place : Wanted → ℕ
suffix_place want = 25 + length want.name

-- the bytes have this fault, whatever else is wrong with them
abbrev pub HasFrameFault : Wanted → List ℕ → FrameFault → Type 0
HasFrameFault want bytes Truncated = length bytes < header_length want + 16
HasFrameFault want bytes Magic = be32_at bytes 0 ≢ header_magic
HasFrameFault want bytes Codec = ¬ HasShortString bytes 4 want.name
HasFrameFault want bytes (TooOld version) = (version ≡ be32_at bytes (version_place want)) × (version < want.min)
HasFrameFault want bytes (TooNew version) = (version ≡ be32_at bytes (version_place want)) × (want.max < version)
HasFrameFault want bytes Id = IsSomeAnd want.id (λ id. slice_range bytes (id_place want) (id_place want + 16) ≢ id)
HasFrameFault want bytes Suffix = ¬ HasShortString bytes (suffix_place want) want.suffix
HasFrameFault want bytes FooterMagic = be32_at bytes (length bytes - 16) ≢ footer_magic
HasFrameFault want bytes Algorithm = be32_at bytes (length bytes - 12) ≢ 0
HasFrameFault want bytes (Checksum computed found) = (computed ≡ crc_of (take (length bytes - 8) bytes)) × (found ≡ be64_at bytes (length bytes - 8)) × (computed ≢ found)

-- the place of a fault in the order in which faults are looked for
abbrev pub fault_place : FrameFault → ℕ
fault_place Truncated = 1
fault_place Magic = 2
fault_place Codec = 3
fault_place (TooOld version) = 4
fault_place (TooNew version) = 5
fault_place Id = 6
fault_place Suffix = 7
fault_place FooterMagic = 8
fault_place Algorithm = 9
fault_place (Checksum computed found) = 10

-- no fault before the one of this number is found
abbrev pub NoFaultBelow : ℕ → Wanted → List ℕ → Type 0
NoFaultBelow number want bytes = (fault : FrameFault) → fault_place fault < number → HasFrameFault want bytes fault → ⊥

-- the fault is found, and none before it is
pub record IsFirstFault (want : Wanted) (bytes : List ℕ) (fault : FrameFault) : Type 0 where
  pub found : HasFrameFault want bytes fault
  pub first : NoFaultBelow (fault_place fault) want bytes

-- the header is as wanted, and has this version and this id
pub record HasHeader (want : Wanted) (bytes : List ℕ) (version : ℕ) (id : List ℕ) : Type 0 where
  pub magic : be32_at bytes 0 ≡ header_magic
  pub name : HasShortString bytes 4 want.name
  pub version_field : be32_at bytes (version_place want) ≡ version
  pub not_older : want.min ≤ version
  pub not_newer : version ≤ want.max
  pub id_field : slice_range bytes (id_place want) (id_place want + 16) ≡ id
  pub id_wanted : IfSome want.id (λ the_id. id ≡ the_id)
  pub suffix : HasShortString bytes (suffix_place want) want.suffix

-- the last sixteen bytes are the footer of the bytes before
pub record HasFooter (bytes : List ℕ) : Type 0 where
  pub magic : be32_at bytes (length bytes - 16) ≡ footer_magic
  pub algorithm : be32_at bytes (length bytes - 12) ≡ 0
  pub checksum : be64_at bytes (length bytes - 8) ≡ crc_of (take (length bytes - 8) bytes)

-- a framed file's fields: the header and the footer that a check looks for, and its length
pub record HasFields (want : Wanted) (version : ℕ) (id body bytes : List ℕ) : Type 0 where
  pub header : HasHeader want bytes version id
  pub footer : HasFooter bytes
  pub whole : length bytes ≡ header_length want + length body + 16

-- what checking the bytes answers: the frame of framed bytes, else the first fault; a file that was written as framed is read back
pub record IsChecked (want : Wanted) (bytes : List ℕ) (found : Result Framed FrameFault) : Type 0 where
  pub frame : (frame : Framed) → (found ≡ Ok frame) ↔ IsFrame want bytes frame
  pub fault : (fault : FrameFault) → (found ≡ Err fault) ↔ IsFirstFault want bytes fault
  pub written : (version : ℕ) (id body : List ℕ) → IsFramed want version id body bytes
      → IsOkAnd found (λ frame. (frame.version ≡ version) × (frame.id ≡ id) × (slice_range bytes frame.start frame.end ≡ body))
