-- The bytes of a framed file: an index header, the body and a footer.
use Rattle.std.specs.Prelude.{◌≡◌, ℕ, ◌+◌, ◌≤◌, List, ◌∷◌, ◌++◌, length, Option, IfSome, slice_range}
use Rattle.std.specs.Int.{w32, w64, to_be_bytes}
use Rattle.codec_frame.specs.Division.{crc_of}
use Rattle.codec_frame.specs.declared.frame.Want.{Want}
use Rattle.codec_frame.specs.declared.frame.Framed.{Framed}

-- the first four bytes of a file, as a number
abbrev pub header_magic : ℕ
header_magic = 0x3fd76c17

-- the first four bytes of a footer, as a number
abbrev pub footer_magic : ℕ
footer_magic = 0xc02893e8

-- the length in one byte, then the text
abbrev pub short_string : List ℕ → List ℕ
short_string text = length text ∷ text

-- the magic, the name and the version
unfoldable pub header : (name : List ℕ) (version : ℕ) → List ℕ
header name version = to_be_bytes w32 header_magic ++ short_string name ++ to_be_bytes w32 version

-- a header, the id and the suffix
unfoldable pub index_header : (name : List ℕ) (version : ℕ) (id suffix : List ℕ) → List ℕ
index_header name version id suffix = header name version ++ id ++ short_string suffix

-- the bytes, then a footer: its magic, the algorithm 0, and the CRC-32 of all before it in eight bytes
unfoldable pub with_footer : List ℕ → List ℕ
with_footer bytes =
    let covered = bytes ++ to_be_bytes w32 footer_magic ++ to_be_bytes w32 0 in
    covered ++ to_be_bytes w64 (crc_of covered)

-- the framed file
abbrev pub framed : (name : List ℕ) (version : ℕ) (id suffix body : List ℕ) → List ℕ
framed name version id suffix body = with_footer (index_header name version id suffix ++ body)

-- what is wanted of a file, apart from where it lies in memory
pub record Wanted : Type 0 where
  pub name : List ℕ
  pub min : ℕ
  pub max : ℕ
  pub id : Option (List ℕ)
  pub suffix : List ℕ

-- what a `Want` wants
abbrev pub wanted : Want → Wanted
wanted want = record { name = want.name.now; min = want.min; max = want.max; id = want.id; suffix = want.suffix.now }

-- the bytes are the framed file of this version, id and body, and are as wanted
pub record IsFramed (want : Wanted) (version : ℕ) (id body bytes : List ℕ) : Type 0 where
  pub whole : bytes ≡ framed want.name version id want.suffix body
  pub not_older : want.min ≤ version
  pub not_newer : version ≤ want.max
  pub id_length : length id ≡ 16
  pub id_wanted : IfSome want.id (λ the_id. id ≡ the_id)

-- how many bytes the index header has
abbrev pub header_length : Wanted → ℕ
header_length want = 26 + length want.name + length want.suffix

-- the bytes are a framed file as wanted; the frame gives its version and its id, and where its body stands
pub record IsFrame (want : Wanted) (bytes : List ℕ) (frame : Framed) : Type 0 where
  pub framed : IsFramed want frame.version frame.id (slice_range bytes frame.start frame.end) bytes
  pub start : frame.start ≡ header_length want
  pub end : frame.end + 16 ≡ length bytes

-- the bytes are a framed file as wanted
abbrev pub IsFramedAs : Wanted → List ℕ → Type 0
IsFramedAs want bytes = (frame : Framed) × IsFrame want bytes frame
