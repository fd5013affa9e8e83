-- The bytes of a message of replication, alone and in a frame.
use Rattle.std.specs.Prelude.{◌≡◌, ℕ, ◌+◌, ◌≤◌, ◌<◌, ◌^◌, List, ◌∷◌, ◌++◌, length, IsTrue}
use Rattle.nrt_base.specs.Bytes.{is_header}
use Rattle.nrt_base.specs.declared.numbers.Gen.{Gen}
use Rattle.nrt_base.specs.declared.numbers.Version.{Version}
use Rattle.file_names.specs.Names.{is_file_name}
use Rattle.body_forms.specs.Numbers.{u32_bytes, u64_bytes, string}
use Rattle.copy_state.specs.declared.meta.FileMetaData.{FileMetaData}
use Rattle.wire_frames.specs.declared.message.Message.{Message}
use Rattle.wire_frames.specs.declared.message.Message.TheVariants.{Notice, State, File, Completed, Chunk}

-- the kind of a message, in one byte
abbrev pub message_kind : Message → ℕ
message_kind (Notice generation version) = 1
message_kind (State version generation primary_gen files completed infos) = 2
message_kind (File name meta) = 3
message_kind (Completed name) = 4
message_kind (Chunk name at bytes) = 5

-- metadata: the header as a string, the footer, the length and the checksum
abbrev pub meta_bytes : FileMetaData → List ℕ
meta_bytes meta = string meta.header ++ (meta.footer ++ (u64_bytes meta.length ++ u64_bytes meta.checksum))

-- the numbers of a state
abbrev pub state_numbers : Version → ℕ → Gen → ℕ → ℕ → List ℕ
state_numbers version generation primary_gen files completed =
    u64_bytes version.0 ++ (u64_bytes generation ++ (u64_bytes primary_gen.0 ++ (u32_bytes files ++ u32_bytes completed)))

-- what a message says, behind its kind: numbers, names and headers as strings, and infos or the bytes of a chunk as the rest
unfoldable pub message_body : Message → List ℕ
message_body (Notice generation version) = u64_bytes generation.0 ++ u64_bytes version.0
message_body (State version generation primary_gen files completed infos) =
    state_numbers version generation primary_gen files completed ++ infos
message_body (File name meta) = string name ++ meta_bytes meta
message_body (Completed name) = string name
message_body (Chunk name at bytes) = (string name ++ u64_bytes at) ++ bytes

-- a frame: how long the rest is, the kind, and the body
unfoldable pub frame_of : ℕ → List ℕ → List ℕ
frame_of kind body = u32_bytes (1 + length body) ++ kind ∷ body

-- the bytes of a message: its frame
abbrev pub wire_of : Message → List ℕ
wire_of m = frame_of (message_kind m) (message_body m)

-- the most bytes that follow the length of a frame
abbrev pub longest_frame : ℕ
longest_frame = 65536

-- the most bytes of a chunk
abbrev pub longest_chunk : ℕ
longest_chunk = 32768

-- names are those of files, a header is one, a footer has sixteen bytes, a chunk has bytes and not too many, and each number
-- fits into its field
abbrev pub HasParts : Message → Type 0
HasParts (Notice generation version) = (generation.0 < 2 ^ 64) × (version.0 < 2 ^ 64)
HasParts (State version generation primary_gen files completed infos) =
    (version.0 < 2 ^ 64) × ((generation < 2 ^ 64) × ((primary_gen.0 < 2 ^ 64) × ((files < 2 ^ 32) × (completed < 2 ^ 32))))
HasParts (File name meta) =
    IsTrue (is_file_name name) × (IsTrue (is_header meta.header) × ((length meta.footer ≡ 16) × ((meta.length < 2 ^ 64) × (meta.checksum < 2 ^ 64))))
HasParts (Completed name) = IsTrue (is_file_name name)
HasParts (Chunk name at bytes) = (IsTrue (is_file_name name) × (at < 2 ^ 64)) × ((0 < length bytes) × (length bytes ≤ longest_chunk))

-- a message that has a frame: its parts are right, and its body is not too long
pub record IsFramable (m : Message) : Type 0 where
  pub parts : HasParts m
  pub short : length (message_body m) < longest_frame

-- the most bytes of infos that are put into a frame
abbrev pub longest_infos : ℕ
longest_infos = 65000

-- a message that can be put into a frame, as far as its type does not say so: its infos are not too long, its chunk has bytes and not too many
abbrev pub CanEncode : Message → Type 0
CanEncode (State version generation primary_gen files completed infos) = length infos ≤ longest_infos
CanEncode (Chunk name at bytes) = (0 < length bytes) × (length bytes ≤ longest_chunk)
CanEncode m = Unit {0}
