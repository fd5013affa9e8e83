-- The next frame of a stream, as a function of its bytes.
use Rattle.std.specs.Prelude.{ℕ, ◌+◌, List, [], ◌∷◌, length, take, drop, Bool, ◌&&◌, ◌||◌, ◌==◌, nat_lt, nat_le, not, if◌then◌else◌, Option, Some, None, Result, Ok, Err}
use Rattle.nrt_base.specs.Bytes.{is_header}
use Rattle.file_names.specs.Names.{is_file_name}
use Rattle.body_forms.specs.Format.{Read, ◌>>=◌, then_at}
use Rattle.body_forms.specs.Numbers.{u32_at, u64_at, string_at}
use Rattle.wire_frames.specs.declared.message.Message.{Message}
use Rattle.wire_frames.specs.declared.message.Message.TheVariants.{Notice, State, File, Completed, Chunk}
use Rattle.wire_frames.specs.declared.message.WireFault.{WireFault}
use Rattle.wire_frames.specs.declared.message.WireFault.TheVariants.{Length, Kind, Body}
use Rattle.wire_frames.specs.declared.parts.Parts.{Parts}
use Rattle.wire_frames.specs.declared.parts.Parts.TheVariants.{Notice as NoticeParts, State as StateParts, File as FileParts, Completed as CompletedParts, Chunk as ChunkParts}
use Rattle.wire_frames.specs.Wire.{longest_frame, longest_chunk}
use Rattle.wire_frames.specs.Streams.{is_message_kind}

-- a string that passes a test
abbrev pub tested_string_at : (List ℕ → Bool) → List ℕ → Read (List ℕ)
tested_string_at test bytes = string_at bytes >>= λ x. if test x.0 then Some x else None

-- the name of a file, as a string
unfoldable pub name_at : List ℕ → Read (List ℕ)
name_at bytes = tested_string_at is_file_name bytes

-- the header of a file, as a string
unfoldable pub header_at : List ℕ → Read (List ℕ)
header_at bytes = tested_string_at is_header bytes

-- the sixteen bytes of a footer
unfoldable pub footer_at : List ℕ → Read (List ℕ)
footer_at bytes = if nat_lt (length bytes) 16 then None else Some (take 16 bytes, drop 16 bytes)

-- the numbers of a notice
unfoldable pub notice_at : List ℕ → Read (ℕ × ℕ)
notice_at bytes = then_at u64_at (λ _. u64_at) bytes

-- the numbers of a state
unfoldable pub state_at : List ℕ → Read (ℕ × (ℕ × (ℕ × (ℕ × ℕ))))
state_at bytes = then_at u64_at (λ _. then_at u64_at (λ _. then_at u64_at (λ _. then_at u32_at (λ _. u32_at)))) bytes

-- the name and the metadata of a file
unfoldable pub file_at : List ℕ → Read (List ℕ × (List ℕ × (List ℕ × (ℕ × ℕ))))
file_at bytes = then_at name_at (λ _. then_at header_at (λ _. then_at footer_at (λ _. then_at u64_at (λ _. u64_at)))) bytes

-- the name of a file, and a place in it
unfoldable pub chunk_at : List ℕ → Read (List ℕ × ℕ)
chunk_at bytes = then_at name_at (λ _. u64_at) bytes

-- what was read, as a message
abbrev pub made_read : {X : Type 0} → (X → Message) → Read X → Read Message
made_read make None = None
made_read make (Some (x, rest)) = Some (make x, rest)

-- a message that was read, where nothing is left
abbrev pub read_to_end : Read Message → Option Message
read_to_end None = None
read_to_end (Some (m, [])) = Some m
read_to_end (Some (m, b ∷ rest)) = None

-- what was read, as a message, where nothing is left
abbrev pub all_read : {X : Type 0} → (X → Message) → Read X → Option Message
all_read make r = read_to_end (made_read make r)

-- what was read, with what is left
abbrev pub state_read : Read (ℕ × (ℕ × (ℕ × (ℕ × ℕ)))) → Option Message
state_read None = None
state_read (Some (x, infos)) = Some (State (record { 0 = x.0 }) x.1.0 (record { 0 = x.1.1.0 }) x.1.1.1.0 x.1.1.1.1 infos)

-- what was read, with what is left where a chunk may be so long
abbrev pub chunk_read : Read (List ℕ × ℕ) → Option Message
chunk_read None = None
chunk_read (Some (x, bytes)) = if nat_lt 0 (length bytes) && nat_le (length bytes) longest_chunk then Some (Chunk x.0 x.1 bytes) else None

-- the notice of these numbers
abbrev pub notice_from : ℕ × ℕ → Message
notice_from x = Notice (record { 0 = x.0 }) (record { 0 = x.1 })

-- the file of this name, with this metadata
abbrev pub file_from : List ℕ × (List ℕ × (List ℕ × (ℕ × ℕ))) → Message
file_from x = File x.0 (record { header = x.1.0; footer = x.1.1.0; length = x.1.1.1.0; checksum = x.1.1.1.1 })

-- the message of a kind that has this body
unfoldable pub message_in : ℕ → List ℕ → Option Message
message_in kind body =
    if kind == 1 then all_read notice_from (notice_at body)
    else if kind == 2 then state_read (state_at body)
    else if kind == 3 then all_read file_from (file_at body)
    else if kind == 4 then all_read Completed (name_at body)
    else if kind == 5 then chunk_read (chunk_at body)
    else None

-- what the front of a stream is: the front of a frame that is not whole, a message and what follows it, or a faulty frame
abbrev pub Front : Type 0
Front = Result (Option (Message × List ℕ)) WireFault

-- what was found, each thing seen as the message and the bytes that it stands for
abbrev pub front_seen : {X : Type 0} → (X → Message × List ℕ) → Result (Option X) WireFault → Front
front_seen see (Ok None) = Ok None
front_seen see (Ok (Some x)) = Ok (Some (see x))
front_seen see (Err fault) = Err fault

-- a whole frame, by its message if it has one
abbrev pub front_read : ℕ → Option Message → List ℕ → Front
front_read kind (Some m) after = Ok (Some (m, after))
front_read kind None after = if is_message_kind kind then Err Body else Err (Kind kind)

-- the bytes of a whole frame, and what follows it
abbrev pub whole_front : List ℕ → List ℕ → Front
whole_front [] after = Ok None
whole_front (kind ∷ body) after = front_read kind (message_in kind body) after

-- how long the next frame is, and what follows its length
abbrev pub front_by : Read ℕ → Front
front_by None = Ok None
front_by (Some (n, rest)) =
    if n == 0 || nat_lt longest_frame n then Err (Length n)
    else if nat_lt (length rest) n then Ok None
    else whole_front (take n rest) (drop n rest)

-- the front of a stream
unfoldable pub stream_front : List ℕ → Front
stream_front bytes = front_by (u32_at bytes)

-- the message of which these are the parts
abbrev pub message_of : Parts → Message
message_of (NoticeParts generation version) = Notice generation version
message_of (StateParts version generation primary_gen files completed infos) = State version generation primary_gen files completed infos.now
message_of (FileParts name header footer len checksum) =
    File name (record { header = header.now; footer = footer; length = len; checksum = checksum })
message_of (CompletedParts name) = Completed name
message_of (ChunkParts name at bytes) = Chunk name at bytes.now
