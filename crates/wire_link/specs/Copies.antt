-- The messages of a copy: those of its state, then its files in chunks.
use Rattle.std.specs.Prelude.{ℕ, ◌≡◌, ◌*◌, List, ◌++◌, length, take, drop, map}
use Rattle.std.specs.Int.{div_ceil}
use Rattle.std.specs.List.{All, flat_map, range_with_len}
use Rattle.copy_state.specs.declared.state.CopyState.{CopyState}
use Rattle.wire_frames.specs.declared.message.Message.{Message}
use Rattle.wire_frames.specs.declared.message.Message.TheVariants.{Chunk}
use Rattle.wire_frames.specs.Wire.{longest_chunk, wire_of, IsFramable}
use Rattle.wire_frames.specs.States.{messages_of_state}

-- the chunk of a file that begins at a place: the most bytes of a chunk, or all that is left
abbrev pub chunk_from : List ℕ → ℕ → List ℕ → Message
chunk_from name at bytes = Chunk name at (take longest_chunk (drop at bytes))

-- the chunks of a file, in order; none where it has no bytes
abbrev pub chunk_messages : List ℕ × List ℕ → List Message
chunk_messages file = map (λ k. chunk_from file.0 (k * longest_chunk) file.1) (range_with_len 0 (div_ceil (length file.1) longest_chunk))

-- the messages of a copy: those of the state, then the chunks of each file, in order
abbrev pub messages_of_copy : CopyState → List (List ℕ × List ℕ) → List Message
messages_of_copy state files = messages_of_state state ++ flat_map chunk_messages files

-- the frames of these messages were added
pub record AddsFrames (messages : List Message) (old new : List ℕ) : Type 0 where
  pub each : All IsFramable messages
  pub added : new ≡ old ++ flat_map wire_of messages
