-- What the program promises of a stream of frames.
use Rattle.std.specs.Prelude.{ℕ, ◌≡◌, ◌<◌, ◌⊎◌, List, [], ◌∷◌, length, take, codes, Option}
use Rattle.std.specs.Io.KnownBytes.{IsAtEnd, Appends}
use Rattle.wire_frames.specs.declared.message.Message.{Message}
use Rattle.wire_frames.specs.declared.message.WireFault.{WireFault}
use Rattle.wire_frames.specs.Streams.{AreMessagesOf, IsStreamFault}
use Rattle.wire_frames.specs.Runs.{Gave, AreUnfinished, IsTextOf, wire_number}
use Rattle.stream_commands.specs.declared.status.Status.{Status}
use Rattle.stream_commands.specs.declared.status.Status.TheVariants.{Done, WriteFault, BadStream}

-- the row of words: `frames`
abbrev pub IsFrames : List (List ℕ) → Type 0
IsFrames words = words ≡ codes "frames" ∷ []

-- the source was read to its end, and the sink gained the lines of the messages that it gave
pub record RanFrames (left_before left_after held_before held_after : Option (List ℕ)) : Type 0 where
  pub text : List ℕ
  pub is : IsTextOf left_before left_after text
  pub written : Appends held_before held_after text

-- the source was read to its end, and the sink gained the front of the lines of the messages that it gave
pub record RanFramesInPart (left_before left_after held_before held_after : Option (List ℕ)) : Type 0 where
  pub text : List ℕ
  pub is : IsTextOf left_before left_after text
  pub front : ℕ
  pub written : Appends held_before held_after (take front text)

-- the answer to the bytes that a source gave as a stream: the fault of their first faulty frame; or, at their end, that they stop
-- within a frame, or that they were written
pub record IsFramesAnswer (before after : Option (List ℕ)) (answer : Status) : Type 0 where
  pub bytes : List ℕ
  pub gave : Gave before after bytes
  pub faulty : (fault : WireFault) → IsStreamFault bytes fault → answer ≡ BadStream (wire_number fault)
  pub stopped : IsAtEnd after → (messages : List Message) (rest : List ℕ) → AreUnfinished bytes messages rest → 0 < length rest → answer ≡ BadStream 4
  pub right : IsAtEnd after → (messages : List Message) → AreMessagesOf bytes messages [] → (answer ≡ Done) ⊎ (answer ≡ WriteFault)
