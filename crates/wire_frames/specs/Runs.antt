-- What a source gave that was read as a stream of frames.
use Rattle.std.specs.Prelude.{◌≡◌, ◌⊎◌, ℕ, ◌+◌, ◌≤◌, ◌<◌, List, [], ◌++◌, length, Option, Some, None, Result, Ok, Err}
use Rattle.std.specs.List.{flat_map}
use Rattle.std.specs.Io.KnownBytes.{Consumes, IsAtEnd}
use Rattle.wire_frames.specs.declared.message.Message.{Message}
use Rattle.wire_frames.specs.declared.message.WireFault.{WireFault}
use Rattle.wire_frames.specs.declared.message.WireFault.TheVariants.{Length, Kind, Body, Memory as WireMemory}
use Rattle.wire_frames.specs.Streams.{BeginsWith, AreMessagesOf, IsUnfinished, IsStreamFault}
use Rattle.wire_frames.specs.declared.running.FramesEnd.{FramesEnd}
use Rattle.wire_frames.specs.declared.running.FramesEnd.TheVariants.{Memory, Fault, TooLarge, BadStream}
use Rattle.wire_frames.specs.Lines.{message_line}

-- the most bytes that are read of a stream
abbrev pub longest_stream : ℕ
longest_stream = 16777216

-- the source gave these bytes, and no more than are read of a stream
pub record Gave (before after : Option (List ℕ)) (bytes : List ℕ) : Type 0 where
  pub taken : Consumes before after bytes
  pub within : length bytes ≤ longest_stream

-- the source was read to its end, and gave these messages
pub record GaveMessages (before after : Option (List ℕ)) (messages : List Message) : Type 0 where
  pub bytes : List ℕ
  pub gave : Gave before after bytes
  pub ended : IsAtEnd after
  pub are : AreMessagesOf bytes messages []

-- the source was read to its end, and the text has the lines of what it gave, in order
pub record IsTextOf (before after : Option (List ℕ)) (text : List ℕ) : Type 0 where
  pub messages : List Message
  pub gave : GaveMessages before after messages
  pub lines : text ≡ flat_map message_line messages

-- the first faulty frame of what the source gave has this fault
pub record GaveFault (before after : Option (List ℕ)) (fault : WireFault) : Type 0 where
  pub bytes : List ℕ
  pub gave : Gave before after bytes
  pub faulty : IsStreamFault bytes fault

-- the bytes are messages, and then the front of a frame
pub record AreUnfinished (bytes : List ℕ) (messages : List Message) (rest : List ℕ) : Type 0 where
  pub front : BeginsWith bytes messages rest
  pub unfinished : IsUnfinished rest

-- the source was read to its end, and gave messages and the front of a frame, of one byte or more
pub record GaveFront (before after : Option (List ℕ)) : Type 0 where
  pub bytes : List ℕ
  pub gave : Gave before after bytes
  pub ended : IsAtEnd after
  pub messages : List Message
  pub rest : List ℕ
  pub are : AreUnfinished bytes messages rest
  pub some : 0 < length rest

-- the source gave as many bytes as are read of a stream, without a fault, and then one more
pub record GaveMore (before after : Option (List ℕ)) : Type 0 where
  pub bytes : List ℕ
  pub more : List ℕ
  pub taken : Consumes before after (bytes ++ more)
  pub full : length bytes ≡ longest_stream
  pub one : length more ≡ 1
  pub messages : List Message
  pub rest : List ℕ
  pub are : AreUnfinished bytes messages rest

-- the number of a fault
abbrev pub wire_number : WireFault → ℕ
wire_number (Length n) = 1
wire_number (Kind k) = 2
wire_number Body = 3
wire_number WireMemory = 0

-- the source gave a bad stream: its first faulty frame has the fault with this number, or the stream ended in a frame
abbrev pub GaveBadStream : Option (List ℕ) → Option (List ℕ) → ℕ → Type 0
GaveBadStream before after k = ((fault : WireFault) × GaveFault before after fault × (k ≡ wire_number fault)) ⊎ ((k ≡ 4) × GaveFront before after)

-- the source gave some bytes, and not too many
abbrev pub GaveSome : Option (List ℕ) → Option (List ℕ) → Type 0
GaveSome before after = (bytes : List ℕ) × Gave before after bytes

-- why there is no text: a bad stream, or too many bytes; or memory, or the source failed
abbrev pub SaysFrames : Option (List ℕ) → Option (List ℕ) → FramesEnd → Type 0
SaysFrames before after Memory = Unit {0}
SaysFrames before after Fault = GaveSome before after
SaysFrames before after TooLarge = GaveMore before after
SaysFrames before after (BadStream k) = GaveBadStream before after k

-- the answer to a fault
abbrev pub end_of : WireFault → FramesEnd
end_of WireMemory = Memory
end_of fault = BadStream (wire_number fault)

-- what was read so far: messages whose lines are the text, and the bytes that are held
pub record HasRead (bytes held text : List ℕ) : Type 0 where
  pub messages : List Message
  pub front : BeginsWith bytes messages held
  pub lines : text ≡ flat_map message_line messages

-- so many bytes were taken from a source, and were read so
pub record Taken (before now : Option (List ℕ)) (count : ℕ) (held text : List ℕ) : Type 0 where
  pub bytes : List ℕ
  pub taken : Consumes before now bytes
  pub size : length bytes ≡ count
  pub read : HasRead bytes held text

-- What one more read of a source tells, of which so many bytes were taken: how many more were read; that it is at its end; or why the
-- reading stops. `b` is the source before the read, and `c` behind it.
abbrev pub TellsTurn : (a b c : Option (List ℕ)) (count : ℕ) (held text rest more : List ℕ) → Result (Option ℕ) FramesEnd → Type 0
TellsTurn a b c count held text rest more (Ok (Some n)) = (1 ≤ n) × (count + n ≤ longest_stream) × (Taken a b count held text → Taken a c (count + n) rest more)
TellsTurn a b c count held text rest more (Ok None) = IsAtEnd c × (Taken a b count held text → Taken a c count rest more)
TellsTurn a b c count held text rest more (Err end) = Taken a b count held text → SaysFrames a c end
