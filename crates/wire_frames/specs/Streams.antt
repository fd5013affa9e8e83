-- The messages of a stream of bytes, and its first faulty frame.
use Rattle.std.specs.Prelude.{◌≡◌, ℕ, ◌+◌, ◌≤◌, ◌<◌, ◌⊎◌, List, ◌∷◌, ◌++◌, length, take, Bool, ◌&&◌, nat_le, IsTrue, not, Option, Some, None, Result, Ok, Err}
use Rattle.std.specs.List.{All, flat_map}
use Rattle.std.specs.Int.{w32, from_be_bytes}
use Rattle.wire_frames.specs.declared.message.Message.{Message}
use Rattle.wire_frames.specs.declared.message.WireFault.{WireFault}
use Rattle.wire_frames.specs.declared.message.WireFault.TheVariants.{Length, Kind, Body, Memory}
use Rattle.wire_frames.specs.Wire.{message_kind, message_body, frame_of, wire_of, longest_frame, IsFramable}

-- the stream is these messages, one after the other, and then the rest
pub record BeginsWith (stream : List ℕ) (messages : List Message) (rest : List ℕ) : Type 0 where
  pub each : All IsFramable messages
  pub parts : stream ≡ flat_map wire_of messages ++ rest

-- the bytes begin with those of a message
abbrev pub BeginsWithMessage : List ℕ → Type 0
BeginsWithMessage bytes = (m : Message) × (after : List ℕ) × IsFramable m × (bytes ≡ wire_of m ++ after)

-- the messages of a stream: their bytes, joined, are its front, and the rest begins with no message
pub record AreMessagesOf (stream : List ℕ) (messages : List Message) (rest : List ℕ) : Type 0 where
  pub front : BeginsWith stream messages rest
  pub ended : ¬ BeginsWithMessage rest

-- the length that the first four bytes say
unfoldable pub told_length : List ℕ → ℕ
told_length bytes = from_be_bytes w32 (take 4 bytes)

-- a frame has at least its kind, and not too many bytes
abbrev pub IsFrameLength : ℕ → Type 0
IsFrameLength n = (1 ≤ n) × (n ≤ longest_frame)

-- The front of a frame that is not whole: not all its bytes of length are there, or they say a length that a frame may have and
-- fewer bytes follow.
abbrev pub IsUnfinished : List ℕ → Type 0
IsUnfinished bytes = (length bytes < 4) ⊎ (IsFrameLength (told_length bytes) × (length bytes < 4 + told_length bytes))

-- the length bytes of the next frame are there, and say a length that no frame has
pub record IsWrongLength (bytes : List ℕ) (n : ℕ) : Type 0 where
  pub there : 4 ≤ length bytes
  pub told : n ≡ told_length bytes
  pub wrong : ¬ IsFrameLength n

-- the bytes begin with a whole frame of this kind and this body
pub record HasFrame (bytes : List ℕ) (kind : ℕ) (body : List ℕ) : Type 0 where
  pub after : List ℕ
  pub whole : bytes ≡ frame_of kind body ++ after
  pub short : length body < longest_frame

-- a kind of messages, 1 to 5
abbrev pub is_message_kind : ℕ → Bool
is_message_kind kind = nat_le 1 kind && nat_le kind 5

-- the body is that of no message of this kind
abbrev pub IsOfNoMessage : ℕ → List ℕ → Type 0
IsOfNoMessage kind body = (m : Message) → IsFramable m → message_kind m ≡ kind → message_body m ≡ body → ⊥

-- The fault of the next frame: its length bytes are there and say what no frame has; it is whole, and its kind is none; it is
-- whole, its kind is one, and its body is of no message of that kind.
abbrev pub IsFrameFault : List ℕ → WireFault → Type 0
IsFrameFault bytes (Length n) = IsWrongLength bytes n
IsFrameFault bytes (Kind k) = (body : List ℕ) × HasFrame bytes k body × IsTrue (not (is_message_kind k))
IsFrameFault bytes Body = (kind : ℕ) × (body : List ℕ) × HasFrame bytes kind body × IsTrue (is_message_kind kind) × IsOfNoMessage kind body
IsFrameFault bytes Memory = ⊥

-- the first faulty frame of a stream has this fault: messages stand before it
pub record IsStreamFault (stream : List ℕ) (fault : WireFault) : Type 0 where
  pub messages : List Message
  pub rest : List ℕ
  pub front : BeginsWith stream messages rest
  pub faulty : IsFrameFault rest fault

-- why a stream is refused: its first faulty frame has this fault, if it is not memory
abbrev pub IsCauseOf : List ℕ → WireFault → Type 0
IsCauseOf stream Memory = Unit {0}
IsCauseOf stream fault = IsStreamFault stream fault

-- ---- what a step of the reading tells
-- the fault of the next frame, if it is not memory
abbrev pub IsFrontFault : List ℕ → WireFault → Type 0
IsFrontFault bytes Memory = Unit {0}
IsFrontFault bytes fault = IsFrameFault bytes fault

-- a message stands at the front of the bytes, and these follow it
pub record TakesMessage (bytes : List ℕ) (m : Message) (after : List ℕ) : Type 0 where
  pub framable : IsFramable m
  pub parts : bytes ≡ wire_of m ++ after

-- the front of the bytes: of a frame that is not whole, a message with what follows it, or a faulty frame
abbrev pub TellsFront : {X : Type 0} → (X → Message × List ℕ) → List ℕ → Result (Option X) WireFault → Type 0
TellsFront see bytes (Ok None) = IsUnfinished bytes
TellsFront see bytes (Ok (Some x)) = TakesMessage bytes (see x).0 (see x).1
TellsFront see bytes (Err fault) = IsFrontFault bytes fault
