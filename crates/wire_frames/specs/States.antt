-- A copy state as messages: one of the state, one for each file, one for each completed name.
use Rattle.std.specs.Prelude.{◌≡◌, ◌≢◌, ℕ, zero, suc, ◌+◌, ◌<◌, List, [], ◌∷◌, ◌++◌, length, map, slice_get, nat_lt, if◌then◌else◌, Option, Some, None, Result, Ok, Err}
use Rattle.std.specs.Option.{option_map}
use Rattle.copy_state.specs.declared.meta.FileMetaData.{FileMetaData}
use Rattle.copy_state.specs.declared.state.CopyState.{CopyState}
use Rattle.wire_frames.specs.declared.message.Message.{Message}
use Rattle.wire_frames.specs.declared.message.Message.TheVariants.{Notice, State, File, Completed, Chunk}
use Rattle.wire_frames.specs.declared.message.StateFault.{StateFault}
use Rattle.wire_frames.specs.declared.message.StateFault.TheVariants.{Order, Memory}
use Rattle.wire_frames.specs.Wire.{message_kind}

-- the message of a file
abbrev pub file_message : List ℕ × FileMetaData → Message
file_message f = File f.0 f.1

-- the message of a state: its numbers, how many files and completed names it has, and its infos
abbrev pub state_message : CopyState → Message
state_message s = State s.version s.generation s.primary_gen (length s.files) (length s.completed) s.infos

-- the messages of a state: one State, then a File for each file and a Completed for each name, in order
abbrev pub messages_of_state : CopyState → List Message
messages_of_state s = state_message s ∷ (map file_message s.files ++ map Completed s.completed)

-- the kind that is wanted at a place behind a state of so many files and completed names; none behind the last
abbrev pub kind_behind : ℕ → ℕ → ℕ → Option ℕ
kind_behind files completed i = if nat_lt i files then Some 3 else if nat_lt i (files + completed) then Some 4 else None

-- the kind that is wanted at a place, by the first message: a State first, and as many of each kind as it says
abbrev pub kind_wanted : List Message → ℕ → Option ℕ
kind_wanted messages zero = Some 2
kind_wanted (State version generation primary_gen files completed infos ∷ messages) (suc i) = kind_behind files completed i
kind_wanted messages (suc i) = None

-- the kind of the message at a place, if there is one
abbrev pub kind_found : List Message → ℕ → Option ℕ
kind_found messages i = option_map message_kind (slice_get messages i)

-- the first place where what is found is not what is wanted
pub record IsFirstMismatch (found wanted : ℕ → Option ℕ) (at : ℕ) : Type 0 where
  pub differs : found at ≢ wanted at
  pub before : (i : ℕ) → i < at → found i ≡ wanted i

-- the first place where the messages are not those of a state: another kind, a message too many, or one that is missing
abbrev pub IsFirstDisorder : List Message → ℕ → Type 0
IsFirstDisorder messages at = IsFirstMismatch (kind_found messages) (kind_wanted messages) at

-- at each place is the kind that is wanted there
abbrev pub AreInOrder : List Message → Type 0
AreInOrder messages = (i : ℕ) → kind_found messages i ≡ kind_wanted messages i

-- the messages are those of so many files and so many completed names
pub record AreListed (files completed : ℕ) (listed : List (List ℕ × FileMetaData)) (names : List (List ℕ)) (messages : List Message) : Type 0 where
  pub files_are : files ≡ length listed
  pub completed_are : completed ≡ length names
  pub whole : messages ≡ map file_message listed ++ map Completed names

-- the state of messages, or the first place where they are none; out of memory only where they are those of a state
abbrev pub TellsState : List Message → Result CopyState StateFault → Type 0
TellsState messages (Ok s) = messages ≡ messages_of_state s
TellsState messages (Err (Order at)) = IsFirstDisorder messages at
TellsState messages (Err Memory) = AreInOrder messages
