-- What the program promises of what it writes of a node: the image of its directory, or the frames of a copy to it.
use Rattle.std.specs.Prelude.{ℕ, ◌≡◌, ◌≤◌, ◌<◌, List, [], take, codes, false, Option}
use Rattle.std.specs.Io.KnownBytes.{Appends}
use Rattle.disk_model.specs.Disk.{Name, reads_of}
use Rattle.disk_memory.specs.declared.memory.MemDir.{MemDir}
use Rattle.disk_memory.specs.Memory.{cells_in, names_on}
use Rattle.index_check.specs.Images.{NamedFile}
use Rattle.index_check.specs.ImagesNow.{AreReadAs, IsImageNow}
use Rattle.copy_state.specs.declared.state.CopyState.{CopyState}
use Rattle.wire_frames.specs.Streams.{AreMessagesOf}
use Rattle.wire_link.specs.Copies.{messages_of_copy}
use Rattle.history_rules.specs.Nodes.{is_running}
use Rattle.history_book.specs.Log.{printed}
use Rattle.script_serving.specs.declared.script.Script.{Script}
use Rattle.script_text.specs.Grammar.{SpellsScript}
use Rattle.script_text.specs.Refused.{IsFirstRefused}
use Rattle.cluster_state.specs.Run.{Run}
use Rattle.cluster_state.specs.NodeDirs.{IsNodeDir, FindsVersion}
use Rattle.cluster_copies.specs.Sends.{HasNoSource, IsSend}
use Rattle.nrt_commands.specs.declared.nodes.NodeText.{NodeText}
use Rattle.nrt_commands.specs.declared.nodes.NodeText.TheVariants.{Image, Frames}
use Rattle.stream_commands.specs.declared.status.Status.{Status}
use Rattle.stream_commands.specs.declared.status.Status.TheVariants.{Done, BadScript, WriteFault, NoSuchNode, NoCopy}
use Rattle.nrt_commands.specs.Headline.{HasRun}
use Rattle.stream_commands.specs.Reads.{ReadWhole}
use Rattle.stream_commands.specs.Numbered.{AreNameAndNumber, AreNameAndSome}

-- the word that asks for it
abbrev pub asking_word : NodeText → List ℕ
asking_word Image = codes "image"
asking_word Frames = codes "send"

-- the words are `image` and this number, from 1 to 16
abbrev pub IsImageRow : List (List ℕ) → ℕ → Type 0
IsImageRow = AreNameAndNumber (codes "image") 16

-- the row of words: `image` and such a number
abbrev pub IsImaging : List (List ℕ) → Type 0
IsImaging = AreNameAndSome (codes "image") 16

-- the words are `send` and this number, from 1 to 16
abbrev pub IsSendRow : List (List ℕ) → ℕ → Type 0
IsSendRow = AreNameAndNumber (codes "send") 16

-- the row of words: `send` and such a number
abbrev pub IsSending : List (List ℕ) → Type 0
IsSending = AreNameAndSome (codes "send") 16

-- A cluster has run the script that the bytes are, and the text is the image of the directory of its node n, as the script leaves it. Where
-- the node is down, the directory shows a version that a reopening may find, with its documents.
pub record IsNodeImage (bytes : List ℕ) (n : ℕ) (text : List ℕ) : Type 0 where
  pub run : Run
  pub ran : HasRun bytes run
  pub node : n ≤ run.nodes
  pub dir : MemDir
  pub is : IsNodeDir cells_in names_on run n dir
  pub down : is_running n (printed run.log) ≡ false → FindsVersion (printed run.log) n (reads_of (cells_in dir))
  pub image : IsImageNow (reads_of (cells_in dir)) text

-- the text is the frames of this copy state, and behind them those of the files of these names, as they read in this directory
pub record AreCopyFrames (state : CopyState) (names : List Name) (dir : MemDir) (text : List ℕ) : Type 0 where
  pub files : List NamedFile
  pub read : AreReadAs (reads_of (cells_in dir)) names files
  pub frames : AreMessagesOf text (messages_of_copy state files) []

-- A cluster has run the script that the bytes are, and the text is the frames that a copy of the newest point to its node n takes, as the
-- script leaves them: the copy state of the primary's point, and the files of it that the node lacks.
pub record IsNodeCopy (bytes : List ℕ) (n : ℕ) (text : List ℕ) : Type 0 where
  pub run : Run
  pub ran : HasRun bytes run
  pub node : n ≤ run.nodes
  pub state : CopyState
  pub lacking : List Name
  pub dir : MemDir
  pub is : IsSend cells_in names_on run n state lacking dir
  pub frames : AreCopyFrames state lacking dir text

-- a cluster has run the script that the bytes are, and no copy to its node n can begin: no primary runs, or the node is down or is the primary
pub record HasNoCopy (bytes : List ℕ) (n : ℕ) : Type 0 where
  pub run : Run
  pub ran : HasRun bytes run
  pub node : n ≤ run.nodes
  pub none : HasNoSource (printed run.log) n

-- what is written of node n
abbrev pub IsNodeText : NodeText → List ℕ → ℕ → List ℕ → Type 0
IsNodeText Image = IsNodeImage
IsNodeText Frames = IsNodeCopy

-- there is none: each node has a directory, and not to each can a copy begin
abbrev pub HasNoText : NodeText → List ℕ → ℕ → Type 0
HasNoText Image bytes n = ⊥
HasNoText Frames bytes n = HasNoCopy bytes n

-- the sink gained what is written of node n
pub record WroteText (kind : NodeText) (n : ℕ) (bytes : List ℕ) (before after : Option (List ℕ)) : Type 0 where
  pub text : List ℕ
  pub is : IsNodeText kind bytes n text
  pub written : Appends before after text

-- the sink gained the front of what is written of node n
pub record WroteTextInPart (kind : NodeText) (n : ℕ) (bytes : List ℕ) (before after : Option (List ℕ)) : Type 0 where
  pub text : List ℕ
  pub is : IsNodeText kind bytes n text
  pub front : ℕ
  pub written : Appends before after (take front text)

-- the bytes are a script of fewer nodes
pub record LacksNode (n : ℕ) (bytes : List ℕ) : Type 0 where
  pub script : Script
  pub grammar : SpellsScript bytes script
  pub fewer : script.nodes < n

-- what each answer says of these bytes and of the sink
abbrev pub IsNodeAnswer : NodeText → ℕ → List ℕ → Option (List ℕ) → Option (List ℕ) → Status → Type 0
IsNodeAnswer kind n bytes before after Done = WroteText kind n bytes before after
IsNodeAnswer kind n bytes before after WriteFault = WroteTextInPart kind n bytes before after
IsNodeAnswer kind n bytes before after (BadScript k cause) = IsFirstRefused bytes k.0 cause
IsNodeAnswer kind n bytes before after NoSuchNode = LacksNode n bytes
IsNodeAnswer kind n bytes before after NoCopy = HasNoText kind bytes n
IsNodeAnswer kind n bytes before after answer = ⊥

-- the source was read to its end, and this is the answer to what it gave
pub record AnswersNode (kind : NodeText) (n : ℕ) (left_before left_after held_before held_after : Option (List ℕ)) (answer : Status) : Type 0 where
  pub bytes : List ℕ
  pub read : ReadWhole left_before left_after bytes
  pub given : IsNodeAnswer kind n bytes held_before held_after answer
