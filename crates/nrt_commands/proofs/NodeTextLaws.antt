-- What was written of a node.
use Rattle.std.proofs.Common.{◌≡◌, ◌≢◌, ◌<◌, ◌∙◌, ℕ, false, is_some, List, [], get_or, Option, Some, IfSome, refl, sym, ap, subst, take, inr}
use Rattle.std.specs.Prelude.{IsSome, is_none}
use Rattle.std.specs.List.{All}
use Rattle.std.proofs.lemmas.List.Elements.{All-map, All-filter}
use Rattle.std.specs.Io.KnownBytes.{Appends}
use Rattle.disk_model.specs.Disk.{Name, Cells, reads_of}
use Rattle.disk_memory.specs.declared.memory.MemDir.{MemDir}
use Rattle.disk_memory.specs.Memory.{cells_in, names_on}
use Rattle.index_check.specs.Images.{NamedFile}
use Rattle.index_check.specs.ImagesNow.{AreReadAs, IsImageNow}
use Rattle.copy_state.specs.declared.state.CopyState.{CopyState}
use Rattle.copy_state.specs.States.{meta_names}
use Rattle.wire_frames.specs.Streams.{AreMessagesOf}
use Rattle.wire_link.specs.Copies.{messages_of_copy}
use Rattle.history_rules.specs.Legal.{IsLegal}
use Rattle.history_rules.specs.Nodes.{IsNode, is_running}
use Rattle.history_book.specs.Log.{printed}
use Rattle.script_serving.specs.declared.script.Script.{Script}
use Rattle.script_serving.specs.Serves.{Serves}
use Rattle.script_text.specs.Grammar.{SpellsScript}
use Rattle.cluster_state.specs.Run.{Run}
use Rattle.cluster_state.specs.NodeDirs.{IsNodeDir, FindsVersion}
use Rattle.cluster_copies.specs.declared.sends.Sending.{Sending}
use Rattle.cluster_copies.specs.Sends.{HasNoSource, IsSend}
use Rattle.cluster_run.specs.Running.{history_of, TellsInner}
use Rattle.nrt_commands.specs.declared.nodes.NodeText.{NodeText}
use Rattle.stream_commands.specs.declared.status.Status.{Status}
use Rattle.stream_commands.specs.declared.status.Status.TheVariants.{BadScript, Memory}
use Rattle.nrt_commands.specs.Headline.{HasRun}
use Rattle.stream_commands.specs.Reads.{ReadWhole}
use Rattle.nrt_commands.specs.Rows.{IsKnownRow}
use Rattle.stream_commands.specs.Scripts.{IsRefusal}
use Rattle.nrt_commands.specs.NodeTexts.{IsSendRow, AreCopyFrames, IsNodeImage, IsNodeCopy, HasNoCopy, IsNodeText, WroteText, WroteTextInPart, LacksNode, IsNodeAnswer, AnswersNode}

-- the nodes of a cluster that ran a script are those of the script
pub node_of_run : (script : Script) (r : Run) (n : ℕ) → Serves script (history_of r) → IsNode script.nodes n → IsNode r.nodes n
node_of_run script r n serves node = subst (λ (size : ℕ). IsNode size n) (sym serves.nodes) node

module _ (script : Script) (r : Run) (n : ℕ) (running : r.ended ≡ false) (legal : IsLegal (history_of r)) (serves : Serves script (history_of r)) (told : TellsInner script r.log) (node : IsNode script.nodes n) where
  has_run : (bytes : List ℕ) → SpellsScript bytes script → HasRun bytes r
  has_run bytes grammar = record { script = script; grammar = grammar; running = running; legal = legal; serves = serves; told = told }

  pub node_image : (dir : MemDir) (text : List ℕ) → IsNodeDir cells_in names_on r n dir → (is_running n (printed r.log) ≡ false → FindsVersion (printed r.log) n (reads_of (cells_in dir)))
      → IsImageNow (reads_of (cells_in dir)) text → (bytes : List ℕ) → SpellsScript bytes script → IsNodeImage bytes n text
  node_image dir text is down image bytes grammar =
      record { run = r; ran = has_run bytes grammar; node = (node_of_run script r n serves node).1; dir = dir; is = is; down = down; image = image }

  pub node_copy : (state : CopyState) (lacking : List Name) (dir : MemDir) (text : List ℕ) → IsSend cells_in names_on r n state lacking dir → AreCopyFrames state lacking dir text → (bytes : List ℕ)
      → SpellsScript bytes script → IsNodeCopy bytes n text
  node_copy state lacking dir text is frames bytes grammar =
      record { run = r; ran = has_run bytes grammar; node = (node_of_run script r n serves node).1; state = state; lacking = lacking; dir = dir; is = is; frames = frames }

  pub no_copy : HasNoSource (printed r.log) n → (bytes : List ℕ) → SpellsScript bytes script → HasNoCopy bytes n
  no_copy none bytes grammar = record { run = r; ran = has_run bytes grammar; node = (node_of_run script r n serves node).1; none = none }

module _ (state r : Run) (n : ℕ) (same : state ≡ r) where
  -- what is sent is such where something is sent
  pub send_of : (sending : Option (Sending MemDir)) (s : Sending MemDir) → IfSome sending (λ x. IsSend cells_in names_on state n x.state x.lacking.items x.dir) → sending ≡ Some s
      → IsSend cells_in names_on r n s.state s.lacking.items s.dir
  send_of sending s all is =
      subst (λ (x : Run). IsSend cells_in names_on x n s.state s.lacking.items s.dir) same
      (subst (λ (o : Option (Sending MemDir)). IfSome o (λ x. IsSend cells_in names_on state n x.state x.lacking.items x.dir)) is all)

  pub none_of : HasNoSource (printed state.log) n → HasNoSource (printed r.log) n
  none_of none = subst (λ (x : Run). HasNoSource (printed x.log) n) same none

-- the files that are sent are there
pub sent_there : (r : Run) (n : ℕ) (state : CopyState) (lacking : List Name) (dir : MemDir) → IsSend cells_in names_on r n state lacking dir → All (λ q. IsSome (reads_of (cells_in dir) q)) lacking
sent_there r n state lacking dir is = subst (λ (names : List Name). All There names) (sym is.takes.lacking_are)
    (All-filter (λ q. is_none (reads_of (cells_in is.theirs) q)) There (meta_names state.files)
    (All-map There (λ f. f.0) state.files (λ k d lt. ap is_some (ap (λ (c : Cells). reads_of c (get_or state.files k d).0) is.takes.dir_is ∙ (is.takes.state_is.metas k d lt).there))))
  where
    There : Name → Type 0
    There q = IsSome (reads_of (cells_in dir) q)

-- the frames of the files that were read
pub copy_frames_are : (state : CopyState) (names shown : List Name) (dir : MemDir) (files given : List NamedFile) (text : List ℕ) → shown ≡ names → given ≡ files
    → AreReadAs (reads_of (cells_in dir)) shown files → AreMessagesOf text (messages_of_copy state given) [] → AreCopyFrames state names dir text
copy_frames_are state names shown dir files given text same whole read frames = record {
  files = files;
  read = subst (λ (ns : List Name). AreReadAs (reads_of (cells_in dir)) ns files) same read;
  frames = subst (λ (fs : List NamedFile). AreMessagesOf text (messages_of_copy state fs) []) whole frames;
}

pub lacks_node : (n : ℕ) (bytes : List ℕ) (script : Script) → SpellsScript bytes script → script.nodes < n → LacksNode n bytes
lacks_node n bytes script grammar fewer = record { script = script; grammar = grammar; fewer = fewer }

module _ (kind : NodeText) (n : ℕ) (bytes : List ℕ) (before after : Option (List ℕ)) where
  pub wrote_text : (script : Script) (text : List ℕ) → SpellsScript bytes script → ((bs : List ℕ) → SpellsScript bs script → IsNodeText kind bs n text) → Appends before after text
      → WroteText kind n bytes before after
  wrote_text script text grammar is written = record { text = text; is = is bytes grammar; written = written }

  pub wrote_in_part : (script : Script) (text : List ℕ) (k : ℕ) → SpellsScript bytes script → ((bs : List ℕ) → SpellsScript bs script → IsNodeText kind bs n text) → Appends before after (take k text)
      → WroteTextInPart kind n bytes before after
  wrote_in_part script text k grammar is written = record { text = text; is = is bytes grammar; front = k; written = written }

  -- bytes of which nothing is run are answered so
  pub refusal_text : (answer : Status) → IsRefusal bytes answer → answer ≢ Memory → IsNodeAnswer kind n bytes before after answer
  refusal_text (BadScript k cause) refused known = refused
  refusal_text Memory refused known = absurd (known refl)
  refusal_text answer refused known = absurd refused

-- a number that is another by name alone
pub same_answer : (kind : NodeText) (m n : ℕ) (left_before left_after held_before held_after : Option (List ℕ)) (answer : Status) → m ≡ n
    → AnswersNode kind m left_before left_after held_before held_after answer → AnswersNode kind n left_before left_after held_before held_after answer
same_answer kind m n left_before left_after held_before held_after answer e has = subst (λ (k : ℕ). AnswersNode kind k left_before left_after held_before held_after answer) e has

-- what was read to the end was answered
pub node_answer : (kind : NodeText) (n : ℕ) (left_before left_after held_before held_after : Option (List ℕ)) (answer : Status) (bytes shown : List ℕ) → shown ≡ bytes
    → ReadWhole left_before left_after bytes → IsNodeAnswer kind n shown held_before held_after answer → AnswersNode kind n left_before left_after held_before held_after answer
node_answer kind n left_before left_after held_before held_after answer bytes shown same read given =
    record { bytes = bytes; read = read; given = subst (λ (bs : List ℕ). IsNodeAnswer kind n bs held_before held_after answer) same given }

-- the last row of the table
pub sending_is_known : (words : List (List ℕ)) (n : ℕ) → IsSendRow words n → IsKnownRow words
sending_is_known words n asks = inr (inr (inr (inr (inr (inr (inr (n, asks)))))))
