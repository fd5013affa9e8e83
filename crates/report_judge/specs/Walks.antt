-- How far a report was read.
use Rattle.std.specs.Prelude.{ℕ, ◌≡◌, ◌≢◌, ◌≤◌, List, [], ◌++◌, reverse, length}
use Rattle.std.specs.List.{flat_map}
use Rattle.history_rules.specs.declared.entry.Entry.{Entry}
use Rattle.history_rules.specs.declared.entry.History.{History}
use Rattle.history_rules.specs.Nodes.{Past}
use Rattle.known_past.specs.Known.{IsKnown}
use Rattle.report_text.specs.Texts.{text_of_entry}
use Rattle.report_reading.specs.Widths.{EntryIsNarrow}
use Rattle.report_reading.specs.Readings.{as_told}
use Rattle.script_serving.specs.declared.script.Script.{Script}
use Rattle.script_serving.specs.Lines.{lines_of}
use Rattle.script_serving.specs.Refusals.{put_publishes}
use Rattle.script_serving.specs.Serves.{ServesLanes, ServesPhases, Serves}
use Rattle.documents.specs.declared.operation.Op.{Op}
use Rattle.report_judge.specs.declared.judging.Shown.{Shown}
use Rattle.report_judge.specs.declared.judging.WalkEnd.{WalkEnd}
use Rattle.report_judge.specs.declared.judging.WalkEnd.TheVariants.{Whole, Short, Unserved, Unread}
use Rattle.report_judge.specs.CutNotes.{ShowsCuts}
use Rattle.report_judge.specs.Judgements.{AllNarrow, FitsNext, BeginsWithEntry, IsMissing}
use Rattle.report_judge.specs.Places.{place_told, command_told}
use Rattle.report_judge.specs.Replaying.{ShowsReplay}
use Rattle.report_judge.specs.Turns.{ShowsTurns}

-- what is kept shows what these entries do
pub record IsShown (script : Script) (past : Past) (shown : Shown) : Type 0 where
  pub known : IsKnown past shown.known
  pub puts : shown.puts ≡ put_publishes past
  pub few : shown.puts ≤ length past
  pub cuts : ShowsCuts past shown.cuts
  pub turns : ShowsTurns script past shown.turns
  pub replay : ShowsReplay script.log past shown.replay

-- the entry stands where the script's line of its number does, and what is not printed of it is what that line says
pub record IsEntryTold (script : Script) (due : List Op) (e : Entry) : Type 0 where
  pub place : e.at ≡ place_told script e.at.line.0
  pub told : as_told due (command_told script e.at.line.0) e.event ≡ e.event

-- the report begins with the text of these entries, which serve the script so far, and the rest is behind it
pub record ServesTo (script : Script) (report : List ℕ) (past : Past) (rest : List ℕ) : Type 0 where
  pub lanes : ServesLanes script past
  pub phases : ServesPhases (lines_of script) script.phases past
  pub narrow : AllNarrow past
  pub text : report ≡ flat_map text_of_entry (reverse past) ++ rest

-- the next line is that of an entry, but of none that its line asks for there
pub record NoneFits (script : Script) (past : Past) (rest : List ℕ) : Type 0 where
  pub entry : Entry
  pub is : BeginsWithEntry rest entry
  pub none : (e : Entry) → EntryIsNarrow e → BeginsWithEntry rest e → FitsNext script past e → ⊥

-- why no more entries were read behind these, where this is left
abbrev pub IsStop : Script → Past → List ℕ → WalkEnd → Type 0
IsStop script past rest Whole = (rest ≡ []) × Serves script (record { nodes = script.nodes; entries = reverse past })
IsStop script past rest (Short line) = (rest ≡ []) × IsMissing script past line.0
IsStop script past rest Unserved = (rest ≢ []) × NoneFits script past rest
IsStop script past rest Unread = (rest ≢ []) × ((e : Entry) → EntryIsNarrow e → BeginsWithEntry rest e → ⊥)

-- the report was read as far as its entries serve the script
pub record IsWalk (script : Script) (report : List ℕ) (h : History) (ended : WalkEnd) : Type 0 where
  pub nodes : h.nodes ≡ script.nodes
  pub rest : List ℕ
  pub serves : ServesTo script report (reverse h.entries) rest
  pub stop : IsStop script (reverse h.entries) rest ended
