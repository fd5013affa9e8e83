-- What the judge answers of a report: that it is the text of a legal history that serves its script, or the first line with which no
-- such history goes on, and why.
use Rattle.std.specs.Prelude.{ℕ, ◌≡◌, ◌≢◌, ◌||◌, ◌+◌, ◌⊎◌, if◌then◌else◌, List, [], ◌∷◌, ◌++◌, reverse, length, true, ⊤, Option, Some, None}
use Rattle.std.specs.List.{flat_map}
use Rattle.nrt_base.specs.declared.numbers.At.{At}
use Rattle.history_rules.specs.declared.entry.Entry.{Entry}
use Rattle.history_rules.specs.declared.entry.History.{History}
use Rattle.history_rules.specs.Nodes.{Past}
use Rattle.history_rules.specs.Lines.{is_answered}
use Rattle.history_rules.specs.Legal.{KeepsRule, IsLegalPast, IsLegal, rule_number}
use Rattle.report_text.specs.Texts.{text_of_entry, text_of}
use Rattle.report_reading.specs.Widths.{EntryIsNarrow}
use Rattle.script_serving.specs.declared.script.Line.{Line}
use Rattle.script_serving.specs.declared.script.Script.{Script}
use Rattle.script_serving.specs.Lines.{lines_of, lines_of_lane, command_at, all_answered, earlier_phases_answered}
use Rattle.script_serving.specs.Replays.{due}
use Rattle.script_serving.specs.Serves.{Fits, is_merge_fault, ServesLanes, ServesPhases, Serves}
use Rattle.report_judge.specs.declared.judgement.Judgement.{Judgement}
use Rattle.report_judge.specs.declared.judgement.Judgement.TheVariants.{Legal, Broken, Unserved, Unread, Unanswered}

-- entries go well with a script: each keeps its rule, and is one that its line asks for, in the turn of its line and its phase
pub record GoesWell (script : Script) (past : Past) : Type 0 where
  pub legal : IsLegalPast script.nodes past
  pub lanes : ServesLanes script past
  pub phases : ServesPhases (lines_of script) script.phases past

-- behind entries this one is what its line asks for, in the turn of its line and its phase; whether it keeps its rule is not said
pub record FitsNext (script : Script) (past : Past) (e : Entry) : Type 0 where
  pub lane : let lines = lines_of_lane e.at.lane.0 script in Fits (due script.log past) lines past e.at (command_at lines e.at) e.event
  pub phase : (is_merge_fault (command_at (lines_of script) e.at) e.event || earlier_phases_answered script.phases e.at past) ≡ true

-- the numbers of each entry have at most the bits that the program has for their kinds
abbrev pub AllNarrow : List Entry → Type 0
AllNarrow [] = ⊤
AllNarrow (e ∷ entries) = EntryIsNarrow e × AllNarrow entries

-- the report begins with the text of these entries, which go well, and the rest is behind it
pub record GoesWellTo (script : Script) (report : List ℕ) (past : Past) (rest : List ℕ) : Type 0 where
  pub well : GoesWell script past
  pub narrow : AllNarrow past
  pub text : report ≡ flat_map text_of_entry (reverse past) ++ rest

-- the text begins with the line of this entry
abbrev pub BeginsWithEntry : List ℕ → Entry → Type 0
BeginsWithEntry text e = (after : List ℕ) × (text ≡ text_of_entry e ++ after)

-- the report is the text of this history, which is legal and serves the script
pub record IsLegalReport (script : Script) (report : List ℕ) (h : History) : Type 0 where
  pub legal : IsLegal h
  pub serves : Serves script h
  pub narrow : AllNarrow (reverse h.entries)
  pub text : text_of h ≡ report

-- the lines before this one, counted from 1, go well, and this one is the line of no entry
pub record IsUnread (script : Script) (report : List ℕ) (line : ℕ) : Type 0 where
  pub past : Past
  pub rest : List ℕ
  pub goes : GoesWellTo script report past rest
  pub place : line ≡ length past + 1
  pub some : rest ≢ []
  pub none : (e : Entry) → EntryIsNarrow e → BeginsWithEntry rest e → ⊥

-- the lines before this one go well, and this one is the line of an entry, but of none that its line asks for there
pub record IsUnserved (script : Script) (report : List ℕ) (line : ℕ) : Type 0 where
  pub past : Past
  pub rest : List ℕ
  pub goes : GoesWellTo script report past rest
  pub place : line ≡ length past + 1
  pub entry : Entry
  pub is : BeginsWithEntry rest entry
  pub none : (e : Entry) → EntryIsNarrow e → BeginsWithEntry rest e → FitsNext script past e → ⊥

-- the lines before this one go well, and this one is the line of an entry that its line asks for there, but each such breaks this rule
pub record IsBroken (script : Script) (report : List ℕ) (line rule : ℕ) : Type 0 where
  pub past : Past
  pub rest : List ℕ
  pub goes : GoesWellTo script report past rest
  pub place : line ≡ length past + 1
  pub entry : Entry
  pub is : BeginsWithEntry rest entry
  pub fits : FitsNext script past entry
  pub numbered : rule ≡ rule_number entry.event
  pub broken : (e : Entry) → EntryIsNarrow e → BeginsWithEntry rest e → FitsNext script past e → KeepsRule script.nodes past e.at e.event → ⊥

-- the first of the lines that has no reply
abbrev pub first_unanswered : List Line → Past → Option At
first_unanswered [] past = None
first_unanswered (line ∷ lines) past = if is_answered line.at past then first_unanswered lines past else Some line.at

-- the line of the newest entry
abbrev pub newest_at : Past → Option At
newest_at [] = None
newest_at (e ∷ past) = Some e.at

-- this line of the script is the first that has no reply, or, where all have theirs, it is a promotion whose replay is not done
pub record IsMissing (script : Script) (past : Past) (line : ℕ) : Type 0 where
  pub at : At
  pub number : line ≡ at.line.0
  pub missing :
      (first_unanswered (lines_of script) past ≡ Some at)
      ⊎ ((all_answered (lines_of script) past ≡ true) × (due script.log past ≢ []) × (newest_at past ≡ Some at))

-- the report goes well to its end, but this line of the script has no reply, or its replay is not done
pub record IsUnanswered (script : Script) (report : List ℕ) (line : ℕ) : Type 0 where
  pub past : Past
  pub goes : GoesWellTo script report past []
  pub missing : IsMissing script past line

-- what a judgement says of a report
abbrev pub IsJudgement : Script → List ℕ → Judgement → Type 0
IsJudgement script report (Legal h) = IsLegalReport script report h
IsJudgement script report (Broken line rule) = IsBroken script report line rule
IsJudgement script report (Unserved line) = IsUnserved script report line
IsJudgement script report (Unread line) = IsUnread script report line
IsJudgement script report (Unanswered line) = IsUnanswered script report line.0
