-- What a line of a report is read as.
use Rattle.std.specs.Prelude.{ℕ, ◌≡◌, List, Option, Some, None}
use Rattle.nrt_base.specs.declared.numbers.At.{At}
use Rattle.documents.specs.declared.operation.Op.{Op}
use Rattle.history_rules.specs.declared.entry.Entry.{Entry}
use Rattle.report_text.specs.Texts.{text_of_entry}
use Rattle.report_reading.specs.Widths.{EntryIsNarrow}
use Rattle.report_reading.specs.Readings.{as_told}
use Rattle.script_serving.specs.declared.script.LineCommand.{LineCommand}
use Rattle.script_serving.specs.declared.script.Script.{Script}
use Rattle.report_judge.specs.Places.{place_told, command_told}

-- the entry has this text, its place is that of the script's line of its number, and what is not printed of it is what that line says
pub record IsEntryOf (script : Script) (due : List Op) (line : List ℕ) (e : Entry) : Type 0 where
  pub narrow : EntryIsNarrow e
  pub text : text_of_entry e ≡ line
  pub place : e.at ≡ place_told script e.at.line.0
  pub told : as_told due (command_told script e.at.line.0) e.event ≡ e.event

-- the line is read as the entry whose line it is; where it is read as none it is the line of no entry
abbrev pub IsEntryRead : Script → List Op → List ℕ → Option Entry → Type 0
IsEntryRead script due line None = (e : Entry) → EntryIsNarrow e → text_of_entry e ≡ line → ⊥
IsEntryRead script due line (Some e) = IsEntryOf script due line e

-- the same of an entry at this place, whose line asks for this
abbrev pub IsToldRead : At → List Op → LineCommand → List ℕ → Option Entry → Type 0
IsToldRead at due command line None = (e : Entry) → EntryIsNarrow e → e.at.line.0 ≡ at.line.0 → text_of_entry e ≡ line → ⊥
IsToldRead at due command line (Some e) = EntryIsNarrow e × (text_of_entry e ≡ line) × (e.at ≡ at) × (as_told due command e.event ≡ e.event)
