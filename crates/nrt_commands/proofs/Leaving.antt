-- The cluster that a run leaves, and the text that was written of it.
use Rattle.std.proofs.Common.{◌≡◌, ℕ, List, Option, false, ap, ◌∙◌, sym, subst, take, reverse}
use Rattle.std.specs.List.{flat_map}
use Rattle.std.specs.Io.KnownBytes.{Appends}
use Rattle.std.proofs.lemmas.List.{reverse-reverse}
use Rattle.history_rules.specs.declared.entry.Entry.{Entry}
use Rattle.history_rules.specs.Legal.{IsLegal}
use Rattle.history_book.specs.Log.{printed}
use Rattle.report_text.specs.Texts.{text_of_entry}
use Rattle.script_serving.specs.declared.script.Script.{Script}
use Rattle.script_text.specs.Grammar.{SpellsScript}
use Rattle.script_serving.specs.Serves.{Serves}
use Rattle.cluster_state.specs.Run.{Run}
use Rattle.cluster_run.specs.Running.{history_of, TellsInner}
use Rattle.nrt_commands.specs.Headline.{HasRun, Answers, AnswersInPart, LeavesRun, LeavesRunInPart}
use Rattle.stream_commands.specs.Reads.{ReadWhole}
use Rattle.nrt_commands.specs.TopCalls.{IsReport, LeavesText, LeavesFront}

-- the text of the entries of a cluster is that of its history
pub report_is : (script : Script) (r : Run) (entries : List Entry) (text : List ℕ) → r.ended ≡ false → IsLegal (history_of r) → Serves script (history_of r) → TellsInner script r.log
    → reverse entries ≡ printed r.log → text ≡ flat_map text_of_entry entries → IsReport script r text
report_is script r entries text running legal serves told is spelled =
    let same : entries ≡ reverse (printed r.log) = sym (reverse-reverse entries) ∙ ap (λ (es : List Entry). reverse es) is in
    record { running = running; legal = legal; serves = serves; told = told; is = spelled ∙ ap (flat_map text_of_entry) same }

module _ (bytes : List ℕ) (script : Script) (r : Run) (text : List ℕ) (before after : Option (List ℕ)) (grammar : SpellsScript bytes script) (report : IsReport script r text) where
  has_run : HasRun bytes r
  has_run = record { script = script; grammar = grammar; running = report.running; legal = report.legal; serves = report.serves; told = report.told }

  pub leaves_text : Appends before after text → LeavesText bytes before after r
  leaves_text written = record { ran = has_run; written = subst (Appends before after) report.is written }

  pub leaves_front : (n : ℕ) → Appends before after (take n text) → LeavesFront bytes before after r
  leaves_front n written = record { ran = has_run; front = n; written = subst (λ (t : List ℕ). Appends before after (take n t)) report.is written }

module _ (bytes : List ℕ) (r : Run) (before after : Option (List ℕ)) where
  pub answers_text : LeavesText bytes before after r → Answers bytes before after
  answers_text left = record { script = left.ran.script; grammar = left.ran.grammar; history = history_of r; legal = left.ran.legal; serves = left.ran.serves; written = left.written }

  pub answers_front : LeavesFront bytes before after r → AnswersInPart bytes before after
  answers_front left =
      record { script = left.ran.script; grammar = left.ran.grammar; history = history_of r; legal = left.ran.legal; serves = left.ran.serves; front = left.front; written = left.written }

  pub leaves_run : (left_before left_after : Option (List ℕ)) → ReadWhole left_before left_after bytes → LeavesText bytes before after r → LeavesRun left_before left_after before after r
  leaves_run left_before left_after read left = record { bytes = bytes; read = read; ran = left.ran; written = left.written }

  pub leaves_run_in_part : (left_before left_after : Option (List ℕ)) → ReadWhole left_before left_after bytes → LeavesFront bytes before after r
      → LeavesRunInPart left_before left_after before after r
  leaves_run_in_part left_before left_after read left = record { bytes = bytes; read = read; ran = left.ran; front = left.front; written = left.written }
