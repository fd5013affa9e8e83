-- What is shown of a report, and what was written of it.
use Rattle.std.proofs.Common.{◌≡◌, ℕ, List, Option, Bool, true, false, subst, take}
use Rattle.std.specs.Prelude.{◌⊎◌}
use Rattle.std.specs.Io.KnownBytes.{Appends}
use Rattle.history_rules.specs.declared.entry.Entry.{Entry}
use Rattle.stream_commands.specs.declared.status.Status.{Status}
use Rattle.stream_commands.specs.declared.status.Status.TheVariants.{Done, WriteFault, BadReport}
use Rattle.report_judge.specs.declared.judgement.Judgement.TheVariants.{Legal}
use Rattle.stream_commands.specs.Judge.{TellsIllegal, IsJudgeAnswer}
use Rattle.stream_commands.specs.Pictures.{ShowsReport, SaysWrong, ShowsJudged, WritesReport, WritesReportInPart}
use Rattle.stream_commands.proofs.JudgeAnswers.{told_answer}

module _ (show : ℕ → List Entry → List ℕ) (bytes text : List ℕ) (before after : Option (List ℕ)) where
  pub writes_report : ShowsReport show bytes text → Appends before after text → WritesReport show bytes before after
  writes_report shown written = record { text = text; shown = shown; written = written }

  pub writes_front : (legal : Bool) (n : ℕ) → ShowsJudged show bytes legal text → Appends before after (take n text) → WritesReportInPart show bytes before after
  writes_front legal n shown written = record { legal = legal; text = text; shown = shown; front = n; written = written }

-- where a report goes wrong, the line that says where is that of its judgement
pub tells_wrong : (bytes text : List ℕ) (before after : Option (List ℕ)) → SaysWrong bytes text → Appends before after text → TellsIllegal bytes before after
tells_wrong bytes text before after says written =
    record { judgement = says.judgement; is = says.is; wrong = says.wrong; written = subst (Appends before after) says.said written }

-- a report that was judged and shown is answered so
pub shown_answer : (show : ℕ → List Entry → List ℕ) (bytes text : List ℕ) (legal : Bool) (answer : Status) → ShowsJudged show bytes legal text
    → (answer ≡ Done) ⊎ ((answer ≡ BadReport) ⊎ (answer ≡ WriteFault)) → IsJudgeAnswer bytes answer
shown_answer show bytes text true answer shown told = told_answer bytes (Legal shown.history) answer shown.is told
shown_answer show bytes text false answer says told = told_answer bytes says.judgement answer says.is told
