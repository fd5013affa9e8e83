-- The answer to a script and a report is the answer to their bytes.
use Rattle.std.proofs.Common.{◌≡◌, ◌≢◌, List, ℕ, refl}
use Rattle.std.specs.Prelude.{◌⊎◌}
use Rattle.script_text.proofs.RefusalLaws.{never_both, one_refusal}
use Rattle.report_judge.specs.declared.judgement.Judgement.{Judgement}
use Rattle.report_judge.specs.Sources.{script_part}
use Rattle.stream_commands.specs.declared.status.Status.{Status}
use Rattle.stream_commands.specs.declared.status.Status.TheVariants.{Done, BadScript, WriteFault, Memory, BadReport}
use Rattle.stream_commands.specs.Judge.{IsJudged, IsJudgeAnswer}
use Rattle.stream_commands.specs.Scripts.{IsRefusal}
use Rattle.stream_commands.proofs.AnswerLaws.{bad_script}

module _ (bytes : List ℕ) where
  -- a report that was judged is answered so
  pub told_answer : (judgement : Judgement) (answer : Status) → IsJudged bytes judgement → (answer ≡ Done) ⊎ ((answer ≡ BadReport) ⊎ (answer ≡ WriteFault)) → IsJudgeAnswer bytes answer
  told_answer judgement answer judged told = record {
    refusals = λ n cause refused. absurd (never_both (script_part bytes) judged.script n.0 cause judged.spelled refused);
    judged = λ script spelled. told;
  }

  -- bytes whose script is refused are answered so
  pub refused_answer : (answer : Status) → IsRefusal (script_part bytes) answer → answer ≢ Memory → IsJudgeAnswer bytes answer
  refused_answer (BadScript n cause) refused known = record {
    refusals = λ m other too. let same = one_refusal (script_part bytes) n.0 m.0 cause other refused too in bad_script n m cause other same.0 same.1;
    judged = λ script spelled. absurd (never_both (script_part bytes) script n.0 cause spelled refused);
  }
  refused_answer Memory refused known = absurd (known refl)
  refused_answer answer refused known = absurd refused
