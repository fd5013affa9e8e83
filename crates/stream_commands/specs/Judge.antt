-- What the program promises of a report.
use Rattle.std.specs.Prelude.{ℕ, ◌≡◌, ◌⊎◌, List, [], ◌∷◌, take, codes, false, Option}
use Rattle.std.specs.Io.KnownBytes.{Appends}
use Rattle.nrt_base.specs.declared.numbers.LineNo.{LineNo}
use Rattle.history_rules.specs.declared.entry.History.{History}
use Rattle.script_text.specs.declared.fault.LineFault.{LineFault}
use Rattle.script_text.specs.Grammar.{SpellsScript}
use Rattle.script_text.specs.Refused.{IsFirstRefused}
use Rattle.script_serving.specs.declared.script.Script.{Script}
use Rattle.report_judge.specs.declared.judgement.Judgement.{Judgement}
use Rattle.report_judge.specs.declared.judgement.Judgement.TheVariants.{Legal}
use Rattle.report_judge.specs.Judgements.{IsJudgement}
use Rattle.report_judge.specs.Sources.{script_part, report_part}
use Rattle.report_judge.specs.Verdicts.{verdict_text, is_legal}
use Rattle.stream_commands.specs.declared.status.Status.{Status}
use Rattle.stream_commands.specs.declared.status.Status.TheVariants.{Done, BadScript, WriteFault, BadReport}
use Rattle.stream_commands.specs.Reads.{ReadWhole}

-- the row of words: `judge`
abbrev pub IsJudge : List (List ℕ) → Type 0
IsJudge words = words ≡ codes "judge" ∷ []

-- the bytes before the line `report` spell a script, and this is so of the report behind it
pub record IsJudged (bytes : List ℕ) (judgement : Judgement) : Type 0 where
  pub script : Script
  pub spelled : SpellsScript (script_part bytes) script
  pub is : IsJudgement script (report_part bytes) judgement

-- the report is the text of this history, which is legal and serves the script, and the sink gained the line that says so
pub record TellsLegal (bytes : List ℕ) (before after : Option (List ℕ)) : Type 0 where
  pub history : History
  pub is : IsJudged bytes (Legal history)
  pub written : Appends before after (verdict_text (Legal history))

-- the report goes wrong at a line, and the sink gained the line that says where and why
pub record TellsIllegal (bytes : List ℕ) (before after : Option (List ℕ)) : Type 0 where
  pub judgement : Judgement
  pub is : IsJudged bytes judgement
  pub wrong : is_legal judgement ≡ false
  pub written : Appends before after (verdict_text judgement)

-- the report was judged, and the sink gained the front of the line that says how
pub record TellsJudgementInPart (bytes : List ℕ) (before after : Option (List ℕ)) : Type 0 where
  pub judgement : Judgement
  pub is : IsJudged bytes judgement
  pub front : ℕ
  pub written : Appends before after (take front (verdict_text judgement))

-- the answer to these bytes: the line of their script that is refused and why, or that their report was judged
pub record IsJudgeAnswer (bytes : List ℕ) (answer : Status) : Type 0 where
  pub refusals : (n : LineNo) (cause : LineFault) → IsFirstRefused (script_part bytes) n.0 cause → answer ≡ BadScript n cause
  pub judged : (script : Script) → SpellsScript (script_part bytes) script → (answer ≡ Done) ⊎ ((answer ≡ BadReport) ⊎ (answer ≡ WriteFault))

-- the source was read to its end, its report is legal and serves its script, and the sink gained the line that says so
pub record RanJudge (left_before left_after held_before held_after : Option (List ℕ)) : Type 0 where
  pub bytes : List ℕ
  pub read : ReadWhole left_before left_after bytes
  pub tells : TellsLegal bytes held_before held_after

-- the source was read to its end, its report goes wrong at a line, and the sink gained the line that says where and why
pub record FoundIllegal (left_before left_after held_before held_after : Option (List ℕ)) : Type 0 where
  pub bytes : List ℕ
  pub read : ReadWhole left_before left_after bytes
  pub tells : TellsIllegal bytes held_before held_after

-- the source was read to its end, its report was judged, and the sink gained the front of the line that says how
pub record RanJudgeInPart (left_before left_after held_before held_after : Option (List ℕ)) : Type 0 where
  pub bytes : List ℕ
  pub read : ReadWhole left_before left_after bytes
  pub tells : TellsJudgementInPart bytes held_before held_after

-- the source was read to its end, and this line of its script is refused for this cause
pub record RefusesJudge (before after : Option (List ℕ)) (n : ℕ) (cause : LineFault) : Type 0 where
  pub bytes : List ℕ
  pub read : ReadWhole before after bytes
  pub refused : IsFirstRefused (script_part bytes) n cause

-- the source was read to its end, and this is the answer to what it gave
pub record AnswersJudge (before after : Option (List ℕ)) (answer : Status) : Type 0 where
  pub bytes : List ℕ
  pub read : ReadWhole before after bytes
  pub given : IsJudgeAnswer bytes answer
