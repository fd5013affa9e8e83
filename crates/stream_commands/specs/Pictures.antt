-- What the program promises of pictures.
use Rattle.std.specs.Prelude.{ℕ, ◌≡◌, ◌⊎◌, List, [], ◌∷◌, Bool, true, false, length, nat_lt, take, codes, Option}
use Rattle.script_text.specs.declared.fault.LineFault.{LineFault}
use Rattle.script_text.specs.Refused.{IsFirstRefused}
use Rattle.report_judge.specs.declared.judgement.Judgement.{Judgement}
use Rattle.report_judge.specs.declared.judgement.Judgement.TheVariants.{Legal}
use Rattle.report_judge.specs.Verdicts.{verdict_text, is_legal}
use Rattle.report_judge.specs.Sources.{script_part}
use Rattle.std.specs.Io.KnownBytes.{Appends}
use Rattle.history_rules.specs.declared.entry.Entry.{Entry}
use Rattle.history_rules.specs.declared.entry.History.{History}
use Rattle.history_rules.specs.Legal.{IsLegal}
use Rattle.script_serving.specs.declared.script.Script.{Script}
use Rattle.script_text.specs.Grammar.{SpellsScript}
use Rattle.script_serving.specs.Serves.{Serves}
use Rattle.run_picture.specs.Picture.{picture_of}
use Rattle.run_drawing.specs.Drawing.{drawing_of}
use Rattle.stream_commands.specs.Reads.{ReadWhole}
use Rattle.stream_commands.specs.Scripts.{IsAnswer}
use Rattle.stream_commands.specs.Judge.{IsJudged, IsJudgeAnswer}
use Rattle.stream_commands.specs.Complete.{Offers}
use Rattle.stream_commands.specs.declared.status.Status.{Status}
use Rattle.stream_commands.specs.declared.picturing.PictureKind.{PictureKind}
use Rattle.stream_commands.specs.declared.picturing.PictureKind.TheVariants.{Rows, Drawing}

-- the row of words: `picture`
abbrev pub IsPicture : List (List ℕ) → Type 0
IsPicture words = words ≡ codes "picture" ∷ []

-- the row of words: `picture svg`
abbrev pub IsDrawing : List (List ℕ) → Type 0
IsDrawing words = words ≡ codes "picture" ∷ codes "svg" ∷ []

-- the words ask for one of the two
abbrev pub IsShowing : List (List ℕ) → Type 0
IsShowing words = IsPicture words ⊎ IsDrawing words

-- what is shown of the entries of a run of so many nodes
abbrev pub picture_by : PictureKind → ℕ → List Entry → List ℕ
picture_by Rows = picture_of
picture_by Drawing = drawing_of

-- the text shows a legal history that serves the script
pub record ShowsScript (show : ℕ → List Entry → List ℕ) (script : Script) (text : List ℕ) : Type 0 where
  pub history : History
  pub legal : IsLegal history
  pub serves : Serves script history
  pub is : text ≡ show history.nodes history.entries

-- the bytes are a script, and the sink gained what is shown of a legal history that serves it
pub record Shows (show : ℕ → List Entry → List ℕ) (bytes : List ℕ) (before after : Option (List ℕ)) : Type 0 where
  pub script : Script
  pub grammar : SpellsScript bytes script
  pub text : List ℕ
  pub shown : ShowsScript show script text
  pub written : Appends before after text

-- the bytes are a script, and the sink gained the front of what is shown of a legal history that serves it
pub record ShowsInPart (show : ℕ → List Entry → List ℕ) (bytes : List ℕ) (before after : Option (List ℕ)) : Type 0 where
  pub script : Script
  pub grammar : SpellsScript bytes script
  pub text : List ℕ
  pub shown : ShowsScript show script text
  pub front : ℕ
  pub written : Appends before after (take front text)

-- the bytes have a line that is the word `report` alone
abbrev pub has_report : List ℕ → Bool
has_report bytes = nat_lt (length (script_part bytes)) (length bytes)

-- the report of the bytes is the text of a history that is legal and serves their script, and this text shows it
pub record ShowsReport (show : ℕ → List Entry → List ℕ) (bytes text : List ℕ) : Type 0 where
  pub history : History
  pub is : IsJudged bytes (Legal history)
  pub shown : text ≡ show history.nodes history.entries

-- the report of the bytes goes wrong at a line, and this text says where and why
pub record SaysWrong (bytes text : List ℕ) : Type 0 where
  pub judgement : Judgement
  pub is : IsJudged bytes judgement
  pub wrong : is_legal judgement ≡ false
  pub said : text ≡ verdict_text judgement

-- of a report that is legal, or is not
abbrev pub ShowsJudged : (ℕ → List Entry → List ℕ) → List ℕ → Bool → List ℕ → Type 0
ShowsJudged show bytes true text = ShowsReport show bytes text
ShowsJudged show bytes false text = SaysWrong bytes text

-- the report of the bytes is legal, and the sink gained what is shown of it
pub record WritesReport (show : ℕ → List Entry → List ℕ) (bytes : List ℕ) (before after : Option (List ℕ)) : Type 0 where
  pub text : List ℕ
  pub shown : ShowsReport show bytes text
  pub written : Appends before after text

-- the report of the bytes was judged, and the sink gained the front of what is shown of it, or of the line that says where it goes wrong
pub record WritesReportInPart (show : ℕ → List Entry → List ℕ) (bytes : List ℕ) (before after : Option (List ℕ)) : Type 0 where
  pub legal : Bool
  pub text : List ℕ
  pub shown : ShowsJudged show bytes legal text
  pub front : ℕ
  pub written : Appends before after (take front text)

-- the first is so of a script alone, and the second of a script with its report
pub record ByReport (bytes : List ℕ) (A B : Type 0) : Type 0 where
  pub script : has_report bytes ≡ false → A
  pub report : has_report bytes ≡ true → B

-- the sink gained what is shown of the bytes: of a run of them, or of their report
abbrev pub ShowsSource : (ℕ → List Entry → List ℕ) → List ℕ → Option (List ℕ) → Option (List ℕ) → Type 0
ShowsSource show bytes before after = ByReport bytes (Shows show bytes before after) (WritesReport show bytes before after)

-- the sink gained the front of what is shown of the bytes: of a run of them, of their report, or of what is wrong with that
abbrev pub ShowsSourceInPart : (ℕ → List Entry → List ℕ) → List ℕ → Option (List ℕ) → Option (List ℕ) → Type 0
ShowsSourceInPart show bytes before after = ByReport bytes (ShowsInPart show bytes before after) (WritesReportInPart show bytes before after)

-- a line of a script alone is refused; or one of the script before a report
abbrev pub RefusesSource : List ℕ → ℕ → LineFault → Type 0
RefusesSource bytes n cause = ByReport bytes (IsFirstRefused bytes n cause) (IsFirstRefused (script_part bytes) n cause)

-- the answer to a script alone, or to a script and its report
abbrev pub IsShowAnswer : List ℕ → Status → Type 0
IsShowAnswer bytes answer = ByReport bytes (IsAnswer bytes answer) (IsJudgeAnswer bytes answer)

-- the source was read to its end, and the sink gained what is shown of what it gave
pub record Showed (show : ℕ → List Entry → List ℕ) (left_before left_after held_before held_after : Option (List ℕ)) : Type 0 where
  pub bytes : List ℕ
  pub read : ReadWhole left_before left_after bytes
  pub shows : ShowsSource show bytes held_before held_after

-- the source was read to its end, and the sink gained the front of what is shown of what it gave, or of what is wrong with it
pub record ShowedInPart (show : ℕ → List Entry → List ℕ) (left_before left_after held_before held_after : Option (List ℕ)) : Type 0 where
  pub bytes : List ℕ
  pub read : ReadWhole left_before left_after bytes
  pub shows : ShowsSourceInPart show bytes held_before held_after

-- the source was read to its end, and this line of what it gave is refused for this cause
pub record RefusesShown (before after : Option (List ℕ)) (n : ℕ) (cause : LineFault) : Type 0 where
  pub bytes : List ℕ
  pub read : ReadWhole before after bytes
  pub refused : RefusesSource bytes n cause

-- the source was read to its end, and this is the answer to what it gave
pub record AnswersShown (before after : Option (List ℕ)) (answer : Status) : Type 0 where
  pub bytes : List ℕ
  pub read : ReadWhole before after bytes
  pub given : IsShowAnswer bytes answer

-- a source has a script left, and no report
pub record OffersShown (left : Option (List ℕ)) : Type 0 where
  pub bytes : List ℕ
  pub offered : Offers left bytes
  pub none : has_report bytes ≡ false
  pub script : Script
  pub grammar : SpellsScript bytes script
