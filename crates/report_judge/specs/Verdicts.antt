-- The line that says a judgement.
use Rattle.std.specs.Prelude.{ℕ, List, ◌++◌, length, codes, Bool, true, false}
use Rattle.std.specs.Fmt.{decimal}
use Rattle.report_judge.specs.declared.judgement.Judgement.{Judgement}
use Rattle.report_judge.specs.declared.judgement.Judgement.TheVariants.{Legal, Broken, Unserved, Unread, Unanswered}

-- the line of a judgement
abbrev pub verdict_text : Judgement → List ℕ
verdict_text (Legal h) = codes "legal " ++ decimal (length h.entries) ++ codes "\n"
verdict_text (Broken line rule) = codes "broken " ++ decimal line ++ codes " rule " ++ decimal rule ++ codes "\n"
verdict_text (Unserved line) = codes "unserved " ++ decimal line ++ codes "\n"
verdict_text (Unread line) = codes "unread " ++ decimal line ++ codes "\n"
verdict_text (Unanswered line) = codes "unanswered " ++ decimal line.0 ++ codes "\n"

-- the judgement is that the report is legal
abbrev pub is_legal : Judgement → Bool
is_legal (Legal h) = true
is_legal judgement = false
