use Rattle.std.proofs.Common.{List, ℕ, ap, sym, ◌∙◌}
use Rattle.documents.specs.Matching.{stands_in}
use Rattle.documents.specs.Words.{words_of}
use Rattle.history_points.proofs.CandidateLaws.{front_word}
use Rattle.history_points.proofs.candidates.first_stands.Goals as goal

pub returns-in-Some : goal.returns-in-Some
returns-in-Some c = λ stands.
    c.has_word.ensures
    ∙ front_word c.in-Some.word.now c.in-Some.field-0-1.now (words_of c.args.text.now)
    (ap (λ (phrase : List (List ℕ)). stands_in phrase (words_of c.args.text.now)) (sym c.in-Some.ensures.cases.0) ∙ stands)
