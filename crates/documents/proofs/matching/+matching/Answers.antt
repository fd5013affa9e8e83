use Rattle.std.proofs.Common.{ap, ◌∙◌, sym}
use Rattle.std.specs.Prelude.{not}
use Rattle.documents.specs.declared.query.Query.{Query}
use Rattle.documents.specs.Matching.{matches}
use Rattle.documents.proofs.MatchingLemmas.{matches_all, matches_any, matches_not}
use Rattle.documents.proofs.matching.+matching.Goals as goal

pub matches_words-returns-in-All : goal.matches_words-returns-in-All
matches_words-returns-in-All t c =
    c.all_match.ensures ∙ sym (matches_all c.in-All.parts c.args.words.now)
    ∙ ap (λ (q : Query). matches q c.args.words.now) (sym c.in-All.is)

pub matches_words-returns-in-Any : goal.matches_words-returns-in-Any
matches_words-returns-in-Any t c =
    c.any_matches.ensures ∙ sym (matches_any c.in-Any.parts c.args.words.now)
    ∙ ap (λ (q : Query). matches q c.args.words.now) (sym c.in-Any.is)

pub matches_words-returns-in-Not : goal.matches_words-returns-in-Not
matches_words-returns-in-Not t c =
    ap not (c.matches_words.ensures ∙ ap (λ (q : Query). matches q c.args.words.now) c.as_ref.ensures)
    ∙ sym (matches_not c.in-Not.part c.args.words.now)
    ∙ ap (λ (q : Query). matches q c.args.words.now) (sym c.in-Not.is)
