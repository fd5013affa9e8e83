use Rattle.std.proofs.Common.{◌≡◌, List, sym, subst, ◌∙◌}
use Rattle.std.specs.Vec.{with_items}
use Rattle.std.proofs.lemmas.List.{with_items_is}
use Rattle.postings_plain.specs.Postings.{Hit}
use Rattle.query_eval.specs.declared.cursor.Cursor.{Cursor}
use Rattle.query_eval.specs.declared.cursor.Cursor.TheVariants.{Phrase}
use Rattle.query_eval.specs.Cursor.{answers, rank_in}
use Rattle.query_eval.specs.Phrases.{phrase_in, phrase_times}
use Rattle.query_eval.specs.Windows.{HasBound}
use Rattle.query_eval.proofs.WindowLemmas.{bounds_both, bounds_either}
use Rattle.query_eval.proofs.cursor.+seeking.Goals as goal

pub bound_of_both-returns-clause-bound : goal.bound_of_both-returns-clause-bound
bound_of_both-returns-clause-bound t c =
    bounds_both (answers c.args.first.now) (answers c.bound_of-a.new.cursor) (answers c.args.second.now) (answers c.bound_of-b.new.cursor) (rank_in c.args.first.now) (rank_in c.bound_of-a.new.cursor)
    (rank_in c.args.second.now) (rank_in c.bound_of-b.new.cursor) c.args.row c.bound_of-a.result c.bound_of-b.result c.greater_of.result c.bound_of-a.ensures.bound c.bound_of-b.ensures.bound c.greater_of.ensures

pub bound_of_either-returns-clause-bound : goal.bound_of_either-returns-clause-bound
bound_of_either-returns-clause-bound t c =
    bounds_either (answers c.args.first.now) (answers c.bound_of-a.new.cursor) (answers c.args.second.now) (answers c.bound_of-b.new.cursor) (rank_in c.args.first.now) (rank_in c.bound_of-a.new.cursor)
    (rank_in c.args.second.now) (rank_in c.bound_of-b.new.cursor) c.args.row c.bound_of-a.result c.bound_of-b.result c.least_of.result c.bound_of-a.ensures.bound c.bound_of-b.ensures.bound c.least_of.ensures

pub bound_of-returns-in-Phrase-clause-bound : goal.bound_of-returns-in-Phrase-clause-bound
bound_of-returns-in-Phrase-clause-bound t c =
    let e : Phrase c.in-Phrase.words ≡ c.args.cursor.now = cc (c.in-Phrase.is, c.replace.ensures.value) in
    let same : c.as_mut_slice.result.now ≡ c.in-Phrase.words.items = cc (c.as_mut_slice.ensures.value) in
    let whole = with_items_is c.in-Phrase.words c.bound_of_phrase-bound.new.words (c.bound_of_phrase-bound.auto.words ∙ c.as_mut_slice.ensures.len) in
    subst (λ (k : Cursor). HasBound (answers k) (answers (Phrase (with_items c.in-Phrase.words c.bound_of_phrase-bound.new.words))) (rank_in k) (rank_in (Phrase (with_items c.in-Phrase.words c.bound_of_phrase-bound.new.words))) c.args.row c.bound_of_phrase-bound.result) e
    (subst (λ (new : List (List Hit)). HasBound (phrase_in c.in-Phrase.words.items) (phrase_in new) (phrase_times c.in-Phrase.words.items) (phrase_times new) c.args.row c.bound_of_phrase-bound.result) (sym whole)
    (subst (λ (old : List (List Hit)). HasBound (phrase_in old) (phrase_in c.bound_of_phrase-bound.new.words) (phrase_times old) (phrase_times c.bound_of_phrase-bound.new.words) c.args.row c.bound_of_phrase-bound.result) same
    c.bound_of_phrase-bound.ensures))
