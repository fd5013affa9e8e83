use Rattle.std.proofs.Common.{List, ℕ, ap, sym, ◌∙◌}
use Rattle.documents.specs.Ranking.{times_of_word}
use Rattle.documents.specs.Words.{words_of, has_word}
use Rattle.query_eval.specs.Rows.{WordRow, has_row_at, times_at}
use Rattle.query_eval.proofs.PlaceLemmas.{word_times, times_without}
use Rattle.query_eval.proofs.RowLemmas.{entry_rows, no_entry_rows}
use Rattle.query_eval.proofs.WordRowLemmas.{rows_ascend, same_rows_at, same_times_at}
use Rattle.query_eval.proofs.building.word_cursor.Goals as goal

pub new-requires : goal.new-requires
new-requires c = rows_ascend c.in-Some.hits c.in-Some.ensures.fit

pub returns-in_ok-new-in-Some-clause-answers : goal.returns-in_ok-new-in-Some-clause-answers
returns-in_ok-new-in-Some-clause-answers c = λ row doc is.
    ap (λ (rows : List WordRow). has_row_at rows row) c.in_ok-new-in-Some.ensures
    ∙ same_rows_at c.in-Some.hits row
    ∙ entry_rows c.args.seg.now c.as_slice.result.now c.in-Some.hits c.requires c.in-Some.ensures.found row doc is
    ∙ ap (λ (w : List ℕ). has_word w (words_of doc.text)) c.as_slice.ensures.bytes

pub returns-in_ok-new-in-Some-clause-ranks : goal.returns-in_ok-new-in-Some-clause-ranks
returns-in_ok-new-in-Some-clause-ranks c = λ row doc is.
    ap (λ (rows : List WordRow). times_at rows row) c.in_ok-new-in-Some.ensures
    ∙ same_times_at c.in-Some.hits row
    ∙ word_times c.args.seg.now c.as_slice.result.now c.in-Some.hits c.requires c.in-Some.ensures.found row doc is
    ∙ ap (λ (w : List ℕ). times_of_word w (words_of doc.text)) c.as_slice.ensures.bytes

pub returns-in-None-clause-answers : goal.returns-in-None-clause-answers
returns-in-None-clause-answers c = λ row doc is.
    sym (no_entry_rows c.args.seg.now c.as_slice.result.now c.requires c.in-None.ensures.found row doc is)
    ∙ ap (λ (w : List ℕ). has_word w (words_of doc.text)) c.as_slice.ensures.bytes

pub returns-in-None-clause-ranks : goal.returns-in-None-clause-ranks
returns-in-None-clause-ranks c = λ row doc is.
    sym (times_without c.args.seg.now c.as_slice.result.now c.requires c.in-None.ensures.found row doc is)
    ∙ ap (λ (w : List ℕ). times_of_word w (words_of doc.text)) c.as_slice.ensures.bytes
