use Rattle.std.proofs.Common.{◌+◌, refl, sym, ap, subst, ◌∙◌, arith, rules}
use Rattle.std.specs.List.{sum_by}
use Rattle.documents.specs.declared.query.Query.TheViews.{the_lemmas}
use Rattle.query_eval.specs.declared.cursor.Cursor.{Cursor}
use Rattle.documents.specs.Ranking.{rank_of}
use Rattle.documents.specs.Words.{words_of}
use Rattle.query_eval.specs.Cursor.{answers, all_answer, any_answers, rank_in, rank_of_any}
use Rattle.query_eval.specs.Matching.{RanksTest}
use Rattle.query_eval.proofs.BuildLemmas.{all_query, any_query, not_query, all_more, any_more, all_end, any_end, ranks_more, all_ranks_end, any_ranks_end, all_ranks, any_ranks, not_ranks}
use Rattle.query_eval.proofs.FormLemmas.{form_all, form_any, form_not, form_phrase}
use Rattle.query_eval.proofs.building.+building.Goals as goal

pub cursor_of-phrase_cursor-requires-clause-some : goal.cursor_of-phrase_cursor-requires-clause-some
cursor_of-phrase_cursor-requires-clause-some t c = form_phrase c.args.query.now c.in-Phrase.phrase c.in-Phrase.is c.requires.form

pub cursor_of-cursor_of_all-requires : goal.cursor_of-cursor_of_all-requires
cursor_of-cursor_of_all-requires t c = (search (rules, the_lemmas), (c.requires.sound, form_all c.args.query.now c.in-All.parts c.in-All.is c.requires.form))

pub cursor_of-cursor_of_any-requires : goal.cursor_of-cursor_of_any-requires
cursor_of-cursor_of_any-requires t c = (search (rules, the_lemmas), (c.requires.sound, form_any c.args.query.now c.in-Any.parts c.in-Any.is c.requires.form))

pub cursor_of-cursor_of-requires : goal.cursor_of-cursor_of-requires
cursor_of-cursor_of-requires t c = (search (rules, the_lemmas), (c.requires.sound, form_not c.args.query.now c.in-Not.part c.as_ref.result.now c.in-Not.is c.as_ref.ensures c.requires.form))

pub cursor_of-returns-in-All-clause-answers : goal.cursor_of-returns-in-All-clause-answers
cursor_of-returns-in-All-clause-answers t c = all_query c.args.seg.now.docs c.args.query.now c.in-All.parts c.in-All.is c.cursor_of_all.result c.cursor_of_all.ensures.answers

pub cursor_of-returns-in-All-clause-ranks : goal.cursor_of-returns-in-All-clause-ranks
cursor_of-returns-in-All-clause-ranks t c =
    all_ranks c.args.seg.now.docs c.args.query.now c.in-All.parts c.in-All.is c.cursor_of_all.result c.cursor_of_all.ensures.ranks

pub cursor_of-returns-in-Any-clause-answers : goal.cursor_of-returns-in-Any-clause-answers
cursor_of-returns-in-Any-clause-answers t c = any_query c.args.seg.now.docs c.args.query.now c.in-Any.parts c.in-Any.is c.cursor_of_any.result c.cursor_of_any.ensures.answers

pub cursor_of-returns-in-Any-clause-ranks : goal.cursor_of-returns-in-Any-clause-ranks
cursor_of-returns-in-Any-clause-ranks t c =
    any_ranks c.args.seg.now.docs c.args.query.now c.in-Any.parts c.in-Any.is c.cursor_of_any.result c.cursor_of_any.ensures.ranks

pub cursor_of-returns-in_ok-new-in-Not-clause-answers : goal.cursor_of-returns-in_ok-new-in-Not-clause-answers
cursor_of-returns-in_ok-new-in-Not-clause-answers t c =
    not_query c.args.seg.now.docs c.args.query.now c.in-Not.part c.as_ref.result.now c.in_ok-cursor-in-Not.cursor c.in_ok-new-in-Not.field-0.value
    c.in-Not.is c.as_ref.ensures c.in_ok-new-in-Not.ensures.ok c.in_ok-cursor-in-Not.ensures.answers

pub cursor_of-returns-in_ok-new-in-Not-clause-ranks : goal.cursor_of-returns-in_ok-new-in-Not-clause-ranks
cursor_of-returns-in_ok-new-in-Not-clause-ranks t c = λ row doc is. not_ranks c.args.query.now c.in-Not.part c.in-Not.is (words_of doc.text)

pub cursor_of_all-loop-part-preserved : goal.cursor_of_all-loop-part-preserved
cursor_of_all-loop-part-preserved t c = record {
  answers =
      all_more c.args.seg.now.docs c.as_slice-part-items.result.now c.args.parts.now c.loop-part.part-index (c.loop-part.part-index + 1) c.part-item.result
      (all_answer c.loop-part.all) (answers c.in_ok-next.next) (answers c.in_ok-both.field-0) (omega arith) c.part-item.is refl c.in_ok-both.ensures.answers c.in_ok-next.ensures.answers
      c.loop-part.invariant.answers;
  ranks =
      ranks_more c.args.seg.now.docs c.as_slice-part-items.result.now c.args.parts.now c.loop-part.part-index (c.loop-part.part-index + 1) c.part-item.result
      (rank_of_any c.loop-part.all) (rank_in c.in_ok-next.next) (rank_in c.in_ok-both.field-0) (omega arith) c.part-item.is refl c.in_ok-both.ensures.ranks c.in_ok-next.ensures.ranks c.loop-part.invariant.ranks;
}

pub cursor_of_all-returns-clause-answers : goal.cursor_of_all-returns-clause-answers
cursor_of_all-returns-clause-answers t c = λ row doc is.
    ap (λ (k : Cursor). answers k row) c.unwrap_or.ensures
    ∙ all_end c.args.seg.now.docs c.as_slice-part-items.result.now c.args.parts.now c.loop-part.part-index c.loop-part.all (omega arith) c.loop-part.invariant.answers row doc is

pub cursor_of_all-returns-clause-ranks : goal.cursor_of_all-returns-clause-ranks
cursor_of_all-returns-clause-ranks t c =
    subst (RanksTest c.args.seg.now.docs (λ doc. sum_by (λ part. rank_of part (words_of doc.text)) c.args.parts.now)) (sym c.unwrap_or.ensures)
    (all_ranks_end c.args.seg.now.docs c.as_slice-part-items.result.now c.args.parts.now c.loop-part.part-index c.loop-part.all (omega arith) c.loop-part.invariant.ranks)

pub cursor_of_any-loop-part-preserved : goal.cursor_of_any-loop-part-preserved
cursor_of_any-loop-part-preserved t c = record {
  answers =
      any_more c.args.seg.now.docs c.as_slice-part-items.result.now c.args.parts.now c.loop-part.part-index (c.loop-part.part-index + 1) c.part-item.result
      (any_answers c.loop-part.any) (answers c.in_ok-next.next) (answers c.in_ok-either.field-0) (omega arith) c.part-item.is refl c.in_ok-either.ensures.answers c.in_ok-next.ensures.answers
      c.loop-part.invariant.answers;
  ranks =
      ranks_more c.args.seg.now.docs c.as_slice-part-items.result.now c.args.parts.now c.loop-part.part-index (c.loop-part.part-index + 1) c.part-item.result
      (rank_of_any c.loop-part.any) (rank_in c.in_ok-next.next) (rank_in c.in_ok-either.field-0) (omega arith) c.part-item.is refl c.in_ok-either.ensures.ranks c.in_ok-next.ensures.ranks c.loop-part.invariant.ranks;
}

pub cursor_of_any-returns-clause-answers : goal.cursor_of_any-returns-clause-answers
cursor_of_any-returns-clause-answers t c = λ row doc is.
    ap (λ (k : Cursor). answers k row) c.unwrap_or.ensures
    ∙ any_end c.args.seg.now.docs c.as_slice-part-items.result.now c.args.parts.now c.loop-part.part-index c.loop-part.any (omega arith) c.loop-part.invariant.answers row doc is

pub cursor_of_any-returns-clause-ranks : goal.cursor_of_any-returns-clause-ranks
cursor_of_any-returns-clause-ranks t c =
    subst (RanksTest c.args.seg.now.docs (λ doc. sum_by (λ part. rank_of part (words_of doc.text)) c.args.parts.now)) (sym c.unwrap_or.ensures)
    (any_ranks_end c.args.seg.now.docs c.as_slice-part-items.result.now c.args.parts.now c.loop-part.part-index c.loop-part.any (omega arith) c.loop-part.invariant.ranks)
