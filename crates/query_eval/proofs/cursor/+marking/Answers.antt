use Rattle.std.proofs.Common.{◌≡◌, ◌+◌, ◌-◌, ◌^◌, List, refl, sym, subst, ◌∙◌, arith}
use Rattle.std.specs.Vec.{with_items}
use Rattle.std.proofs.lemmas.List.{with_items_is}
use Rattle.postings_plain.specs.Postings.{Hit}
use Rattle.query_eval.specs.declared.cursor.Cursor.{Cursor}
use Rattle.query_eval.specs.declared.cursor.Cursor.TheVariants.{Every, Phrase}
use Rattle.query_eval.specs.Cursor.{answers, rank_in}
use Rattle.query_eval.specs.Phrases.{phrase_in, phrase_times}
use Rattle.query_eval.specs.Windows.{HasMarked}
use Rattle.query_eval.proofs.WindowLemmas.{has_both, has_either, has_rest, marked_every, marked_others, stay_others}
use Rattle.query_eval.proofs.cursor.+marking.Goals as goal

pub mark_both-returns-clause-marks : goal.mark_both-returns-clause-marks
mark_both-returns-clause-marks t c =
    has_both (answers c.args.first.now) (answers c.mark-a.new.cursor) (answers c.args.second.now) (answers c.mark-b.new.cursor) (rank_in c.args.first.now) (rank_in c.mark-a.new.cursor)
    (rank_in c.args.second.now) (rank_in c.mark-b.new.cursor) c.args.start c.mark-a.result c.mark-b.result c.args.times.now c.mark-a.new.times c.mark-b.new.times c.mark-a.ensures.marks c.mark-b.ensures.marks

pub mark_either-returns-clause-marks : goal.mark_either-returns-clause-marks
mark_either-returns-clause-marks t c =
    has_either (answers c.args.first.now) (answers c.mark-a.new.cursor) (answers c.args.second.now) (answers c.mark-b.new.cursor) (rank_in c.args.first.now) (rank_in c.mark-a.new.cursor)
    (rank_in c.args.second.now) (rank_in c.mark-b.new.cursor) c.args.start c.mark-a.result c.mark-b.result c.args.times.now c.mark-a.new.times c.mark-b.new.times c.mark-a.ensures.marks c.mark-b.ensures.marks

pub mark_rest-returns-clause-marks : goal.mark_rest-returns-clause-marks
mark_rest-returns-clause-marks t c = marked_others (answers c.args.part.now) c.args.start c.mark-marks.result (omega arith) c.mark-marks.ensures.marks.rows

pub mark_rest-returns-clause-rows : goal.mark_rest-returns-clause-rows
mark_rest-returns-clause-rows t c = stay_others (c.args.start + 64) (answers c.args.part.now) (answers c.mark-marks.new.cursor) c.mark-marks.ensures.marks.rows_stay

pub mark-returns-in-Every-clause-marks : goal.mark-returns-in-Every-clause-marks
mark-returns-in-Every-clause-marks t c =
    let e : Every ≡ c.args.cursor.now = cc (c.in-Every.is, c.replace.ensures.value) in
    subst (λ (k : Cursor). HasMarked (answers k) (answers Every) (rank_in k) (rank_in Every) c.args.start (2 ^ 64 - 1) c.args.times.now c.args.times.now) e
    (has_rest (answers Every) (answers Every) c.args.start (2 ^ 64 - 1) c.args.times.now (marked_every c.args.start) (λ x le. refl))

pub mark-returns-in-Phrase-clause-marks : goal.mark-returns-in-Phrase-clause-marks
mark-returns-in-Phrase-clause-marks t c =
    let e : Phrase c.in-Phrase.words ≡ c.args.cursor.now = cc (c.in-Phrase.is, c.replace.ensures.value) in
    let same : c.as_mut_slice.result.now ≡ c.in-Phrase.words.items = cc (c.as_mut_slice.ensures.value) in
    let whole = with_items_is c.in-Phrase.words c.mark_phrase-marks.new.words (c.mark_phrase-marks.auto.words ∙ c.as_mut_slice.ensures.len) in
    subst (λ (k : Cursor). HasMarked (answers k) (answers (Phrase (with_items c.in-Phrase.words c.mark_phrase-marks.new.words))) (rank_in k) (rank_in (Phrase (with_items c.in-Phrase.words c.mark_phrase-marks.new.words))) c.args.start c.mark_phrase-marks.result c.args.times.now c.mark_phrase-marks.new.times) e
    (subst (λ (new : List (List Hit)). HasMarked (phrase_in c.in-Phrase.words.items) (phrase_in new) (phrase_times c.in-Phrase.words.items) (phrase_times new) c.args.start c.mark_phrase-marks.result c.args.times.now c.mark_phrase-marks.new.times) (sym whole)
    (subst (λ (old : List (List Hit)). HasMarked (phrase_in old) (phrase_in c.mark_phrase-marks.new.words) (phrase_times old) (phrase_times c.mark_phrase-marks.new.words) c.args.start c.mark_phrase-marks.result c.args.times.now c.mark_phrase-marks.new.times) same
    c.mark_phrase-marks.ensures))
