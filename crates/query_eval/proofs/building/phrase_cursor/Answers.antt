use Rattle.std.proofs.Common.{ℕ, ◌+◌, List, [], ◌∷◌, ◌++◌, take, refl, sym, ap, ◌∙◌, arith}
use Rattle.std.proofs.lemmas.Option.{slice_get_read}
use Rattle.postings_plain.specs.Postings.{Hit}
use Rattle.documents.specs.Words.{words_of}
use Rattle.documents.specs.Matching.{stands_in}
use Rattle.documents.specs.Ranking.{times_of_phrase}
use Rattle.query_eval.proofs.PlaceLemmas.{placed_more, phrase_lacks, phrase_placed, times_lacking, times_placed, whole}
use Rattle.query_eval.proofs.building.phrase_cursor.Goals as goal

pub returns-in-None-clause-answers : goal.returns-in-None-clause-answers
returns-in-None-clause-answers c = λ row doc is.
    phrase_lacks c.args.seg.now c.as_slice-word-items.result.now c.loop-word.word-index c.word-item.result c.as_slice-in-loop-word.result.now c.requires.sound
    (slice_get_read c.as_slice-word-items.result.now _ c.loop-word.word-index c.word-item.result refl (omega arith) c.word-item.is)
    c.as_slice-in-loop-word.ensures.bytes c.in-None.ensures.found row doc is
    ∙ ap (λ (p : List (List ℕ)). stands_in p (words_of doc.text)) c.as_slice-word-items.ensures

pub returns-in-None-clause-ranks : goal.returns-in-None-clause-ranks
returns-in-None-clause-ranks c = λ row doc is.
    sym (times_lacking c.args.seg.now c.as_slice-word-items.result.now c.loop-word.word-index c.word-item.result c.as_slice-in-loop-word.result.now c.requires.sound
    (slice_get_read c.as_slice-word-items.result.now _ c.loop-word.word-index c.word-item.result refl (omega arith) c.word-item.is)
    c.as_slice-in-loop-word.ensures.bytes c.in-None.ensures.found row doc is)
    ∙ ap (λ (p : List (List ℕ)). times_of_phrase p (words_of doc.text)) c.as_slice-word-items.ensures

pub loop-word-preserved : goal.loop-word-preserved
loop-word-preserved c =
    placed_more c.args.seg.now c.loop-word.words.items c.push.new.self.items c.as_slice-word-items.result.now c.loop-word.word-index (c.loop-word.word-index + 1) c.word-item.result
    c.as_slice-in-loop-word.result.now c.in-Some.hits c.requires.sound c.loop-word.invariant
    (slice_get_read c.as_slice-word-items.result.now _ c.loop-word.word-index c.word-item.result refl (omega arith) c.word-item.is)
    c.as_slice-in-loop-word.ensures.bytes c.in-Some.ensures.found refl (c.in_ok-push-in-Some.ensures.items ∙ ap (λ (word : List Hit). c.loop-word.words.items ++ word ∷ []) c.new.ensures)

pub returns-clause-answers : goal.returns-clause-answers
returns-clause-answers c =
    phrase_placed c.args.seg.now.docs c.loop-word.words.items c.args.phrase.now (take c.loop-word.word-index c.as_slice-word-items.result.now) c.loop-word.invariant
    (whole c.loop-word.word-index c.as_slice-word-items.result.now (omega arith) ∙ c.as_slice-word-items.ensures) c.requires.some

pub returns-clause-ranks : goal.returns-clause-ranks
returns-clause-ranks c =
    times_placed c.args.seg.now.docs c.loop-word.words.items c.args.phrase.now (take c.loop-word.word-index c.as_slice-word-items.result.now) c.loop-word.invariant
    (whole c.loop-word.word-index c.as_slice-word-items.result.now (omega arith) ∙ c.as_slice-word-items.ensures) c.requires.some
