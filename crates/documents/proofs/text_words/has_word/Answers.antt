use Rattle.std.proofs.Common.{List, ℕ, map, ◌∙◌, sym, ap, subst, rules, tests}
use Rattle.std.specs.Prelude.{not, bytes_eq, IsTrue}
use Rattle.nrt_base.specs.Bytes.{is_word}
use Rattle.std.proofs.lemmas.Iterator.Search.{any_from_yields_List}
use Rattle.std.proofs.lemmas.Iterator.Splits.{YieldsList-from_slice_split}
use Rattle.documents.specs.Words.{is_alphanumeric, lower, has_word, words_of}
use Rattle.documents.proofs.WordLemmas.{word_among_runs}
use Rattle.documents.proofs.text_words.has_word.Goals as goal

pub returns : goal.returns
returns c =
    let word = c.as_slice-word.result.now in
    let text = c.args.text.now in
    any_from_yields_List (λ run. bytes_eq (map lower run) word) _ _ c.any.result c.any.ensures.ran
    (YieldsList-from_slice_split _ (λ b. not (is_alphanumeric b)) text c.split.ensures.rest c.split.ensures.done c.split.ensures.closure (λ x b q k. search (rules, tests)))
    (λ x b q k. search (rules, tests))
    ∙ word_among_runs word text (subst (λ (w : List ℕ). IsTrue (is_word w)) (sym c.as_slice-word.ensures.bytes) c.as_slice-word.ensures.kind)
    ∙ ap (λ (w : List ℕ). has_word w (words_of text)) c.as_slice-word.ensures.bytes
