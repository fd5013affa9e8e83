-- A row has fewer than 2^32 words.
use Rattle.std.proofs.Common.{ℕ, ◌+◌, ◌^◌, ◌<◌, ◌≤◌, Bool, true, false, cond, List, [], ◌∷◌, ◌++◌, length, map, arith}
use Rattle.std.specs.Prelude.{IsTrue}
use Rattle.std.specs.List.{All, list_all}
use Rattle.std.specs.Prelude.{nat_le}
use Rattle.std.proofs.lemmas.Bool.{and_parts, leb-true}
use Rattle.std.proofs.lemmas.List.Elements.{All-nil, All-cons, All-head, All-tail}
use Rattle.nrt_base.specs.declared.doc.Doc.{Doc}
use Rattle.nrt_base.specs.Bytes.{is_text, is_text_byte}
use Rattle.documents.specs.Words.{is_alphanumeric, lower, with_run, words_after, words_of}
use Rattle.docs_plain.specs.Documents.{IsRow}
use Rattle.postings_plain.specs.declared.row.TermRow.{TermRow}
use Rattle.seg_reader.specs.Sound.{term_row}

one_run : (run : List ℕ) (words : List (List ℕ)) → length (with_run run words) ≤ 1 + length words
one_run [] words = omega arith
one_run (b ∷ run) words = omega arith

few_words : (run text : List ℕ) → length (words_after run text) ≤ length text + 1
few_words run [] = let one = one_run run [] in omega (arith, one)
few_words run (b ∷ text) = by (is_alphanumeric b) (few_words (run ++ lower b ∷ []) text) (few_words [] text)
  where
    by : (is_in : Bool) → length (words_after (run ++ lower b ∷ []) text) ≤ length text + 1 → length (words_after [] text) ≤ length text + 1
        → length (cond is_in (words_after (run ++ lower b ∷ []) text) (with_run run (words_after [] text))) ≤ length (b ∷ text) + 1
    by true on ended = omega (arith, on)
    by false on ended = let one = one_run run (words_after [] text) in omega (arith, ended, one)

of_text : (text : List ℕ) → IsTrue (is_text text) → length (words_of text) < 2 ^ 32
of_text text kind =
    let short = leb-true (length text) 4096 (and_parts (nat_le (length text) 4096) (list_all is_text_byte text) kind).0 in
    let few = few_words [] text in
    omega (arith, short, few)

pub few_in_each : (docs : List Doc) → All IsRow docs → All (λ (row : TermRow). length row.words < 2 ^ 32) (map term_row docs)
few_in_each [] all = All-nil (λ (row : TermRow). length row.words < 2 ^ 32)
few_in_each (d ∷ docs) all =
    All-cons (λ (row : TermRow). length row.words < 2 ^ 32) (term_row d) (map term_row docs) (of_text d.text (All-head IsRow d docs all).text) (few_in_each docs (All-tail IsRow d docs all))
