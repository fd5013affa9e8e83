-- The documents of segments that a query matches, and their hits.
use Rattle.std.specs.Prelude.{◌≡◌, ℕ, zero, suc, ◌+◌, ◌-◌, ◌^◌, ◌≤◌, min, Bool, MatchBool, IfSome, List, ◌++◌, length, Some, slice_get, slice_index, slice_index_or, false}
use Rattle.std.specs.Int.{bit_at}
use Rattle.std.specs.List.{sum_by, list_any, list_all}
use Rattle.nrt_base.specs.declared.doc.Doc.{Doc}
use Rattle.documents.specs.declared.answer.Answer.{Answer}
use Rattle.documents.specs.declared.answer.Hit.{Hit}
use Rattle.documents.specs.declared.query.Query.{Query}
use Rattle.documents.specs.Matching.{matches_doc, stands_in}
use Rattle.documents.specs.Ranking.{matching_hits, answer_of}
use Rattle.documents.specs.Words.{words_of, has_word}
use Rattle.seg_reader.specs.Shown.{Shown, live_documents_of}
use Rattle.query_eval.specs.declared.cursor.Cursor.{Cursor}
use Rattle.query_eval.specs.Best.{hit_with, CountsHit}
use Rattle.query_eval.specs.Cursor.{answers, rank_in}

-- the cursor answers the rows whose documents pass the test
abbrev pub AnswersTest : List Doc → (Doc → Bool) → Cursor → Type 0
AnswersTest docs test cursor =
    (row : ℕ) (doc : Doc) → slice_get docs row ≡ Some doc → answers cursor row ≡ test doc

-- those that the query matches
abbrev pub AnswersQuery : List Doc → Query → Cursor → Type 0
AnswersQuery docs query cursor = AnswersTest docs (matches_doc query) cursor

-- those whose text has the word
abbrev pub AnswersWord : List Doc → List ℕ → Cursor → Type 0
AnswersWord docs word cursor = AnswersTest docs (λ doc. has_word word (words_of doc.text)) cursor

-- those in whose text the phrase stands
abbrev pub AnswersPhrase : List Doc → List (List ℕ) → Cursor → Type 0
AnswersPhrase docs phrase cursor =
    AnswersTest docs (λ doc. stands_in phrase (words_of doc.text)) cursor

-- those that every part matches
abbrev pub AnswersAll : List Doc → List Query → Cursor → Type 0
AnswersAll docs parts cursor =
    AnswersTest docs (λ doc. list_all (λ part. matches_doc part doc) parts) cursor

-- those that some part matches
abbrev pub AnswersAny : List Doc → List Query → Cursor → Type 0
AnswersAny docs parts cursor =
    AnswersTest docs (λ doc. list_any (λ part. matches_doc part doc) parts) cursor

-- in the row of each document the cursor's words and phrases stand so often
abbrev pub RanksTest : List Doc → (Doc → ℕ) → Cursor → Type 0
RanksTest docs times cursor =
    (row : ℕ) (doc : Doc) → slice_get docs row ≡ Some doc → rank_in cursor row ≡ times doc

-- how many rows segments have together
abbrev pub rows_of : List Shown → ℕ
rows_of segs = sum_by (λ seg. length seg.docs) segs

-- the document of a row was counted with this rank where the row is live
abbrev pub CountsRow : Shown → (row rank : ℕ) → (old new : Answer) → Type 0
CountsRow seg row rank old new =
    IfSome (slice_get seg.docs row)
    (λ doc. MatchBool (slice_index_or seg.live row false)
    (CountsHit (hit_with doc.key rank) old new) (new ≡ old))

-- of so many rows from the start on those whose bits are set were counted in turn, each with the number at its place where it is live
abbrev pub CountsMarked : Shown → (start marks : ℕ) → (times : List ℕ) → (rows : ℕ) → (old new : Answer) → Type 0
CountsMarked seg start marks times zero old new = new ≡ old
CountsMarked seg start marks times (suc n) old new =
    (mid : Answer) × CountsMarked seg start marks times n old mid × (bit_at marks n ≡ 1 → CountsRow seg (start + n) (min (slice_index times n) (2 ^ 32 - 1)) mid new) × (bit_at marks n ≡ 0 → new ≡ mid)

-- the live rows of a segment whose documents match were counted over what was found before
pub record CountsSegment (query : Query) (seg : Shown) (old new : Answer) : Type 0 where
  pub few : new.total ≤ old.total + length seg.docs
  pub all : (hits : List Hit) → old ≡ answer_of hits
      → new ≡ answer_of (hits ++ matching_hits query (live_documents_of seg))
