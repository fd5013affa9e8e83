-- How high a document ranks, and what a search answers.
use Rattle.std.specs.Prelude.{ℕ, ◌+◌, ◌^◌, nat_lt, nat_le, length, List, [], ◌∷◌, take, map, filter, count_by, bytes_eq, Bool, ◌&&◌, Option, Some, None, if◌then◌else◌}
use Rattle.std.specs.Ordering.{nat_cmp, on, flip_args, then_cmp}
use Rattle.std.specs.declared.cmp.Ordering.{Ordering}
use Rattle.nrt_base.specs.Bytes.{is_text}
use Rattle.nrt_base.specs.declared.doc.Doc.{Doc}
use Rattle.documents.specs.declared.query.Query.{Query, Word, Phrase, All', Any', Not', Row_of-Query, end_of-Query, more_of-Query}
use Rattle.documents.specs.declared.answer.Answer.{Answer}
use Rattle.documents.specs.declared.answer.Hit.{Hit}
use Rattle.documents.specs.Documents.{key_cmp}
use Rattle.documents.specs.InOrder.{in_order}
use Rattle.documents.specs.Matching.{tails, stands_at_front, matches_doc}
use Rattle.documents.specs.Words.{words_of}

-- the number of places of a word
abbrev pub times_of_word : List ℕ → List (List ℕ) → ℕ
times_of_word word words = count_by (λ w. bytes_eq w word) words

-- the number of places at which a phrase stands without a gap
abbrev pub times_of_phrase : List (List ℕ) → List (List ℕ) → ℕ
times_of_phrase phrase words = count_by (stands_at_front phrase) (tails words)

abbrev mutual
  -- the rank of words: how often the word or the phrase stands in them; the sum over all parts of
  -- an `All` or an `Any`, matching or not; 0 for a `Not`
  pub rank_of : Query → List (List ℕ) → ℕ
  rank_of (Word w) words = times_of_word w words
  rank_of (Phrase phrase) words = times_of_phrase phrase words
  rank_of (All' shape parts) words = sum_of_ranks parts words
  rank_of (Any' shape parts) words = sum_of_ranks parts words
  rank_of (Not' shape parts) words = 0

  pub sum_of_ranks : {n : _} → Row_of-Query n → List (List ℕ) → ℕ
  sum_of_ranks end_of-Query words = 0
  sum_of_ranks (more_of-Query part parts) words = rank_of part words + sum_of_ranks parts words

-- a document as a hit: its key and its rank
abbrev pub hit_of : Query → Doc → Hit
hit_of query doc = record { key = doc.key; rank = rank_of query (words_of doc.text) }

-- the documents that match, as hits
abbrev pub matching_hits : Query → List Doc → List Hit
matching_hits query docs = map (hit_of query) (filter (matches_doc query) docs)

-- the rank of the first hit
abbrev pub first_rank : List Hit → ℕ
first_rank [] = 0
first_rank (hit ∷ hits) = hit.rank

-- the number, where 32 bits tell it
abbrev pub fitting : ℕ → Option ℕ
fitting n = if nat_lt n (2 ^ 32) then Some n else None

-- a document that matches, and whose rank 32 bits do not tell
abbrev pub is_too_high : Query → Doc → Bool
is_too_high query doc =
    is_text doc.text
    && (matches_doc query doc && nat_le (2 ^ 32) (rank_of query (words_of doc.text)))

-- the order of hits: the greater rank first, and of equal ranks the lesser key
abbrev pub hit_cmp : Hit → Hit → Ordering
hit_cmp = then_cmp (flip_args (on (λ h. h.rank) nat_cmp)) (on (λ h. h.key) key_cmp)

-- how many hits there are, and the first 20 in their order
abbrev pub answer_of : List Hit → Answer
answer_of hits = record { total = length hits; hits = take 20 (in_order hit_cmp hits) }

-- what a search of these documents answers: how many match, and the first 20 hits
abbrev pub scan_of : List Doc → Query → Answer
scan_of docs query = answer_of (matching_hits query docs)
