-- Which documents a query matches, and which queries are well-formed.
use Rattle.std.specs.Prelude.{ℕ, ◌+◌, max, nat_le, length, List, [], ◌∷◌, Bool, true, false, ◌||◌, ◌&&◌, not, bytes_eq}
use Rattle.std.specs.List.{list_any, starts_with}
use Rattle.nrt_base.specs.declared.doc.Doc.{Doc}
use Rattle.documents.specs.declared.query.Query.{Query, Word, Phrase, All', Any', Not', Row_of-Query, end_of-Query, more_of-Query}
use Rattle.documents.specs.Words.{words_of, has_word}

-- the words from each place on, and the end
abbrev pub tails : List (List ℕ) → List (List (List ℕ))
tails [] = [] ∷ []
tails (w ∷ words) = (w ∷ words) ∷ tails words

-- the words begin with the phrase
abbrev pub stands_at_front : List (List ℕ) → List (List ℕ) → Bool
stands_at_front phrase words = starts_with bytes_eq words phrase

-- the phrase stands in the words without a gap
abbrev pub stands_in : List (List ℕ) → List (List ℕ) → Bool
stands_in phrase words = list_any (stands_at_front phrase) (tails words)

abbrev mutual
  -- a query matches words: its word is among them, its phrase stands in them, all or some of its
  -- parts match, its part does not
  pub matches : Query → List (List ℕ) → Bool
  matches (Word w) words = has_word w words
  matches (Phrase phrase) words = stands_in phrase words
  matches (All' shape parts) words = all_match parts words
  matches (Any' shape parts) words = any_matches parts words
  matches (Not' shape parts) words = none_matches parts words

  pub all_match : {n : _} → Row_of-Query n → List (List ℕ) → Bool
  all_match end_of-Query words = true
  all_match (more_of-Query part parts) words = matches part words && all_match parts words

  pub none_matches : {n : _} → Row_of-Query n → List (List ℕ) → Bool
  none_matches end_of-Query words = true
  none_matches (more_of-Query part parts) words =
      not (matches part words) && none_matches parts words

  pub any_matches : {n : _} → Row_of-Query n → List (List ℕ) → Bool
  any_matches end_of-Query words = false
  any_matches (more_of-Query part parts) words = matches part words || any_matches parts words

-- a query matches a document by the words of its text
abbrev pub matches_doc : Query → Doc → Bool
matches_doc query doc = matches query (words_of doc.text)

abbrev mutual
  -- a leaf has depth 1; every other query is one deeper than its deepest part
  pub depth_of : Query → ℕ
  depth_of (Word w) = 1
  depth_of (Phrase phrase) = 1
  depth_of (All' shape parts) = 1 + deepest parts
  depth_of (Any' shape parts) = 1 + deepest parts
  depth_of (Not' shape parts) = 1 + deepest parts

  pub deepest : {n : _} → Row_of-Query n → ℕ
  deepest end_of-Query = 0
  deepest (more_of-Query part parts) = max (depth_of part) (deepest parts)

abbrev mutual
  -- words and phrases are leaves
  pub leaves_of : Query → ℕ
  leaves_of (Word w) = 1
  leaves_of (Phrase phrase) = 1
  leaves_of (All' shape parts) = all_leaves parts
  leaves_of (Any' shape parts) = all_leaves parts
  leaves_of (Not' shape parts) = all_leaves parts

  pub all_leaves : {n : _} → Row_of-Query n → ℕ
  all_leaves end_of-Query = 0
  all_leaves (more_of-Query part parts) = leaves_of part + all_leaves parts

-- how many parts there are
abbrev pub count_parts : {n : _} → Row_of-Query n → ℕ
count_parts end_of-Query = 0
count_parts (more_of-Query part parts) = 1 + count_parts parts

abbrev mutual
  -- a phrase has at least two words, an `All` and an `Any` at least two parts
  pub has_form : Query → Bool
  has_form (Word w) = true
  has_form (Phrase phrase) = nat_le 2 (length phrase)
  has_form (All' shape parts) = nat_le 2 (count_parts parts) && all_have_form parts
  has_form (Any' shape parts) = nat_le 2 (count_parts parts) && all_have_form parts
  has_form (Not' shape parts) = all_have_form parts

  pub all_have_form : {n : _} → Row_of-Query n → Bool
  all_have_form end_of-Query = true
  all_have_form (more_of-Query part parts) = has_form part && all_have_form parts

-- a query is well-formed: no phrase of one word, no lone part, at most 32 deep and 64 leaves
abbrev pub is_well_formed : Query → Bool
is_well_formed query = has_form query && nat_le (depth_of query) 32 && nat_le (leaves_of query) 64
