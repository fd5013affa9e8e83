-- The entries of rows: for each key and each word, the rows that have it.
use Rattle.std.specs.Prelude.{◌≡◌, ◌↔◌, ℕ, zero, suc, ◌<◌, Bool, IsTrue, List, [], map}
use Rattle.std.specs.List.{filter, list_any, enumerate_from}
use Rattle.std.specs.Str.{bytes_eq}
use Rattle.postings_plain.specs.declared.format.Format.{Format}
use Rattle.postings_plain.specs.declared.row.TermRow.{TermRow}
use Rattle.postings_plain.specs.Postings.{Hit, Entry}
use Rattle.postings_plain.specs.Body.{HasEntry, in_format, IsPostingsFile}

-- each item with its place, from 0
abbrev pub numbered : {X : Type 0} → List X → List (ℕ × X)
numbered xs = enumerate_from 0 xs

-- the positions of a word: the places among the words at which it stands
abbrev pub positions_of : (word : List ℕ) (words : List (List ℕ)) → List ℕ
positions_of word words = map (λ x. x.0) (filter (λ x. bytes_eq x.1 word) (numbered words))

-- a row has a term: as its key where the field is 0, and else among its words
abbrev pub has_term : (field : ℕ) (term : List ℕ) → TermRow → Bool
has_term zero term row = bytes_eq row.key term
has_term (suc field) term row = list_any (λ word. bytes_eq word term) row.words

-- the positions of a term in a row: a key has none
abbrev pub term_positions : (field : ℕ) (term : List ℕ) → TermRow → List ℕ
term_positions zero term row = []
term_positions (suc field) term row = positions_of term row.words

-- the rows that have a term, in order, each with the positions of the term in it
abbrev pub rows_with : (field : ℕ) (term : List ℕ) → List TermRow → List Hit
rows_with field term rows = map (λ x. (x.0, term_positions field term x.1)) (filter (λ x. has_term field term x.1) (numbered rows))

-- the rows have this entry: some row has the term, and the hits are the rows that have it
pub record HaveEntry (rows : List TermRow) (field : ℕ) (term : List ℕ) (hits : List Hit) : Type 0 where
  pub kind : field < 2
  pub some : IsTrue (list_any (has_term field term) rows)
  pub hits_are : hits ≡ rows_with field term rows

-- the entries are exactly those that the rows have
abbrev pub AreEntriesOf : List TermRow → List Entry → Type 0
AreEntriesOf rows es = (field : ℕ) (term : List ℕ) (hits : List Hit) → HasEntry es field term hits ↔ HaveEntry rows field term hits

-- the bytes are the file of the entries of these rows in this format
abbrev pub IsPostingsFileOf : (format : Format) (id : List ℕ) → List TermRow → List ℕ → Type 0
IsPostingsFileOf format id rows bytes = (es : List Entry) × AreEntriesOf rows es × IsPostingsFile id (in_format format es) bytes
