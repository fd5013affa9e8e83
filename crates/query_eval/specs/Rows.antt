-- The rows that have a word, in order, each with how often the word stands in it.
use Rattle.std.specs.Prelude.{◌≡◌, ℕ, ◌<◌, List, [], ◌∷◌, map, length, Bool, nat_eq, nat_lt, if◌then◌else◌, Option, Some, None}
use Rattle.std.specs.List.{All, list_any}
use Rattle.postings_plain.specs.Postings.{Hit, row_of, positions_in}

-- a row that has a word, and how often the word stands in it
abbrev pub WordRow : Type 0
WordRow = ℕ × ℕ

-- the rows of hits
abbrev pub rows_of_hits : List Hit → List WordRow
rows_of_hits hits = map (λ h. (row_of h, length (positions_in h))) hits

-- each row stands before those behind it
abbrev pub RowsAscend : List WordRow → Type 0
RowsAscend [] = Unit {0}
RowsAscend (r ∷ rows) = All (λ s. r.0 < s.0) rows × RowsAscend rows

-- the first row, which is known, and those of the hits behind it
abbrev pub with_first : Option WordRow → List Hit → List WordRow
with_first None hits = []
with_first (Some r) hits = r ∷ rows_of_hits hits

-- the rows from the first one on that is this or above
abbrev pub rows_from : ℕ → List WordRow → List WordRow
rows_from row [] = []
rows_from row (r ∷ rows) = if nat_lt r.0 row then rows_from row rows else r ∷ rows

-- the first row
abbrev pub first_row_of : List WordRow → Option ℕ
first_row_of [] = None
first_row_of (r ∷ rows) = Some r.0

-- the row is among these
abbrev pub has_row_at : List WordRow → ℕ → Bool
has_row_at rows row = list_any (λ r. nat_eq r.0 row) rows

-- how often the word stands in the row
abbrev pub times_at : List WordRow → ℕ → ℕ
times_at [] row = 0
times_at (r ∷ rows) row = if nat_eq r.0 row then r.1 else times_at rows row

-- the first row was taken out, which is below this number
pub record TakesRow (row : WordRow) (end : ℕ) (old new : List WordRow) : Type 0 where
  pub first : old ≡ row ∷ new
  pub below : row.0 < end
  pub above : All (λ r. row.0 < r.0) new
