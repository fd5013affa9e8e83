-- What is found of the terms of rows, before it is written.
use Rattle.std.specs.Prelude.{◌≡◌, ℕ, ◌<◌, ◌≤◌, ◌^◌, ◌++◌, List, [], ◌∷◌, length, Option, Some, None}
use Rattle.std.specs.List.{All}
use Rattle.std.specs.Ordering.{nat_cmp}
use Rattle.std.specs.Cmp.Lexicographic.{slice_cmp}
use Rattle.std.specs.BTreeMap.{BTreeMap, get, Updates, is_at}
use Rattle.std.specs.Map.{lookup}
use Rattle.postings_plain.specs.declared.format.Format.{Format}
use Rattle.postings_plain.specs.declared.row.TermRow.{TermRow}
use Rattle.std.specs.Option.{unwrap_or}
use Rattle.body_forms.specs.Format.{chain, ChainFits}
use Rattle.body_forms.specs.File.{AddsSpelling}
use Rattle.postings_plain.specs.Postings.{Hit, Entry, row_of, field_of, hits_of, skip, SkipFits, skip_of, above_block, skips_from, hits_from, hits, SkipsFit, entry}
use Rattle.postings_plain.specs.Reading.{end_after}
use Rattle.postings_plain.specs.Body.{SpellsPostings}
use Rattle.postings_plain.specs.Inverting.{rows_with, AreEntriesOf}

-- the hits with one more place: in the last of them where it is of this row, and in a new one where all are of rows below
pub record GainsPlace (old : List Hit) (row place : ℕ) (new : List Hit) : Type 0 where
  pub more : (before : List Hit) (places : List ℕ) → old ≡ before ++ (row, places) ∷ [] → new ≡ before ++ (row, places ++ place ∷ []) ∷ []
  pub first : All (λ h. row_of h < row) old → new ≡ old ++ (row, place ∷ []) ∷ []

-- none where there are no hits
abbrev pub some_hits : List Hit → Option (List Hit)
some_hits [] = None
some_hits (h ∷ hs) = Some (h ∷ hs)

-- the last of the hits is in this row
abbrev pub EndsInRow : List Hit → ℕ → Type 0
EndsInRow hits row = (before : List Hit) × (places : List ℕ) × (hits ≡ before ++ (row, places) ∷ [])

-- terms that were found, in the order of the file, each with the rows that have it
abbrev pub FoundTerms : Type 0
FoundTerms = List (List ℕ × List Hit)

-- each term that a row has is found, with the rows that have it, and no other term
pub record Gathers (found : FoundTerms) (rows : List TermRow) : Type 0 where
  pub at : (field : ℕ) (term : List ℕ) → field < 2 → lookup (is_at (slice_cmp nat_cmp (field ∷ term))) found ≡ some_hits (rows_with field term rows)

-- rows, and words of each row, are fewer than 2^32
pub record AreFew (rows : List TermRow) : Type 0 where
  pub rows_few : length rows < 2 ^ 32
  pub words_few : All (λ row. length row.words < 2 ^ 32) rows

-- the terms that were found are those of some rows, at least one, and few
abbrev pub GathersSome : FoundTerms → Type 0
GathersSome found = (rows : List TermRow) × Gathers found rows × AreFew rows × (0 < length rows)

-- the rows of each term, as they are found so far
abbrev pub Terms : Type 0
Terms = BTreeMap (List ℕ) (List Hit)

-- the hits of a term that were found
abbrev pub found_hits : Terms → List ℕ → List Hit
found_hits found term = unwrap_or (get (slice_cmp nat_cmp) found term) []

-- the term has these hits now, and every other term those that it had
abbrev pub SetsHits : (old new : Terms) (term : List ℕ) → List Hit → Type 0
SetsHits old new term hits = Updates (slice_cmp nat_cmp) old new term (Some hits)

-- a term's hits have one more place, and every other term those that it had
abbrev pub AddsPlace : (old new : Terms) (term : List ℕ) (row place : ℕ) → Type 0
AddsPlace old new term row place = (hits : List Hit) × GainsPlace (found_hits old term) row place hits × SetsHits old new term hits

-- after so many rows this one was gathered as well
abbrev pub GathersRow : (number : ℕ) → TermRow → (old new : Terms) → Type 0
GathersRow number row old new = (rows : List TermRow) → length rows ≡ number → Gathers old.entries rows → Gathers new.entries (rows ++ row ∷ [])

-- hits were added, whose rows are k or above, and this is the least row that may come after them
pub record AddsRows (field k : ℕ) (hs : List Hit) (old new : List ℕ) (end : ℕ) : Type 0 where
  pub added : new ≡ old ++ hits_from field k hs
  pub end_is : end ≡ end_after k hs
  pub below : end ≤ 2 ^ 32

-- the hits of a block were added to the area, and its skip entry to the bytes
pub record AddsBlock (field k : ℕ) (block : List Hit) (old_area new_area old new : List ℕ) (end : ℕ) : Type 0 where
  pub rows : AddsRows field k block old_area new_area end
  pub added : new ≡ old ++ skip k (skip_of field k block)
  pub skip_fits : SkipFits k (skip_of field k block)
  pub end_above : end ≡ above_block (skip_of field k block)

-- the skip entries of so many blocks and the hits were added, and the rows of each block take fewer than 2^32 bytes
pub record AddsBlocks (field blocks : ℕ) (hs : List Hit) (old new : List ℕ) : Type 0 where
  pub added : new ≡ old ++ (chain skip above_block 0 (skips_from field blocks 0 hs) ++ hits_from field 0 hs)
  pub skips_fit : ChainFits SkipFits above_block 0 (skips_from field blocks 0 hs)

-- the hits of a term were added, and the rows of each block take fewer than 2^32 bytes
pub record AddsHits (format : Format) (field : ℕ) (hs : List Hit) (old new : List ℕ) : Type 0 where
  pub added : new ≡ old ++ hits format field hs
  pub skips_fit : SkipsFit format field hs

-- an entry was added, and the rows of each block take fewer than 2^32 bytes
pub record AddsEntry (format : Format) (e : Entry) (old new : List ℕ) : Type 0 where
  pub added : new ≡ old ++ entry format e
  pub skips_fit : SkipsFit format (field_of e) (hits_of e)

-- the body has fewer than 2^32 bytes, and spells the entries of the rows in this format
pub record SpellsRows (format : Format) (body : List ℕ) (rows : List TermRow) : Type 0 where
  pub small : length body < 2 ^ 32
  pub entries : List Entry
  pub are : AreEntriesOf rows entries
  pub spelled : SpellsPostings format body entries

-- the body of the rows that were gathered, at least one, was added in this format
abbrev pub AddsPostings : Format → (found : Terms) (old new : List ℕ) → Type 0
AddsPostings format found old new = (rows : List TermRow) → Gathers found.entries rows → AreFew rows → 0 < length rows → AddsSpelling (SpellsRows format) rows old new
