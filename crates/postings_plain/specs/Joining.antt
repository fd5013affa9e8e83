-- The postings of several segments, joined without their dead rows.
use Rattle.std.specs.Prelude.{◌≡◌, ℕ, ◌+◌, List, [], ◌∷◌, ◌++◌, length, map, slice_index_or, Option, Some, None, Bool, if◌then◌else◌}
use Rattle.std.specs.List.{filter, zip, flat_map}
use Rattle.std.specs.Str.{bytes_eq}
use Rattle.postings_plain.specs.declared.row.TermRow.{TermRow}
use Rattle.postings_plain.specs.Postings.{Hit, Entry, row_of, positions_in, hits_of}
use Rattle.postings_plain.specs.Body.{heading_of}
use Rattle.postings_plain.specs.Inverting.{AreEntriesOf}
use Rattle.postings_plain.specs.Gathering.{Terms, FoundTerms, Gathers, found_hits, SetsHits}

-- the new number of each row, from n on: none where it is not live
abbrev pub numbers_from : (n : ℕ) → List Bool → List (Option ℕ)
numbers_from n [] = []
numbers_from n (is_live ∷ live) = if is_live then Some n ∷ numbers_from (n + 1) live else None ∷ numbers_from n live

-- the rows that are live
abbrev pub live_terms : List TermRow → List Bool → List TermRow
live_terms rows live = map (λ x. x.0) (filter (λ x. x.1) (zip rows live))

-- a hit under its number, before others; one without a number is left out
abbrev pub with_number : Option ℕ → Hit → List Hit → List Hit
with_number None h hs = hs
with_number (Some n) h hs = (n, positions_in h) ∷ hs

-- the hits of rows that have a number, under their numbers
abbrev pub renumbered : List (Option ℕ) → List Hit → List Hit
renumbered numbers [] = []
renumbered numbers (h ∷ hs) = with_number (slice_index_or numbers (row_of h) None) h (renumbered numbers hs)

-- the term has these hits as well, and every other term those that it had
abbrev pub AddsHitsTo : (old new : Terms) (heading : List ℕ) → List Hit → Type 0
AddsHitsTo old new heading [] = new ≡ old
AddsHitsTo old new heading (h ∷ hs) = SetsHits old new heading (found_hits old heading ++ h ∷ hs)

-- the hits of the entries of a heading
abbrev pub hits_under : (heading : List ℕ) → List Entry → List Hit
hits_under heading es = flat_map (λ e. if bytes_eq (heading_of e) heading then hits_of e else []) es

-- where the entries are those of rows, and the numbers are those of live rows behind the rows so far, these live rows were gathered as well
abbrev pub JoinsEntries : (old new : FoundTerms) → List Entry → List (Option ℕ) → Type 0
JoinsEntries old new es numbers =
    (rows more : List TermRow) (live : List Bool) → Gathers old rows → AreEntriesOf more es → length live ≡ length more → numbers ≡ numbers_from (length rows) live
    → Gathers new (rows ++ live_terms more live)
