-- Where the rows of a segment stand in the order of their keys.
use Rattle.std.specs.Prelude.{◌≡◌, ◌⊎◌, ℕ, ◌<◌, List, slice_get, slice_index_or, Some}
use Rattle.std.specs.Ordering.{nat_cmp}
use Rattle.nrt_base.specs.declared.doc.Doc.{Doc}
use Rattle.documents.specs.Documents.{key_cmp}

-- a row's place, 0 where it is not known
abbrev pub place_in : List ℕ → ℕ → ℕ
place_in places row = slice_index_or places row 0

-- places that are known stand in the order of the keys of their rows
abbrev pub IsPlacing : List Doc → List ℕ → Type 0
IsPlacing docs places =
    (a b : ℕ) (d e : Doc) → slice_get docs a ≡ Some d → slice_get docs b ≡ Some e
    → 0 < place_in places a → 0 < place_in places b
    → key_cmp d.key e.key ≡ nat_cmp (place_in places a) (place_in places b)

-- rows of this key were given the place, and no other row was given one
abbrev pub GivesPlace : List Doc → List ℕ → (place : ℕ) → (old new : List ℕ) → Type 0
GivesPlace docs key place old new =
    (row : ℕ) (doc : Doc) → slice_get docs row ≡ Some doc
    → (place_in new row ≡ place_in old row) ⊎ ((place_in new row ≡ place) × (doc.key ≡ key))
