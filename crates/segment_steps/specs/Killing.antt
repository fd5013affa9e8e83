-- Rows that are made dead in a change of a segment's live rows.
use Rattle.std.specs.Prelude.{◌≡◌, ℕ, ◌<◌, List, length, slice_set, slice_index_or, Bool, false, not, ◌&&◌, nat_eq, ◌==◌, Option, Some, None, if◌then◌else◌}
use Rattle.std.specs.List.{list_any}
use Rattle.nrt_base.specs.declared.doc.Doc.{Doc}
use Rattle.live_bits.specs.LiveRows.{live_rows}
use Rattle.postings_plain.specs.Postings.{Hit, row_of}
use Rattle.seg_merge.specs.Given.{Shown}
use Rattle.segment_steps.specs.Cut.{live_left}
use Rattle.segment_steps.specs.Segments.{changed}

-- after the change there is a live row or a dead one for each document
abbrev pub HasAllRows : Shown → Option (List Bool) → Type 0
HasAllRows shown change = length (changed shown change).live ≡ length shown.docs

-- the change, where not so many rows are live after it
abbrev pub where_fewer : ℕ → Option (List Bool) → Option (List Bool)
where_fewer before None = None
where_fewer before (Some live) = if live_rows live == before then None else Some live

-- a hit is in the row
abbrev pub is_row_hit : List Hit → ℕ → Bool
is_row_hit hits x = list_any (λ h. nat_eq (row_of h) x) hits

-- the row is dead now, and the others are as before
pub record KillsRow (shown : Shown) (row : ℕ) (old new : Option (List Bool)) : Type 0 where
  pub rows : HasAllRows shown new
  pub live : (changed shown new).live ≡ slice_set (changed shown old).live row false

-- the rows of these hits are dead now, and the others are as before
pub record KillsHits (shown : Shown) (hits : List Hit) (old new : Option (List Bool)) : Type 0 where
  pub rows : HasAllRows shown new
  pub each : (i : ℕ) (b : Bool) → i < length shown.docs
      → slice_index_or (changed shown new).live i b ≡ (slice_index_or (changed shown old).live i b && not (is_row_hit hits i))

-- the rows of these documents are dead now, and the others are as before
pub record KillsDocs (gone : Doc → Bool) (shown : Shown) (old new : Option (List Bool)) : Type 0 where
  pub rows : HasAllRows shown new
  pub live : (changed shown new).live ≡ live_left gone shown.docs (changed shown old).live
