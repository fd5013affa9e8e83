-- What a cut makes of the segments that were there.
use Rattle.std.specs.Prelude.{◌≡◌, ◌==◌, List, length, Bool, Option, Some, None, if◌then◌else◌}
use Rattle.nrt_base.specs.declared.doc.Doc.{Doc}
use Rattle.live_bits.specs.LiveRows.{live_rows}
use Rattle.seg_merge.specs.Given.{Shown, shown_with}
use Rattle.segment_steps.specs.Cut.{live_left}

-- a segment whose rows are dead where their documents are gone
abbrev pub left_of : (Doc → Bool) → Shown → Shown
left_of gone shown = shown_with shown (live_left gone shown.docs shown.live)

-- the live rows that are left, where some row dies
abbrev pub live_change : (Doc → Bool) → Shown → Option (List Bool)
live_change gone shown =
    if live_rows (live_left gone shown.docs shown.live) == live_rows shown.live then None
    else Some (live_left gone shown.docs shown.live)

-- what a segment shows after a change of its live rows
abbrev pub changed : Shown → Option (List Bool) → Shown
changed shown None = shown
changed shown (Some live) = shown_with shown live

-- a change has as many rows as the segment
abbrev pub HasItsRows : Shown → Option (List Bool) → Type 0
HasItsRows shown None = Unit {0}
HasItsRows shown (Some live) = length live ≡ length shown.docs
