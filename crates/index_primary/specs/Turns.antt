-- The turns of a publish in the words of the primary.
use Rattle.std.specs.Prelude.{◌<◌, Bool, List, Option, Some, None}
use Rattle.live_bits.specs.LiveRows.{live_rows}
use Rattle.segment_infos.specs.declared.infos.SegRecord.{SegRecord}
use Rattle.segment_steps.specs.Next.{Turn, is_changed}
use Rattle.index_primary.specs.NextNames.{Kept}

-- a segment that stays, by its turn
abbrev pub kept_of : Turn → Kept
kept_of t = (t.0, is_changed t)

-- where the live rows change, some die
abbrev pub SomeDie : SegRecord → Option (List Bool) → Type 0
SomeDie r None = Unit {0}
SomeDie r (Some live) = live_rows live < r.live

-- the same of a turn
abbrev pub SomeDieIn : Turn → Type 0
SomeDieIn t = SomeDie t.0 t.1.1
