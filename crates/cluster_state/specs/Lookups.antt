-- What the log shows of work that was handed out, and of searches.
use Rattle.std.specs.Prelude.{ℕ, ◌≡◌, List, [], ◌∷◌, Option, Some, None, if◌then◌else◌}
use Rattle.nrt_base.specs.declared.numbers.At.{At}
use Rattle.nrt_base.specs.declared.numbers.SegNo.{SegNo}
use Rattle.seg_reader.specs.Shown.{Shown}
use Rattle.history_rules.specs.Nodes.{Past}
use Rattle.history_rules.specs.Lines.{same_at, NodeSurvives}
use Rattle.history_tables.specs.declared.lines.Start.TheVariants.{Searching}
use Rattle.history_tables.specs.declared.lines.BegunLine.{BegunLine}
use Rattle.history_tables.specs.Begins.{open_line}
use Rattle.history_book.specs.Log.{Log}
use Rattle.history_book.specs.declared.inner.Inner.{Inner}
use Rattle.history_book.specs.declared.inner.Inner.TheVariants.{FlushOut}
use Rattle.history_book.specs.declared.inner.Mark.TheVariants.{Kept}

-- what was handed out of a publish: the number that it drew, and the segments that it stands on
pub record Handed : Type 0 where
  pub seg : Option SegNo
  pub segs : List Shown

abbrev pub handed_by : At → Inner → Option Handed
handed_by at (FlushOut a seg segs) = if same_at a at then Some (record { seg = seg; segs = segs }) else None
handed_by at i = None

abbrev pub or_older : Option Handed → Option Handed → Option Handed
or_older None mine = mine
or_older (Some older) mine = Some older

-- what was handed out for the publish of a line, first
abbrev pub flush_out : At → Log → Option Handed
flush_out at [] = None
flush_out at (Kept i ∷ log) = or_older (flush_out at log) (handed_by at i)
flush_out at (m ∷ log) = flush_out at log

abbrev pub IsSearchAt : ℕ → ℕ → Option BegunLine → Type 0
IsSearchAt n v None = ⊥
IsSearchAt n v (Some b) = elim b.start [ Searching m w ↦ (m.0 ≡ n) × (w.0 ≡ v) | _ ↦ ⊥ ]

-- the line searches the node at this version: it started so, has no reply, and the node has not crashed since
pub record IsSearching (past : Past) (at : At) (n v : ℕ) : Type 0 where
  pub line : IsSearchAt n v (open_line at past)
  pub survives : NodeSurvives past at n
