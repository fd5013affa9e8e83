-- How lines have started, and what is remembered of those that have no reply.
use Rattle.std.specs.Prelude.{ℕ, List, [], ◌∷◌, Option, Some, None, length, ◌==◌, if◌then◌else◌}
use Rattle.nrt_base.specs.declared.numbers.At.{At}
use Rattle.history_rules.specs.declared.entry.Event.{Event}
use Rattle.history_rules.specs.declared.entry.Event.TheVariants.{Publishing, Copying, Settling, Opened, Asking, Committing, Switched, Fault}
use Rattle.history_rules.specs.Nodes.{Past, over}
use Rattle.history_rules.specs.Lines.{same_at}
use Rattle.history_rules.specs.Points.{operations_of_generation}
use Rattle.history_tables.specs.declared.lines.Start.{Start}
use Rattle.history_tables.specs.declared.lines.Start.TheVariants.{Publishing as PublishStart, Copying as CopyStart, Settling as SettleStart, Searching as SearchStart, Asking as AskStart, Committing as CommitStart}
use Rattle.history_tables.specs.declared.lines.BegunLine.{BegunLine}
use Rattle.history_tables.specs.declared.lines.LineRow.{LineRow}

-- how an event starts its line
abbrev pub start_by : Event → Option Start
start_by Publishing = Some PublishStart
start_by (Copying n v) = Some (CopyStart n v)
start_by (Settling v) = Some (SettleStart v)
start_by (Opened n t v) = if t.0 == 0 then Some (SearchStart n v) else None
start_by (Asking n t v) = Some (AskStart n t v)
start_by (Committing n v) = Some (CommitStart n v)
start_by e = None

-- the event that started a line so
abbrev pub event_of : Start → Event
event_of PublishStart = Publishing
event_of (CopyStart n v) = Copying n v
event_of (SettleStart v) = Settling v
event_of (SearchStart n v) = Opened n (record { 0 = 0 }) v
event_of (AskStart n t v) = Asking n t v
event_of (CommitStart n v) = Committing n v

-- what is remembered of a line that starts so, where it starts
abbrev pub begin : Option Start → ℕ → ℕ → Option BegunLine
begin None before accepted = None
begin (Some start) before accepted =
    Some (record { start = start; before = before; accepted = accepted })

-- what is remembered of a line after one more event of it
abbrev pub begun_by : Event → ℕ → ℕ → Option BegunLine → Option BegunLine
begun_by (Switched n v) before accepted old = old
begun_by (Fault n kind) before accepted old = old
begun_by e before accepted old = begin (start_by e) before accepted

-- how a line has started that has no reply yet
abbrev pub open_line : At → Past → Option BegunLine
open_line at = over None (λ e past old. if same_at e.at at then
    begun_by e.event (length past) (length (operations_of_generation past)) old else old)

-- rows of lines, and for how many more there is room
pub record LineRows : Type 0 where
  pub rows : List LineRow
  pub room : ℕ

-- what the rows say of a line
abbrev pub begun_under : List LineRow → At → Option BegunLine
begun_under [] at = None
begun_under (row ∷ rows) at = if same_at row.at at then Some row.begun else begun_under rows at
