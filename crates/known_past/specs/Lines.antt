-- What is known of each line.
use Rattle.std.specs.Prelude.{ℕ, ◌≡◌, ◌+◌, [], ◌∷◌, Bool, true, false, ◌&&◌, ◌||◌, if◌then◌else◌, length, Option, Some, None, unwrap_or}
use Rattle.std.specs.Ordering.{nat_cmp, ordering_then}
use Rattle.std.specs.declared.cmp.Ordering.{Ordering}
use Rattle.std.specs.BTreeMap.{BTreeMap, get}
use Rattle.nrt_base.specs.declared.numbers.At.{At}
use Rattle.history_rules.specs.declared.entry.Event.{Event}
use Rattle.history_rules.specs.declared.entry.Event.TheVariants.{Fault}
use Rattle.history_rules.specs.Nodes.{Past, over}
use Rattle.history_rules.specs.Lines.{same_at, is_start, is_reply, highest_switched}
use Rattle.history_rules.specs.Points.{accepted_at_start}
use Rattle.history_rules.specs.Faults.{has_met_fault}
use Rattle.history_book.specs.Steps.{highest_by}
use Rattle.known_past.specs.declared.lines.KnownLine.{KnownLine}

-- lines are in the order of their lanes, and within a lane of their numbers
abbrev pub line_cmp : ℕ × ℕ → ℕ × ℕ → Ordering
line_cmp a b = ordering_then (nat_cmp a.0 b.0) (nat_cmp a.1 b.1)

-- the event is a fault that was met
abbrev pub is_fault : Event → Bool
is_fault (Fault n kind) = true
is_fault e = false

-- what is known of a line that has no entry
abbrev pub unknown_line : KnownLine
unknown_line = record { newest = None; start = None; accepted = 0; highest = 0; replied = 0; failed = false }

-- what is known of a line after one more entry of it, where so many stood before that, and the generation had accepted so many operations
abbrev pub line_after : Event → ℕ → ℕ → KnownLine → KnownLine
line_after e size accepted line = record {
  newest = if is_fault e then line.newest else Some size;
  start = if is_start e then Some size else line.start;
  accepted = if is_start e then accepted else line.accepted;
  highest = if is_start e then 0 else highest_by e line.highest;
  replied = if is_reply e then size + 1 else line.replied;
  failed = is_fault e || line.failed;
}

-- what is known of the line at this place
abbrev pub line_known : BTreeMap (ℕ × ℕ) KnownLine → At → KnownLine
line_known lines at = unwrap_or (get line_cmp lines (at.lane.0, at.line.0)) unknown_line

-- how many entries stand before the newest entry of a line that is no fault
abbrev pub newest_place : At → Past → Option ℕ
newest_place at = over None (λ e past k. if same_at e.at at then (if is_fault e.event then k else Some (length past)) else k)

-- how many entries stand before the start entry of a line
abbrev pub start_place : At → Past → Option ℕ
start_place at [] = None
start_place at (e ∷ past) = if is_start e.event && same_at e.at at then Some (length past) else start_place at past

-- how many entries there were after the newest reply of a line, 0 where it has none
abbrev pub reply_place : At → Past → ℕ
reply_place at = over 0 (λ e past k. if is_reply e.event && same_at e.at at then length past + 1 else k)

-- what is known of a line is what these entries show
pub record LineIsKnown (past : Past) (at : At) (line : KnownLine) : Type 0 where
  pub newest : line.newest ≡ newest_place at past
  pub start : line.start ≡ start_place at past
  pub accepted : line.accepted ≡ accepted_at_start at past
  pub highest : line.highest ≡ highest_switched at past
  pub replied : line.replied ≡ reply_place at past
  pub failed : line.failed ≡ has_met_fault at past
