-- Merges in flight: what the list of all entries shows of them, and how they pay for publishes that add no operation.
use Rattle.std.specs.Prelude.{ℕ, ◌≡◌, ◌≢◌, ◌≤◌, ◌<◌, ◌+◌, ◌==◌, List, [], ◌∷◌, Bool, true, false, Option, Some, None, length, if◌then◌else◌}
use Rattle.nrt_base.specs.declared.numbers.At.{At}
use Rattle.nrt_base.specs.declared.numbers.NodeNo.{NodeNo}
use Rattle.nrt_base.specs.SegNumbers.{segment_number}
use Rattle.history_rules.specs.declared.entry.Event.{Event}
use Rattle.history_rules.specs.declared.entry.Event.TheVariants.{Crashed, Publishing, Published, Merging, Promoted}
use Rattle.history_rules.specs.Nodes.{Past, is_at, primary_of, generation_of}
use Rattle.history_rules.specs.Lines.{publish_in_flight}
use Rattle.history_rules.specs.Points.{accepted_at_start, published_in_generation, names_drawn, merges_started, idle_publishes}
use Rattle.history_book.specs.declared.inner.Inner.{Inner}
use Rattle.history_book.specs.declared.inner.Inner.TheVariants.{MergeEnd}
use Rattle.history_book.specs.declared.inner.Mark.TheVariants.{Shown, TaskFault, Kept}
use Rattle.history_book.specs.Log.{Log, printed}
use Rattle.history_book.specs.Told.{cut_since}
use Rattle.merge_tasks.specs.declared.merges.MergeRow.{MergeRow}

-- rows of merges, and whether one was cut over since the last point
pub record MergeTable : Type 0 where
  pub rows : List MergeRow
  pub cut : Bool
  pub room : ℕ

-- what the rows say of a segment
abbrev pub line_of : List MergeRow → ℕ → Option At
line_of [] seg = None
line_of (row ∷ rows) seg = if row.seg.0 == seg then Some row.at else line_of rows seg

-- a cut-over stands since the last point
abbrev pub cut_after : Bool → Bool → Bool
cut_after true old = true
cut_after false old = old

-- the running primary crashes
abbrev pub ends_reign : Event → Option NodeNo → Bool
ends_reign (Crashed m) p = is_at p m.0
ends_reign e p = false

-- the line of the merge into a segment after a printed entry: it starts the merge, or ends all with their primary
abbrev pub merge_by : ℕ → At → Event → Option NodeNo → Option At → Option At
merge_by seg at (Merging s) p old = if s.0 == seg then Some at else old
merge_by seg at e p old = if ends_reign e p then None else old

-- the line of the merge in flight into a segment: it started, and neither has it ended nor has its primary crashed since
abbrev pub merge_on : ℕ → Log → Option At
merge_on seg [] = None
merge_on seg (Shown e ∷ log) = merge_by seg e.at e.event (primary_of (printed log)) (merge_on seg log)
merge_on seg (TaskFault e ∷ log) = merge_on seg log
merge_on seg (Kept i ∷ log) = elim i [ MergeEnd s cut ↦ if s.0 == seg then None else merge_on seg log | _ ↦ merge_on seg log ]

-- the next name of the generation
abbrev pub next_name : Past → ℕ
next_name past = segment_number (generation_of past) (names_drawn past)

abbrev pub cut_overs : Bool → ℕ
cut_overs true = 1
cut_overs false = 0

-- what a table of merges shows of the list: each publish that adds no operation is paid by a merge that was cut over, and whether one was
-- cut over since the last point
pub record MergesShow (log : Log) (t : MergeTable) : Type 0 where
  pub lines : (seg : ℕ) → line_of t.rows seg ≡ merge_on seg log
  pub names : (seg : ℕ) → merge_on seg log ≢ None → seg < next_name (printed log)
  pub paid : idle_publishes (printed log) + cut_overs t.cut + length t.rows ≤ merges_started (printed log)
  pub flight : (at : At) → publish_in_flight (printed log) ≡ Some at
      → accepted_at_start at (printed log) ≤ published_in_generation (printed log) → t.cut ≡ true
  pub vacant : primary_of (printed log) ≡ None → (t.rows ≡ []) × (t.cut ≡ false)
  pub since : t.cut ≡ cut_since log

-- the entry neither starts nor ends a publish, starts a merge, nor begins a generation
abbrev pub is_apart : Event → Bool
is_apart Publishing = false
is_apart (Published g v) = false
is_apart (Merging seg) = false
is_apart (Promoted m g f v) = false
is_apart e = true

-- the entry ends no merge
abbrev pub ends_no_merge : Inner → Bool
ends_no_merge (MergeEnd seg cut) = false
ends_no_merge i = true

-- what a ledger shows: the pages of its book, for how many merges more there is room, and whether a cut-over stands since
-- the last point
pub record Sheet : Type 0 where
  pub nodes : ℕ
  pub log : Log
  pub room : ℕ
  pub places : ℕ
  pub jobs : ℕ
  pub merges : ℕ
  pub cut : Bool
