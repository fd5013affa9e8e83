-- The one list of printed and inner entries, newest first, and which seat of the lock each names.
use Rattle.std.specs.Prelude.{ℕ, ◌≡◌, ◌+◌, List, [], ◌∷◌, Bool, true, false, Option, Some, None, ⊤, ◌&&◌, ◌==◌, if◌then◌else◌}
use Rattle.std.specs.List.{list_any}
use Rattle.nrt_base.specs.declared.numbers.At.{At}
use Rattle.history_rules.specs.declared.entry.Event.{Event}
use Rattle.history_rules.specs.declared.entry.Event.TheVariants.{Fault, Merging}
use Rattle.history_rules.specs.declared.entry.Entry.{Entry}
use Rattle.history_rules.specs.Nodes.{Past}
use Rattle.history_rules.specs.Lines.{same_at}
use Rattle.history_book.specs.declared.inner.Inner.{Inner}
use Rattle.history_book.specs.declared.inner.Inner.TheVariants.{JobBegun, FileOut, TaskOut, TaskEnd}
use Rattle.history_book.specs.declared.inner.Stop.{Stop}
use Rattle.history_book.specs.declared.inner.Stop.TheVariants.{Printed, Task, Inner as InnerStop}
use Rattle.history_book.specs.declared.inner.Mark.{Mark}
use Rattle.history_book.specs.declared.inner.Mark.TheVariants.{Shown, TaskFault, Kept}

-- the list of all entries
abbrev pub Log : Type 0
Log = List Mark

-- a printed entry of a line
abbrev pub shown : At → Event → Mark
shown at event = Shown (record { at = at; event = event })

-- an inner entry
abbrev pub kept : Inner → Mark
kept i = Kept i

-- a printed entry, by a task of a merge or not
abbrev pub mark_for : Bool → Entry → Mark
mark_for true e = TaskFault e
mark_for false e = Shown e

-- the printed entries
abbrev pub printed : Log → Past
printed [] = []
printed (Shown e ∷ log) = e ∷ printed log
printed (TaskFault e ∷ log) = e ∷ printed log
printed (Kept i ∷ log) = printed log

-- how a printed entry stands in the list, by a task of a merge or not
abbrev pub stop_for : Bool → Stop
stop_for true = Task
stop_for false = Printed

-- the list that stops, printed entries and inner entries make, all newest first
abbrev pub weave : List Stop → List Entry → List Inner → Log
weave [] es inners = []
weave (InnerStop ∷ stops) es [] = []
weave (InnerStop ∷ stops) es (i ∷ inners) = Kept i ∷ weave stops es inners
weave (Printed ∷ stops) [] inners = []
weave (Printed ∷ stops) (e ∷ es) inners = Shown e ∷ weave stops es inners
weave (Task ∷ stops) [] inners = []
weave (Task ∷ stops) (e ∷ es) inners = TaskFault e ∷ weave stops es inners

-- how many of the stops are printed
abbrev pub marks : List Stop → ℕ
marks [] = 0
marks (Printed ∷ stops) = marks stops + 1
marks (Task ∷ stops) = marks stops + 1
marks (InnerStop ∷ stops) = marks stops

-- how many of the stops are of inner work
abbrev pub inner_marks : List Stop → ℕ
inner_marks [] = 0
inner_marks (Printed ∷ stops) = inner_marks stops
inner_marks (Task ∷ stops) = inner_marks stops
inner_marks (InnerStop ∷ stops) = inner_marks stops + 1

-- the event begins a merge
abbrev pub begins_merge : Event → Bool
begins_merge (Merging seg) = true
begins_merge e = false

-- a merge of the line stands there
abbrev pub has_merging : At → Past → Bool
has_merging at past = list_any (λ e. begins_merge e.event && same_at e.at at) past

-- the event is a fault, and its line is a merge that stands before it
abbrev pub FollowsMerging : At → Event → Past → Type 0
FollowsMerging at (Fault n kind) past = has_merging at past ≡ true
FollowsMerging at e past = ⊥

-- each fault of a merge's task follows the start of its merge
abbrev pub FaultsFollow : Log → Type 0
FaultsFollow [] = ⊤
FaultsFollow (TaskFault e ∷ log) = FollowsMerging e.at e.event (printed log) × FaultsFollow log
FaultsFollow (m ∷ log) = FaultsFollow log

-- a number that no lane and no seat has
abbrev pub nobody : ℕ
nobody = 256

-- the seat of a lane
abbrev pub lane_name : ℕ → ℕ
lane_name lane = if lane == 0 then nobody else lane

-- the seat of the line, or 0 where there is none
abbrev pub name_by : Option At → ℕ
name_by None = 0
name_by (Some at) = lane_name at.lane.0

-- the seat that an entry of inner work names, or 0 where any may append it
abbrev pub name_inside : Inner → ℕ
name_inside (JobBegun line node job version taker) = name_by taker
name_inside (FileOut line node job name source fate taker) = name_by taker
name_inside (TaskOut line seg taker step) = name_by taker
name_inside (TaskEnd line seg taker step counts) = name_by taker
name_inside i = 0

-- the seat that an entry names, or 0 where any may append it
abbrev pub name_of : Mark → ℕ
name_of (Shown e) = lane_name e.at.lane.0
name_of (TaskFault e) = 0
name_of (Kept i) = name_inside i

-- what a book shows: the number of nodes, all entries, for how many more there is room,
-- for how many lines and tickets, and for how many jobs
pub record Pages : Type 0 where
  pub nodes : ℕ
  pub log : List Mark
  pub room : ℕ
  pub places : ℕ
  pub jobs : ℕ
