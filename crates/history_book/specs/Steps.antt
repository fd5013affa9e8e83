-- What one more entry does to what the past shows, for proofs by cases on its event. Each word is the
-- step of the word that it is called after.
use Rattle.std.specs.Prelude.{ℕ, ◌+◌, Option, Some, None, ◌==◌, max, if◌then◌else◌}
use Rattle.nrt_base.specs.declared.numbers.At.{At}
use Rattle.nrt_base.specs.declared.numbers.NodeNo.{NodeNo}
use Rattle.history_rules.specs.declared.entry.Event.{Event}
use Rattle.history_rules.specs.declared.entry.Event.TheVariants.{Publishing, Published, Switched, Crashed, Promoted, Fault}
use Rattle.history_rules.specs.Nodes.{is_at}
use Rattle.history_rules.specs.Lines.{is_reply, without_at}

abbrev pub primary_crashes_by : Event → Option NodeNo → ℕ → ℕ
primary_crashes_by e p k = elim e [ Crashed m ↦ if is_at p m.0 then k + 1 else k | _ ↦ k ]

abbrev pub crashed_by : ℕ → Event → ℕ → ℕ → ℕ
crashed_by n e size k = elim e [ Crashed m ↦ if m.0 == n then size + 1 else k | _ ↦ k ]

abbrev pub primary_crashed_by : Event → Option NodeNo → ℕ → ℕ → ℕ
primary_crashed_by e p size k = elim e [ Crashed m ↦ if is_at p m.0 then size + 1 else k | _ ↦ k ]

abbrev pub publish_by : At → Event → Option NodeNo → Option At → Option At
publish_by at e p old =
    elim e [
      | Publishing ↦ Some at
      | Crashed m ↦ if is_at p m.0 then None else without_at at old
      | event ↦ if is_reply event then without_at at old else old
    ]

abbrev pub last_by : Event → Option Event → Option Event
last_by e last = elim e [ Fault n kind ↦ last | event ↦ Some event ]

abbrev pub highest_by : Event → ℕ → ℕ
highest_by e k = elim e [ Switched n v ↦ max k n.0 | _ ↦ k ]

abbrev pub published_by : Event → ℕ → ℕ → ℕ
published_by e found k = elim e [ Published g w ↦ found | Promoted m g f w ↦ 0 | _ ↦ k ]
