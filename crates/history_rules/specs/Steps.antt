-- What one more entry does to what the past shows, for proofs by cases on its event. Each word is the
-- step of the word that it is called after.
use Rattle.std.specs.Prelude.{ℕ, ◌+◌, List, [], ◌∷◌, ◌++◌, Bool, true, false, ◌&&◌, ◌||◌, ◌==◌, max, if◌then◌else◌, Option, Some, None}
use Rattle.nrt_base.specs.declared.numbers.At.{At}
use Rattle.nrt_base.specs.declared.numbers.NodeNo.{NodeNo}
use Rattle.documents.specs.declared.operation.Op.{Op}
use Rattle.history_rules.specs.declared.entry.Event.{Event}
use Rattle.history_rules.specs.declared.entry.Event.TheVariants.{Accepted, Published, Copying, Switched, Committing, Committed, Crashed, Reopened, Promoted, Refused}
use Rattle.history_rules.specs.Nodes.{Past, is_at, version_of}
use Rattle.history_rules.specs.Lines.{is_reply, without_at}
use Rattle.history_rules.specs.Commits.{is_disk_fault, starts_commit, more_by}

abbrev pub is_running_by : ℕ → Event → Bool → Bool
is_running_by n e b =
    elim e [ Crashed m ↦ if m.0 == n then false else b | Reopened m v ↦ if m.0 == n then true else b | _ ↦ b ]

abbrev pub crashes_by : ℕ → Event → ℕ → ℕ
crashes_by n e k = elim e [ Crashed m ↦ if m.0 == n then k + 1 else k | _ ↦ k ]

abbrev pub version_by : ℕ → Option NodeNo → Event → ℕ → ℕ
version_by n p e v =
    elim e [
      | Published g w ↦ if is_at p n then w.0 else v
      | Switched m w ↦ if m.0 == n then w.0 else v
      | Promoted m g f w ↦ if m.0 == n then w.0 else v
      | Reopened m w ↦ if m.0 == n then w.0 else v
      | _ ↦ v
    ]

abbrev pub newest_by : Event → ℕ → ℕ
newest_by e v = elim e [ Published g w ↦ max v w.0 | Promoted m g f w ↦ max v w.0 | _ ↦ v ]

abbrev pub is_made_by : ℕ → Event → Bool → Bool
is_made_by v e b = elim e [ Published g w ↦ if w.0 == v then true else b | Promoted m g f w ↦ w.0 == v | _ ↦ b ]

abbrev pub is_point_by : ℕ → Event → Bool → Bool
is_point_by v e b =
    elim e [ Published g w ↦ if w.0 == v then true else b | Promoted m g f w ↦ if w.0 == v then true else b | _ ↦ b ]

abbrev pub accepted_by : Event → ℕ → ℕ
accepted_by e n = elim e [ Accepted seq op ↦ n + 1 | _ ↦ n ]

abbrev pub commit_by : ℕ → At → Event → Option At → Option At
commit_by n at e old =
    elim e [
      | Committing m v ↦ if m.0 == n then Some at else old
      | Crashed m ↦ if m.0 == n then None else without_at at old
      | event ↦ if is_reply event then without_at at old else old
    ]

abbrev pub copy_by : ℕ → ℕ → At → Event → Option NodeNo → Option At → Option At
copy_by n v at e p old =
    elim e [
      | Copying m w ↦ if (m.0 == n) && (w.0 == v) then Some at else old
      | Crashed m ↦ if (m.0 == n) || is_at p m.0 then None else without_at at old
      | event ↦ if is_reply event then without_at at old else old
    ]

abbrev pub written_by : Event → Past → (ℕ → List Op) → List Op → List Op
written_by e past points ops =
    elim e [ Accepted seq op ↦ ops ++ op ∷ [] | Promoted m g f w ↦ points (version_of m.0 past) | _ ↦ ops ]

abbrev pub operations_by : Event → Past → (ℕ → List Op) → List Op → ℕ → List Op
operations_by e past points cut v =
    elim e [
      | Published g w ↦ if w.0 == v then cut else points v
      | Promoted m g f w ↦ if w.0 == v then points (version_of m.0 past) else points v
      | _ ↦ points v
    ]

abbrev pub accepted_ops_by : Event → List Op → List Op
accepted_ops_by e ops = elim e [ Accepted seq op ↦ ops ++ op ∷ [] | Promoted m g f w ↦ [] | _ ↦ ops ]

abbrev pub is_stuck_by : ℕ → Event → Option Event → Bool → Bool
is_stuck_by n e start b =
    elim e [
      | Committed m w ↦ if m.0 == n then false else b
      | Reopened m w ↦ if m.0 == n then false else b
      | Refused cause ↦ (is_disk_fault cause && starts_commit n start) || b
      | _ ↦ b
    ]

abbrev pub reopenable_by : ℕ → Event → Option NodeNo → Option At → List ℕ → List ℕ
reopenable_by n e p flight old =
    elim e [
      | Committed m w ↦ if m.0 == n then w.0 ∷ [] else old
      | Reopened m w ↦ if m.0 == n then w.0 ∷ [] else old
      | Committing m w ↦ if m.0 == n then w.0 ∷ old else old
      | Published g w ↦ if is_at p n then more_by flight w.0 old else old
      | Switched m w ↦ if m.0 == n then more_by flight w.0 old else old
      | Promoted m g f w ↦ if m.0 == n then more_by flight w.0 old else old
      | _ ↦ old
    ]
