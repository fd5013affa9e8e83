-- The commits that the entries before a place show, and what a reopening may find of them.
use Rattle.std.specs.Prelude.{ℕ, is_some, List, [], ◌∷◌, Bool, true, false, ◌&&◌, ◌||◌, not, ◌==◌, nat_lt, if◌then◌else◌, Option, Some, None}
use Rattle.std.specs.List.{list_any}
use Rattle.nrt_base.specs.declared.numbers.At.{At}
use Rattle.history_rules.specs.declared.entry.Event.{Event}
use Rattle.history_rules.specs.declared.entry.Event.TheVariants.{Published, Copying, Switched, Committing, Committed, Reopened, Promoted, Refused}
use Rattle.history_rules.specs.declared.cause.Cause.{Cause}
use Rattle.history_rules.specs.declared.cause.Cause.TheVariants.{DiskFault}
use Rattle.history_rules.specs.Nodes.{Past, over, primary_of, is_at, version_of}
use Rattle.history_rules.specs.Lines.{same_at, is_start, start_entry, commit_in_flight}

abbrev pub base_by : ℕ → Event → ℕ → ℕ
base_by n (Committed m w) v = if m.0 == n then w.0 else v
base_by n (Reopened m w) v = if m.0 == n then w.0 else v
base_by n e v = v

-- the version that a node has for certain: that of its last acknowledged commit or reopening, or 1
abbrev pub base_version : ℕ → Past → ℕ
base_version n [] = 1
base_version n (e ∷ past) = base_by n e.event (base_version n past)

-- a commit of the node was acknowledged, or found by a reopening
abbrev pub has_committed : ℕ → Past → Bool
has_committed n = over false (λ e past b. elim e.event [
  | Committed m w ↦ if m.0 == n then true else b
  | Reopened m w ↦ if m.0 == n then b || nat_lt 1 w.0 else b
  | _ ↦ b
])

-- the cause is a fault of a disk
abbrev pub is_disk_fault : Cause → Bool
is_disk_fault DiskFault = true
is_disk_fault cause = false

-- a line started as a commit at this node
abbrev pub starts_commit : ℕ → Option Event → Bool
starts_commit n (Some (Committing m w)) = m.0 == n
starts_commit n e = false

-- a node is stuck where a disk fault refused a commit of it, and neither was one acknowledged since nor did it reopen
abbrev pub is_stuck : ℕ → Past → Bool
is_stuck n = over false (λ e past b. elim e.event [
  | Committed m w ↦ if m.0 == n then false else b
  | Reopened m w ↦ if m.0 == n then false else b
  | Refused cause ↦ (is_disk_fault cause && starts_commit n (start_entry e.at past)) || b
  | _ ↦ b
])

-- the line whose commit at a node may be begun later than the line: it is in flight, and the node is stuck
abbrev pub late_commit : ℕ → Past → Option At
late_commit n past = if is_stuck n past then commit_in_flight n past else None

-- one version more where such a commit is in flight
abbrev pub more_by : Option At → ℕ → List ℕ → List ℕ
more_by flight v old = if is_some flight then v ∷ old else old

-- the versions at which a node may reopen: its base version, that of each commit started since,
-- and what it searched since while a late one was in flight
abbrev pub reopenable_versions : ℕ → Past → List ℕ
reopenable_versions n = over (1 ∷ []) (λ e past old. elim e.event [
  | Committed m w ↦ if m.0 == n then w.0 ∷ [] else old
  | Reopened m w ↦ if m.0 == n then w.0 ∷ [] else old
  | Committing m w ↦ if m.0 == n then w.0 ∷ old else old
  | Published g w ↦
      if is_at (primary_of past) n then more_by (late_commit n past) w.0 old else old
  | Switched m w ↦ if m.0 == n then more_by (late_commit n past) w.0 old else old
  | Promoted m g f w ↦ if m.0 == n then more_by (late_commit n past) w.0 old else old
  | _ ↦ old
])

-- the version was searched by a node at the start entry of a line, or later
abbrev pub was_searched_since : At → ℕ → ℕ → Past → Bool
was_searched_since at n v [] = false
was_searched_since at n v (e ∷ past) =
    (version_of n (e ∷ past) == v) || (if is_start e.event && same_at e.at at then false else was_searched_since at n v past)

-- a fault of a disk refused the line
abbrev pub is_refused_by_disk : At → Past → Bool
is_refused_by_disk at past = list_any (λ e. elim e.event [ Refused cause ↦ is_disk_fault cause | _ ↦ false ] && same_at e.at at) past

-- these entries start a copy to the node above this version, of a line that all of those show refused by no fault of a disk
abbrev pub passes : ℕ → ℕ → Past → Past → Bool
passes n v all past = list_any (λ e. elim e.event [ Copying m w ↦ (m.0 == n) && nat_lt v w.0 | _ ↦ false ] && not (is_refused_by_disk e.at all)) past

-- a copy to the node above this version was started, and no fault of a disk refused it
abbrev pub is_passed : ℕ → ℕ → Past → Bool
is_passed n v past = passes n v past past
