-- The plain rules: what a history must show, and no more. The nodes are 1 to `size`.
use Rattle.std.specs.Prelude.{ℕ, IsSomeAnd, ◌≡◌, ◌+◌, ◌≤◌, ◌<◌, ◌^◌, ◌≢◌, List, [], ◌∷◌, Bool, true, false, ◌&&◌, ◌||◌, ◌==◌, if◌then◌else◌, is_some, reverse, ⊤, Option, Some, None}
use Rattle.std.specs.List.{list_any}
use Rattle.nrt_base.specs.declared.numbers.At.{At}
use Rattle.nrt_base.specs.declared.numbers.Gen.{Gen}
use Rattle.nrt_base.specs.declared.numbers.Version.{Version}
use Rattle.nrt_base.specs.declared.numbers.NodeNo.{NodeNo}
use Rattle.nrt_base.specs.declared.numbers.TicketNo.{TicketNo}
use Rattle.nrt_base.specs.declared.numbers.SegNo.{SegNo}
use Rattle.nrt_base.specs.SegNumbers.{segment_number}
use Rattle.file_names.specs.Names.{is_commit_name, is_documents_name, is_ascending}
use Rattle.documents.specs.declared.query.Query.{Query}
use Rattle.documents.specs.declared.answer.Answer.{Answer}
use Rattle.documents.specs.Ranking.{scan_of}
use Rattle.history_rules.specs.declared.cause.Cause.{Cause}
use Rattle.history_rules.specs.declared.cause.Cause.TheVariants.{Cancelled, LinkFault, Damaged, DiskFault}
use Rattle.history_rules.specs.declared.cause.FaultKind.{FaultKind}
use Rattle.history_rules.specs.declared.cause.FaultKind.TheVariants.{Link, Damage}
use Rattle.history_rules.specs.declared.entry.Event.{Event}
use Rattle.history_rules.specs.declared.entry.Event.TheVariants.{Accepted, Publishing, Published, Copying, Switched, Copied, Settling, Settled, Opened, Asking, Answered, Closed, Committing, Committed, Crashed, Reopened, Promoted, Merging, Drained, Files, Planned, Fault, Refused}
use Rattle.history_rules.specs.declared.entry.History.{History}
use Rattle.history_rules.specs.Nodes.{Past, over, IsNode, IsReplica, is_at, primary_of, is_running, generation_of, version_of, newest_version, is_made_in_generation, is_point, accepted_count}
use Rattle.history_rules.specs.Lines.{start_entry, before_start, NodeSurvives, SourceSurvives, publish_in_flight, commit_in_flight, is_free_for, has_switched}
use Rattle.history_rules.specs.Points.{documents_at, names_drawn, merges_started, idle_publishes, has_documents}
use Rattle.history_rules.specs.Tickets.{open_ticket, has_ticket, IsTicketOf}
use Rattle.history_rules.specs.Commits.{starts_commit, was_searched_since}
use Rattle.history_rules.specs.Faults.{is_planned, has_fault, same_kind, is_of_disk}
use Rattle.history_rules.specs.Started.{StartedSearch, is_node_of, is_source_of, is_lost, is_above, is_copied_beside, is_settled_beside, is_copy, is_loss}

-- an operation is accepted while a primary runs, and counted
pub record PlainAccept (past : Past) (seq : ℕ) : Type 0 where
  pub running : primary_of past ≢ None
  pub next : seq ≡ accepted_count past + 1

-- a publish starts while a primary runs and no other line's publish is in flight
pub record PlainStartPublish (past : Past) (at : At) : Type 0 where
  pub running : primary_of past ≢ None
  pub alone : is_free_for at (publish_in_flight past) ≡ true

-- a publish that its line started ends under the same primary, with the next version; of the generation's publishes, this one among them,
-- those that add no operation are no more than its merges
pub record PlainPublish (past : Past) (at : At) (g : Gen) (v : Version) : Type 0 where
  pub started : start_entry at past ≡ Some Publishing
  pub survives : SourceSurvives past at
  pub present : g.0 ≡ generation_of past
  pub next : v.0 ≡ newest_version past + 1
  pub merged : idle_publishes (record { at = at; event = Published g v } ∷ past) ≤ merges_started past

-- a copy to a running replica starts while a primary runs, and notes the newest version
pub record PlainStartCopy (size : ℕ) (past : Past) (n : NodeNo) (v : Version) : Type 0 where
  pub node : IsNode size n.0
  pub replica : IsReplica past n.0
  pub source : primary_of past ≢ None
  pub newest : v.0 ≡ newest_version past

-- the line started as a copy to this node, or as a settle, at this version or below
abbrev pub PlainStarted : ℕ → ℕ → Option Event → Type 0
PlainStarted n v (Some (Copying m w)) = (m.0 ≡ n) × (w.0 ≤ v)
PlainStarted n v (Some (Settling w)) = w.0 ≤ v
PlainStarted n v e = ⊥

-- a running replica switches to a later point of the generation, for a copy to it or a settle, which neither it nor the primary crashed under
pub record PlainSwitch (size : ℕ) (past : Past) (at : At) (n : NodeNo) (v : Version) : Type 0 where
  pub node : IsNode size n.0
  pub replica : IsReplica past n.0
  pub made : is_made_in_generation v.0 past ≡ true
  pub above : version_of n.0 past < v.0
  pub started : PlainStarted n.0 v.0 (start_entry at past)
  pub survives : NodeSurvives past at n.0
  pub source : SourceSurvives past at

-- the line started as a copy to this node, at this version or below
abbrev pub PlainStartedCopy : ℕ → ℕ → Option Event → Type 0
PlainStartedCopy n v (Some (Copying m w)) = (m.0 ≡ n) × (w.0 ≤ v)
PlainStartedCopy n v e = ⊥

-- a copy ends with a version no lower than that of its start, which the node searches; neither that nor the primary crashed under it
pub record PlainFinishCopy (size : ℕ) (past : Past) (at : At) (n : NodeNo) (v : Version) : Type 0 where
  pub node : IsNode size n.0
  pub started : PlainStartedCopy n.0 v.0 (start_entry at past)
  pub searched : v.0 ≡ version_of n.0 past
  pub survives : NodeSurvives past at n.0
  pub source : SourceSurvives past at

-- a settle starts while a primary runs, and notes the newest version
pub record PlainStartSettle (past : Past) (v : Version) : Type 0 where
  pub source : primary_of past ≢ None
  pub newest : v.0 ≡ newest_version past

-- a settle ends when each replica that ran at its start, and has not crashed since, is at its version or above
pub record PlainSettle (size : ℕ) (past : Past) (at : At) (v : Version) : Type 0 where
  pub started : start_entry at past ≡ Some (Settling v)
  pub source : SourceSurvives past at
  pub reached : (n : ℕ) → IsNode size n → IsReplica (before_start at past) n → NodeSurvives past at n → v.0 ≤ version_of n past

-- a ticket is opened, or a search starts, at the version that the running node searches; the lane has no such ticket
pub record PlainOpen (size : ℕ) (past : Past) (at : At) (n : NodeNo) (t : TicketNo) (v : Version) : Type 0 where
  pub node : IsNode size n.0
  pub running : is_running n.0 past ≡ true
  pub searched : v.0 ≡ version_of n.0 past
  pub free : has_ticket at.lane.0 t.0 past ≡ false

-- a search at a ticket of the lane starts at the ticket's node and version
pub record PlainAsk (size : ℕ) (past : Past) (at : At) (n : NodeNo) (t : TicketNo) (v : Version) : Type 0 where
  pub node : IsNode size n.0
  pub held : IsTicketOf n.0 v.0 (open_ticket at.lane.0 t.0 past)

-- a search is answered by the scan of the documents published as its version, by a node that has not crashed since its start
pub record PlainAnswer (size : ℕ) (past : Past) (at : At) (n : NodeNo) (t : TicketNo) (v : Version) (query : Query) (answer : Answer) : Type 0 where
  pub node : IsNode size n.0
  pub started : StartedSearch n t v (start_entry at past)
  pub survives : NodeSurvives past at n.0
  pub right : answer ≡ scan_of (documents_at past v.0) query

-- a ticket of the lane is closed
pub record PlainClose (size : ℕ) (past : Past) (at : At) (n : NodeNo) (t : TicketNo) : Type 0 where
  pub node : IsNode size n.0
  pub held : IsSomeAnd (open_ticket at.lane.0 t.0 past) (λ ticket. ticket.node ≡ n.0)

-- a commit of the version that the running node searches starts, and no other line's commit there is in flight
pub record PlainStartCommit (size : ℕ) (past : Past) (at : At) (n : NodeNo) (v : Version) : Type 0 where
  pub node : IsNode size n.0
  pub running : is_running n.0 past ≡ true
  pub searched : v.0 ≡ version_of n.0 past
  pub alone : is_free_for at (commit_in_flight n.0 past) ≡ true

-- a commit is acknowledged for a version that the node searched since its start, under no crash of the node
pub record PlainCommit (size : ℕ) (past : Past) (at : At) (n : NodeNo) (v : Version) : Type 0 where
  pub node : IsNode size n.0
  pub started : starts_commit n.0 (start_entry at past) ≡ true
  pub survives : NodeSurvives past at n.0
  pub searched : was_searched_since at n.0 v.0 past ≡ true

-- a running node crashes
pub record PlainCrash (size : ℕ) (past : Past) (n : NodeNo) : Type 0 where
  pub node : IsNode size n.0
  pub running : is_running n.0 past ≡ true

-- one version more where a commit is in flight
abbrev pub with_flight : Option At → ℕ → List ℕ → List ℕ
with_flight flight v old = if is_some flight then v ∷ old else old

-- the versions at which a node may reopen: its base version, and each that it searched since while a commit of it was in flight
abbrev pub plain_reopenable : ℕ → Past → List ℕ
plain_reopenable n = over (1 ∷ []) (λ e past old. elim e.event [
  | Committed m w ↦ if m.0 == n then w.0 ∷ [] else old
  | Reopened m w ↦ if m.0 == n then w.0 ∷ [] else old
  | Committing m w ↦ if m.0 == n then w.0 ∷ old else old
  | Published g w ↦ if is_at (primary_of past) n then with_flight (commit_in_flight n past) w.0 old else old
  | Switched m w ↦ if m.0 == n then with_flight (commit_in_flight n past) w.0 old else old
  | Promoted m g f w ↦ if m.0 == n then with_flight (commit_in_flight n past) w.0 old else old
  | _ ↦ old
])

-- a node that is down reopens at one of those versions
pub record PlainReopen (size : ℕ) (past : Past) (n : NodeNo) (v : Version) : Type 0 where
  pub node : IsNode size n.0
  pub down : is_running n.0 past ≡ false
  pub found : list_any (λ w. w == v.0) (plain_reopenable n.0 past) ≡ true

-- a running node is promoted where no primary runs: the generation is the next one, and the version is one above a forced one that is no lower than any published
pub record PlainPromote (size : ℕ) (past : Past) (n : NodeNo) (g : Gen) (forced v : Version) : Type 0 where
  pub node : IsNode size n.0
  pub running : is_running n.0 past ≡ true
  pub vacant : primary_of past ≡ None
  pub next : g.0 ≡ generation_of past + 1
  pub high : newest_version past ≤ forced.0
  pub low : forced.0 < 2 ^ 62
  pub above : v.0 ≡ forced.0 + 1

-- a merge starts while a primary runs, into the next segment of the generation
pub record PlainStartMerge (past : Past) (seg : SegNo) : Type 0 where
  pub running : primary_of past ≢ None
  pub next : seg.0 ≡ segment_number (generation_of past) (names_drawn past)

-- a commit of the node was acknowledged
abbrev pub was_committed : ℕ → Past → Bool
was_committed n = over false (λ e past b. elim e.event [ Committed m w ↦ if m.0 == n then true else b | _ ↦ b ])

-- a running node's files stand in ascending order; a commit's is there where one was acknowledged, documents' where its version, or a ticket there, has documents
pub record PlainListFiles (size : ℕ) (past : Past) (n : NodeNo) (names : List (List ℕ)) : Type 0 where
  pub node : IsNode size n.0
  pub running : is_running n.0 past ≡ true
  pub ordered : is_ascending names ≡ true
  pub committed : was_committed n.0 past ≡ true → list_any is_commit_name names ≡ true
  pub searched : has_documents past (version_of n.0 past) ≡ true → list_any is_documents_name names ≡ true
  pub held : (lane t v : ℕ) → IsTicketOf n.0 v (open_ticket lane t past) → has_documents past v ≡ true → list_any is_documents_name names ≡ true

-- a planned fault is met
pub record PlainFault (size : ℕ) (past : Past) (n : NodeNo) (kind : FaultKind) : Type 0 where
  pub node : IsNode size n.0
  pub planned : is_planned n.0 kind past ≡ true

-- another line could have begun a job for this later point
pub record PlainCancel (size : ℕ) (past : Past) (at : At) (start : Past) (begun : Event) (v : Version) : Type 0 where
  pub point : is_point v.0 past ≡ true
  pub above : is_above v.0 begun ≡ true
  pub beside : (is_copied_beside (is_node_of size start begun) v.0 at past || is_settled_beside start at past) ≡ true

-- why a line that has started, and whose nodes run on, may be refused: a later job, or a fault that it met at its nodes or, of a disk, at its source
abbrev pub PlainBreakOff : ℕ → Past → At → Past → Event → Cause → Type 0
PlainBreakOff size past at start begun (Cancelled v) = PlainCancel size past at start begun v
PlainBreakOff size past at start begun LinkFault = has_fault (is_node_of size start begun) (same_kind Link) at past ≡ true
PlainBreakOff size past at start begun (Damaged name) = has_fault (is_node_of size start begun) (same_kind Damage) at past ≡ true
PlainBreakOff size past at start begun DiskFault = has_fault (λ n. is_node_of size start begun n || is_source_of start begun n) is_of_disk at past ≡ true
PlainBreakOff size past at start begun cause = ⊥

-- a line that has started is refused as lost exactly where it is, else for a cause that it met; never after a copy has switched
pub record PlainRefuse (size : ℕ) (past : Past) (at : At) (start : Past) (begun : Event) (cause : Cause) : Type 0 where
  pub lost : is_loss cause ≡ is_lost past start begun
  pub met : is_loss cause ≡ false → PlainBreakOff size past at start begun cause
  pub unswitched : (is_copy begun && has_switched at past) ≡ false

-- a refusal of a line that has not started keeps no rule
abbrev pub PlainRefuseLine : ℕ → Past → At → Option Event → Cause → Type 0
PlainRefuseLine size past at None cause = ⊤
PlainRefuseLine size past at (Some begun) cause = PlainRefuse size past at (before_start at past) begun cause

-- the plain rule of an entry of this line, over the entries before it
abbrev pub KeepsPlainRule : ℕ → Past → At → Event → Type 0
KeepsPlainRule size past at (Accepted seq op) = PlainAccept past seq
KeepsPlainRule size past at Publishing = PlainStartPublish past at
KeepsPlainRule size past at (Published g v) = PlainPublish past at g v
KeepsPlainRule size past at (Copying n v) = PlainStartCopy size past n v
KeepsPlainRule size past at (Switched n v) = PlainSwitch size past at n v
KeepsPlainRule size past at (Copied n v) = PlainFinishCopy size past at n v
KeepsPlainRule size past at (Settling v) = PlainStartSettle past v
KeepsPlainRule size past at (Settled v) = PlainSettle size past at v
KeepsPlainRule size past at (Opened n t v) = PlainOpen size past at n t v
KeepsPlainRule size past at (Asking n t v) = PlainAsk size past at n t v
KeepsPlainRule size past at (Answered n t v query answer) = PlainAnswer size past at n t v query answer
KeepsPlainRule size past at (Closed n t) = PlainClose size past at n t
KeepsPlainRule size past at (Committing n v) = PlainStartCommit size past at n v
KeepsPlainRule size past at (Committed n v) = PlainCommit size past at n v
KeepsPlainRule size past at (Crashed n) = PlainCrash size past n
KeepsPlainRule size past at (Reopened n v) = PlainReopen size past n v
KeepsPlainRule size past at (Promoted n g f v) = PlainPromote size past n g f v
KeepsPlainRule size past at (Merging seg) = PlainStartMerge past seg
KeepsPlainRule size past at (Drained done most) = ⊤
KeepsPlainRule size past at (Files n names) = PlainListFiles size past n names
KeepsPlainRule size past at (Planned n plan) = ⊤
KeepsPlainRule size past at (Fault n kind) = PlainFault size past n kind
KeepsPlainRule size past at (Refused cause) = PlainRefuseLine size past at (start_entry at past) cause

-- each entry keeps the plain rule of its kind over the entries before it
abbrev pub IsPlainlyLegalPast : ℕ → Past → Type 0
IsPlainlyLegalPast size [] = ⊤
IsPlainlyLegalPast size (e ∷ past) = KeepsPlainRule size past e.at e.event × IsPlainlyLegalPast size past

-- a history keeps the plain rules where each of its entries does
abbrev pub IsPlainlyLegal : History → Type 0
IsPlainlyLegal h = IsPlainlyLegalPast h.nodes (reverse h.entries)
