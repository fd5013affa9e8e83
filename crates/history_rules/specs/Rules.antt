-- The rule of each kind of entry: what the entries before it must show. The nodes are 1 to `size`.
use Rattle.std.specs.Prelude.{ℕ, IsSomeAnd, ◌≡◌, ◌+◌, ◌*◌, ◌≤◌, ◌<◌, ◌^◌, ◌≢◌, ◌⊎◌, List, ◌∷◌, Bool, true, false, ◌&&◌, ◌||◌, not, ◌==◌, length, Option, Some, None}
use Rattle.std.specs.List.{All, list_any}
use Rattle.nrt_base.specs.declared.numbers.At.{At}
use Rattle.nrt_base.specs.declared.numbers.Gen.{Gen}
use Rattle.nrt_base.specs.declared.numbers.Version.{Version}
use Rattle.nrt_base.specs.declared.numbers.NodeNo.{NodeNo}
use Rattle.nrt_base.specs.declared.numbers.TicketNo.{TicketNo}
use Rattle.nrt_base.specs.declared.numbers.SegNo.{SegNo}
use Rattle.nrt_base.specs.SegNumbers.{segment_number, segments_of_generation}
use Rattle.file_names.specs.Names.{is_commit_name, is_pending_name, is_documents_name, is_ascending}
use Rattle.documents.specs.declared.query.Query.{Query}
use Rattle.documents.specs.declared.answer.Answer.{Answer}
use Rattle.history_rules.specs.declared.cause.Cause.{Cause}
use Rattle.history_rules.specs.declared.cause.Cause.TheVariants.{Cancelled, LinkFault, Damaged, DiskFault}
use Rattle.history_rules.specs.declared.cause.FaultKind.{FaultKind}
use Rattle.history_rules.specs.declared.cause.FaultKind.TheVariants.{Link}
use Rattle.history_rules.specs.declared.entry.Event.{Event}
use Rattle.history_rules.specs.declared.entry.Event.TheVariants.{Publishing, Published, Copying, Settling, Committing, Merging}
use Rattle.documents.specs.Ranking.{scan_of}
use Rattle.history_rules.specs.Nodes.{Past, IsNode, IsReplica, is_at, primary_of, is_running, generation_of, version_of, newest_version, is_made_in_generation, is_point, accepted_count}
use Rattle.history_rules.specs.Lines.{start_entry, before_start, last_of_line, is_answered, NodeSurvives, SourceSurvives, publish_in_flight, commit_in_flight, copy_in_flight, is_free_for, has_switched, has_just_switched, highest_switched}
use Rattle.history_rules.specs.Started.{StartedSearch, is_node_of, is_source_of, is_lost, is_above, is_copied_beside, is_settled_beside, is_copy, is_loss}
use Rattle.history_rules.specs.Points.{documents_at, has_documents, names_drawn, IsDrawnFile, IsDrawnTemporary, merges_started, cut_of, idle_publishes}
use Rattle.history_rules.specs.Tickets.{open_ticket, has_ticket, IsTicketOf}
use Rattle.history_rules.specs.Commits.{has_committed, is_disk_fault, starts_commit, is_stuck, reopenable_versions, was_searched_since, is_passed}
use Rattle.history_rules.specs.Tasks.{merge_count, drained_count}
use Rattle.history_rules.specs.Faults.{is_planned, has_fault, has_met_fault, has_file_fault, has_damage, fails_now, same_kind, is_of_disk}

-- an operation is accepted while a primary runs, and counted; its line has met no fault, or has its reply and accepts again what the log has
pub record MayAccept (past : Past) (at : At) (seq : ℕ) : Type 0 where
  pub running : primary_of past ≢ None
  pub next : seq ≡ accepted_count past + 1
  pub spared : (has_met_fault at past ≡ false) ⊎ (is_answered at past ≡ true)

-- a publish starts while a primary runs and no other line's publish is in flight; it takes an operation, or a merge that none took
pub record MayStartPublish (past : Past) (at : At) : Type 0 where
  pub running : primary_of past ≢ None
  pub alone : is_free_for at (publish_in_flight past) ≡ true
  pub spared : has_met_fault at past ≡ false
  pub some : (0 < length (cut_of past)) ⊎ (idle_publishes past < merges_started past)

-- a publish that its line started ends under the same primary: its version is the next one, and publishes that add nothing are no more than merges
pub record MayPublish (past : Past) (at : At) (g : Gen) (v : Version) : Type 0 where
  pub started : start_entry at past ≡ Some Publishing
  pub survives : SourceSurvives past at
  pub present : g.0 ≡ generation_of past
  pub next : v.0 ≡ newest_version past + 1
  pub merged : idle_publishes (record { at = at; event = Published g v } ∷ past) ≤ merges_started past

-- a copy to a running replica starts while a primary runs; it notes the newest version, which no other line is copying there
pub record MayStartCopy (size : ℕ) (past : Past) (at : At) (n : NodeNo) (v : Version) : Type 0 where
  pub node : IsNode size n.0
  pub replica : IsReplica past n.0
  pub source : primary_of past ≢ None
  pub newest : v.0 ≡ newest_version past
  pub alone : is_free_for at (copy_in_flight n.0 v.0 past) ≡ true

-- the line started as a copy of this version to this node, or as a settle when the node was a replica, which is below that version now
abbrev pub StartedCopy : Past → Past → ℕ → ℕ → Option Event → Type 0
StartedCopy past start n v (Some (Copying m w)) = (m.0 ≡ n) × (w.0 ≡ v)
StartedCopy past start n v (Some (Settling w)) = (w.0 ≤ v) × (version_of n past < w.0) × IsReplica start n
StartedCopy past start n v e = ⊥

-- at each node that has not crashed since its start the line met no fault in a file
abbrev pub IsLineWhole : ℕ → Past → At → Type 0
IsLineWhole size past at = (n : ℕ) → IsNode size n → NodeSurvives past at n → has_file_fault n at past ≡ false

-- a running replica switches to a later point of the generation, for a line that neither it nor the primary crashed under; the version
-- is no lower than that of any copy to it that started and no fault of a disk refused; the line has switched no node as high, and is
-- whole
pub record MaySwitch (size : ℕ) (past : Past) (at : At) (n : NodeNo) (v : Version) : Type 0 where
  pub node : IsNode size n.0
  pub replica : IsReplica past n.0
  pub made : is_made_in_generation v.0 past ≡ true
  pub above : version_of n.0 past < v.0
  pub latest : is_passed n.0 v.0 past ≡ false
  pub ordered : highest_switched at past < n.0
  pub started : StartedCopy past (before_start at past) n.0 v.0 (start_entry at past)
  pub whole : IsLineWhole size past at
  pub survives : NodeSurvives past at n.0
  pub source : SourceSurvives past at

-- a copy ends with the version of its start, which the node searches: because the copy has just switched it, or because it did so already
pub record MayFinishCopy (size : ℕ) (past : Past) (at : At) (n : NodeNo) (v : Version) : Type 0 where
  pub node : IsNode size n.0
  pub started : start_entry at past ≡ Some (Copying n v)
  pub searched : v.0 ≡ version_of n.0 past
  pub done : (has_just_switched at past ≡ true) ⊎ (version_of n.0 (before_start at past) ≡ v.0)
  pub survives : NodeSurvives past at n.0
  pub source : SourceSurvives past at

-- a settle starts while a primary runs, and notes the newest version
pub record MayStartSettle (past : Past) (at : At) (v : Version) : Type 0 where
  pub source : primary_of past ≢ None
  pub newest : v.0 ≡ newest_version past
  pub spared : has_met_fault at past ≡ false

-- a settle ends when each replica that ran at its start, and has not crashed since, is at its version or above, and it is whole
pub record MaySettle (size : ℕ) (past : Past) (at : At) (v : Version) : Type 0 where
  pub started : start_entry at past ≡ Some (Settling v)
  pub source : SourceSurvives past at
  pub reached : (n : ℕ) → IsNode size n → IsReplica (before_start at past) n → NodeSurvives past at n → v.0 ≤ version_of n past
  pub whole : IsLineWhole size past at

-- a ticket is opened, or a search starts, at the version that the running node searches; the lane has no such ticket, the line met no fault
pub record MayOpen (size : ℕ) (past : Past) (at : At) (n : NodeNo) (t : TicketNo) (v : Version) : Type 0 where
  pub node : IsNode size n.0
  pub running : is_running n.0 past ≡ true
  pub searched : v.0 ≡ version_of n.0 past
  pub free : has_ticket at.lane.0 t.0 past ≡ false
  pub spared : has_met_fault at past ≡ false

-- a search at a ticket of the lane starts at the ticket's node and version
pub record MayAsk (size : ℕ) (past : Past) (at : At) (n : NodeNo) (t : TicketNo) (v : Version) : Type 0 where
  pub node : IsNode size n.0
  pub held : IsTicketOf n.0 v.0 (open_ticket at.lane.0 t.0 past)
  pub spared : has_met_fault at past ≡ false

-- a search is answered by the scan of the documents published as its version
pub record MayAnswer (size : ℕ) (past : Past) (at : At) (n : NodeNo) (t : TicketNo) (v : Version) (query : Query) (answer : Answer) : Type 0 where
  pub node : IsNode size n.0
  pub started : StartedSearch n t v (start_entry at past)
  pub survives : NodeSurvives past at n.0
  pub right : answer ≡ scan_of (documents_at past v.0) query

-- a ticket of the lane is closed
pub record MayClose (size : ℕ) (past : Past) (at : At) (n : NodeNo) (t : TicketNo) : Type 0 where
  pub node : IsNode size n.0
  pub held : IsSomeAnd (open_ticket at.lane.0 t.0 past) (λ ticket. ticket.node ≡ n.0)

-- a commit of the version that the running node searches starts, and no other line's commit there is in flight
pub record MayStartCommit (size : ℕ) (past : Past) (at : At) (n : NodeNo) (v : Version) : Type 0 where
  pub node : IsNode size n.0
  pub running : is_running n.0 past ≡ true
  pub searched : v.0 ≡ version_of n.0 past
  pub alone : is_free_for at (commit_in_flight n.0 past) ≡ true
  pub spared : has_met_fault at past ≡ false

-- a commit is acknowledged for the version of its start; where the node is stuck, for one that it searched then or later
pub record MayCommit (size : ℕ) (past : Past) (at : At) (n : NodeNo) (v : Version) : Type 0 where
  pub node : IsNode size n.0
  pub started : starts_commit n.0 (start_entry at past) ≡ true
  pub survives : NodeSurvives past at n.0
  pub searched : was_searched_since at n.0 v.0 past ≡ true
  pub exact : is_stuck n.0 past ≡ false → start_entry at past ≡ Some (Committing n v)

-- a running node crashes
pub record MayCrash (size : ℕ) (past : Past) (n : NodeNo) : Type 0 where
  pub node : IsNode size n.0
  pub running : is_running n.0 past ≡ true

-- a node that is down reopens at its base version, or at one that a commit since may have left; a reopening that meets a fault is refused
pub record MayReopen (size : ℕ) (past : Past) (at : At) (n : NodeNo) (v : Version) : Type 0 where
  pub node : IsNode size n.0
  pub down : is_running n.0 past ≡ false
  pub found : list_any (λ w. w == v.0) (reopenable_versions n.0 past) ≡ true
  pub spared : has_met_fault at past ≡ false

-- a running node is promoted where no primary runs: the generation is the next one, and the version is one above a forced one that is no lower than any published
pub record MayPromote (size : ℕ) (past : Past) (n : NodeNo) (g : Gen) (forced v : Version) : Type 0 where
  pub node : IsNode size n.0
  pub running : is_running n.0 past ≡ true
  pub vacant : primary_of past ≡ None
  pub next : g.0 ≡ generation_of past + 1
  pub high : newest_version past ≤ forced.0
  pub low : forced.0 < 2 ^ 62
  pub above : v.0 ≡ forced.0 + 1

-- a merge starts while a primary runs, into the next segment of the generation, which has one left; its faults come after
pub record MayStartMerge (past : Past) (at : At) (seg : SegNo) : Type 0 where
  pub running : primary_of past ≢ None
  pub next : seg.0 ≡ segment_number (generation_of past) (names_drawn past)
  pub unspent : names_drawn past < segments_of_generation
  pub spared : has_met_fault at past ≡ false

-- a merge is one task to build it, one for each node to copy it to and one to cut over: all drains together did no more; the line met no fault
pub record MayDrain (size : ℕ) (past : Past) (at : At) (done : ℕ) : Type 0 where
  pub few : drained_count past + done ≤ (size + 1) * merge_count past
  pub spared : has_met_fault at past ≡ false

-- a name that a file may have: a commit's, also in preparation, or a file's of a segment that was drawn, also its temporary name
abbrev pub MayHaveName : Past → List ℕ → Type 0
MayHaveName past name =
    (is_commit_name name ≡ true) ⊎ (is_pending_name name ≡ true) ⊎ IsDrawnFile past name ⊎ IsDrawnTemporary past name

-- a running node's files: names that files have, in ascending order; a commit's where one was acknowledged; documents' where its version, or a ticket there, has documents
pub record MayListFiles (size : ℕ) (past : Past) (at : At) (n : NodeNo) (names : List (List ℕ)) : Type 0 where
  pub node : IsNode size n.0
  pub running : is_running n.0 past ≡ true
  pub ordered : is_ascending names ≡ true
  pub kinds : All (MayHaveName past) names
  pub committed : has_committed n.0 past ≡ true → list_any is_commit_name names ≡ true
  pub searched : has_documents past (version_of n.0 past) ≡ true → list_any is_documents_name names ≡ true
  pub held : (lane t v : ℕ) → IsTicketOf n.0 v (open_ticket lane t past) → has_documents past v ≡ true → list_any is_documents_name names ≡ true
  pub spared : has_met_fault at past ≡ false

-- the line started as a copy or a settle, and this is a node of it
abbrev pub copies_to : ℕ → Past → Option Event → ℕ → Bool
copies_to size start (Some (Copying m v)) n = is_node_of size start (Copying m v) n
copies_to size start (Some (Settling v)) n = is_node_of size start (Settling v) n
copies_to size start begun n = false

-- the line is a merge
abbrev pub is_merging : Option Event → Bool
is_merging (Some (Merging seg)) = true
is_merging last = false

-- files are copied to the node for the line: by a copy or a settle of it, or by a merge, to which each running replica is a node
abbrev pub fetches_at : ℕ → At → Past → ℕ → Bool
fetches_at size at past n =
    copies_to size (before_start at past) (start_entry at past) n
    || (is_merging (last_of_line at past) && is_running n past && not (is_at (primary_of past) n))

-- the line has no entry but faults
abbrev pub is_unbegun : Option Event → Bool
is_unbegun None = true
is_unbegun (Some e) = false

-- a planned fault is met by a line that has no reply yet, or that is a merge: one of the link or in a file, at a node that files are
-- copied to; one of a disk, at a node that runs, or by a line that has begun nothing yet, as a reopening
pub record MayFault (size : ℕ) (past : Past) (at : At) (n : NodeNo) (kind : FaultKind) : Type 0 where
  pub node : IsNode size n.0
  pub planned : is_planned n.0 kind past ≡ true
  pub at_work : (is_answered at past ≡ false) ⊎ (is_merging (last_of_line at past) ≡ true)
  pub fetched : (is_of_disk kind || fetches_at size at past n.0) ≡ true
  pub alive : (is_running n.0 past || is_unbegun (last_of_line at past)) ≡ true

-- a job for this later point, at a node of the line, may have been started by another line
pub record MayCancel (size : ℕ) (past : Past) (at : At) (start : Past) (begun : Event) (v : Version) : Type 0 where
  pub point : is_point v.0 past ≡ true
  pub above : is_above v.0 begun ≡ true
  pub beside : (is_copied_beside (is_node_of size start begun) v.0 at past || is_settled_beside start at past) ≡ true

-- the line has met a fault of a disk at a node of its own, or at its source
abbrev pub has_disk_fault : ℕ → Past → Event → At → Past → Bool
has_disk_fault size start begun at past = has_fault (λ n. is_node_of size start begun n || is_source_of start begun n) is_of_disk at past

-- why a line that has started, and whose nodes run on, may be refused; a damaged file is of a segment
-- whose name was drawn; a fault of a disk refuses its line at once
abbrev pub MayBreakOff : ℕ → Past → At → Past → Event → Cause → Type 0
MayBreakOff size past at start begun (Cancelled v) = MayCancel size past at start begun v
MayBreakOff size past at start begun LinkFault = has_fault (is_node_of size start begun) (same_kind Link) at past ≡ true
MayBreakOff size past at start begun (Damaged name) =
    (has_damage (is_node_of size start begun) at past ≡ true)
    × IsDrawnFile past name
MayBreakOff size past at start begun DiskFault =
    (has_disk_fault size start begun at past ≡ true)
    × (fails_now at past ≡ true)
MayBreakOff size past at start begun cause = ⊥

-- a line that has started is refused as lost exactly where it is, else for a cause that it met; never after a copy has switched
pub record MayRefuse (size : ℕ) (past : Past) (at : At) (start : Past) (begun : Event) (cause : Cause) : Type 0 where
  pub lost : is_loss cause ≡ is_lost past start begun
  pub met : is_loss cause ≡ false → MayBreakOff size past at start begun cause
  pub unswitched : (is_copy begun && has_switched at past) ≡ false

-- a line is refused as its start entry has it; before it has one, for a fault of a disk exactly where
-- it has met a fault
abbrev pub MayRefuseLine : ℕ → Past → At → Option Event → Cause → Type 0
MayRefuseLine size past at None cause = is_disk_fault cause ≡ has_met_fault at past
MayRefuseLine size past at (Some begun) cause = MayRefuse size past at (before_start at past) begun cause
