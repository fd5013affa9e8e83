-- What the calls of lines do: the entries that they add, and what they hand out.
use Rattle.std.specs.Prelude.{ℕ, ◌≡◌, ◌≢◌, ◌∷◌, ◌==◌, ◌&&◌, Bool, true, not, List, length, if◌then◌else◌, Option, Some, None}
use Rattle.std.specs.Option.{option_or}
use Rattle.nrt_base.specs.declared.numbers.At.{At}
use Rattle.nrt_base.specs.declared.numbers.NodeNo.{NodeNo}
use Rattle.nrt_base.specs.declared.numbers.TicketNo.{TicketNo}
use Rattle.nrt_base.specs.declared.numbers.Version.{Version}
use Rattle.seg_reader.specs.Shown.{Shown}
use Rattle.searcher_switch.specs.declared.searchers.Lease.{Lease}
use Rattle.segment_steps.specs.declared.flushing.FlushTask.{FlushTask}
use Rattle.documents.specs.declared.query.Query.{Query}
use Rattle.documents.specs.declared.answer.Answer.{Answer}
use Rattle.documents.specs.Ranking.{scan_of}
use Rattle.history_rules.specs.declared.cause.Cause.{Cause}
use Rattle.history_rules.specs.declared.cause.Cause.TheVariants.{NoTicket, Nothing, NameUsed, NamesSpent, TooManySegments, Lost}
use Rattle.history_rules.specs.declared.entry.Event.{Event}
use Rattle.history_rules.specs.declared.entry.Event.TheVariants.{Publishing, Opened, Asking, Answered, Closed, Files, Refused}
use Rattle.history_rules.specs.Nodes.{Past, primary_of, is_running, version_of}
use Rattle.history_rules.specs.Lines.{before_start, publish_in_flight}
use Rattle.history_rules.specs.Points.{documents_at, cut_of, cut_has_put}
use Rattle.history_rules.specs.Tickets.{Ticket, has_ticket, open_ticket}
use Rattle.history_rules.specs.Started.{is_lost}
use Rattle.script_serving.specs.Refusals.{when, without_primary, without_node, names_are_spent, may_be_full}
use Rattle.history_book.specs.Log.{printed, shown}
use Rattle.cluster_state.specs.declared.turn.Turn.{Turn}
use Rattle.cluster_state.specs.declared.turn.Turn.TheVariants.{Work, Done, Busy}
use Rattle.cluster_state.specs.Run.{Run, names_at, IsNow}
use Rattle.cluster_state.specs.State.{ReadsAt}
use Rattle.cluster_state.specs.Writes.{IsFull, HandsFlush}
use Rattle.cluster_state.specs.GivesUp.{met_log}

-- the refusal that holds, or what the line does
abbrev pub by_refusal : Option Cause → Event → Event
by_refusal None e = e
by_refusal (Some cause) e = Refused cause

-- the line was refused for this cause
abbrev pub LineRefused : At → Cause → Run → Run → Type 0
LineRefused at cause old new = IsNow old new (shown at (Refused cause) ∷ old.log)

-- the line was refused for this cause, and so is done
abbrev pub IsRefusedTurn : {W : Type 0} → At → Cause → Run → Run → Turn W → Type 0
IsRefusedTurn at cause old new (Work w) = ⊥
IsRefusedTurn at cause old new Done = LineRefused at cause old new
IsRefusedTurn at cause old new Busy = ⊥

-- the line was refused, for the cause that holds
abbrev pub IsRefusedFor : At → Option Cause → Run → Run → Type 0
IsRefusedFor at None old new = ⊥
IsRefusedFor at (Some cause) old new = LineRefused at cause old new

-- why a publish is refused for its cut: it is empty and no merge was cut over since the last point, or it has a put and every name is drawn
abbrev pub cut_refusal : Bool → Past → Option Cause
cut_refusal cut past = option_or (when ((length (cut_of past) == 0) && not cut) Nothing) (when (cut_has_put past && names_are_spent past) NamesSpent)

-- why a publish is refused that is not for its segments: the first of its row that holds
abbrev pub publish_refusal : Bool → Past → Option Cause
publish_refusal cut past = option_or (without_primary past) (cut_refusal cut past)

-- a publish was refused: for the cause that holds, or where none holds and the cut has a put, for too many segments: the primary has as many as
-- there may be
abbrev pub PublishRefused : At → Option Cause → Run → Run → Type 0
PublishRefused at (Some cause) old new = LineRefused at cause old new
PublishRefused at None old new = LineRefused at TooManySegments old new × (cut_has_put (printed old.log) ≡ true) × (may_be_full (printed old.log) ≡ true) × IsFull old

-- a publish starts: it is handed out, refused, or waits while another line's is in flight
abbrev pub PublishStarts : At → Run → Run → Turn FlushTask → Type 0
PublishStarts at old new (Work task) = HandsFlush at old new task × (publish_refusal old.rest.cut (printed old.log) ≡ None) × (publish_in_flight (printed old.log) ≡ None)
PublishStarts at old new Done = PublishRefused at (publish_refusal old.rest.cut (printed old.log)) old new × (primary_of (printed old.log) ≢ None → publish_in_flight (printed old.log) ≡ None)
PublishStarts at old new Busy = (new ≡ old) × (primary_of (printed old.log) ≢ None) × (publish_in_flight (printed old.log) ≢ None)

-- what a line does that opens a ticket
abbrev pub open_event : ℕ → NodeNo → TicketNo → Past → Event
open_event lane n t past =
    by_refusal (option_or (when (has_ticket lane t.0 past) NameUsed) (without_node n.0 past)) (Opened n t (record { 0 = version_of n.0 past }))

-- a line lists the files of a node: the names in its directory, or the node is down
abbrev pub ListsFiles : At → NodeNo → Run → Run → Type 0
ListsFiles at n old new = IsNow old new (shown at (by_refusal (without_node n.0 (printed old.log)) (Files n (names_at n.0 old))) ∷ old.log)

-- a search starts at the version that the node searches, or its node is down
abbrev pub SearchStarts : At → NodeNo → Run → Run → Turn (Lease Shown) → Type 0
SearchStarts at n old new (Work lease) = let v = version_of n.0 (printed old.log) in
    IsNow old new (shown at (Opened n (record { 0 = 0 }) (record { 0 = v })) ∷ old.log) × ReadsAt (printed old.log) v lease × (is_running n.0 (printed old.log) ≡ true)
SearchStarts at n old new Done = IsRefusedFor at (without_node n.0 (printed old.log)) old new
SearchStarts at n old new Busy = ⊥

-- a search of a ticket starts at its node and version
abbrev pub AsksTicket : At → TicketNo → Option Ticket → Run → Run → Lease Shown → Type 0
AsksTicket at t None old new lease = ⊥
AsksTicket at t (Some ticket) old new lease =
    IsNow old new (shown at (Asking (record { 0 = ticket.node }) t (record { 0 = ticket.version })) ∷ old.log) × ReadsAt (printed old.log) ticket.version lease

-- how it starts, with this version
abbrev pub asked_event : TicketNo → Option Ticket → Version → Event
asked_event t None v = Refused NoTicket
asked_event t (Some ticket) v = Asking (record { 0 = ticket.node }) t v

-- it starts, or the lane has no such ticket
abbrev pub AskStarts : At → TicketNo → Run → Run → Turn (Lease Shown) → Type 0
AskStarts at t old new (Work lease) = AsksTicket at t (open_ticket at.lane.0 t.0 (printed old.log)) old new lease
AskStarts at t old new Done = LineRefused at NoTicket old new × (open_ticket at.lane.0 t.0 (printed old.log) ≡ None)
AskStarts at t old new Busy = ⊥

-- what a line does that closes a ticket
abbrev pub close_by : TicketNo → Option Ticket → Event
close_by t None = Refused NoTicket
close_by t (Some ticket) = Closed (record { 0 = ticket.node }) t

-- the answer is the scan of the documents at the version of the line's start
abbrev pub ScansAt : Past → Option Event → Query → Answer → Type 0
ScansAt past (Some (Opened n t v)) query answer = (t.0 ≡ 0) × (answer ≡ scan_of (documents_at past v.0) query)
ScansAt past (Some (Asking n t v)) query answer = answer ≡ scan_of (documents_at past v.0) query
ScansAt past e query answer = ⊥

-- how a search ends: its line is lost exactly where its node has crashed since its start, and else it is answered
abbrev pub answer_event : Past → Past → Event → NodeNo → TicketNo → Version → Query → Answer → Event
answer_event past start begun n t v query answer = if is_lost past start begun then Refused Lost else Answered n t v query answer

-- a search that has started ends so, behind the faults of disks that giving its point back met
abbrev pub AnswerEnds : At → Option Event → Query → Answer → Run → Run → Type 0
AnswerEnds at (Some (Opened n t v)) query answer old new = let past = printed old.log in
    IsNow old new (shown at (answer_event past (before_start at past) (Opened n t v) n t v query answer) ∷ met_log at old new)
AnswerEnds at (Some (Asking n t v)) query answer old new = let past = printed old.log in
    IsNow old new (shown at (answer_event past (before_start at past) (Asking n t v) n t v query answer) ∷ met_log at old new)
AnswerEnds at e query answer old new = ⊥
