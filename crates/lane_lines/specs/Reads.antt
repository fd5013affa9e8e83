-- What a lane knows of a search that was handed out to it, and of its answer.
use Rattle.std.specs.Prelude.{◌≡◌, ◌≤◌, Option, Some, ⊤}
use Rattle.nrt_base.specs.declared.numbers.At.{At}
use Rattle.nrt_base.specs.declared.numbers.NodeNo.{NodeNo}
use Rattle.nrt_base.specs.declared.numbers.TicketNo.{TicketNo}
use Rattle.documents.specs.declared.query.Query.{Query}
use Rattle.documents.specs.declared.answer.Answer.{Answer}
use Rattle.seg_reader.specs.Shown.{Shown}
use Rattle.searcher_switch.specs.declared.searchers.Lease.{Lease}
use Rattle.history_rules.specs.declared.entry.Event.{Event}
use Rattle.history_rules.specs.declared.entry.Event.TheVariants.{Opened, Asking}
use Rattle.history_rules.specs.Nodes.{Past, newest_version}
use Rattle.history_rules.specs.Lines.{last_of_line}
use Rattle.history_book.specs.Log.{Log, printed}
use Rattle.cluster_state.specs.State.{ReadsAt}
use Rattle.cluster_state.specs.Calls.{ScansAt}

-- a line has begun with this event, and reads the point of this version
pub record IsReading (at : At) (begun : Event) (lease : Lease Shown) (log : Log) : Type 0 where
  pub last : last_of_line at (printed log) ≡ Some begun
  pub reads : ReadsAt (printed log) lease.version.0 lease

-- a line has begun to search a node
abbrev pub IsSearchingNode : At → NodeNo → Lease Shown → Log → Type 0
IsSearchingNode at n lease log = IsReading at (Opened n (record { 0 = 0 }) lease.version) lease log

-- a line has begun to search a ticket, of some node
abbrev pub IsAskingTicket : At → TicketNo → Lease Shown → Log → Type 0
IsAskingTicket at t lease log = (n : NodeNo) × IsReading at (Asking n t lease.version) lease log

-- a search that has started so is at a version that is known
abbrev pub IsKnownStart : Past → Option Event → Type 0
IsKnownStart past (Some (Opened n t v)) = v.0 ≤ newest_version past
IsKnownStart past (Some (Asking n t v)) = v.0 ≤ newest_version past
IsKnownStart past e = ⊤

-- the answer is that of the search that the line has begun
pub record IsEvaluated (at : At) (query : Query) (answer : Answer) (log : Log) : Type 0 where
  pub right : ScansAt (printed log) (last_of_line at (printed log)) query answer
  pub known : IsKnownStart (printed log) (last_of_line at (printed log))
