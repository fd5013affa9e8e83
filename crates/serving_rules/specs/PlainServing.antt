-- Plain serving: what a history of a script must do, and no more. Each line has its entries, and lines, phases and replays come in their order.
use Rattle.std.specs.Prelude.{ℕ, ◌≡◌, ◌≤◌, ◌+◌, ◌⊎◌, [], ◌∷◌, reverse, Bool, true, false, ◌&&◌, ◌||◌, ◌==◌, nat_le, length, ⊤, Some, None}
use Rattle.nrt_base.specs.declared.numbers.At.{At}
use Rattle.documents.specs.declared.operation.Op.TheVariants.{Put as PutOp, Delete as DeleteOp, Drop as DropOp}
use Rattle.history_rules.specs.declared.cause.Cause.{Cause}
use Rattle.history_rules.specs.declared.cause.Cause.TheVariants.{Nothing, NamesSpent, TooManySegments, DiskFault}
use Rattle.history_rules.specs.declared.entry.Event.{Event}
use Rattle.history_rules.specs.declared.entry.Event.TheVariants.{Accepted, Publishing, Published, Copying, Switched, Copied, Settling, Settled, Opened, Asking, Answered, Closed, Committing, Committed, Crashed, Reopened, Promoted, Merging, Drained, Files as Listed, Planned, Fault as Met, Refused}
use Rattle.history_rules.specs.declared.entry.History.{History}
use Rattle.history_rules.specs.Nodes.{Past, over}
use Rattle.history_rules.specs.Lines.{same_at, last_of_line}
use Rattle.history_rules.specs.Points.{cut_of, cut_has_put}
use Rattle.history_rules.specs.Faults.{has_fault, is_of_disk}
use Rattle.script_serving.specs.declared.script.LineCommand.{LineCommand}
use Rattle.script_serving.specs.declared.script.LineCommand.TheVariants.{Put, Delete, Drop, Publish, Copy, Settle, Search, Open, Ask, Close, Commit, Crash, Reopen, Promote, Merge, Drain, Files, Fault}
use Rattle.script_serving.specs.declared.script.Script.{Script}
use Rattle.script_serving.specs.Lines.{lines_of, lines_of_lane, command_at, has_line, earlier_answered}
use Rattle.script_serving.specs.Refusals.{refusal, forced_version, names_are_spent, is_late_cause}
use Rattle.script_serving.specs.Serves.{is_merge_fault, ServesPhases}
use Rattle.serving_rules.specs.Replay.{IsReplayed}

-- the start entry of a line, where it has one
abbrev pub Starts : LineCommand → Event → Type 0
Starts Publish Publishing = ⊤
Starts (Copy n) (Copying m v) = m ≡ n
Starts Settle (Settling v) = ⊤
Starts (Search n query) (Opened m t v) = (m ≡ n) × (t.0 ≡ 0)
Starts (Ask t query) (Asking m u v) = u ≡ t
Starts (Commit n) (Committing m v) = m ≡ n
Starts command e = ⊥

-- the reply of a line that has no start entry
abbrev pub RepliesAtOnce : LineCommand → Past → Event → Type 0
RepliesAtOnce (Put doc) past (Accepted seq op) = op ≡ PutOp doc
RepliesAtOnce (Delete key) past (Accepted seq op) = op ≡ DeleteOp key
RepliesAtOnce (Drop word) past (Accepted seq op) = op ≡ DropOp word
RepliesAtOnce (Open n t) past (Opened m u v) = (m ≡ n) × (u ≡ t)
RepliesAtOnce (Close t) past (Closed m u) = u ≡ t
RepliesAtOnce (Crash n pick) past (Crashed m) = m ≡ n
RepliesAtOnce (Reopen n) past (Reopened m v) = m ≡ n
RepliesAtOnce (Promote n force) past (Promoted m g f v) = (m ≡ n) × (f.0 ≡ forced_version force past)
RepliesAtOnce (Merge factor) past (Merging seg) = ⊤
RepliesAtOnce (Drain most) past (Drained done bound) = (bound ≡ most) × (done ≤ most)
RepliesAtOnce (Files n) past (Listed m names) = m ≡ n
RepliesAtOnce (Fault n plan) past (Planned m p) = (m ≡ n) × (p ≡ plan)
RepliesAtOnce command past e = ⊥

-- the reply of a line that has started
abbrev pub RepliesLate : LineCommand → Event → Type 0
RepliesLate Publish (Published g v) = ⊤
RepliesLate (Copy n) (Copied m v) = m ≡ n
RepliesLate Settle (Settled v) = ⊤
RepliesLate (Search n query) (Answered m t v q answer) = (m ≡ n) × (t.0 ≡ 0) × (q ≡ query)
RepliesLate (Ask t query) (Answered m u v q answer) = (u ≡ t) × (q ≡ query)
RepliesLate (Commit n) (Committed m v) = m ≡ n
RepliesLate command e = ⊥

-- how many publishes have ended
abbrev pub published_count : Past → ℕ
published_count = over 0 (λ e past k. elim e.event [ Published g v ↦ k + 1 | _ ↦ k ])

-- a line may be refused for this before it has started, which segments, sizes and disks decide
abbrev pub is_left_open : LineCommand → At → Past → Cause → Bool
is_left_open Publish at past Nothing = length (cut_of past) == 0
is_left_open Publish at past TooManySegments = cut_has_put past && nat_le 256 (published_count past)
is_left_open (Merge factor) at past Nothing = true
is_left_open (Merge factor) at past NamesSpent = names_are_spent past
is_left_open (Reopen n) at past DiskFault = has_fault (λ m. m == n.0) is_of_disk at past
is_left_open command at past cause = false

-- the line is refused for the first cause that holds here, or, where none does, for one that segments, sizes and disks decide
abbrev pub IsRefusedHere : LineCommand → At → Past → Cause → Type 0
IsRefusedHere command at past cause =
    (refusal command at.lane.0 past ≡ Some cause) ⊎ ((refusal command at.lane.0 past ≡ None) × (is_left_open command at past cause ≡ true))

-- here no cause to refuse the line holds
abbrev pub IsUnrefused : LineCommand → At → Past → Type 0
IsUnrefused command at past = refusal command at.lane.0 past ≡ None

-- the line has no entry yet but faults
abbrev pub IsUntouched : At → Past → Type 0
IsUntouched at past = last_of_line at past ≡ None

-- the first of an entry of the line, and the second of an entry of another
abbrev pub if_own : Bool → Type 0 → Type 0 → Type 0
if_own true own other = own
if_own false own other = other

-- The entry of its line starts it, where nothing refuses it; or it is a fault, and the line has started (`still`).
abbrev pub StartsBy : LineCommand → At → Past → Event → Type 0 → Type 0
StartsBy command at past (Met n kind) still = still
StartsBy command at past e still = Starts command e × IsUnrefused command at past × IsUntouched at past

-- a line has started, and met faults at most since
abbrev pub HasStarted : LineCommand → At → Past → Type 0
HasStarted command at [] = ⊥
HasStarted command at (e ∷ past) =
    if_own (same_at e.at at) (StartsBy command at past e.event (HasStarted command at past)) (HasStarted command at past)

-- The entry of its line starts it; or it switches a replica, once for a copy and as often as it likes for a settle; or it is a fault.
abbrev pub WorksBy : LineCommand → At → Past → Event → Type 0 → Type 0 → Type 0
WorksBy command at past (Met n kind) started still = still
WorksBy (Copy n) at past (Switched m v) started still = (m ≡ n) × started
WorksBy Settle at past (Switched m v) started still = still
WorksBy command at past e started still = Starts command e × IsUnrefused command at past × IsUntouched at past

-- a line has started, and switched replicas and met faults at most since
abbrev pub IsAtWork : LineCommand → At → Past → Type 0
IsAtWork command at [] = ⊥
IsAtWork command at (e ∷ past) =
    if_own (same_at e.at at) (WorksBy command at past e.event (HasStarted command at past) (IsAtWork command at past)) (IsAtWork command at past)

-- The entry of its line ends it: it is refused, at once or at work; or it has its reply, at once or at work. Behind that a merge meets faults,
-- and with a log a promotion accepts operations again (`still`).
abbrev pub EndsBy : Bool → LineCommand → At → Past → Event → Type 0 → Type 0 → Type 0
EndsBy log command at past (Refused cause) work still =
    (IsRefusedHere command at past cause × IsUntouched at past) ⊎ ((is_late_cause command cause ≡ true) × work)
EndsBy log (Merge factor) at past (Met n kind) work still = still
EndsBy log (Promote n force) at past (Accepted seq op) work still = (log ≡ true) × still
EndsBy log command at past e work still = (RepliesAtOnce command past e × IsUnrefused command at past × IsUntouched at past) ⊎ (RepliesLate command e × work)

-- a line has the entries that it asks for, with one reply
abbrev pub HasEnded : Bool → LineCommand → At → Past → Type 0
HasEnded log command at [] = ⊥
HasEnded log command at (e ∷ past) =
    if_own (same_at e.at at) (EndsBy log command at past e.event (IsAtWork command at past) (HasEnded log command at past)) (HasEnded log command at past)

-- each entry is of a line of the script, and comes after the replies of the lines before it in its lane, faults of merges excepted
abbrev pub KeepsLanes : Script → Past → Type 0
KeepsLanes script [] = ⊤
KeepsLanes script (e ∷ past) = let lines = lines_of_lane e.at.lane.0 script in
    (has_line (lines_of script) e.at ≡ true)
    × ((is_merge_fault (command_at lines e.at) e.event || earlier_answered lines e.at past) ≡ true)
    × KeepsLanes script past

-- each line of the script has its entries, lanes and phases come in order, and with a log each promotion accepts again what its point lacks
pub record PlainlyServes (script : Script) (h : History) : Type 0 where
  pub nodes : h.nodes ≡ script.nodes
  pub lines : (at : At) (command : LineCommand) → command_at (lines_of_lane at.lane.0 script) at ≡ Some command → HasEnded script.log command at (reverse h.entries)
  pub lanes : KeepsLanes script (reverse h.entries)
  pub phases : ServesPhases (lines_of script) script.phases (reverse h.entries)
  pub replays : script.log ≡ true → IsReplayed h
