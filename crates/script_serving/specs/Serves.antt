-- Which histories serve a script: they answer each line once, in order, with what it asks for.
use Rattle.std.specs.Prelude.{◌≡◌, ◌≤◌, List, [], ◌∷◌, reverse, Bool, true, false, ◌||◌, ⊤, Option, Some, None}
use Rattle.nrt_base.specs.declared.numbers.At.{At}
use Rattle.documents.specs.declared.operation.Op.{Op}
use Rattle.documents.specs.declared.operation.Op.TheVariants.{Put as PutOp, Delete as DeleteOp, Drop as DropOp}
use Rattle.history_rules.specs.declared.cause.Cause.{Cause}
use Rattle.history_rules.specs.declared.entry.Event.{Event}
use Rattle.history_rules.specs.declared.entry.Event.TheVariants.{Accepted, Publishing, Published, Copying, Switched, Copied, Settling, Settled, Opened, Asking, Answered, Closed, Committing, Committed, Crashed, Reopened, Promoted, Merging, Drained, Files as Listed, Planned, Fault as Met, Refused}
use Rattle.history_rules.specs.declared.entry.History.{History}
use Rattle.history_rules.specs.Nodes.{Past}
use Rattle.history_rules.specs.Lines.{same_at, is_answered, last_of_line}
use Rattle.script_serving.specs.declared.script.Line.{Line}
use Rattle.script_serving.specs.declared.script.LineCommand.{LineCommand}
use Rattle.script_serving.specs.declared.script.LineCommand.TheVariants.{Put, Delete, Drop, Publish, Copy, Settle, Search, Open, Ask, Close, Commit, Crash, Reopen, Promote, Merge, Drain, Files, Fault}
use Rattle.script_serving.specs.declared.script.Phase.{Phase}
use Rattle.script_serving.specs.declared.script.Script.{Script}
use Rattle.script_serving.specs.Lines.{lines_of, lines_of_lane, command_at, all_answered, earlier_answered, earlier_phases_answered}
use Rattle.script_serving.specs.Refusals.{refusal, forced_version, put_publishes, may_be_refused, is_late_cause}
use Rattle.script_serving.specs.Replays.{due}

-- the first entry of a line that is not refused at once: its start entry, or its reply where it has no start entry
abbrev pub Begins : LineCommand → Past → Event → Type 0
Begins (Put doc) past (Accepted seq op) = op ≡ PutOp doc
Begins (Delete key) past (Accepted seq op) = op ≡ DeleteOp key
Begins (Drop word) past (Accepted seq op) = op ≡ DropOp word
Begins Publish past Publishing = ⊤
Begins (Copy n) past (Copying m v) = m ≡ n
Begins Settle past (Settling v) = ⊤
Begins (Search n query) past (Opened m t v) = (m ≡ n) × (t.0 ≡ 0)
Begins (Open n t) past (Opened m u v) = (m ≡ n) × (u ≡ t)
Begins (Ask t query) past (Asking m u v) = u ≡ t
Begins (Close t) past (Closed m u) = u ≡ t
Begins (Commit n) past (Committing m v) = m ≡ n
Begins (Crash n pick) past (Crashed m) = m ≡ n
Begins (Reopen n) past (Reopened m v) = m ≡ n
Begins (Promote n force) past (Promoted m g f v) = (m ≡ n) × (f.0 ≡ forced_version force past)
Begins (Merge factor) past (Merging seg) = factor ≤ put_publishes past
Begins (Drain most) past (Drained done bound) = (bound ≡ most) × (done ≤ most)
Begins (Files n) past (Listed m names) = m ≡ n
Begins (Fault n plan) past (Planned m p) = (m ≡ n) × (p ≡ plan)
Begins command past e = ⊥

-- the first entry that is no fault: the refusal that holds, or one that may hold, or the line's beginning
abbrev pub First : LineCommand → At → Past → Option Cause → Event → Type 0
First command at past (Some cause) e = e ≡ Refused cause
First command at past None (Refused cause) = may_be_refused command at past cause ≡ true
First command at past None e = Begins command past e

-- an entry that follows the start of a line: a switch of a copy or a settle, the reply, or a refusal
abbrev pub Follows : LineCommand → Event → Event → Type 0
Follows command last (Refused cause) = is_late_cause command cause ≡ true
Follows Publish last (Published g v) = ⊤
Follows (Copy n) (Copying k w) (Switched m v) = m ≡ n
Follows (Copy n) last (Copied m v) = m ≡ n
Follows Settle last (Switched m v) = ⊤
Follows Settle last (Settled v) = ⊤
Follows (Search n query) last (Answered m t v q answer) = (m ≡ n) × (t.0 ≡ 0) × (q ≡ query)
Follows (Ask t query) last (Answered m u v q answer) = (u ≡ t) × (q ≡ query)
Follows (Commit n) last (Committed m v) = m ≡ n
Follows command last e = ⊥

-- the entry is one that its line asks for, after the line's newest one
abbrev pub Suits : LineCommand → At → Past → Option Event → Event → Type 0
Suits command at past None e = First command at past (refusal command at.lane.0 past) e
Suits command at past (Some last) e = (is_answered at past ≡ false) × Follows command last e

-- a fault comes before its line's reply and in its turn; one of a merge at any time
abbrev pub SuitsFault : LineCommand → List Line → At → Past → Type 0
SuitsFault (Merge factor) lines at past = ⊤
SuitsFault command lines at past = (is_answered at past ≡ false) × (earlier_answered lines at past ≡ true)

-- the entry is one that its line asks for, in the line's turn
abbrev pub FitsTurn : List Line → Past → At → Option LineCommand → Event → Type 0
FitsTurn lines past at None e = ⊥
FitsTurn lines past at (Some command) (Met n kind) = SuitsFault command lines at past
FitsTurn lines past at (Some command) e = Suits command at past (last_of_line at past) e × (earlier_answered lines at past ≡ true)

-- the newest entry is of this line
abbrev pub is_newest_at : At → Past → Bool
is_newest_at at [] = false
is_newest_at at (e ∷ past) = same_at e.at at

-- the entry goes on with a replay: the line of the promotion accepts this operation again
abbrev pub FitsReplay : Op → Past → At → Option LineCommand → Event → Type 0
FitsReplay op past at (Some (Promote n force)) (Accepted seq again) = (again ≡ op) × (is_newest_at at past ≡ true)
FitsReplay op past at command e = ⊥

-- the entry is one that its line asks for; while operations are due to be accepted again, it is the first of them
abbrev pub Fits : List Op → List Line → Past → At → Option LineCommand → Event → Type 0
Fits [] lines past at command e = FitsTurn lines past at command e
Fits (op ∷ ops) lines past at command e = FitsReplay op past at command e

-- each entry is one that its line asks for, in the line's turn in its lane or in the replay of a script
-- with a log
abbrev pub ServesLanes : Script → Past → Type 0
ServesLanes script [] = ⊤
ServesLanes script (e ∷ past) = let lines = lines_of_lane e.at.lane.0 script in
    Fits (due script.log past) lines past e.at (command_at lines e.at) e.event
    × ServesLanes script past

-- the entry is a fault of a merge
abbrev pub is_merge_fault : Option LineCommand → Event → Bool
is_merge_fault (Some (Merge factor)) (Met n kind) = true
is_merge_fault command e = false

-- every entry comes after the replies of the phases before its own, faults of merges excepted
abbrev pub ServesPhases : List Line → List Phase → Past → Type 0
ServesPhases lines phases [] = ⊤
ServesPhases lines phases (e ∷ past) =
    ((is_merge_fault (command_at lines e.at) e.event || earlier_phases_answered phases e.at past) ≡ true) × ServesPhases lines phases past

-- a history serves a script where each lane's lines are answered once, in order, phase follows phase, and what a log has is accepted again behind each promotion
pub record Serves (script : Script) (h : History) : Type 0 where
  pub nodes : h.nodes ≡ script.nodes
  pub lanes : ServesLanes script (reverse h.entries)
  pub phases : ServesPhases (lines_of script) script.phases (reverse h.entries)
  pub answered : all_answered (lines_of script) (reverse h.entries) ≡ true
  pub replayed : due script.log (reverse h.entries) ≡ []
