-- What the entries before a place show of one line of the script: how far it has come, and what happened since it began.
use Rattle.std.specs.Prelude.{ℕ, ◌≡◌, [], ◌∷◌, Bool, true, false, ◌&&◌, ◌||◌, not, ◌==◌, nat_lt, max, if◌then◌else◌, Option, Some, None}
use Rattle.std.specs.List.{list_any}
use Rattle.nrt_base.specs.declared.numbers.At.{At}
use Rattle.history_rules.specs.declared.entry.Event.{Event}
use Rattle.history_rules.specs.declared.entry.Event.TheVariants.{Accepted, Publishing, Published, Copying, Switched, Copied, Settling, Settled, Opened, Asking, Answered, Closed, Committing, Committed, Crashed, Reopened, Promoted, Merging, Drained, Files, Planned, Fault, Refused}
use Rattle.history_rules.specs.Nodes.{Past, over, primary_of, is_at, crashes, primary_crashes}

-- the two are one line of the script
abbrev pub same_at : At → At → Bool
same_at a b = (a.lane.0 == b.lane.0) && (a.line.0 == b.line.0)

-- the event starts a line: its reply is still to come
abbrev pub is_start : Event → Bool
is_start Publishing = true
is_start (Copying n v) = true
is_start (Settling v) = true
is_start (Opened n t v) = t.0 == 0
is_start (Asking n t v) = true
is_start (Committing n v) = true
is_start e = false

-- the event answers its line: it neither starts it, nor happens while it is done
abbrev pub is_reply : Event → Bool
is_reply (Accepted seq op) = true
is_reply Publishing = false
is_reply (Published g v) = true
is_reply (Copying n v) = false
is_reply (Switched n v) = false
is_reply (Copied n v) = true
is_reply (Settling v) = false
is_reply (Settled v) = true
is_reply (Opened n t v) = not (t.0 == 0)
is_reply (Asking n t v) = false
is_reply (Answered n t v query answer) = true
is_reply (Closed n t) = true
is_reply (Committing n v) = false
is_reply (Committed n v) = true
is_reply (Crashed n) = true
is_reply (Reopened n v) = true
is_reply (Promoted n g f v) = true
is_reply (Merging seg) = true
is_reply (Drained done most) = true
is_reply (Files n names) = true
is_reply (Planned n plan) = true
is_reply (Fault n kind) = false
is_reply (Refused cause) = true

-- the entries of a line, newest first
abbrev pub entries_of_line : At → Past → Past
entries_of_line at [] = []
entries_of_line at (e ∷ past) = if same_at e.at at then e ∷ entries_of_line at past else entries_of_line at past

-- the newest entry of a line that is no fault: how far the line has come
abbrev pub last_of_line : At → Past → Option Event
last_of_line at = over None (λ e past last.
    if same_at e.at at then elim e.event [ Fault n kind ↦ last | event ↦ Some event ] else last)

-- the line has its reply
abbrev pub is_answered : At → Past → Bool
is_answered at past = list_any (λ e. is_reply e.event && same_at e.at at) past

-- the start entry of a line, the last where there are several
abbrev pub start_entry : At → Past → Option Event
start_entry at [] = None
start_entry at (e ∷ past) = if is_start e.event && same_at e.at at then Some e.event else start_entry at past

-- the entries before the start entry of a line
abbrev pub before_start : At → Past → Past
before_start at [] = []
before_start at (e ∷ past) = if is_start e.event && same_at e.at at then past else before_start at past

-- a node has not crashed since the start entry of a line
pub record NodeSurvives (past : Past) (at : At) (n : ℕ) : Type 0 where
  pub node : crashes n past ≡ crashes n (before_start at past)

-- the primary at the start entry of a line has not crashed since
pub record SourceSurvives (past : Past) (at : At) : Type 0 where
  pub source : primary_crashes past ≡ primary_crashes (before_start at past)

-- the line forgets what it had in flight
abbrev pub without_at : At → Option At → Option At
without_at at None = None
without_at at (Some a) = if same_at at a then None else Some a

-- the line whose publish is between its start and its reply, its primary not crashed since
abbrev pub publish_in_flight : Past → Option At
publish_in_flight = over None (λ e past old. elim e.event [
  | Publishing ↦ Some e.at
  | Crashed m ↦ if is_at (primary_of past) m.0 then None else without_at e.at old
  | event ↦ if is_reply event then without_at e.at old else old
])

-- the line whose commit at a node is between its start and its reply, the node not crashed since
abbrev pub commit_in_flight : ℕ → Past → Option At
commit_in_flight n = over None (λ e past old. elim e.event [
  | Committing m v ↦ if m.0 == n then Some e.at else old
  | Crashed m ↦ if m.0 == n then None else without_at e.at old
  | event ↦ if is_reply event then without_at e.at old else old
])

-- the line whose copy of a version to a node is between its start and its reply,
-- neither the node nor the primary crashed since
abbrev pub copy_in_flight : ℕ → ℕ → Past → Option At
copy_in_flight n v = over None (λ e past old. elim e.event [
  | Copying m w ↦ if (m.0 == n) && (w.0 == v) then Some e.at else old
  | Crashed m ↦ if (m.0 == n) || is_at (primary_of past) m.0 then None else without_at e.at old
  | event ↦ if is_reply event then without_at e.at old else old
])

-- no line but this one is in flight
abbrev pub is_free_for : At → Option At → Bool
is_free_for at None = true
is_free_for at (Some a) = same_at at a

-- the greatest node that the line has switched since its start entry, or 0
abbrev pub highest_switched : At → Past → ℕ
highest_switched at = over 0 (λ e past k. if same_at e.at at then
    (if is_start e.event then 0 else elim e.event [ Switched n v ↦ max k n.0 | _ ↦ k ]) else k)

-- the line has switched a replica since its start entry
abbrev pub has_switched : At → Past → Bool
has_switched at past = nat_lt 0 (highest_switched at past)

-- the newest entry switched a replica for the line
abbrev pub has_just_switched : At → Past → Bool
has_just_switched at [] = false
has_just_switched at (e ∷ past) = elim e.event [ Switched n v ↦ true | _ ↦ false ] && same_at e.at at
