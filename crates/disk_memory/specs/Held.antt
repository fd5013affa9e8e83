-- What the memory disk holds under one name: its state, and its past outcomes in order.
use Rattle.std.specs.Prelude.{ℕ, ◌-◌, Bool, true, false, if◌then◌else◌, List, [], ◌∷◌, ◌++◌, length, Option, Some, None, is_some, is_none, slice_get, nat_eq}
use Rattle.std.specs.Cmp.Lexicographic.{pointwise}
use Rattle.std.specs.List.{list_any}
use Rattle.disk_model.specs.Disk.{Content, Cell, is_content}
use Rattle.disk_memory.specs.declared.state.State.{State}
use Rattle.disk_memory.specs.declared.state.State.TheVariants.{Absent, Loose, Synced}
use Rattle.disk_memory.specs.declared.state.Outcome.{Outcome}
use Rattle.disk_memory.specs.declared.state.Outcome.TheVariants.{Gone, Exactly, Any}

-- one name: its state, and its past outcomes, oldest first
pub record Held : Type 0 where
  pub state : State
  pub past : List Outcome

-- a name under which nothing is and nothing was
abbrev pub untouched : Held
untouched = record { state = Absent; past = [] }

-- what reads in a state
abbrev pub content_of : State → Content
content_of Absent = None
content_of (Loose bytes) = Some bytes
content_of (Synced bytes) = Some bytes

-- a file exists under the name
abbrev pub has_file : Held → Bool
has_file h = is_some (content_of h.state)

-- the state has bytes that are synced
abbrev pub is_synced : State → Bool
is_synced Absent = false
is_synced (Loose bytes) = false
is_synced (Synced bytes) = true

-- the outcome of a state; of bytes that are not synced, any bytes, and those written are kept
abbrev pub outcome_of : State → Outcome
outcome_of Absent = Gone
outcome_of (Loose bytes) = Any bytes
outcome_of (Synced bytes) = Exactly bytes

-- the outcome may be this content
abbrev pub may_be : Outcome → Content → Bool
may_be Gone o = is_none o
may_be (Exactly bytes) o = is_content (Some bytes) o
may_be (Any bytes) o = is_some o

-- two outcomes are the same; any bytes are, whatever was written
abbrev pub is_same : Outcome → Outcome → Bool
is_same Gone Gone = true
is_same (Exactly bytes) (Exactly other) = pointwise nat_eq bytes other
is_same (Any bytes) (Any other) = true
is_same outcome other = false

-- there is an outcome, and it is the same as this one
abbrev pub is_some_same : Option Outcome → Outcome → Bool
is_some_same None outcome = false
is_some_same (Some last) outcome = is_same last outcome

-- the last of the outcomes is the same as this one
abbrev pub ends_with : List Outcome → Outcome → Bool
ends_with past outcome = is_some_same (slice_get past (length past - 1)) outcome

-- the outcomes with this one gained: as they are where the last one already is the same
abbrev pub gain : List Outcome → Outcome → List Outcome
gain past outcome = if ends_with past outcome then past else past ++ outcome ∷ []

-- a content is one of the outcomes
abbrev pub past_of : List Outcome → Content → Bool
past_of past o = list_any (λ x. may_be x o) past

-- what a name is in a directory
abbrev pub cell : Held → Cell
cell h = record { now = content_of h.state; synced = is_synced h.state; past = past_of h.past }

-- ---- what each call does to a name
-- a state is set, and the outcome of the one before is gained
abbrev pub set_to : State → Held → Held
set_to state h = record { state = state; past = gain h.past (outcome_of h.state) }

-- an outcome is gained
abbrev pub with_outcome : Outcome → Held → Held
with_outcome outcome h = record { state = h.state; past = gain h.past outcome }

-- a state whose bytes are synced
abbrev pub synced : State → State
synced Absent = Absent
synced (Loose bytes) = Synced bytes
synced (Synced bytes) = Synced bytes

-- its bytes are synced
abbrev pub held_flushed : Held → Held
held_flushed h = record { state = synced h.state; past = h.past }

-- its past outcomes are over
abbrev pub held_settled : Held → Held
held_settled h = record { state = h.state; past = [] }

-- how many outcomes removals of the name may still add: once that nothing is there, and that of the state
abbrev pub need : State → List Outcome → ℕ
need Absent past = 0
need (Loose bytes) past = if ends_with past Gone then 1 else 2
need (Synced bytes) past = if ends_with past Gone then 1 else 2
