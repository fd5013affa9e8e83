-- The widths of numbers in an entry: each has at most the bits that the program has for its kind.
use Rattle.std.specs.Prelude.{◌≡◌, ℕ, ◌^◌, ◌<◌, nat_lt, ◌&&◌, Bool, true, ⊤}
use Rattle.std.specs.List.{list_all}
use Rattle.nrt_base.specs.Bytes.{is_key}
use Rattle.file_names.specs.Names.{is_file_name}
use Rattle.documents.specs.declared.answer.Hit.{Hit}
use Rattle.history_rules.specs.declared.cause.Cause.{Cause}
use Rattle.history_rules.specs.declared.cause.Cause.TheVariants.{ForceLow, Cancelled, Damaged}
use Rattle.history_rules.specs.declared.cause.FaultPlan.{FaultPlan}
use Rattle.history_rules.specs.declared.cause.FaultPlan.TheVariants.{Link, Damage, Disk, Stop}
use Rattle.history_rules.specs.declared.entry.Event.{Event}
use Rattle.history_rules.specs.declared.entry.Event.TheVariants.{Accepted, Publishing, Published, Copying, Switched, Copied, Settling, Settled, Opened, Asking, Answered, Closed, Committing, Committed, Crashed, Reopened, Promoted, Merging, Drained, Files, Planned, Fault, Refused}
use Rattle.history_rules.specs.declared.entry.Entry.{Entry}

-- a node has 8 bits
abbrev pub IsNodeWide : ℕ → Type 0
IsNodeWide n = n < 256

-- a ticket has 16 bits
abbrev pub IsTicketWide : ℕ → Type 0
IsTicketWide n = n < 65536

-- a line and a count have 32 bits
abbrev pub IsCountWide : ℕ → Type 0
IsCountWide n = n < 2 ^ 32

-- a version, a generation and a segment have 64 bits
abbrev pub IsVersionWide : ℕ → Type 0
IsVersionWide n = n < 2 ^ 64

-- a cause has a version of 64 bits, or the name of a file
abbrev pub CauseIsNarrow : Cause → Type 0
CauseIsNarrow (ForceLow v) = IsVersionWide v.0
CauseIsNarrow (Cancelled v) = IsVersionWide v.0
CauseIsNarrow (Damaged name) = is_file_name name ≡ true
CauseIsNarrow cause = ⊤

-- the numbers of a plan have 32 bits
abbrev pub PlanIsNarrow : FaultPlan → Type 0
PlanIsNarrow (Link k) = IsCountWide k
PlanIsNarrow (Damage k at) = IsCountWide k × IsCountWide at
PlanIsNarrow (Disk k) = IsCountWide k
PlanIsNarrow (Stop k) = IsCountWide k

-- a hit has a rank of 32 bits, and a key
abbrev pub hit_is_narrow : Hit → Bool
hit_is_narrow hit = nat_lt hit.rank (2 ^ 32) && is_key hit.key

-- the numbers of an event have the bits of their kinds, its hits have keys and its names are names of files
abbrev pub EventIsNarrow : Event → Type 0
EventIsNarrow (Accepted seq op) = IsCountWide seq
EventIsNarrow Publishing = ⊤
EventIsNarrow (Published g v) = IsVersionWide g.0 × IsVersionWide v.0
EventIsNarrow (Copying n v) = IsNodeWide n.0 × IsVersionWide v.0
EventIsNarrow (Switched n v) = IsNodeWide n.0 × IsVersionWide v.0
EventIsNarrow (Copied n v) = IsNodeWide n.0 × IsVersionWide v.0
EventIsNarrow (Settling v) = IsVersionWide v.0
EventIsNarrow (Settled v) = IsVersionWide v.0
EventIsNarrow (Opened n t v) = IsNodeWide n.0 × IsTicketWide t.0 × IsVersionWide v.0
EventIsNarrow (Asking n t v) = IsNodeWide n.0 × IsTicketWide t.0 × IsVersionWide v.0
EventIsNarrow (Answered n t v query answer) =
    IsNodeWide n.0 × IsTicketWide t.0 × IsVersionWide v.0 × IsCountWide answer.total
    × (list_all hit_is_narrow answer.hits ≡ true)
EventIsNarrow (Closed n t) = IsNodeWide n.0 × IsTicketWide t.0
EventIsNarrow (Committing n v) = IsNodeWide n.0 × IsVersionWide v.0
EventIsNarrow (Committed n v) = IsNodeWide n.0 × IsVersionWide v.0
EventIsNarrow (Crashed n) = IsNodeWide n.0
EventIsNarrow (Reopened n v) = IsNodeWide n.0 × IsVersionWide v.0
EventIsNarrow (Promoted n g forced v) =
    IsNodeWide n.0 × IsVersionWide g.0 × IsVersionWide forced.0 × IsVersionWide v.0
EventIsNarrow (Merging seg) = IsVersionWide seg.0
EventIsNarrow (Drained done most) = IsCountWide done
EventIsNarrow (Files n names) = IsNodeWide n.0 × (list_all is_file_name names ≡ true)
EventIsNarrow (Planned n plan) = IsNodeWide n.0 × PlanIsNarrow plan
EventIsNarrow (Fault n kind) = IsNodeWide n.0
EventIsNarrow (Refused cause) = CauseIsNarrow cause

-- the entries that the program can have: each number has the bits of its kind
pub record EntryIsNarrow (e : Entry) : Type 0 where
  pub line : IsCountWide e.at.line.0
  pub event : EventIsNarrow e.event
