-- Why a line is refused before it has started, and why after.
use Rattle.std.specs.Prelude.{ℕ, ◌+◌, ◌^◌, [], ◌∷◌, Bool, true, false, ◌&&◌, ◌||◌, not, ◌==◌, nat_lt, nat_le, length, if◌then◌else◌, Option, Some, None, is_some, is_none}
use Rattle.std.specs.Option.{option_or}
use Rattle.nrt_base.specs.declared.numbers.At.{At}
use Rattle.history_rules.specs.declared.cause.Cause.{Cause}
use Rattle.history_rules.specs.declared.cause.Cause.TheVariants.{Down, Primary, NoPrimary, PrimaryUp, ForceLow, NoTicket, Lost, Cancelled, LinkFault, Damaged, DiskFault, Nothing, Up, NameUsed, NamesSpent, TooManySegments, ForceHigh}
use Rattle.history_rules.specs.declared.entry.Event.TheVariants.{Published}
use Rattle.history_rules.specs.Lines.{before_start}
use Rattle.history_rules.specs.Nodes.{Past, over, primary_of, is_at, is_running, newest_version}
use Rattle.history_rules.specs.Points.{cut_of, cut_has_put, names_drawn, documents_at}
use Rattle.history_rules.specs.Tickets.{has_ticket}
use Rattle.history_rules.specs.Faults.{has_fault, is_of_disk}
use Rattle.history_rules.specs.Commits.{is_disk_fault}
use Rattle.history_rules.specs.Tasks.{merge_count}
use Rattle.history_rules.specs.Started.{is_loss}
use Rattle.nrt_base.specs.SegNumbers.{segments_of_generation}
use Rattle.script_serving.specs.declared.script.Force.{Force}
use Rattle.script_serving.specs.declared.script.Force.TheVariants.{Auto, Exactly}
use Rattle.script_serving.specs.declared.script.LineCommand.{LineCommand}
use Rattle.script_serving.specs.declared.script.LineCommand.TheVariants.{Put, Delete, Drop, Publish, Copy, Settle, Search, Open, Ask, Close, Commit, Crash, Reopen, Promote, Merge, Drain, Files, Fault}

-- the cause, where it holds
abbrev pub when : Bool → Cause → Option Cause
when holds cause = if holds then Some cause else None

-- no primary runs
abbrev pub without_primary : Past → Option Cause
without_primary past = when (is_none (primary_of past)) NoPrimary

-- the node does not run
abbrev pub without_node : ℕ → Past → Option Cause
without_node n past = when (not (is_running n past)) Down

-- the forced version: the newest, or the one that is named
abbrev pub forced_version : Force → Past → ℕ
forced_version Auto past = newest_version past
forced_version (Exactly f) past = f

-- every name of the generation is drawn
abbrev pub names_are_spent : Past → Bool
names_are_spent past = names_drawn past == segments_of_generation

-- why a line is refused before it has started: the first cause of its row that holds (`option_or` takes the first of two)
abbrev pub refusal : LineCommand → ℕ → Past → Option Cause
refusal (Put doc) lane past = without_primary past
refusal (Delete key) lane past = without_primary past
refusal (Drop word) lane past = without_primary past
refusal Publish lane past = option_or (without_primary past) (when (cut_has_put past && names_are_spent past) NamesSpent)
refusal (Copy n) lane past = option_or (without_node n.0 past) (option_or (without_primary past) (when (is_at (primary_of past) n.0) Primary))
refusal Settle lane past = without_primary past
refusal (Search n query) lane past = without_node n.0 past
refusal (Open n t) lane past = option_or (when (has_ticket lane t.0 past) NameUsed) (without_node n.0 past)
refusal (Ask t query) lane past = when (not (has_ticket lane t.0 past)) NoTicket
refusal (Close t) lane past = when (not (has_ticket lane t.0 past)) NoTicket
refusal (Commit n) lane past = without_node n.0 past
refusal (Crash n pick) lane past = without_node n.0 past
refusal (Reopen n) lane past = when (is_running n.0 past) Up
refusal (Promote n force) lane past =
    option_or (without_node n.0 past)
    (option_or (when (is_some (primary_of past)) PrimaryUp)
    (option_or (when (nat_le (2 ^ 62) (forced_version force past)) ForceHigh)
    (when (nat_lt (forced_version force past) (newest_version past)) (ForceLow (record { 0 = newest_version past })))))
refusal (Merge factor) lane past = without_primary past
refusal (Drain most) lane past = None
refusal (Files n) lane past = without_node n.0 past
refusal (Fault n plan) lane past = None

-- how many publishes had a put, and so made a segment
abbrev pub put_publishes : Past → ℕ
put_publishes = over 0 (λ e past k. let has_put = cut_has_put (before_start e.at past) in
    elim e.event [ Published g w ↦ if has_put then k + 1 else k | _ ↦ k ])

-- there may be 256 segments: as many publishes made one, and, where no merge was started, each still has a document
abbrev pub may_be_full : Past → Bool
may_be_full past = nat_le 256 (put_publishes past) && (nat_lt 0 (merge_count past) || nat_le 256 (length (documents_at past (newest_version past))))

-- what a line may be refused for that the history does not decide: segments, sizes and disks do
abbrev pub may_be_refused : LineCommand → At → Past → Cause → Bool
may_be_refused Publish at past Nothing = length (cut_of past) == 0
may_be_refused Publish at past TooManySegments = cut_has_put past && may_be_full past
may_be_refused (Merge factor) at past Nothing = true
may_be_refused (Merge factor) at past NamesSpent = names_are_spent past
may_be_refused (Reopen n) at past DiskFault = has_fault (λ m. m == n.0) is_of_disk at past
may_be_refused command at past cause = false

-- what a copy may be refused for after it has started
abbrev pub is_copy_cause : Cause → Bool
is_copy_cause Lost = true
is_copy_cause (Cancelled v) = true
is_copy_cause LinkFault = true
is_copy_cause (Damaged name) = true
is_copy_cause DiskFault = true
is_copy_cause cause = false

-- what a line may be refused for after it has started
abbrev pub is_late_cause : LineCommand → Cause → Bool
is_late_cause Publish cause = is_loss cause || is_disk_fault cause
is_late_cause (Copy n) cause = is_copy_cause cause
is_late_cause Settle cause = is_copy_cause cause
is_late_cause (Search n query) cause = is_loss cause
is_late_cause (Ask t query) cause = is_loss cause
is_late_cause (Commit n) cause = is_loss cause || is_disk_fault cause
is_late_cause command cause = false
