-- How lines end that have started: as they should, unless something befell them.
use Rattle.std.specs.Prelude.{ℕ, ◌≡◌, ◌⊎◌, List, ◌∷◌, ◌++◌, reverse, Bool, true, false, Some}
use Rattle.nrt_base.specs.declared.numbers.At.{At}
use Rattle.history_rules.specs.declared.cause.Cause.{Cause}
use Rattle.history_rules.specs.declared.cause.Cause.TheVariants.{Cancelled, LinkFault, Damaged, DiskFault}
use Rattle.history_rules.specs.declared.entry.Entry.{Entry}
use Rattle.history_rules.specs.declared.entry.Event.{Event}
use Rattle.history_rules.specs.declared.entry.Event.TheVariants.{Publishing, Published, Copying, Copied, Settling, Settled, Answered, Committed, Refused}
use Rattle.history_rules.specs.declared.entry.History.{History}
use Rattle.history_rules.specs.Nodes.{Past}
use Rattle.history_rules.specs.Lines.{is_reply, start_entry, before_start}
use Rattle.history_rules.specs.Started.{StartedSearch, is_lost}
use Rattle.history_rules.specs.Commits.{starts_commit}
use Rattle.history_rules.specs.Faults.{has_met_fault}
use Rattle.history_rules.specs.Rules.{MayCancel}

-- The reply is the one that the start of its line asks for: a publish is published; a copy and a settle end with their version, a copy at
-- its node; a search is answered at its node, ticket and version; a commit is acknowledged at its node.
abbrev pub IsFinish : Event → Event → Type 0
IsFinish begun (Published g v) = begun ≡ Publishing
IsFinish begun (Copied n v) = begun ≡ Copying n v
IsFinish begun (Settled v) = begun ≡ Settling v
IsFinish begun (Answered n t v query answer) = StartedSearch n t v (Some begun)
IsFinish begun (Committed n v) = starts_commit n.0 (Some begun) ≡ true
IsFinish begun e = ⊥

-- a line that has started has met no fault, and neither its node nor its source has crashed since
pub record IsUnharmed (at : At) (past : Past) (begun : Event) : Type 0 where
  pub spared : has_met_fault at past ≡ false
  pub alive : is_lost past (before_start at past) begun ≡ false

-- the line is refused as cancelled: another line has started a later job at a node of it
abbrev pub IsSuperseded : ℕ → At → Past → Event → Event → Type 0
IsSuperseded size at past begun (Refused (Cancelled v)) = MayCancel size past at (before_start at past) begun v
IsSuperseded size at past begun e = ⊥

-- a line that has started, and was not harmed, has the reply that its start asks for, or was cancelled by a later job
abbrev pub UnharmedLinesFinish : History → Type 0
UnharmedLinesFinish h =
    (before after : List Entry) (r : Entry) (begun : Event)
    → h.entries ≡ before ++ r ∷ after → is_reply r.event ≡ true → start_entry r.at (reverse before) ≡ Some begun
    → IsUnharmed r.at (reverse before) begun
    → IsFinish begun r.event ⊎ IsSuperseded h.nodes r.at (reverse before) begun r.event

-- the cause is a fault of the link, of a file or of a disk
abbrev pub is_fault_cause : Cause → Bool
is_fault_cause LinkFault = true
is_fault_cause (Damaged name) = true
is_fault_cause DiskFault = true
is_fault_cause cause = false

-- a line that is refused for a fault has met one
abbrev pub FaultsWereMet : History → Type 0
FaultsWereMet h =
    (before after : List Entry) (r : Entry) (cause : Cause)
    → h.entries ≡ before ++ r ∷ after → r.event ≡ Refused cause → is_fault_cause cause ≡ true
    → has_met_fault r.at (reverse before) ≡ true
