-- What the text of entries shows of them.
use Rattle.std.specs.Prelude.{◌≡◌, ℕ, ◌^◌, ◌<◌, nat_lt, ◌&&◌, List, [], ◌∷◌, Bool, true, ⊤}
use Rattle.std.specs.List.{list_all}
use Rattle.nrt_base.specs.Bytes.{is_key}
use Rattle.file_names.specs.Names.{is_file_name}
use Rattle.documents.specs.declared.answer.Hit.{Hit}
use Rattle.history_rules.specs.declared.cause.Cause.{Cause}
use Rattle.history_rules.specs.declared.cause.Cause.TheVariants.{ForceLow, Cancelled, Damaged}
use Rattle.history_rules.specs.declared.cause.FaultPlan.{FaultPlan}
use Rattle.history_rules.specs.declared.cause.FaultPlan.TheVariants.{Link, Damage, Disk, Stop}
use Rattle.history_rules.specs.declared.entry.Event.{Event}
use Rattle.history_rules.specs.declared.entry.Event.TheVariants.{Accepted, Publishing, Published, Copying, Switched, Copied, Settling, Settled, Opened, Asking, Answered, Closed, Committing, Committed, Crashed, Reopened, Promoted, Merging, Drained, Files, Planned, Fault, Refused}
use Rattle.history_rules.specs.declared.entry.Entry.{Entry}

-- the two events differ at most in what is not printed: an operation, a query, how many tasks were
-- asked for
abbrev pub SamePrintedEvent : Event → Event → Type 0
SamePrintedEvent (Accepted seq op) (Accepted other_seq other_op) = seq ≡ other_seq
SamePrintedEvent (Answered n t v query answer) (Answered m u w other_query other_answer) =
    (n ≡ m) × (t ≡ u) × (v ≡ w) × (answer ≡ other_answer)
SamePrintedEvent (Drained done most) (Drained other_done other_most) = done ≡ other_done
SamePrintedEvent e f = e ≡ f

-- the two entries differ at most in their lanes and in what is not printed of their events
pub record SamePrinted (e f : Entry) : Type 0 where
  pub line : e.at.line ≡ f.at.line
  pub event : SamePrintedEvent e.event f.event

-- entry by entry, and as many in the one list as in the other
abbrev pub AllSamePrinted : List Entry → List Entry → Type 0
AllSamePrinted [] [] = ⊤
AllSamePrinted (e ∷ es) (f ∷ fs) = SamePrinted e f × AllSamePrinted es fs
AllSamePrinted es fs = ⊥

-- a number of at most 64 bits
abbrev pub IsNumber : ℕ → Type 0
IsNumber n = n < 2 ^ 64

-- what a cause prints can be printed
abbrev pub CauseFits : Cause → Type 0
CauseFits (ForceLow v) = IsNumber v.0
CauseFits (Cancelled v) = IsNumber v.0
CauseFits (Damaged name) = is_file_name name ≡ true
CauseFits cause = ⊤

-- what a planned fault prints can be printed
abbrev pub PlanFits : FaultPlan → Type 0
PlanFits (Link k) = IsNumber k
PlanFits (Damage k at) = IsNumber k × IsNumber at
PlanFits (Disk k) = IsNumber k
PlanFits (Stop k) = IsNumber k

-- what a hit prints can be printed: its rank has at most 64 bits, and its key is one
abbrev pub hit_fits : Hit → Bool
hit_fits hit = nat_lt hit.rank (2 ^ 64) && is_key hit.key

-- what an event prints can be printed: its numbers have at most 64 bits, its hits fit and its names
-- are names
abbrev pub EventFits : Event → Type 0
EventFits (Accepted seq op) = IsNumber seq
EventFits Publishing = ⊤
EventFits (Published g v) = IsNumber g.0 × IsNumber v.0
EventFits (Copying n v) = IsNumber n.0 × IsNumber v.0
EventFits (Switched n v) = IsNumber n.0 × IsNumber v.0
EventFits (Copied n v) = IsNumber n.0 × IsNumber v.0
EventFits (Settling v) = IsNumber v.0
EventFits (Settled v) = IsNumber v.0
EventFits (Opened n t v) = IsNumber n.0 × IsNumber t.0 × IsNumber v.0
EventFits (Asking n t v) = IsNumber n.0 × IsNumber t.0 × IsNumber v.0
EventFits (Answered n t v query answer) =
    IsNumber n.0 × IsNumber t.0 × IsNumber v.0 × IsNumber answer.total
    × (list_all hit_fits answer.hits ≡ true)
EventFits (Closed n t) = IsNumber n.0 × IsNumber t.0
EventFits (Committing n v) = IsNumber n.0 × IsNumber v.0
EventFits (Committed n v) = IsNumber n.0 × IsNumber v.0
EventFits (Crashed n) = IsNumber n.0
EventFits (Reopened n v) = IsNumber n.0 × IsNumber v.0
EventFits (Promoted n g forced v) = IsNumber n.0 × IsNumber g.0 × IsNumber forced.0 × IsNumber v.0
EventFits (Merging seg) = IsNumber seg.0
EventFits (Drained done most) = IsNumber done
EventFits (Files n names) = IsNumber n.0 × (list_all is_file_name names ≡ true)
EventFits (Planned n plan) = IsNumber n.0 × PlanFits plan
EventFits (Fault n kind) = IsNumber n.0
EventFits (Refused cause) = CauseFits cause

-- what an entry prints can be printed, as it always can of a value that the program has
pub record EntryFits (e : Entry) : Type 0 where
  pub line : IsNumber e.at.line.0
  pub event : EventFits e.event

-- what each prints can be printed
abbrev pub AllFit : List Entry → Type 0
AllFit [] = ⊤
AllFit (e ∷ es) = EntryFits e × AllFit es
