-- A fault put in front of a past, and which entries keep their rules over it.
use Rattle.std.specs.Prelude.{ℕ, ◌≡◌, ◌∷◌, Bool, true, false, ◌&&◌, not, Option, is_some}
use Rattle.nrt_base.specs.declared.numbers.At.{At}
use Rattle.nrt_base.specs.declared.numbers.NodeNo.{NodeNo}
use Rattle.history_rules.specs.declared.cause.FaultKind.{FaultKind}
use Rattle.history_rules.specs.declared.entry.Event.{Event}
use Rattle.history_rules.specs.declared.entry.Event.TheVariants.{Accepted, Publishing, Copied, Settling, Opened, Asking, Committing, Reopened, Merging, Drained, Files, Planned, Fault, Refused}
use Rattle.history_rules.specs.Nodes.{Past}
use Rattle.history_rules.specs.Lines.{start_entry}
use Rattle.history_rules.specs.Commits.{is_disk_fault}
use Rattle.history_rules.specs.Faults.{is_of_disk}
use Rattle.history_rules.specs.Legal.{KeepsRule}

-- a fault of a line at a node, in front of the past
abbrev pub faulted : At → NodeNo → FaultKind → Past → Past
faulted at n kind past = record { at = at; event = Fault n kind } ∷ past

-- the rule of the entry asks neither for a line that met no fault, nor for a plan that stands, nor for the newest entry
abbrev pub stands_over : Option Event → Event → Bool
stands_over begun (Accepted seq op) = false
stands_over begun Publishing = false
stands_over begun (Copied n v) = false
stands_over begun (Settling v) = false
stands_over begun (Asking n t v) = false
stands_over begun (Committing n v) = false
stands_over begun (Opened n t v) = false
stands_over begun (Reopened n v) = false
stands_over begun (Merging seg) = false
stands_over begun (Drained done most) = false
stands_over begun (Files n names) = false
stands_over begun (Planned n plan) = false
stands_over begun (Fault n kind) = false
stands_over begun (Refused cause) = is_some begun && not (is_disk_fault cause)
stands_over begun e = true

-- such an entry keeps its rule over a fault of a disk, of any line
abbrev pub KeepsOver : Type 0
KeepsOver =
    (size : ℕ) (past : Past) (at : At) (e : Event) (by : At) (n : NodeNo) (kind : FaultKind)
    → is_of_disk kind ≡ true
    → stands_over (start_entry at past) e ≡ true
    → KeepsRule size past at e → KeepsRule size (faulted by n kind past) at e
