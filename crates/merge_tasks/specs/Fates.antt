-- The faults that are planned for the files handed out to a node, as the list of all entries shows them, and what becomes of the next file.
use Rattle.std.specs.Prelude.{ℕ, ◌≡◌, ◌≤◌, ◌+◌, ◌-◌, ◌==◌, List, [], ◌∷◌, length, get_or, if◌then◌else◌}
use Rattle.history_rules.specs.declared.cause.FaultKind.{FaultKind}
use Rattle.history_rules.specs.declared.cause.FaultKind.TheVariants.{Link, Damage}
use Rattle.history_rules.specs.declared.cause.FaultPlan.{FaultPlan}
use Rattle.history_rules.specs.declared.cause.FaultPlan.TheVariants.{Link as LinkPlan, Damage as DamagePlan}
use Rattle.history_rules.specs.declared.entry.Event.{Event}
use Rattle.history_rules.specs.declared.entry.Event.TheVariants.{Planned, Crashed, Fault}
use Rattle.link_model.specs.declared.fate.Fate.{Fate}
use Rattle.link_model.specs.declared.fate.Fate.TheVariants.{Whole, Fail, Damage as DamageFate}
use Rattle.history_book.specs.declared.inner.Inner.{Inner}
use Rattle.history_book.specs.declared.inner.Inner.TheVariants.{FileOut}
use Rattle.history_book.specs.declared.inner.Mark.TheVariants.{Shown, TaskFault, Kept}
use Rattle.history_book.specs.Log.{Log}
use Rattle.merge_tasks.specs.declared.fates.FilePlans.{FilePlans}

-- no fault is planned for the files of a node
abbrev pub no_file_plans : FilePlans
no_file_plans = record { link = 0; damage = 0; byte = 0 }

-- a new plan takes the place of the one of its kind
abbrev pub replanned : FaultPlan → FilePlans → FilePlans
replanned (LinkPlan k) p = record p { link = k }
replanned (DamagePlan k byte) p = record p { damage = k; byte = byte }
replanned plan p = p

-- a fault that is met uses its plan up
abbrev pub used_up : FaultKind → FilePlans → FilePlans
used_up Link p = record p { link = 0 }
used_up Damage p = record p { damage = 0 }
used_up kind p = p

-- one file less is to come
abbrev pub one_less : FilePlans → FilePlans
one_less p = record p { link = p.link - 1; damage = p.damage - 1 }

-- what a printed entry makes of the plans for the files of a node: a crash of the node ends them
abbrev pub file_plans_by : ℕ → Event → FilePlans → FilePlans
file_plans_by n e p =
    elim e [
      | Planned m plan ↦ if m.0 == n then replanned plan p else p
      | Crashed m ↦ if m.0 == n then no_file_plans else p
      | Fault m kind ↦ if m.0 == n then used_up kind p else p
      | _ ↦ p
    ]

-- what an entry of inner work makes of them
abbrev pub file_plans_inside : ℕ → Inner → FilePlans → FilePlans
file_plans_inside n (FileOut line m job name source fate by) p = if m.0 == n then one_less p else p
file_plans_inside n i p = p

-- The plans for the files of a node that stand: how many files are to be handed out to it, from the next on, up to the one whose link fails,
-- and up to the one that is damaged, 0 where none is planned; and at which byte that is.
abbrev pub file_plans : ℕ → Log → FilePlans
file_plans n [] = no_file_plans
file_plans n (Shown e ∷ log) = file_plans_by n e.event (file_plans n log)
file_plans n (TaskFault e ∷ log) = file_plans_by n e.event (file_plans n log)
file_plans n (Kept i ∷ log) = file_plans_inside n i (file_plans n log)

-- what becomes of the next file under such plans: its link fails where that is due, else it is damaged where that is due
abbrev pub fate_by : FilePlans → Fate
fate_by p = if p.link == 1 then Fail else if p.damage == 1 then DamageFate p.byte else Whole

-- what becomes of the next file that is handed out to a node
abbrev pub fate_due : ℕ → Log → Fate
fate_due n log = fate_by (file_plans n log)

-- a table has a row for each node, and one for number 0, in which its plans stand
pub record PlansShow (size : ℕ) (log : Log) (rows : List FilePlans) : Type 0 where
  pub count : length rows ≡ size + 1
  pub each : (n : ℕ) → n ≤ size → get_or rows n no_file_plans ≡ file_plans n log
