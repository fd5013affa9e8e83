-- What a fault that is planned leaves.
use Rattle.std.specs.Prelude.{ℕ, ◌≡◌, ◌==◌, ◌∷◌, if◌then◌else◌}
use Rattle.nrt_base.specs.declared.numbers.At.{At}
use Rattle.nrt_base.specs.declared.numbers.NodeNo.{NodeNo}
use Rattle.disk_model.specs.Faults.{Plans}
use Rattle.history_rules.specs.declared.cause.FaultPlan.{FaultPlan}
use Rattle.history_rules.specs.declared.cause.FaultPlan.TheVariants.{Disk, Stop}
use Rattle.history_rules.specs.declared.entry.Event.TheVariants.{Planned}
use Rattle.history_book.specs.Log.{shown}
use Rattle.cluster_state.specs.Run.{Run, plans_at, IsNow, KeepsRest}

-- what is planned for the disk of a node is made of what was; for the others it is as before
abbrev pub ReplansDisk : ℕ → (Plans → Plans) → Run → Run → Type 0
ReplansDisk n made old new = (m : ℕ) → plans_at m new ≡ (if n == m then made (plans_at m old) else plans_at m old)

-- a plan for a disk takes the place of the one of its kind; one for a file is none of a disk
abbrev pub with_plan : FaultPlan → Plans → Plans
with_plan (Disk k) p = record p { once = k }
with_plan (Stop k) p = record p { stop = k }
with_plan plan p = p

-- A fault is planned at a node, which may be down: the line has its reply, the disk of the node has the plan where it is one for a disk,
-- and all else that callers are told is as before.
pub record PlansFault (at : At) (n : NodeNo) (plan : FaultPlan) (old new : Run) : Type 0 where
  pub now : IsNow old new (shown at (Planned n plan) ∷ old.log)
  pub rest : KeepsRest old new
  pub plans : ReplansDisk n.0 (with_plan plan) old new
