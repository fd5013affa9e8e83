-- The faults that are planned at nodes.
use Rattle.std.specs.Prelude.{ℕ, ◌≡◌}
use Rattle.history_rules.specs.declared.cause.FaultKind.TheVariants.{Link, Damage, Disk, Stop}
use Rattle.history_rules.specs.Nodes.{Past}
use Rattle.history_rules.specs.Faults.{is_planned}
use Rattle.history_tables.specs.declared.plans.Plans.{Plans}

-- a fault is remembered as planned where the entries show it
pub record PlansTell (past : Past) (n : ℕ) (plans : Plans) : Type 0 where
  pub link : plans.link ≡ is_planned n Link past
  pub damage : plans.damage ≡ is_planned n Damage past
  pub disk : plans.disk ≡ is_planned n Disk past
  pub stop : plans.stop ≡ is_planned n Stop past
