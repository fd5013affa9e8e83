use Rattle.std.proofs.Common.{◌≡◌, ◌∙◌, ap, sym}
use Rattle.link_model.specs.declared.fate.Fate.TheVariants.{Whole, Fail, Damage}
use Rattle.merge_tasks.specs.Fates.{fate_by}
use Rattle.cluster_state.proofs.due.comes_whole.Goals as goal

pub returns-in-Whole-clause-whole : goal.returns-in-Whole-clause-whole
returns-in-Whole-clause-whole c = λ so. ap fate_by (sym c.file_plans.ensures.plans) ∙ (sym c.fate.ensures ∙ c.in-Whole.is)

pub returns-in-Fail-clause-broken : goal.returns-in-Fail-clause-broken
returns-in-Fail-clause-broken c = λ so whole. let same : Fail ≡ Whole = sym c.in-Fail.is ∙ (c.fate.ensures ∙ (ap fate_by c.file_plans.ensures.plans ∙ whole)) in cc

pub returns-in-Damage-clause-broken : goal.returns-in-Damage-clause-broken
returns-in-Damage-clause-broken c = λ so whole. let same : Damage c.in-Damage.field-0 ≡ Whole = sym c.in-Damage.is ∙ (c.fate.ensures ∙ (ap fate_by c.file_plans.ensures.plans ∙ whole)) in cc
