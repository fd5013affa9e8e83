use Rattle.std.proofs.Common.{◌∙◌}
use Rattle.history_facts.proofs.WalkLemmas.{first_reigns, reigns_here, reigns_before}
use Rattle.history_facts.proofs.searched.reigns.Goals as goal

pub loop-entry-preserved : goal.loop-entry-preserved
loop-entry-preserved c =
    reigns_before c.loop-entry.left.now c.in-Some.front.now c.in-Some.entry.now c.in-Some.ensures.cases.0 c.args.n.0 c.reigns_by.result c.in-None.is c.reigns_by.ensures ∙ c.loop-entry.invariant

pub returns-in-Some-reigns_by : goal.returns-in-Some-reigns_by
returns-in-Some-reigns_by c =
    reigns_here c.loop-entry.left.now c.in-Some.front.now c.in-Some.entry.now c.in-Some.ensures.cases.0 c.args.n.0 c.reigns_by.result c.in-Some-reigns_by.here c.in-Some-reigns_by.is c.reigns_by.ensures ∙ c.loop-entry.invariant

pub returns : goal.returns
returns c = c.is_at.ensures ∙ (first_reigns c.loop-entry.left.now c.args.n.0 c.in_default.ensures.cases ∙ c.loop-entry.invariant)
