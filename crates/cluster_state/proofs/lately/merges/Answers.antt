use Rattle.std.proofs.Common.{◌∙◌}
use Rattle.cluster_state.proofs.WalkingBack.{first_merges, merges_here, merges_before}
use Rattle.cluster_state.proofs.lately.merges.Goals as goal

pub loop-entry-preserved : goal.loop-entry-preserved
loop-entry-preserved c =
    merges_before c.loop-entry.left.now c.in-Some.front.now c.in-Some.entry.now c.in-Some.ensures.cases.0 c.args.at c.merges_by.result c.in-None.is c.merges_by.ensures ∙ c.loop-entry.invariant

pub returns-in-Some-merges_by : goal.returns-in-Some-merges_by
returns-in-Some-merges_by c =
    merges_here c.loop-entry.left.now c.in-Some.front.now c.in-Some.entry.now c.in-Some.ensures.cases.0 c.args.at c.merges_by.result c.in-Some-merges_by.starts c.in-Some-merges_by.is c.merges_by.ensures ∙ c.loop-entry.invariant

pub returns : goal.returns
returns c = first_merges c.loop-entry.left.now c.args.at c.in_default.ensures.cases ∙ c.loop-entry.invariant
