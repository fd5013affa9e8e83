use Rattle.std.proofs.Common.{◌∙◌}
use Rattle.history_facts.proofs.WalkLemmas.{first_version, apart_here, found_here, same_before, apart_before}
use Rattle.history_facts.proofs.searched.version_of.Goals as goal

pub look_at-requires : goal.look_at-requires
look_at-requires c = apart_here c.loop-entry.left.now c.in-Some.front.now c.in-Some.entry.now c.in-Some.ensures.cases.0 c.args.n.0 c.loop-entry.apart c.loop-entry.invariant.apart

pub loop-entry-preserved : goal.loop-entry-preserved
loop-entry-preserved c = record {
  version = same_before c.loop-entry.left.now c.in-Some.front.now c.in-Some.entry.now c.in-Some.ensures.cases.0 c.args.n.0 c.look_at.result c.in-Before.still c.in-Before.is c.look_at.ensures ∙ c.loop-entry.invariant.version;
  apart = apart_before c.loop-entry.left.now c.in-Some.front.now c.in-Some.entry.now c.in-Some.ensures.cases.0 c.args.n.0 c.look_at.result c.in-Before.still c.in-Before.is c.look_at.ensures;
}

pub returns-in-Found : goal.returns-in-Found
returns-in-Found c =
    found_here c.loop-entry.left.now c.in-Some.front.now c.in-Some.entry.now c.in-Some.ensures.cases.0 c.args.n.0 c.look_at.result c.in-Found.version c.in-Found.is c.look_at.ensures ∙ c.loop-entry.invariant.version

pub returns : goal.returns
returns c = first_version c.loop-entry.left.now c.args.n.0 c.in_default.ensures.cases ∙ c.loop-entry.invariant.version
