use Rattle.std.proofs.Common.{◌≡◌, ℕ, ◌+◌, ◌∙◌, length, refl, rules, subst, arith}
use Rattle.commit_steps.specs.StepCalls.{MakesCalls}
use Rattle.index_primary.proofs.LoadCounts.{no_calls, calls_then, row_ends, stopped_at}
use Rattle.index_primary.proofs.StateLemmas.{names_more, metas_more}
use Rattle.index_primary.proofs.states.metas_of.Goals as goal

pub loop-name-init : goal.loop-name-init
loop-name-init g c = record {
  names = search rules;
  metas = search rules;
  cells = refl;
  counted = omega arith;
  calls = no_calls (g.D.Dir.plans c.args.dir.now);
  later = omega arith;
}

pub loop-name-preserved : goal.loop-name-preserved
loop-name-preserved g c = record {
  names = names_more c.args.names.now c.loop-name.name-index c.name-item.result c.loop-name.files c.push.new.self c.in-Ok.file c.loop-name-test.true c.name-item.is c.loop-name.invariant.names c.in-Ok-push.ensures.ok c.in-Ok.ensures.name;
  metas = metas_more (g.D.Dir.cells c.args.dir.now) (g.D.Dir.cells c.loop-name.dir) c.loop-name.files c.push.new.self c.in-Ok.file c.loop-name.invariant.metas c.in-Ok-push.ensures.ok c.loop-name.invariant.cells c.in-Ok.ensures.meta;
  cells = c.in-Ok.ensures.cells ∙ c.loop-name.invariant.cells;
  counted = omega (arith, c.loop-name-test.true);
  calls = calls_then c.loop-name.name-index (g.D.Dir.plans c.args.dir.now) (g.D.Dir.plans c.loop-name.dir) (g.D.Dir.plans c.meta_of.new.dir) c.loop-name.invariant.calls c.in-Ok.ensures.calls;
  later = omega (arith, c.in-Ok.ensures.later, c.loop-name.invariant.later);
}

pub returns-in-Err-clause-calls : goal.returns-in-Err-clause-calls
returns-in-Err-clause-calls g c =
    row_ends (length c.args.names.now) c.loop-name.name-index (g.D.Dir.plans c.args.dir.now) (g.D.Dir.plans c.loop-name.dir) (g.D.Dir.plans c.meta_of.new.dir) c.in-Err.fault c.loop-name-test.true c.loop-name.invariant.calls c.in-Err.ensures.calls

pub returns-in_default-clause-calls : goal.returns-in_default-clause-calls
returns-in_default-clause-calls g c =
    stopped_at (length c.args.names.now) (c.loop-name.name-index + 1) (g.D.Dir.plans c.args.dir.now) (g.D.Dir.plans c.meta_of.new.dir) (omega (arith, c.loop-name-test.true))
    (calls_then c.loop-name.name-index (g.D.Dir.plans c.args.dir.now) (g.D.Dir.plans c.loop-name.dir) (g.D.Dir.plans c.meta_of.new.dir) c.loop-name.invariant.calls c.in-Ok.ensures.calls)

pub returns-clause-calls : goal.returns-clause-calls
returns-clause-calls g c =
    let whole : c.loop-name.name-index ≡ length c.args.names.now = omega (arith, c.loop-name-test.false, c.loop-name.invariant.counted) in
    subst (λ (n : ℕ). MakesCalls n (g.D.Dir.plans c.args.dir.now) (g.D.Dir.plans c.loop-name.dir)) whole c.loop-name.invariant.calls
