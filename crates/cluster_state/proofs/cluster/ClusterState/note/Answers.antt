use Rattle.std.proofs.Common.{ap, refl, ◌∙◌}
use Rattle.cluster_state.specs.Run.{Run}
use Rattle.cluster_state.proofs.Frames.{noted, rule_at, told_at}
use Rattle.cluster_state.proofs.FileFrames.{files_noted}
use Rattle.cluster_state.proofs.Ledgers.{still_apart, still_reigns}
use Rattle.cluster_state.proofs.RestKept.{kept_rest}
use Rattle.cluster_state.proofs.MergingStill.{stand_shown, all_keep}
use Rattle.cluster_state.proofs.MergingPaths.{third_at, still_leaves}
use Rattle.cluster_state.proofs.cluster.ClusterState.note.Goals as goal

pub invariant_of-self-2 : goal.invariant_of-self-2
invariant_of-self-2 g c = λ running. (
  noted g.D.Dir.cells c.args.self.now _ c.self.inside.ledger c.reserve.new.self c.show.new.self _ c.args.at c.args.event
      c.self.view_is c.requires.running (λ e. (c.self.invariant e).0) c.in_ok-reserve.ensures.log c.in_ok-reserve.ensures.nodes c.show.ensures.log c.show.ensures.nodes c.show.ensures.legal c.show.ensures.turns
      c.requires.rule c.requires.line c.requires.still c.requires.apart,
  files_noted g.D.Dir.cells c.args.self.now _ c.self.inside.ledger c.reserve.new.self c.show.new.self _ c.args.at c.args.event
      c.self.view_is c.requires.running (λ e. (c.self.invariant e).0) (λ e. (c.self.invariant e).1) c.in_ok-reserve.ensures.log c.in_ok-reserve.ensures.nodes c.show.ensures.log c.show.ensures.nodes
      c.show.ensures.legal c.show.ensures.turns c.requires.rule c.requires.turn c.requires.jobs c.requires.commits c.requires.flights,
  (let was = third_at c.self.view_is c.requires.running c.self.invariant in
      stand_shown c.self.inside.tasks _ _ c.self.inside.ledger c.reserve.new.self c.show.new.self c.args.at c.args.event c.in_ok-reserve.ensures.log c.in_ok-reserve.ensures.nodes c.in_ok-reserve.ensures.cut
      c.show.ensures.log c.show.ensures.nodes c.show.ensures.cut (still_leaves c.args.event _ c.requires.still c.requires.drains) (all_keep _ c.self.inside.tasks _ _ _ was) was),
)

pub show-requires-clause-rule : goal.show-requires-clause-rule
show-requires-clause-rule g c = rule_at c.args.self.now _ c.self.inside.ledger c.reserve.new.self c.args.at c.args.event c.self.view_is c.in_ok-reserve.ensures.log c.in_ok-reserve.ensures.nodes c.requires.rule

pub show-requires-clause-told : goal.show-requires-clause-told
show-requires-clause-told g c = told_at c.args.self.now _ c.self.inside.ledger c.reserve.new.self c.args.at c.args.event c.self.view_is c.in_ok-reserve.ensures.log c.requires.told

pub show-requires-clause-apart : goal.show-requires-clause-apart
show-requires-clause-apart g c = still_apart c.args.event c.requires.still

pub show-requires-clause-reigns : goal.show-requires-clause-reigns
show-requires-clause-reigns g c = still_reigns c.args.event _ c.requires.still

pub returns-clause-tasks : goal.returns-clause-tasks
returns-clause-tasks g c = ap (λ (r : Run). r.rest.tasks) c.self.view_is

pub returns-clause-jobs : goal.returns-clause-jobs
returns-clause-jobs g c = ap (λ (r : Run). r.rest.jobs) c.self.view_is

pub returns-clause-plans : goal.returns-clause-plans
returns-clause-plans g c = ap (λ (r : Run). r.rest.plans) c.self.view_is

pub returns-clause-names : goal.returns-clause-names
returns-clause-names g c = ap (λ (r : Run). r.rest.names) c.self.view_is

pub returns-clause-rest : goal.returns-clause-rest
returns-clause-rest g c = kept_rest c.args.self.now _ _ c.self.view_is refl (c.show.ensures.cut ∙ c.in_ok-reserve.ensures.cut) refl refl refl refl
