use Rattle.std.proofs.Common.{refl, ap, ◌∙◌}
use Rattle.cluster_state.proofs.MergingPaths.{third_at}
use Rattle.cluster_state.proofs.Turning.{running_has}
use Rattle.cluster_merges.proofs.TaskPaths.{none_taken, hands_task, still_all, taken_all}
use Rattle.cluster_state.specs.Run.{Run}
use Rattle.cluster_merges.proofs.KeptMerges.{but_tasks, same_tell}
use Rattle.cluster_merges.proofs.takes.take_task.Goals as goal

pub invariant_of-cluster-in-None : goal.invariant_of-cluster-in-None
invariant_of-cluster-in-None g c = λ running. still_all g.D.Dir.cells c.cluster.inside.places.items c.cluster.inside.ledger c.reserve.new.self c.reserve.new.self c.cluster.inside.tasks c.take.new.self
    c.in_ok-reserve.ensures.log c.in_ok-reserve.ensures.nodes c.in_ok-reserve.ensures.cut c.take.ensures.rows (c.take.ensures.none c.in-None.is) c.take.ensures.counts (running_has c.cluster.view_is c.requires.running c.cluster.invariant)

pub returns-in-None-clause-ok : goal.returns-in-None-clause-ok
returns-in-None-clause-ok g c = none_taken c.args.cluster.now c.cluster.inside.ledger c.reserve.new.self c.cluster.inside.tasks c.cluster.view_is c.in_ok-reserve.ensures.log c.in_ok-reserve.ensures.nodes
    c.take.new.self _ _ _ c.take.ensures.rows (c.take.ensures.none c.in-None.is) c.in-None.ensures.first

pub invariant_of-cluster-in-Some : goal.invariant_of-cluster-in-Some
invariant_of-cluster-in-Some g c = λ running. taken_all g.D.Dir.cells c.cluster.inside.places.items c.cluster.inside.ledger c.reserve.new.self c.keep.new.self c.cluster.inside.tasks c.take.new.self
    c.in_ok-reserve.ensures.log c.in_ok-reserve.ensures.nodes c.in_ok-reserve.ensures.cut c.in-Some.posted c.args.by c.step_of-step.result c.step_of-step.ensures c.keep.ensures.log c.keep.ensures.nodes c.keep.ensures.cut
    c.in-Some.ensures.first c.take.ensures.rows c.take.ensures.counts (running_has c.cluster.view_is c.requires.running c.cluster.invariant)

pub returns-in-Some-clause-ok : goal.returns-in-Some-clause-ok
returns-in-Some-clause-ok g c = hands_task c.args.cluster.now c.cluster.inside.ledger c.reserve.new.self c.cluster.inside.tasks c.cluster.view_is c.in_ok-reserve.ensures.log c.in_ok-reserve.ensures.nodes
    c.cluster.inside.places.items c.keep.new.self c.take.new.self c.in-Some.posted c.args.by c.step_of-step.result _ _ _ c.step_of-step.ensures c.keep.ensures.log c.keep.ensures.nodes c.in-Some.ensures.first c.take.ensures.rows
    (third_at c.cluster.view_is c.requires.running c.cluster.invariant)

pub returns-in-None-clause-rest : goal.returns-in-None-clause-rest
returns-in-None-clause-rest g c = but_tasks c.args.cluster.now _ _ _ _ _ _ _ _ c.cluster.inside.places.items c.cluster.inside.places.items (ap (λ (x : Run). x.rest) c.cluster.view_is) refl c.in_ok-reserve.ensures.cut refl refl (same_tell c.cluster.inside.places.items)

pub returns-in-Some-clause-rest : goal.returns-in-Some-clause-rest
returns-in-Some-clause-rest g c = but_tasks c.args.cluster.now _ _ _ _ _ _ _ _ c.cluster.inside.places.items c.cluster.inside.places.items (ap (λ (x : Run). x.rest) c.cluster.view_is) refl (c.keep.ensures.cut ∙ c.in_ok-reserve.ensures.cut) refl refl (same_tell c.cluster.inside.places.items)
