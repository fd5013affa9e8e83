use Rattle.std.proofs.Common.{ap, refl, sym, ℕ}
use Rattle.disk_model.specs.Faults.{Plans}
use Rattle.history_rules.specs.Nodes.{IsNode}
use Rattle.cluster_state.specs.Run.{Run}
use Rattle.cluster_state.proofs.FileFrames.{put_one}
use Rattle.cluster_state.proofs.Frames.{slot_at, slot_kept, there_at}
use Rattle.cluster_state.proofs.Ledgers.{asked_size}
use Rattle.cluster_state.proofs.RestKept.{put_keeps}
use Rattle.cluster_recovery.proofs.Replanning.{node_told, plans_made, stands_replanned}
use Rattle.cluster_recovery.proofs.faults.plan_stop.Goals as goal

pub take-place-requires-clause-slot : goal.take-place-requires-clause-slot
take-place-requires-clause-slot g c =
    slot_at g.D.Dir.cells c.args.cluster.now _ c.cluster.inside.ledger.nodes c.args.n.0 c.cluster.inside.ledger.log c.cluster.inside.places.items c.cluster.view_is c.requires.running (λ e. (c.cluster.invariant e).0) c.requires.node

pub take-place-requires-clause-there : goal.take-place-requires-clause-there
take-place-requires-clause-there g c =
    there_at g.D.Dir.cells c.args.cluster.now _ c.cluster.inside.ledger.nodes c.args.n.0 c.cluster.inside.ledger.log c.cluster.inside.places.items c.cluster.view_is c.requires.running (λ e. (c.cluster.invariant e).0) c.requires.node

pub put-requires : goal.put-requires
put-requires g c = record {
  slot = slot_kept g.D.Dir.cells c.cluster.inside.places.items c.take-place.new.places.items c.args.n.0 c.take-place.ensures.count
      (slot_at g.D.Dir.cells c.args.cluster.now _ c.cluster.inside.ledger.nodes c.args.n.0 c.cluster.inside.ledger.log c.cluster.inside.places.items c.cluster.view_is c.requires.running (λ e. (c.cluster.invariant e).0) c.requires.node);
}

pub invariant_of-cluster : goal.invariant_of-cluster
invariant_of-cluster g c = λ running.
    let moves = put_one g.D.Dir.cells c.args.n.0 c.stop_in.new.place c.cluster.inside.places.items c.take-place.new.places.items c.put.new.places.items
    (record { count = c.take-place.ensures.count; taken = c.take-place.ensures.places; again = c.put.ensures.count; there = c.put.ensures.places }) in
    stands_replanned g.D.Dir.cells c.cluster.inside.ledger.nodes c.cluster.inside.ledger.log c.cluster.inside.places.items c.put.new.places.items c.args.n.0 c.take-place.result c.stop_in.new.place moves
    (asked_size (λ (k : ℕ). IsNode k c.args.n.0) c.cluster.view_is refl c.requires.node) c.take-place.ensures.place c.stop_in.ensures.held c.stop_in.ensures.keeps c.cluster.inside.ledger.cut c.cluster.inside.tasks
    (c.cluster.invariant running)

pub returns-clause-rest : goal.returns-clause-rest
returns-clause-rest g c =
    put_keeps g.D.Dir.cells c.args.cluster.now c.cluster.inside.ledger c.cluster.inside.ledger c.cluster.inside.ledger c.cluster.inside.tasks _ c.cluster.inside.places.items c.take-place.new.places.items c.put.new.places.items c.args.n.0 c.stop_in.new.place c.take-place.result
    c.cluster.view_is refl refl (record { count = c.take-place.ensures.count; taken = c.take-place.ensures.places; again = c.put.ensures.count; there = c.put.ensures.places })
    c.take-place.ensures.place (node_told g.D.Dir.cells c.take-place.result.held c.stop_in.new.place.held c.take-place.result.node c.stop_in.new.place.node c.stop_in.ensures.keeps)

pub returns-clause-plans : goal.returns-clause-plans
returns-clause-plans g c =
    let moves = put_one g.D.Dir.cells c.args.n.0 c.stop_in.new.place c.cluster.inside.places.items c.take-place.new.places.items c.put.new.places.items
    (record { count = c.take-place.ensures.count; taken = c.take-place.ensures.places; again = c.put.ensures.count; there = c.put.ensures.places }) in
    plans_made g.D.FaultDir.planned c.args.n.0 (λ (p : Plans). record p { stop = c.args.k }) c.args.cluster.now _ c.cluster.inside.places.items c.put.new.places.items c.take-place.result c.stop_in.new.place
    (ap (λ (r : Run). r.rest.plans) (sym c.cluster.view_is)) refl moves c.take-place.ensures.place c.stop_in.ensures.plans
