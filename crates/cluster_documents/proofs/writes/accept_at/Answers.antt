use Rattle.std.proofs.Common.{ℕ, ◌+◌, ◌∙◌, ap, refl, ◌∷◌, Some}
use Rattle.history_rules.specs.declared.entry.Event.TheVariants.{Accepted}
use Rattle.cluster_state.proofs.Frames.{slot_at, slot_kept, there_at, rule_at}
use Rattle.cluster_documents.proofs.PublishPaths.{primary_stands, may_accept, accept_path}
use Rattle.cluster_documents.proofs.PublishFiles.{accept_files}
use Rattle.cluster_state.proofs.Ledgers.{told_of}
use Rattle.history_rules.specs.Nodes.{accepted_count}
use Rattle.history_book.specs.Log.{printed, shown}
use Rattle.cluster_state.proofs.Turning.{log_is, nodes_is, later_turn}
use Rattle.cluster_state.specs.Run.{Run}
use Rattle.cluster_state.proofs.MergingPaths.{third_at, put_shown}
use Rattle.cluster_state.proofs.MergingStill.{primary_keeps}
use Rattle.cluster_nodes.specs.declared.nodes.Node.TheVariants.{Primary}
use Rattle.index_primary.specs.declared.parts.PrimaryParts.{PrimaryParts}
use Rattle.cluster_state.specs.NamesIn.{place_names}
use Rattle.cluster_state.specs.PlansIn.{place_plans}
use Rattle.cluster_state.proofs.RestKept.{put_keeps, primary_tells}
use Rattle.cluster_state.proofs.Behind.{put_each}
use Rattle.cluster_documents.proofs.writes.accept_at.Goals as goal

pub take-requires-clause-slot : goal.take-requires-clause-slot
take-requires-clause-slot g c = slot_at g.D.Dir.cells c.args.cluster.now _ _ c.args.p.0 _ _ c.cluster.view_is c.requires.running (λ e. (c.cluster.invariant e).0) c.requires.node

pub take-requires-clause-there : goal.take-requires-clause-there
take-requires-clause-there g c = there_at g.D.Dir.cells c.args.cluster.now _ _ c.args.p.0 _ _ c.cluster.view_is c.requires.running (λ e. (c.cluster.invariant e).0) c.requires.node

pub primary_in-primary-requires : goal.primary_in-primary-requires
primary_in-primary-requires g c = primary_stands g.D.Dir.cells c.args.cluster.now _ c.cluster.inside.ledger _ c.args.p _ c.cluster.view_is c.requires.running (λ e. (c.cluster.invariant e).0) c.requires.node c.take.ensures.place c.requires.primary

pub put-requires : goal.put-requires
put-requires g c = record { slot = slot_kept g.D.Dir.cells _ _ c.args.p.0 c.take.ensures.count (slot_at g.D.Dir.cells c.args.cluster.now _ _ c.args.p.0 _ _ c.cluster.view_is c.requires.running (λ e. (c.cluster.invariant e).0) c.requires.node) }

pub show-requires-clause-rule : goal.show-requires-clause-rule
show-requires-clause-rule g c = rule_at c.args.cluster.now _ c.cluster.inside.ledger c.reserve.new.self c.args.at (Accepted c.in-Some.seq c.args.op) c.cluster.view_is c.in_ok-reserve.ensures.log c.in_ok-reserve.ensures.nodes
    (may_accept c.args.cluster.now _ c.cluster.inside.ledger c.args.at c.args.p c.in-Some.seq c.args.op c.cluster.view_is c.requires.spared c.requires.primary (c.in-Some.ensures.0 ∙ ap (λ (k : ℕ). k + 1) (told_of c.book-book.ensures.log accepted_count c.accepted.ensures)))

pub invariant_of-cluster-2 : goal.invariant_of-cluster-2
invariant_of-cluster-2 g c = λ running. (
  accept_path g.D.Dir.cells c.args.cluster.now _ c.cluster.inside.ledger c.reserve.new.self c.show.new.self _ c.take.new.places.items _ c.args.at c.args.p c.in-Some.seq c.args.op c.in_ok-copy.copy
      c.take.result c.primary_in-primary.result.0 c.accept-place.new.self c.primary_in-primary.result.1
      c.cluster.view_is c.requires.running (λ e. (c.cluster.invariant e).0) c.in_ok-reserve.ensures.log c.in_ok-reserve.ensures.nodes c.show.ensures.log c.show.ensures.nodes c.show.ensures.legal c.show.ensures.turns
      c.requires.begun
      (may_accept c.args.cluster.now _ c.cluster.inside.ledger c.args.at c.args.p c.in-Some.seq c.args.op c.cluster.view_is c.requires.spared c.requires.primary (c.in-Some.ensures.0 ∙ ap (λ (k : ℕ). k + 1) (told_of c.book-book.ensures.log accepted_count c.accepted.ensures)))
      c.requires.node c.requires.primary
      (record { count = c.take.ensures.count; taken = c.take.ensures.places; again = c.put.ensures.count; there = c.put.ensures.places })
      c.take.ensures.place c.primary_in-primary.ensures
      c.in_ok-copy.ensures c.in_ok-place.ensures.waits c.accept-place.ensures.whole,
  accept_files g.D.Dir.cells c.args.cluster.now _ c.cluster.inside.ledger c.reserve.new.self _ c.take.new.places.items _ c.args.p c.take.result c.primary_in-primary.result.0 c.accept-place.new.self c.primary_in-primary.result.1
      c.cluster.view_is c.requires.running (λ e. (c.cluster.invariant e).0) (λ e. (c.cluster.invariant e).1) c.in_ok-reserve.ensures.log c.in_ok-reserve.ensures.nodes c.requires.node
      (record { count = c.take.ensures.count; taken = c.take.ensures.places; again = c.put.ensures.count; there = c.put.ensures.places })
      c.take.ensures.place c.primary_in-primary.ensures
      c.show.new.self c.args.at c.show.ensures.legal c.show.ensures.turns c.in-Some.seq c.args.op c.in_ok-copy.copy c.show.ensures.log c.show.ensures.nodes c.requires.begun
      (may_accept c.args.cluster.now _ c.cluster.inside.ledger c.args.at c.args.p c.in-Some.seq c.args.op c.cluster.view_is c.requires.spared c.requires.primary (c.in-Some.ensures.0 ∙ ap (λ (k : ℕ). k + 1) (told_of c.book-book.ensures.log accepted_count c.accepted.ensures)))
      c.in_ok-place.ensures.waits,
  put_shown g.D.Dir.cells c.cluster.inside.tasks c.args.cluster.now _ c.cluster.inside.ledger c.reserve.new.self _ c.take.new.places.items _ c.args.p.0
      (record { node = Primary c.accept-place.new.self; held = c.primary_in-primary.result.1 }) (record { node = Primary c.primary_in-primary.result.0; held = c.primary_in-primary.result.1 })
      c.cluster.view_is c.in_ok-reserve.ensures.log c.in_ok-reserve.ensures.nodes c.in_ok-reserve.ensures.cut c.requires.node
      (record { count = c.take.ensures.count; taken = c.take.ensures.places; again = c.put.ensures.count; there = c.put.ensures.places })
      (c.take.ensures.place ∙ ap Some c.primary_in-primary.ensures) refl
      (λ jobs count low. primary_keeps jobs count c.primary_in-primary.result.0 c.accept-place.new.self (ap (λ (z : PrimaryParts _). z.merges) c.in_ok-place.ensures.waits) (ap (λ (z : PrimaryParts _). z.has_cut_over) c.in_ok-place.ensures.waits) (ap (λ (z : PrimaryParts _). z.states) c.in_ok-place.ensures.waits) low)
      (third_at c.cluster.view_is c.requires.running c.cluster.invariant)
      c.show.new.self c.args.at (Accepted c.in-Some.seq c.args.op) c.show.ensures.log c.show.ensures.nodes c.show.ensures.cut refl,
)

pub show-requires-clause-turn : goal.show-requires-clause-turn
show-requires-clause-turn g c = later_turn _ c.args.at (Accepted c.in-Some.seq c.args.op) refl tt

pub returns-clause-ok : goal.returns-clause-ok
returns-clause-ok g c =
    let seq = c.in-Some.ensures.0 ∙ ap (λ (k : ℕ). k + 1) (told_of c.book-book.ensures.log accepted_count c.accepted.ensures ∙ ap (λ (r : Run). accepted_count (printed r.log)) c.cluster.view_is) in
    record {
      running = refl;
      nodes = c.show.ensures.nodes ∙ (c.in_ok-reserve.ensures.nodes ∙ nodes_is c.args.cluster.now _ c.cluster.inside.ledger c.cluster.view_is);
      log = c.show.ensures.log ∙ λ i. shown c.args.at (Accepted (seq i) c.args.op) ∷ (c.in_ok-reserve.ensures.log ∙ log_is c.args.cluster.now _ c.cluster.inside.ledger c.cluster.view_is) i;
    }

pub returns-clause-rest : goal.returns-clause-rest
returns-clause-rest g c =
    put_keeps g.D.Dir.cells c.args.cluster.now c.cluster.inside.ledger c.reserve.new.self c.show.new.self c.cluster.inside.tasks _ _ c.take.new.places.items _ c.args.p.0
    (record { node = Primary c.accept-place.new.self; held = c.primary_in-primary.result.1 }) (record { node = Primary c.primary_in-primary.result.0; held = c.primary_in-primary.result.1 })
    c.cluster.view_is c.in_ok-reserve.ensures.cut c.show.ensures.cut (record { count = c.take.ensures.count; taken = c.take.ensures.places; again = c.put.ensures.count; there = c.put.ensures.places })
    (c.take.ensures.place ∙ ap Some c.primary_in-primary.ensures)
    (primary_tells c.primary_in-primary.result.0 c.accept-place.new.self c.primary_in-primary.result.1 (ap (λ (z : PrimaryParts _). z.commits) c.in_ok-place.ensures.waits)
    (ap (λ (z : PrimaryParts _). z.infos.segs) c.in_ok-place.ensures.waits) (ap (λ (z : PrimaryParts _). z.merges) c.in_ok-place.ensures.waits))

pub returns-clause-plans : goal.returns-clause-plans
returns-clause-plans g c =
    put_each g.D.Dir.cells (place_plans g.D.FaultDir.planned) _ c.take.new.places.items _ c.args.p.0
    (record { node = Primary c.accept-place.new.self; held = c.primary_in-primary.result.1 }) (record { node = Primary c.primary_in-primary.result.0; held = c.primary_in-primary.result.1 })
    (record { count = c.take.ensures.count; taken = c.take.ensures.places; again = c.put.ensures.count; there = c.put.ensures.places })
    (c.take.ensures.place ∙ ap Some c.primary_in-primary.ensures) (ap (λ (z : PrimaryParts _). g.D.FaultDir.planned z.dir) c.in_ok-place.ensures.waits)
    ∙ ap (λ (r : Run). r.rest.plans) c.cluster.view_is

pub returns-clause-names : goal.returns-clause-names
returns-clause-names g c =
    put_each g.D.Dir.cells (place_names g.D.FaultDir.names) _ c.take.new.places.items _ c.args.p.0
    (record { node = Primary c.accept-place.new.self; held = c.primary_in-primary.result.1 }) (record { node = Primary c.primary_in-primary.result.0; held = c.primary_in-primary.result.1 })
    (record { count = c.take.ensures.count; taken = c.take.ensures.places; again = c.put.ensures.count; there = c.put.ensures.places })
    (c.take.ensures.place ∙ ap Some c.primary_in-primary.ensures) (ap (λ (z : PrimaryParts _). g.D.FaultDir.names z.dir) c.in_ok-place.ensures.waits)
    ∙ ap (λ (r : Run). r.rest.names) c.cluster.view_is
