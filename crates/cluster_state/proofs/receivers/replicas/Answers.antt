use Rattle.std.proofs.Common.{◌∙◌, ◌+◌, List, Vec, Global, Option, ap, sym, subst, arith, true≢false}
use Rattle.nrt_base.specs.declared.numbers.NodeNo.{NodeNo}
use Rattle.history_rules.specs.Nodes.{is_at}
use Rattle.history_book.specs.Log.{printed}
use Rattle.cluster_state.proofs.ReplicaLists.{AreReplicasTo, with_replica, without_replica}
use Rattle.cluster_state.proofs.receivers.replicas.Goals.{then-runs+then-not-is_node+in_ok-push, else-runs, else-runs-via-then-runs+else-not-is_node, else-runs-via-else-runs}
use Rattle.cluster_state.proofs.receivers.replicas.Goals as goal

pub loop-k-preserved : goal.loop-k-preserved
loop-k-preserved c =
    let book = c.args.book.now in
    let n = c.loop-k.k + 1 in
    elim c.if-runs.branch [
      | then-runs+then-not-is_node+in_ok-push w ↦
          subst (λ (nodes : List NodeNo). AreReplicasTo book.nodes (printed book.log) (n + 1) nodes)
          (sym (ap (λ (v : Vec NodeNo Global). v.items) w.left-is ∙ w.in_ok-push.ensures.items))
          (with_replica book.nodes (printed book.log) n c.loop-k.left.items (omega arith, omega arith)
          (record {
            running = sym c.runs.ensures ∙ w.if-runs.true;
            other = sym (ap (λ (p : Option NodeNo). is_at p n) c.primary-primary.ensures) ∙ (sym w.is_node.ensures ∙ w.if-not-is_node.true);
          }) c.loop-k.invariant)
      | else-runs w ↦
          subst (λ (nodes : List NodeNo). AreReplicasTo book.nodes (printed book.log) (n + 1) nodes) (sym (ap (λ (v : Vec NodeNo Global). v.items) w.left-is))
          (without_replica book.nodes (printed book.log) n c.loop-k.left.items (λ is. elim w.else-runs.branch [
            | else-runs-via-then-runs+else-not-is_node x ↦
                true≢false (sym (sym (ap (λ (p : Option NodeNo). is_at p n) c.primary-primary.ensures) ∙ (sym x.is_node.ensures ∙ x.if-not-is_node.false)) ∙ is.other)
            | else-runs-via-else-runs x ↦ true≢false (sym is.running ∙ (sym c.runs.ensures ∙ x.if-runs.false))
          ]) c.loop-k.invariant)
    ]
