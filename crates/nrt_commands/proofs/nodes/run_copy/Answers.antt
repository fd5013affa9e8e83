use Rattle.std.proofs.Common.{◌≡◌, false, ap, sym, subst}
use Rattle.std.specs.Prelude.{Ok}
use Rattle.history_rules.specs.Nodes.{IsNode}
use Rattle.cluster_state.specs.Run.{Run}
use Rattle.nrt_commands.proofs.NodeTextLaws.{node_of_run, node_copy, no_copy, send_of, none_of, sent_there}
use Rattle.nrt_commands.proofs.nodes.run_copy.Goals as goal

pub into_send-requires-clause-running : goal.into_send-requires-clause-running
into_send-requires-clause-running g c = subst (λ (r : Run). r.ended ≡ false) (sym c.into_state.ensures) c.in_ok-cluster.ensures.running

pub into_send-requires-clause-node : goal.into_send-requires-clause-node
into_send-requires-clause-node g c =
    subst (λ (r : Run). IsNode r.nodes c.args.n.0) (sym c.into_state.ensures) (node_of_run c.args.script.now c.in_ok-cluster.cluster c.args.n.0 c.in_ok-cluster.ensures.serves c.requires.node)

pub frames_of_copy-requires-clause-copy : goal.frames_of_copy-requires-clause-copy
frames_of_copy-requires-clause-copy g c =
    (send_of c.into_state.result c.in_ok-cluster.cluster c.args.n.0 c.into_state.ensures c.in_ok-sending.sending c.in-Some.sending c.in_ok-sending.ensures.sending c.in-Some.is).takes.copy

pub frames_of_copy-requires-clause-there : goal.frames_of_copy-requires-clause-there
frames_of_copy-requires-clause-there g c =
    sent_there c.in_ok-cluster.cluster c.args.n.0 _ _ _
    (send_of c.into_state.result c.in_ok-cluster.cluster c.args.n.0 c.into_state.ensures c.in_ok-sending.sending c.in-Some.sending c.in_ok-sending.ensures.sending c.in-Some.is)

pub returns-in_ok-text-in-Some : goal.returns-in_ok-text-in-Some
returns-in_ok-text-in-Some g c =
    node_copy c.args.script.now c.in_ok-cluster.cluster c.args.n.0 c.in_ok-cluster.ensures.running c.in_ok-cluster.ensures.legal c.in_ok-cluster.ensures.serves c.in_ok-cluster.ensures.told
    c.requires.node c.in-Some.sending.state c.in-Some.sending.lacking.items c.in-Some.sending.dir c.in_ok-text-in-Some.text.items
    (send_of c.into_state.result c.in_ok-cluster.cluster c.args.n.0 c.into_state.ensures c.in_ok-sending.sending c.in-Some.sending c.in_ok-sending.ensures.sending c.in-Some.is)
    c.in_ok-text-in-Some.ensures

pub returns-in-None : goal.returns-in-None
returns-in-None g c =
    no_copy c.args.script.now c.in_ok-cluster.cluster c.args.n.0 c.in_ok-cluster.ensures.running c.in_ok-cluster.ensures.legal c.in_ok-cluster.ensures.serves c.in_ok-cluster.ensures.told
    c.requires.node (none_of c.into_state.result c.in_ok-cluster.cluster c.args.n.0 c.into_state.ensures (c.in_ok-sending.ensures.none (ap Ok c.in-None.is)))
