use Rattle.std.proofs.lemmas.Result.{IfOk-weaker}
use Rattle.cluster_state.proofs.Frames.{slot_at, was}
use Rattle.cluster_documents.proofs.Listing.{running_there}
use Rattle.cluster_documents.proofs.ShownRows.{shown_documents}
use Rattle.cluster_documents.proofs.node_documents.documents_of.Goals as goal

pub readers_in-requires-clause-slot : goal.readers_in-requires-clause-slot
readers_in-requires-clause-slot g c =
    slot_at g.D.Dir.cells c.args.state.now _ c.state.inside.ledger.nodes c.args.n.0 c.state.inside.ledger.log c.state.inside.places.items c.state.view_is c.requires.running (λ e. (c.state.invariant e).0) c.requires.node

pub readers_in-requires-clause-runs : goal.readers_in-requires-clause-runs
readers_in-requires-clause-runs g c =
    running_there g.D.Dir.cells c.args.state.now _ c.state.inside.ledger.nodes c.args.n.0 c.state.inside.ledger.log c.state.inside.places.items c.state.view_is c.requires.running (λ e. (c.state.invariant e).0) c.requires.node c.requires.up

pub returns : goal.returns
returns g c = IfOk-weaker c.documents_in.result _ _
    (λ docs live. shown_documents g.D.Dir.cells c.args.state.now.log c.args.n.0 _ _ docs.items c.requires.up
    ((was g.D.Dir.cells c.args.state.now _ c.state.inside.ledger.nodes c.state.inside.ledger.log c.state.inside.places.items c.state.view_is c.requires.running (λ e. (c.state.invariant e).0)).each c.args.n.0 c.requires.node)
    c.readers_in.ensures live) c.documents_in.ensures
