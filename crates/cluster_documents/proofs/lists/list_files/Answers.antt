use Rattle.cluster_state.proofs.Frames.{slot_at}
use Rattle.cluster_documents.proofs.DirNames.{tells}
use Rattle.cluster_documents.proofs.Listing.{running_there, may_tell}
use Rattle.cluster_state.proofs.Ledgers.{asked_of, fresh_of}
use Rattle.history_rules.specs.Lines.{entries_of_line}
use Rattle.history_book.specs.Log.{Log, printed}
use Rattle.std.proofs.Common.{◌≡◌, [], ap, sym}
use Rattle.cluster_state.specs.Run.{Run}
use Rattle.cluster_state.proofs.MergingPaths.{two_parts}
use Rattle.cluster_documents.proofs.lists.list_files.Goals as goal

pub are_named-requires-clause-slot : goal.are_named-requires-clause-slot
are_named-requires-clause-slot g c =
    slot_at g.D.Dir.cells c.args.cluster.now _ c.cluster.inside.ledger.nodes c.args.n.0 c.cluster.inside.ledger.log c.cluster.inside.places.items c.cluster.view_is c.requires.running (λ e. (c.cluster.invariant e).0) c.requires.node

pub are_named-requires-clause-runs : goal.are_named-requires-clause-runs
are_named-requires-clause-runs g c =
    running_there g.D.Dir.cells c.args.cluster.now _ c.cluster.inside.ledger.nodes c.args.n.0 c.cluster.inside.ledger.log c.cluster.inside.places.items c.cluster.view_is c.requires.running (λ e. (c.cluster.invariant e).0) c.requires.node c.requires.up

pub names_in-requires-clause-slot : goal.names_in-requires-clause-slot
names_in-requires-clause-slot g c =
    slot_at g.D.Dir.cells c.args.cluster.now _ c.cluster.inside.ledger.nodes c.args.n.0 c.cluster.inside.ledger.log c.cluster.inside.places.items c.cluster.view_is c.requires.running (λ e. (c.cluster.invariant e).0) c.requires.node

pub names_in-requires-clause-runs : goal.names_in-requires-clause-runs
names_in-requires-clause-runs g c =
    running_there g.D.Dir.cells c.args.cluster.now _ c.cluster.inside.ledger.nodes c.args.n.0 c.cluster.inside.ledger.log c.cluster.inside.places.items c.cluster.view_is c.requires.running (λ e. (c.cluster.invariant e).0) c.requires.node c.requires.up

pub note-requires-clause-rule : goal.note-requires-clause-rule
note-requires-clause-rule g c =
    may_tell g.D.Dir.cells c.args.cluster.now _ c.cluster.inside.ledger c.cluster.inside.places.items c.args.at c.args.n c.in-Ok.names c.cluster.view_is c.requires.running (two_parts c.cluster.invariant) (fresh_of c.book-book.ensures.log c.is_fresh.ensures) c.requires.node c.requires.up c.in-Ok.ensures

pub returns-clause-ok : goal.returns-clause-ok
returns-clause-ok g c =
    tells g.D.Dir.cells g.D.FaultDir.names c.args.at c.args.n c.args.cluster.now _ c.cluster.inside.places.items c.in-Ok.names (ap (λ (r : Run). r.rest.names) (sym c.cluster.view_is)) c.in-Ok.ensures c.are_named.ensures c.in_ok-note.ensures.ok

pub is_fresh-requires : goal.is_fresh-requires
is_fresh-requires g c = asked_of (λ (l : Log). entries_of_line c.args.at (printed l) ≡ []) c.cluster.view_is c.book-book.ensures.log c.requires.fresh
