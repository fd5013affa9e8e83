use Rattle.std.proofs.Common.{◌≡◌, ◌∙◌, ℕ, List, Some, ap, sym, subst, refl, arith}
use Rattle.nrt_base.specs.declared.numbers.NodeNo.{NodeNo}
use Rattle.history_rules.specs.Nodes.{IsNode, primary_of}
use Rattle.history_book.specs.Log.{Log, printed}
use Rattle.merge_tasks.specs.Board.{open_merge, is_unwritten}
use Rattle.cluster_state.specs.Run.{Run}
use Rattle.cluster_state.specs.Settles.{AreReplicas}
use Rattle.cluster_state.proofs.Ledgers.{asked_of, asked_size}
use Rattle.cluster_state.proofs.Turning.{running_has}
use Rattle.cluster_merges.specs.MergePaths.{IsMergedOut}
use Rattle.cluster_merges.proofs.InsideSteps.{all_is}
use Rattle.cluster_merges.proofs.ReadyPaths.{is_on}
use Rattle.cluster_merges.proofs.TaskBehind.{line_there, built_so}
use Rattle.cluster_merges.proofs.SentTold.{built_kept, built_rows}
use Rattle.cluster_merges.proofs.writes.ready_merge.Goals as goal

pub unreachable-requires : goal.unreachable-requires
unreachable-requires g c =
    line_there c.merge_on.result _ c.merge_on.ensures
    (is_on g.D.Dir.cells c.cluster.inside.ledger c.cluster.inside.tasks c.cluster.inside.places.items c.args.p c.args.seg c.args.merged (running_has c.cluster.view_is c.requires.running c.cluster.invariant)
    (asked_size (λ (k : ℕ). IsNode k c.args.p.0) c.cluster.view_is refl c.requires.node) (asked_of (λ (l : Log). primary_of (printed l) ≡ Some c.args.p) c.cluster.view_is refl c.requires.primary)
    (ap (λ (x : Run). is_unwritten (open_merge c.args.seg.0 x.rest.tasks.rows)) c.cluster.view_is ∙ c.requires.unwritten) (asked_of (λ (l : Log). IsMergedOut l c.args.seg c.args.merged) c.cluster.view_is refl c.requires.merged))
    c.in_default.not-Some

pub ready_there-requires-clause-room : goal.ready_there-requires-clause-room
ready_there-requires-clause-room g c =
    let room = c.in_ok-before.ensures.room in let many = c.as_slice-2.ensures.len in let same = c.as_slice.ensures.len in let count = c.len.ensures in omega (arith, room, many, same, count)

pub ready_there-requires-clause-before : goal.ready_there-requires-clause-before
ready_there-requires-clause-before g c = c.as_slice-2.ensures.value ∙ c.in_ok-before.ensures.met

pub ready_there-requires-clause-shown : goal.ready_there-requires-clause-shown
ready_there-requires-clause-shown g c =
    all_is g.D.Dir.cells c.cluster.inside.ledger c.met_before.new.ledger c.cluster.inside.tasks c.cluster.inside.places.items c.met_before.ensures.log c.met_before.ensures.nodes c.met_before.ensures.cut (running_has c.cluster.view_is c.requires.running c.cluster.invariant)

pub ready_there-requires-clause-node : goal.ready_there-requires-clause-node
ready_there-requires-clause-node g c = asked_size (λ (k : ℕ). IsNode k c.args.p.0) c.cluster.view_is c.met_before.ensures.nodes c.requires.node

pub ready_there-requires-clause-primary : goal.ready_there-requires-clause-primary
ready_there-requires-clause-primary g c = asked_of (λ (l : Log). primary_of (printed l) ≡ Some c.args.p) c.cluster.view_is c.met_before.ensures.log c.requires.primary

pub ready_there-requires-clause-unwritten : goal.ready_there-requires-clause-unwritten
ready_there-requires-clause-unwritten g c = ap (λ (x : Run). is_unwritten (open_merge c.args.seg.0 x.rest.tasks.rows)) c.cluster.view_is ∙ c.requires.unwritten

pub ready_there-requires-clause-merged : goal.ready_there-requires-clause-merged
ready_there-requires-clause-merged g c = asked_of (λ (l : Log). IsMergedOut l c.args.seg c.args.merged) c.cluster.view_is c.met_before.ensures.log c.requires.merged

pub ready_there-requires-clause-replicas : goal.ready_there-requires-clause-replicas
ready_there-requires-clause-replicas g c =
    subst (λ (ns : List NodeNo). AreReplicas c.met_before.new.ledger.nodes (printed c.met_before.new.ledger.log) ns) (sym c.as_slice.ensures.value)
    (subst (λ (z : ℕ × Log). AreReplicas z.0 (printed z.1) c.in_ok-nodes.nodes.items) (λ i. ((c.book.ensures.nodes ∙ sym c.met_before.ensures.nodes) i, (c.book.ensures.log ∙ sym c.met_before.ensures.log) i)) c.in_ok-nodes.ensures)

pub invariant_of-cluster-2 : goal.invariant_of-cluster-2
invariant_of-cluster-2 g c = λ running. c.in_ok-ready_there.ensures.shown

pub returns-clause-ok : goal.returns-clause-ok
returns-clause-ok g c =
    built_so g.D.FaultDir.planned c.args.cluster.now c.cluster.inside.ledger c.met_before.new.ledger c.cluster.inside.tasks c.cluster.inside.places.items c.ready_there.new.places.items c.cluster.view_is c.met_before.ensures.log c.met_before.ensures.nodes c.met_before.ensures.cut
    refl refl refl _ refl refl refl c.ready_there.new.ledger c.ready_there.new.tasks refl refl c.in-Some.at c.args.line c.args.seg c.args.by (sym c.merge_on.ensures ∙ c.in-Some.is) c.args.p c.requires.primary _ c.in_ok-ready_there.ensures.ok

pub returns-clause-rest : goal.returns-clause-rest
returns-clause-rest g c = built_kept c.args.cluster.now _ _ _ _ _ _ _ _ c.cluster.inside.places.items c.ready_there.new.places.items (ap (λ (x : Run). x.rest) c.cluster.view_is) refl (c.in_ok-ready_there.ensures.cut ∙ c.met_before.ensures.cut)
    c.met_before.new.ledger.log (c.met_before.ensures.log ∙ ap (λ (x : Run). x.log) c.cluster.view_is) c.args.seg c.requires.unwritten (built_rows c.args.line c.args.seg c.args.by c.args.cluster.now _ c.requires.unwritten (returns-clause-ok g c)) c.in_ok-ready_there.ensures.rest
