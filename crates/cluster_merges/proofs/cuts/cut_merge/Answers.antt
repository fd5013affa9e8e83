use Rattle.std.proofs.Common.{◌≡◌, ◌∙◌, ℕ, Some, None, ap, sym, refl, arith}
use Rattle.history_rules.specs.Nodes.{IsNode, primary_of}
use Rattle.history_rules.specs.Lines.{publish_in_flight}
use Rattle.history_book.specs.Log.{Log, printed}
use Rattle.merge_tasks.specs.Board.{open_merge, spread_at, is_copied}
use Rattle.cluster_state.specs.Run.{Run}
use Rattle.cluster_state.proofs.Ledgers.{asked_of, asked_size}
use Rattle.cluster_state.proofs.Turning.{running_has}
use Rattle.cluster_merges.proofs.InsideSteps.{all_is}
use Rattle.cluster_merges.proofs.CutPaths.{is_on}
use Rattle.cluster_merges.proofs.TaskBehind.{line_there, cut_so}
use Rattle.cluster_merges.proofs.KeptMerges.{but_cut, cut_rows}
use Rattle.cluster_merges.proofs.cuts.cut_merge.Goals as goal

pub unreachable-requires : goal.unreachable-requires
unreachable-requires g c = line_there c.merge_on.result _ c.merge_on.ensures (is_on g.D.Dir.cells c.cluster.inside.places.items c.cluster.inside.ledger c.cluster.inside.tasks c.args.p c.args.seg (running_has c.cluster.view_is c.requires.running c.cluster.invariant) (asked_size (λ (k : ℕ). IsNode k c.args.p.0) c.cluster.view_is refl c.requires.node) (asked_of (λ (l : Log). primary_of (printed l) ≡ Some c.args.p) c.cluster.view_is refl c.requires.primary) (ap (λ (x : Run). is_copied (spread_at (open_merge c.args.seg.0 x.rest.tasks.rows))) c.cluster.view_is ∙ c.requires.copied) (asked_of (λ (l : Log). publish_in_flight (printed l) ≡ None) c.cluster.view_is refl c.requires.calm)) c.in_default.not-Some

pub cut_there-requires-clause-room : goal.cut_there-requires-clause-room
cut_there-requires-clause-room g c = let room = c.in_ok-before.ensures.room in let same = c.as_slice.ensures.len in omega (arith, room, same)

pub cut_there-requires-clause-before : goal.cut_there-requires-clause-before
cut_there-requires-clause-before g c = c.as_slice.ensures.value ∙ c.in_ok-before.ensures.met

pub cut_there-requires-clause-shown : goal.cut_there-requires-clause-shown
cut_there-requires-clause-shown g c =
    all_is g.D.Dir.cells c.cluster.inside.ledger c.met_before.new.ledger c.cluster.inside.tasks c.cluster.inside.places.items c.met_before.ensures.log c.met_before.ensures.nodes c.met_before.ensures.cut (running_has c.cluster.view_is c.requires.running c.cluster.invariant)

pub cut_there-requires-clause-node : goal.cut_there-requires-clause-node
cut_there-requires-clause-node g c = asked_size (λ (k : ℕ). IsNode k c.args.p.0) c.cluster.view_is c.met_before.ensures.nodes c.requires.node

pub cut_there-requires-clause-primary : goal.cut_there-requires-clause-primary
cut_there-requires-clause-primary g c = asked_of (λ (l : Log). primary_of (printed l) ≡ Some c.args.p) c.cluster.view_is c.met_before.ensures.log c.requires.primary

pub cut_there-requires-clause-copied : goal.cut_there-requires-clause-copied
cut_there-requires-clause-copied g c = ap (λ (x : Run). is_copied (spread_at (open_merge c.args.seg.0 x.rest.tasks.rows))) c.cluster.view_is ∙ c.requires.copied

pub cut_there-requires-clause-calm : goal.cut_there-requires-clause-calm
cut_there-requires-clause-calm g c = asked_of (λ (l : Log). publish_in_flight (printed l) ≡ None) c.cluster.view_is c.met_before.ensures.log c.requires.calm

pub invariant_of-cluster-2 : goal.invariant_of-cluster-2
invariant_of-cluster-2 g c = λ running. c.in_ok-cut_there.ensures.shown

pub returns-clause-ok : goal.returns-clause-ok
returns-clause-ok g c =
    cut_so g.D.FaultDir.planned c.args.cluster.now c.cluster.inside.ledger c.met_before.new.ledger c.cluster.inside.tasks c.cluster.inside.places.items c.cut_there.new.places.items c.cluster.view_is c.met_before.ensures.log c.met_before.ensures.nodes c.met_before.ensures.cut
    refl refl refl _ refl refl refl c.cut_there.new.ledger c.cut_there.new.tasks refl refl c.in-Some.at c.args.line c.args.seg c.args.by (sym c.merge_on.ensures ∙ c.in-Some.is) c.args.p c.requires.primary _ c.in_ok-cut_there.ensures.ok

pub returns-clause-rest : goal.returns-clause-rest
returns-clause-rest g c = but_cut c.args.cluster.now _ _ _ _ _ _ _ _ c.cluster.inside.places.items c.cut_there.new.places.items (ap (λ (x : Run). x.rest) c.cluster.view_is) refl
    (λ same. absurd (cut_rows c.args.line c.args.seg c.args.by c.args.cluster.now _ c.requires.copied (returns-clause-ok g c) same)) c.in_ok-cut_there.ensures.rest
