use Rattle.std.proofs.Common.{◌∙◌, ℕ, List, ap, sym, subst, refl, arith}
use Rattle.history_rules.specs.Nodes.{IsNode}
use Rattle.merge_tasks.specs.Board.{open_merge, spread_at, has_copy_task}
use Rattle.cluster_state.specs.Run.{Run}
use Rattle.cluster_state.proofs.Ledgers.{asked_size, legal_of}
use Rattle.cluster_state.proofs.Turning.{running_has}
use Rattle.cluster_merges.specs.TaskMet.{mets, behind}
use Rattle.cluster_merges.specs.CopyTurns.{EndsCopyOf}
use Rattle.cluster_merges.proofs.InsideSteps.{all_is}
use Rattle.cluster_merges.proofs.CopyFacts.{copy_on}
use Rattle.cluster_merges.proofs.TaskBehind.{line_there, ends_copy}
use Rattle.cluster_merges.proofs.KeptMerges.{but_copies}
use Rattle.cluster_merges.proofs.precopies.lose_merged.Goals as goal

pub unreachable-requires : goal.unreachable-requires
unreachable-requires g c =
    line_there c.merge_on.result _ c.merge_on.ensures (copy_on c.cluster.inside.ledger.nodes c.cluster.inside.ledger.log c.cluster.inside.tasks c.args.seg.0 c.args.n.0 c.args.job (running_has c.cluster.view_is c.requires.running c.cluster.invariant).2.tasks (ap (λ (x : Run). has_copy_task c.args.n.0 c.args.job (spread_at (open_merge c.args.seg.0 x.rest.tasks.rows))) c.cluster.view_is ∙ c.requires.sent)) c.in_default.not-Some

pub lose_there-requires-clause-room : goal.lose_there-requires-clause-room
lose_there-requires-clause-room g c = let room = c.in_ok-before.ensures.room in let same = c.as_slice.ensures.len in omega (arith, room, same)

pub lose_there-requires-clause-before : goal.lose_there-requires-clause-before
lose_there-requires-clause-before g c = (c.as_slice.ensures.value ∙ c.in_ok-before.ensures.met)

pub lose_there-requires-clause-shown : goal.lose_there-requires-clause-shown
lose_there-requires-clause-shown g c =
    all_is g.D.Dir.cells c.cluster.inside.ledger c.met_before.new.ledger c.cluster.inside.tasks c.cluster.inside.places.items c.met_before.ensures.log c.met_before.ensures.nodes c.met_before.ensures.cut (running_has c.cluster.view_is c.requires.running c.cluster.invariant)

pub lose_there-requires-clause-node : goal.lose_there-requires-clause-node
lose_there-requires-clause-node g c = asked_size (λ (k : ℕ). IsNode k c.args.n.0) c.cluster.view_is c.met_before.ensures.nodes c.requires.node

pub lose_there-requires-clause-sent : goal.lose_there-requires-clause-sent
lose_there-requires-clause-sent g c = (ap (λ (x : Run). has_copy_task c.args.n.0 c.args.job (spread_at (open_merge c.args.seg.0 x.rest.tasks.rows))) c.cluster.view_is ∙ c.requires.sent)

pub invariant_of-cluster-2 : goal.invariant_of-cluster-2
invariant_of-cluster-2 g c = λ running. c.in_ok-lose_there.ensures.shown

pub lose_there-requires-clause-legal : goal.lose_there-requires-clause-legal
lose_there-requires-clause-legal g c = legal_of (c.book.ensures.nodes ∙ sym c.met_before.ensures.nodes) (c.book.ensures.log ∙ sym c.met_before.ensures.log) c.is_legal.ensures.legal

pub returns-clause-ok : goal.returns-clause-ok
returns-clause-ok g c =
    ends_copy g.D.FaultDir.planned c.args.cluster.now c.cluster.inside.ledger c.met_before.new.ledger c.cluster.inside.tasks c.cluster.inside.places.items c.lose_there.new.places.items c.cluster.view_is c.met_before.ensures.log c.met_before.ensures.nodes c.met_before.ensures.cut
    refl refl refl _ refl c.lose_there.new.ledger c.lose_there.new.tasks refl c.in-Some.at c.args.line c.args.seg c.args.by c.args.n c.args.job (sym c.merge_on.ensures ∙ c.in-Some.is)
    (subst (λ (olds : List (ℕ × ℕ)). EndsCopyOf c.args.line c.args.seg c.args.by c.args.n c.args.job (behind c.in-Some.at olds (mets g.D.FaultDir.planned c.lose_there.new.places.items) c.met_before.new.ledger) c.lose_there.new.ledger c.cluster.inside.tasks c.lose_there.new.tasks)
    (c.as_slice.ensures.value ∙ c.in_ok-before.ensures.met) c.in_ok-lose_there.ensures.ok)

pub returns-clause-rest : goal.returns-clause-rest
returns-clause-rest g c = but_copies c.args.cluster.now _ _ _ _ _ _ _ _ c.cluster.inside.places.items c.lose_there.new.places.items (ap (λ (x : Run). x.rest) c.cluster.view_is) refl (c.in_ok-lose_there.ensures.ok.cut ∙ c.met_before.ensures.cut) c.args.n.0 c.args.job c.in_ok-lose_there.ensures.rest
