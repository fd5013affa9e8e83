use Rattle.std.proofs.Common.{◌≡◌, ◌∙◌, ℕ, List, Some, ap, sym, subst, refl, arith}
use Rattle.history_rules.specs.Nodes.{IsNode, primary_of}
use Rattle.history_book.specs.Log.{Log, printed}
use Rattle.merge_tasks.specs.Board.{open_merge, spread_at, has_copy_task}
use Rattle.cluster_state.specs.Run.{Run}
use Rattle.cluster_state.proofs.Ledgers.{asked_of, asked_size}
use Rattle.cluster_state.proofs.Turning.{running_has}
use Rattle.cluster_merges.specs.TaskMet.{mets, behind}
use Rattle.cluster_merges.specs.CopyTurns.{StepsCopyTo}
use Rattle.cluster_merges.proofs.InsideSteps.{all_is}
use Rattle.cluster_merges.proofs.CopyCalls.{turn_where}
use Rattle.cluster_merges.proofs.CopyFacts.{copy_on}
use Rattle.cluster_merges.proofs.TaskBehind.{line_there, turns_so}
use Rattle.cluster_merges.proofs.KeptMerges.{but_ended}
use Rattle.cluster_merges.proofs.precopies.next_merged.Goals as goal

pub unreachable-requires : goal.unreachable-requires
unreachable-requires g c =
    line_there c.merge_on.result _ c.merge_on.ensures (copy_on c.cluster.inside.ledger.nodes c.cluster.inside.ledger.log c.cluster.inside.tasks c.args.seg.0 c.args.n.0 c.args.job (running_has c.cluster.view_is c.requires.running c.cluster.invariant).2.tasks (ap (λ (x : Run). has_copy_task c.args.n.0 c.args.job (spread_at (open_merge c.args.seg.0 x.rest.tasks.rows))) c.cluster.view_is ∙ c.requires.sent)) c.in_default.not-Some

pub step_copy-requires-clause-room : goal.step_copy-requires-clause-room
step_copy-requires-clause-room g c = let room = c.in_ok-before.ensures.room in let same = c.as_slice.ensures.len in omega (arith, room, same)

pub step_copy-requires-clause-before : goal.step_copy-requires-clause-before
step_copy-requires-clause-before g c = (c.as_slice.ensures.value ∙ c.in_ok-before.ensures.met)

pub step_copy-requires-clause-shown : goal.step_copy-requires-clause-shown
step_copy-requires-clause-shown g c =
    all_is g.D.Dir.cells c.cluster.inside.ledger c.met_before.new.ledger c.cluster.inside.tasks c.cluster.inside.places.items c.met_before.ensures.log c.met_before.ensures.nodes c.met_before.ensures.cut (running_has c.cluster.view_is c.requires.running c.cluster.invariant)

pub step_copy-requires-clause-node : goal.step_copy-requires-clause-node
step_copy-requires-clause-node g c = asked_size (λ (k : ℕ). IsNode k c.args.n.0) c.cluster.view_is c.met_before.ensures.nodes c.requires.node

pub step_copy-requires-clause-sent : goal.step_copy-requires-clause-sent
step_copy-requires-clause-sent g c = (ap (λ (x : Run). has_copy_task c.args.n.0 c.args.job (spread_at (open_merge c.args.seg.0 x.rest.tasks.rows))) c.cluster.view_is ∙ c.requires.sent)

pub invariant_of-cluster-2 : goal.invariant_of-cluster-2
invariant_of-cluster-2 g c = λ running. c.in_ok-turn.ensures.shown

pub step_copy-requires-clause-source : goal.step_copy-requires-clause-source
step_copy-requires-clause-source g c = asked_size (λ (k : ℕ). IsNode k c.args.p.0) c.cluster.view_is c.met_before.ensures.nodes c.requires.source

pub step_copy-requires-clause-primary : goal.step_copy-requires-clause-primary
step_copy-requires-clause-primary g c = asked_of (λ (l : Log). primary_of (printed l) ≡ Some c.args.p) c.cluster.view_is c.met_before.ensures.log c.requires.primary

pub returns-clause-ok : goal.returns-clause-ok
returns-clause-ok g c =
    turns_so g.D.FaultDir.planned c.args.cluster.now c.cluster.inside.ledger c.met_before.new.ledger c.cluster.inside.tasks c.cluster.inside.places.items c.step_copy.new.places.items c.cluster.view_is c.met_before.ensures.log c.met_before.ensures.nodes c.met_before.ensures.cut
    refl refl refl _ refl c.step_copy.new.ledger c.step_copy.new.tasks refl c.in-Some.at c.args.line c.args.seg c.args.by c.args.n c.args.job (sym c.merge_on.ensures ∙ c.in-Some.is) c.args.p c.requires.primary c.in_ok-turn.turn
    (subst (λ (olds : List (ℕ × ℕ)). StepsCopyTo c.in-Some.at c.args.line c.args.seg c.args.by c.args.p c.args.n c.args.job olds (mets g.D.FaultDir.planned c.step_copy.new.places.items) c.met_before.new.ledger
    (behind c.in-Some.at olds (mets g.D.FaultDir.planned c.step_copy.new.places.items) c.met_before.new.ledger) c.step_copy.new.ledger c.cluster.inside.tasks c.step_copy.new.tasks c.in_ok-turn.turn) (c.as_slice.ensures.value ∙ c.in_ok-before.ensures.met) c.in_ok-turn.ensures.ok)

pub returns-clause-turn : goal.returns-clause-turn
returns-clause-turn g c =
    turn_where c.args.cluster.now c.cluster.inside.ledger c.met_before.new.ledger c.cluster.inside.tasks c.cluster.inside.places.items c.cluster.view_is c.met_before.ensures.log c.args.seg c.args.n c.args.job c.in_ok-turn.turn c.in_ok-turn.ensures.turn

pub returns-clause-rest : goal.returns-clause-rest
returns-clause-rest g c =
    but_ended c.args.cluster.now _ _ _ _ _ _ _ _ c.cluster.inside.places.items c.step_copy.new.places.items (ap (λ (x : Run). x.rest) c.cluster.view_is) refl (c.in_ok-turn.ensures.cut ∙ c.met_before.ensures.cut)
    c.in-Some.at c.args.line c.args.seg c.args.by c.args.p c.args.n c.args.job _ _ _ _ _ c.in_ok-turn.turn c.in_ok-turn.ensures.ok c.in_ok-turn.ensures.rest
