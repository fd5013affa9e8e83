use Rattle.std.proofs.Common.{◌≡◌, [], refl, ap, ◌∙◌}
use Rattle.history_rules.specs.declared.entry.Event.TheVariants.{Drained}
use Rattle.history_rules.specs.Lines.{entries_of_line}
use Rattle.history_book.specs.Log.{Log, printed}
use Rattle.history_book.specs.Told.{counted_for}
use Rattle.cluster_state.proofs.Frames.{rule_at}
use Rattle.cluster_state.proofs.Turning.{fresh_turn_at}
use Rattle.cluster_state.proofs.Ledgers.{asked_of, fresh_of, legal_of, turns_of}
use Rattle.cluster_merges.proofs.TaskPaths.{drain_rule, drained_all, drained_now}
use Rattle.cluster_state.specs.Run.{Run}
use Rattle.cluster_merges.proofs.KeptMerges.{but_tasks, same_tell}
use Rattle.cluster_merges.proofs.drains.note_drained.Goals as goal

pub is_fresh-requires : goal.is_fresh-requires
is_fresh-requires g c = asked_of (λ (l : Log). entries_of_line c.args.at (printed l) ≡ []) c.cluster.view_is c.book-book.ensures.log c.requires.fresh

pub show-requires-clause-rule : goal.show-requires-clause-rule
show-requires-clause-rule g c = rule_at c.args.cluster.now _ c.cluster.inside.ledger c.reserve.new.self c.args.at (Drained c.args.done c.args.most) c.cluster.view_is c.in_ok-reserve.ensures.log c.in_ok-reserve.ensures.nodes
    (drain_rule g.D.Dir.cells c.args.cluster.now c.cluster.inside.places.items c.cluster.inside.ledger c.reserve.new.self c.reserve.new.self c.cluster.inside.tasks c.drain.new.self c.args.at c.args.done c.args.most c.cluster.view_is c.requires.running c.cluster.invariant
    c.in_ok-reserve.ensures.log c.in_ok-reserve.ensures.nodes c.in_ok-reserve.ensures.cut (legal_of c.book-book.ensures.nodes c.book-book.ensures.log c.is_legal.ensures.legal) (turns_of c.book-book.ensures.log c.is_legal.ensures.turns) (fresh_of c.book-book.ensures.log c.is_fresh.ensures)
    c.requires.fresh c.requires.done)

pub show-requires-clause-told : goal.show-requires-clause-told
show-requires-clause-told g c = asked_of (λ (l : Log). c.args.done ≡ counted_for c.args.at l) c.cluster.view_is c.in_ok-reserve.ensures.log c.requires.done

pub show-requires-clause-turn : goal.show-requires-clause-turn
show-requires-clause-turn g c = fresh_turn_at c.cluster.inside.ledger c.reserve.new.self c.args.at (Drained c.args.done c.args.most) c.in_ok-reserve.ensures.log (fresh_of c.book-book.ensures.log c.is_fresh.ensures) tt

pub invariant_of-cluster-2 : goal.invariant_of-cluster-2
invariant_of-cluster-2 g c = λ running. drained_all g.D.Dir.cells c.args.cluster.now c.cluster.inside.places.items c.cluster.inside.ledger c.reserve.new.self c.show.new.self c.cluster.inside.tasks c.drain.new.self c.args.at c.args.done c.args.most c.cluster.view_is c.requires.running c.cluster.invariant
    c.in_ok-reserve.ensures.log c.in_ok-reserve.ensures.nodes c.in_ok-reserve.ensures.cut (legal_of c.book-book.ensures.nodes c.book-book.ensures.log c.is_legal.ensures.legal) (turns_of c.book-book.ensures.log c.is_legal.ensures.turns) (fresh_of c.book-book.ensures.log c.is_fresh.ensures)
    c.requires.fresh c.requires.done
    c.show.ensures.log c.show.ensures.nodes c.show.ensures.cut c.show.ensures.legal c.show.ensures.turns c.drain.ensures.rows c.drain.ensures.posted c.drain.ensures.counts

pub returns-clause-ok : goal.returns-clause-ok
returns-clause-ok g c = drained_now c.args.cluster.now c.cluster.inside.ledger c.reserve.new.self c.cluster.inside.tasks c.cluster.view_is c.in_ok-reserve.ensures.log c.in_ok-reserve.ensures.nodes
    c.show.new.self c.drain.new.self c.args.at c.args.done c.args.most _ _ _ c.show.ensures.log c.show.ensures.nodes c.drain.ensures.rows c.drain.ensures.posted

pub returns-clause-rest : goal.returns-clause-rest
returns-clause-rest g c = but_tasks c.args.cluster.now _ _ _ _ _ _ _ _ c.cluster.inside.places.items c.cluster.inside.places.items (ap (λ (x : Run). x.rest) c.cluster.view_is) refl (c.show.ensures.cut ∙ c.in_ok-reserve.ensures.cut) refl refl (same_tell c.cluster.inside.places.items)
