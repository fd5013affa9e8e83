use Rattle.std.proofs.Common.{◌≡◌, ℕ, refl, ap, subst, []}
use Rattle.cluster_state.specs.Settles.{AreReplicas}
use Rattle.history_rules.specs.Nodes.{newest_version}
use Rattle.history_book.specs.Laws.{IsFresh}
use Rattle.cluster_state.specs.FileChanges.{is_commit_line}
use Rattle.cluster_state.proofs.Turning.{past_has, fresh_turn}
use Rattle.cluster_copies.proofs.Settling.{settle_begun}
use Rattle.cluster_state.proofs.Ledgers.{asked_of, fresh_of, told_of}
use Rattle.history_rules.specs.Lines.{entries_of_line}
use Rattle.history_book.specs.Log.{Log, printed}
use Rattle.history_rules.specs.declared.entry.Event.TheVariants.{Settling}
use Rattle.cluster_copies.proofs.settles.begin_settle.Goals as goal

pub has_no_commit-requires : goal.has_no_commit-requires
has_no_commit-requires g c = record { line = ap is_commit_line (past_has (IsFresh c.args.at) c.args.cluster.now _ c.cluster.inside.ledger c.cluster.view_is (fresh_of c.book-book.ensures.log c.is_fresh.ensures)).begun }

pub note-requires-clause-rule : goal.note-requires-clause-rule
note-requires-clause-rule g c = record {
  source = c.requires.source;
  newest = past_has (λ p. c.newest.result ≡ newest_version p) c.args.cluster.now _ c.cluster.inside.ledger c.cluster.view_is (told_of c.book-book.ensures.log newest_version c.newest.ensures);
  spared = (past_has (IsFresh c.args.at) c.args.cluster.now _ c.cluster.inside.ledger c.cluster.view_is (fresh_of c.book-book.ensures.log c.is_fresh.ensures)).spared;
}

pub returns-clause-settling : goal.returns-clause-settling
returns-clause-settling g c =
    settle_begun c.args.cluster.now c.note.new.self _ c.cluster.inside.ledger c.args.at (record { 0 = c.newest.result }) (record { version = record { 0 = c.newest.result }; left = c.in-Ok.left })
    c.cluster.view_is c.in_ok-note.ensures.ok refl
    (subst (λ (x : ℕ × Log). AreReplicas x.0 (printed x.1) c.in-Ok.left.items) (λ i. (c.book-book.ensures.nodes i, c.book-book.ensures.log i)) c.in-Ok.ensures)

pub is_fresh-requires : goal.is_fresh-requires
is_fresh-requires g c = asked_of (λ (l : Log). entries_of_line c.args.at (printed l) ≡ []) c.cluster.view_is c.book-book.ensures.log c.requires.fresh

pub note-requires-clause-turn : goal.note-requires-clause-turn
note-requires-clause-turn g c = fresh_turn (printed c.args.cluster.now.log) c.args.at (Settling (record { 0 = c.newest.result })) (past_has (IsFresh c.args.at) c.args.cluster.now _ c.cluster.inside.ledger c.cluster.view_is (fresh_of c.book-book.ensures.log c.is_fresh.ensures)) tt
