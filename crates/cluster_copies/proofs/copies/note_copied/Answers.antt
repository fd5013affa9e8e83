use Rattle.cluster_copies.proofs.CopiedNow.{copying_rule, copied_rule, copied_shows, copied_files}
use Rattle.cluster_state.proofs.Ledgers.{asked_of, fresh_of, told_of}
use Rattle.history_rules.specs.Nodes.{newest_version}
use Rattle.history_rules.specs.Lines.{entries_of_line}
use Rattle.history_book.specs.Log.{Log, printed}
use Rattle.std.proofs.Common.{◌≡◌, [], refl, ◌∙◌}
use Rattle.cluster_state.proofs.Turning.{fresh_turn_at}
use Rattle.history_rules.specs.declared.entry.Event.TheVariants.{Copying, Copied}
use Rattle.cluster_state.proofs.MergingPaths.{third_at}
use Rattle.cluster_state.proofs.MergingStill.{stand_shown, all_keep}
use Rattle.cluster_state.proofs.RestKept.{kept_rest}
use Rattle.cluster_copies.proofs.copies.note_copied.Goals as goal

pub show-requires-clause-rule : goal.show-requires-clause-rule
show-requires-clause-rule g c =
    copying_rule g.D.Dir.cells c.args.cluster.now _ c.cluster.inside.ledger c.reserve.new.self c.cluster.inside.places.items c.args.at c.args.n (record { 0 = c.newest.result })
    c.cluster.view_is c.requires.running (λ e. (c.cluster.invariant e).0) (λ e. (c.cluster.invariant e).1) c.in_ok-reserve.ensures.log c.in_ok-reserve.ensures.nodes (fresh_of c.book-book.ensures.log c.is_fresh.ensures)
    c.requires.node c.requires.replica c.requires.source c.requires.reached (told_of c.book-book.ensures.log newest_version c.newest.ensures)

pub show-requires-2-clause-rule : goal.show-requires-2-clause-rule
show-requires-2-clause-rule g c =
    copied_rule g.D.Dir.cells c.args.cluster.now _ c.cluster.inside.ledger c.reserve.new.self c.cluster.inside.places.items c.args.at c.args.n (record { 0 = c.newest.result })
    c.cluster.view_is c.requires.running (λ e. (c.cluster.invariant e).0) (λ e. (c.cluster.invariant e).1) c.in_ok-reserve.ensures.log c.in_ok-reserve.ensures.nodes (fresh_of c.book-book.ensures.log c.is_fresh.ensures)
    c.requires.node c.requires.replica c.requires.source c.requires.reached (told_of c.book-book.ensures.log newest_version c.newest.ensures) c.show.new.self c.show.ensures.log c.show.ensures.nodes

pub invariant_of-cluster-2 : goal.invariant_of-cluster-2
invariant_of-cluster-2 g c = λ running. (
  copied_shows g.D.Dir.cells c.args.cluster.now _ c.cluster.inside.ledger c.reserve.new.self c.cluster.inside.places.items c.args.at c.args.n (record { 0 = c.newest.result })
      c.cluster.view_is c.requires.running (λ e. (c.cluster.invariant e).0) (λ e. (c.cluster.invariant e).1) c.in_ok-reserve.ensures.log c.in_ok-reserve.ensures.nodes (fresh_of c.book-book.ensures.log c.is_fresh.ensures)
      c.requires.node c.requires.replica c.requires.source c.requires.reached (told_of c.book-book.ensures.log newest_version c.newest.ensures) c.show.new.self c.show.ensures.log c.show.ensures.nodes
      c.show-2.new.self c.show-2.ensures.log c.show-2.ensures.nodes c.show.ensures.legal c.show.ensures.turns c.show-2.ensures.legal c.show-2.ensures.turns,
  copied_files g.D.Dir.cells c.args.cluster.now _ c.cluster.inside.ledger c.reserve.new.self c.cluster.inside.places.items c.args.at c.args.n (record { 0 = c.newest.result })
      c.cluster.view_is c.requires.running (λ e. (c.cluster.invariant e).0) (λ e. (c.cluster.invariant e).1) c.in_ok-reserve.ensures.log c.in_ok-reserve.ensures.nodes (fresh_of c.book-book.ensures.log c.is_fresh.ensures)
      c.requires.node c.requires.replica c.requires.source c.requires.reached (told_of c.book-book.ensures.log newest_version c.newest.ensures) c.show.new.self c.show.ensures.log c.show.ensures.nodes
      c.show-2.new.self c.show-2.ensures.log c.show-2.ensures.nodes c.show.ensures.legal c.show.ensures.turns c.show-2.ensures.legal c.show-2.ensures.turns,
  (let was = third_at c.cluster.view_is c.requires.running c.cluster.invariant in
      let begun = stand_shown c.cluster.inside.tasks _ _ c.cluster.inside.ledger c.reserve.new.self c.show.new.self c.args.at (Copying c.args.n (record { 0 = c.newest.result })) c.in_ok-reserve.ensures.log c.in_ok-reserve.ensures.nodes c.in_ok-reserve.ensures.cut
      c.show.ensures.log c.show.ensures.nodes c.show.ensures.cut refl (all_keep _ c.cluster.inside.tasks _ _ _ was) was in
      stand_shown c.cluster.inside.tasks _ _ c.show.new.self c.show.new.self c.show-2.new.self c.args.at (Copied c.args.n (record { 0 = c.newest.result })) refl refl refl c.show-2.ensures.log c.show-2.ensures.nodes c.show-2.ensures.cut refl
      (all_keep _ c.cluster.inside.tasks _ _ _ begun) begun),
)

pub is_fresh-requires : goal.is_fresh-requires
is_fresh-requires g c = asked_of (λ (l : Log). entries_of_line c.args.at (printed l) ≡ []) c.cluster.view_is c.book-book.ensures.log c.requires.fresh

pub show-requires-clause-turn : goal.show-requires-clause-turn
show-requires-clause-turn g c = fresh_turn_at c.cluster.inside.ledger c.reserve.new.self c.args.at (Copying c.args.n (record { 0 = c.newest.result })) c.in_ok-reserve.ensures.log (fresh_of c.book-book.ensures.log c.is_fresh.ensures) tt

pub returns-clause-rest : goal.returns-clause-rest
returns-clause-rest g c =
    kept_rest c.args.cluster.now _ _ c.cluster.view_is refl (c.show-2.ensures.cut ∙ (c.show.ensures.cut ∙ c.in_ok-reserve.ensures.cut)) refl refl refl refl
