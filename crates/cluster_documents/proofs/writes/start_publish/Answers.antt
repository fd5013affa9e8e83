use Rattle.std.proofs.Common.{false, ◌∙◌, refl, ◌≡◌, [], sym, ap, Some}
use Rattle.history_rules.specs.declared.entry.Event.TheVariants.{Publishing}
use Rattle.index_primary.specs.declared.parts.PublishFault.TheVariants.{NamesSpent, TooManySegments}
use Rattle.cluster_state.proofs.Frames.{slot_at, slot_kept, there_at, rule_at}
use Rattle.cluster_documents.proofs.PublishPaths.{ok_at, err_at, on_err, primary_stands, none_flies, not_idle, not_spent, is_full_at, told_full, told_few, hands_out, asked_task, drawn_segs, may_start, asked_some, start_path, back_path}
use Rattle.cluster_state.proofs.Turning.{log_is, nodes_is}
use Rattle.cluster_documents.proofs.PublishFiles.{back_files, start_files}
use Rattle.cluster_state.proofs.Ledgers.{asked_of, fresh_of, unbegun_of}
use Rattle.history_rules.specs.Lines.{entries_of_line}
use Rattle.history_book.specs.Log.{Log, printed}
use Rattle.cluster_state.proofs.MergingPaths.{third_at, put_shown, put_same}
use Rattle.cluster_state.proofs.MergingStill.{primary_keeps, stand_kept, all_keep}
use Rattle.cluster_nodes.specs.declared.nodes.Node.TheVariants.{Primary}
use Rattle.history_book.specs.declared.inner.Inner.TheVariants.{FlushOut}
use Rattle.index_primary.specs.declared.parts.PrimaryParts.{PrimaryParts}
use Rattle.index_primary.specs.Cut.{has_put}
use Rattle.cluster_state.proofs.RestKept.{put_keeps, primary_tells}
use Rattle.cluster_documents.proofs.writes.start_publish.Goals as goal

pub take-requires-clause-slot : goal.take-requires-clause-slot
take-requires-clause-slot g c = slot_at g.D.Dir.cells c.args.cluster.now _ _ c.args.p.0 _ _ c.cluster.view_is c.requires.running (λ e. (c.cluster.invariant e).0) c.requires.node

pub take-requires-clause-there : goal.take-requires-clause-there
take-requires-clause-there g c = there_at g.D.Dir.cells c.args.cluster.now _ _ c.args.p.0 _ _ c.cluster.view_is c.requires.running (λ e. (c.cluster.invariant e).0) c.requires.node

pub primary_in-primary-requires : goal.primary_in-primary-requires
primary_in-primary-requires g c = primary_stands g.D.Dir.cells c.args.cluster.now _ c.cluster.inside.ledger _ c.args.p _ c.cluster.view_is c.requires.running (λ e. (c.cluster.invariant e).0) c.requires.node c.take.ensures.place c.requires.primary

pub put-requires : goal.put-requires
put-requires g c = record { slot = slot_kept g.D.Dir.cells _ _ c.args.p.0 c.take.ensures.count (slot_at g.D.Dir.cells c.args.cluster.now _ _ c.args.p.0 _ _ c.cluster.view_is c.requires.running (λ e. (c.cluster.invariant e).0) c.requires.node) }

pub publish_start-started-requires : goal.publish_start-started-requires
publish_start-started-requires g c = record {
  none = none_flies g.D.Dir.cells c.args.cluster.now _ c.cluster.inside.ledger _ c.args.p c.take.result c.cluster.view_is c.requires.running (λ e. (c.cluster.invariant e).0) c.requires.node c.take.ensures.place
      c.primary_in-primary.result.0 c.primary_in-primary.result.1 c.primary_in-primary.ensures c.requires.free;
}

pub show_publishing-requires-clause-fresh : goal.show_publishing-requires-clause-fresh
show_publishing-requires-clause-fresh g c = unbegun_of (fresh_of (c.book-book.ensures.log ∙ sym c.in_ok-reserve.ensures.log) c.is_fresh.ensures)

pub show_publishing-requires-clause-spared : goal.show_publishing-requires-clause-spared
show_publishing-requires-clause-spared g c = (fresh_of (c.book-book.ensures.log ∙ sym c.in_ok-reserve.ensures.log) c.is_fresh.ensures).spared

pub show_publishing-requires-clause-primary : goal.show_publishing-requires-clause-primary
show_publishing-requires-clause-primary g c = (rule_at c.args.cluster.now _ c.cluster.inside.ledger c.reserve.new.self c.args.at Publishing c.cluster.view_is c.in_ok-reserve.ensures.log c.in_ok-reserve.ensures.nodes
    (may_start c.args.cluster.now _ c.cluster.inside.ledger c.args.at c.args.p c.has_cut.result c.cluster.view_is (fresh_of c.book-book.ensures.log c.is_fresh.ensures) c.requires.primary c.requires.free c.has_cut.ensures.is c.has_cut.ensures.owed c.requires.some)).running

pub show_publishing-requires-clause-alone : goal.show_publishing-requires-clause-alone
show_publishing-requires-clause-alone g c = (rule_at c.args.cluster.now _ c.cluster.inside.ledger c.reserve.new.self c.args.at Publishing c.cluster.view_is c.in_ok-reserve.ensures.log c.in_ok-reserve.ensures.nodes
    (may_start c.args.cluster.now _ c.cluster.inside.ledger c.args.at c.args.p c.has_cut.result c.cluster.view_is (fresh_of c.book-book.ensures.log c.is_fresh.ensures) c.requires.primary c.requires.free c.has_cut.ensures.is c.has_cut.ensures.owed c.requires.some)).alone

pub show_publishing-requires-clause-some : goal.show_publishing-requires-clause-some
show_publishing-requires-clause-some g c = asked_some c.cluster.view_is c.in_ok-reserve.ensures.log c.in_ok-reserve.ensures.cut c.requires.some

pub unreachable-requires : goal.unreachable-requires
unreachable-requires g c = not_idle g.D.Dir.cells c.args.cluster.now _ c.cluster.inside.ledger _ c.args.p c.take.result c.cluster.view_is c.requires.running (λ e. (c.cluster.invariant e).0) c.requires.node c.take.ensures.place
    c.primary_in-primary.result.0 c.primary_in-primary.result.1 c.primary_in-primary.ensures
    c.cluster.inside.tasks refl (third_at c.cluster.view_is c.requires.running c.cluster.invariant) c.requires.some (c.publish_start-started.ensures.idle.0 (ok_at _ _ _ c.in-Ok-None.is c.in-Ok-None.field-0-is))

pub is_for_segments-requires : goal.is_for_segments-requires
is_for_segments-requires g c = λ is. not_spent g.D.Dir.cells c.args.cluster.now _ c.cluster.inside.ledger _ c.args.p c.take.result c.cluster.view_is c.requires.running (λ e. (c.cluster.invariant e).0) c.requires.node c.take.ensures.place
    c.primary_in-primary.result.0 c.primary_in-primary.result.1 c.primary_in-primary.ensures
    c.requires.names (c.publish_start-started.ensures.spent.0 (err_at _ _ NamesSpent c.in-Err.is is))

pub invariant_of-cluster-in-Err : goal.invariant_of-cluster-in-Err
invariant_of-cluster-in-Err g c = λ running. (
  back_path g.D.Dir.cells c.args.cluster.now _ c.cluster.inside.ledger c.reserve.new.self _ c.take.new.places.items _ c.args.p.0
      c.take.result c.primary_in-primary.result.0 c.publish_start-started.new.self c.primary_in-primary.result.1
      c.cluster.view_is c.requires.running (λ e. (c.cluster.invariant e).0) c.in_ok-reserve.ensures.log c.in_ok-reserve.ensures.nodes
      (record { count = c.take.ensures.count; taken = c.take.ensures.places; again = c.put.ensures.count; there = c.put.ensures.places })
      c.take.ensures.place c.primary_in-primary.ensures (on_err _ _ c.in-Err.is c.publish_start-started.ensures.err),
  back_files g.D.Dir.cells c.args.cluster.now _ c.cluster.inside.ledger c.reserve.new.self _ c.take.new.places.items _ c.args.p c.take.result c.primary_in-primary.result.0 c.publish_start-started.new.self c.primary_in-primary.result.1
      c.cluster.view_is c.requires.running (λ e. (c.cluster.invariant e).0) (λ e. (c.cluster.invariant e).1) c.in_ok-reserve.ensures.log c.in_ok-reserve.ensures.nodes c.requires.node
      (record { count = c.take.ensures.count; taken = c.take.ensures.places; again = c.put.ensures.count; there = c.put.ensures.places })
      c.take.ensures.place c.primary_in-primary.ensures
      (on_err _ _ c.in-Err.is c.publish_start-started.ensures.err),
  put_same g.D.Dir.cells c.cluster.inside.tasks c.args.cluster.now _ c.cluster.inside.ledger c.reserve.new.self _ c.take.new.places.items _ c.args.p.0
      (record { node = Primary c.publish_start-started.new.self; held = c.primary_in-primary.result.1 }) (record { node = Primary c.primary_in-primary.result.0; held = c.primary_in-primary.result.1 })
      c.cluster.view_is c.in_ok-reserve.ensures.log c.in_ok-reserve.ensures.nodes c.in_ok-reserve.ensures.cut c.requires.node
      (record { count = c.take.ensures.count; taken = c.take.ensures.places; again = c.put.ensures.count; there = c.put.ensures.places })
      (c.take.ensures.place ∙ ap Some c.primary_in-primary.ensures) refl
      (λ jobs count low. primary_keeps jobs count c.primary_in-primary.result.0 c.publish_start-started.new.self (ap (λ (z : PrimaryParts _). z.merges) (on_err _ _ c.in-Err.is c.publish_start-started.ensures.err)) (ap (λ (z : PrimaryParts _). z.has_cut_over) (on_err _ _ c.in-Err.is c.publish_start-started.ensures.err)) (ap (λ (z : PrimaryParts _). z.states) (on_err _ _ c.in-Err.is c.publish_start-started.ensures.err)) low)
      (third_at c.cluster.view_is c.requires.running c.cluster.invariant),
)

pub returns-in-Err-clause-ok : goal.returns-in-Err-clause-ok
returns-in-Err-clause-ok g c =
    let many = c.publish_start-started.ensures.too_many.0 (err_at _ _ TooManySegments c.in-Err.is c.in_ok-is_for_segments-in-Err.ensures) in
    let full = is_full_at g.D.Dir.cells c.args.cluster.now _ c.cluster.inside.ledger _ c.args.p c.take.result c.cluster.view_is c.requires.running (λ e. (c.cluster.invariant e).0) c.requires.node c.take.ensures.place
    c.primary_in-primary.result.0 c.primary_in-primary.result.1 c.primary_in-primary.ensures many in (
      record {
        running = refl;
        nodes = c.in_ok-reserve.ensures.nodes ∙ nodes_is c.args.cluster.now _ c.cluster.inside.ledger c.cluster.view_is;
        log = c.in_ok-reserve.ensures.log ∙ log_is c.args.cluster.now _ c.cluster.inside.ledger c.cluster.view_is;
      },
      full.0,
      full.1,
      told_full g.D.Dir.cells c.args.cluster.now _ c.cluster.inside.ledger _ c.args.p c.take.result c.cluster.view_is c.requires.running (λ e. (c.cluster.invariant e).0) c.requires.node c.take.ensures.place
          c.primary_in-primary.result.0 c.primary_in-primary.result.1 c.primary_in-primary.ensures refl c.requires.primary many,
    )

pub invariant_of-cluster-2 : goal.invariant_of-cluster-2
invariant_of-cluster-2 g c = λ running.
    let task = asked_task g.D.Dir.cells c.primary_in-primary.result.0 c.publish_start-started.new.self c.in-Ok-Some.field-0 c.in-Ok-Some.task c.in-Ok-Some.field-0-is c.in-Ok-Some.ensures.task c.in-Ok-Some.ensures.next in (
      start_path g.D.Dir.cells c.args.cluster.now _ c.cluster.inside.ledger c.reserve.new.self c.show_publishing.new.self c.keep.new.self _ c.take.new.places.items _ c.args.at c.args.p c.in-Ok-Some.task.seg c.in-Ok.segs
          c.take.result c.primary_in-primary.result.0 c.publish_start-started.new.self c.primary_in-primary.result.1
          c.cluster.view_is c.requires.running (λ e. (c.cluster.invariant e).0) c.in_ok-reserve.ensures.log c.in_ok-reserve.ensures.nodes c.show_publishing.ensures.log c.show_publishing.ensures.nodes c.show_publishing.ensures.legal c.show_publishing.ensures.turns
          c.keep.ensures.log c.keep.ensures.nodes (fresh_of c.book-book.ensures.log c.is_fresh.ensures)
          (may_start c.args.cluster.now _ c.cluster.inside.ledger c.args.at c.args.p c.has_cut.result c.cluster.view_is (fresh_of c.book-book.ensures.log c.is_fresh.ensures) c.requires.primary c.requires.free c.has_cut.ensures.is c.has_cut.ensures.owed c.requires.some)
          c.requires.node c.requires.primary
          (record { count = c.take.ensures.count; taken = c.take.ensures.places; again = c.put.ensures.count; there = c.put.ensures.places })
          c.take.ensures.place c.primary_in-primary.ensures (c.in-Ok.ensures ∙ task.0.segs) task.1 c.publish_start-started.ensures.whole,
      start_files g.D.Dir.cells c.args.cluster.now _ c.cluster.inside.ledger c.reserve.new.self _ c.take.new.places.items _ c.args.p c.take.result c.primary_in-primary.result.0 c.publish_start-started.new.self c.primary_in-primary.result.1
          c.cluster.view_is c.requires.running (λ e. (c.cluster.invariant e).0) (λ e. (c.cluster.invariant e).1) c.in_ok-reserve.ensures.log c.in_ok-reserve.ensures.nodes c.requires.node
          (record { count = c.take.ensures.count; taken = c.take.ensures.places; again = c.put.ensures.count; there = c.put.ensures.places })
          c.take.ensures.place c.primary_in-primary.ensures
          c.show_publishing.new.self c.args.at c.show_publishing.ensures.legal c.show_publishing.ensures.turns c.keep.new.self c.in-Ok-Some.task.seg c.in-Ok.segs c.show_publishing.ensures.log c.show_publishing.ensures.nodes c.keep.ensures.log c.keep.ensures.nodes
          (fresh_of c.book-book.ensures.log c.is_fresh.ensures) (may_start c.args.cluster.now _ c.cluster.inside.ledger c.args.at c.args.p c.has_cut.result c.cluster.view_is (fresh_of c.book-book.ensures.log c.is_fresh.ensures) c.requires.primary c.requires.free c.has_cut.ensures.is c.has_cut.ensures.owed c.requires.some) task.1 c.publish_start-started.ensures.drawn task.0.seg c.requires.names,
      (let begun = put_shown g.D.Dir.cells c.cluster.inside.tasks c.args.cluster.now _ c.cluster.inside.ledger c.reserve.new.self _ c.take.new.places.items _ c.args.p.0
          (record { node = Primary c.publish_start-started.new.self; held = c.primary_in-primary.result.1 }) (record { node = Primary c.primary_in-primary.result.0; held = c.primary_in-primary.result.1 })
          c.cluster.view_is c.in_ok-reserve.ensures.log c.in_ok-reserve.ensures.nodes c.in_ok-reserve.ensures.cut c.requires.node
          (record { count = c.take.ensures.count; taken = c.take.ensures.places; again = c.put.ensures.count; there = c.put.ensures.places })
          (c.take.ensures.place ∙ ap Some c.primary_in-primary.ensures) refl
          (λ jobs count low. primary_keeps jobs count c.primary_in-primary.result.0 c.publish_start-started.new.self (ap (λ (z : PrimaryParts _). z.merges) task.1) (ap (λ (z : PrimaryParts _). z.has_cut_over) task.1) (ap (λ (z : PrimaryParts _). z.states) task.1) low)
          (third_at c.cluster.view_is c.requires.running c.cluster.invariant)
          c.show_publishing.new.self c.args.at Publishing c.show_publishing.ensures.log c.show_publishing.ensures.nodes c.show_publishing.ensures.cut refl in
          stand_kept c.cluster.inside.tasks _ _ c.show_publishing.new.self c.keep.new.self (FlushOut c.args.at c.in-Ok-Some.task.seg c.in-Ok.segs) c.keep.ensures.log c.keep.ensures.nodes c.keep.ensures.cut refl
          (all_keep _ c.cluster.inside.tasks _ _ _ begun) begun),
    )

pub returns-clause-ok : goal.returns-clause-ok
returns-clause-ok g c =
    let task = asked_task g.D.Dir.cells c.primary_in-primary.result.0 c.publish_start-started.new.self c.in-Ok-Some.field-0 c.in-Ok-Some.task c.in-Ok-Some.field-0-is c.in-Ok-Some.ensures.task c.in-Ok-Some.ensures.next in
    hands_out g.D.Dir.cells c.args.cluster.now _ c.cluster.inside.ledger _ c.args.p c.take.result c.cluster.view_is c.requires.running (λ e. (c.cluster.invariant e).0) c.requires.node c.take.ensures.place
    c.primary_in-primary.result.0 c.primary_in-primary.result.1 c.primary_in-primary.ensures
    c.reserve.new.self c.show_publishing.new.self c.keep.new.self c.args.at c.in-Ok-Some.task c.in-Ok.segs c.in_ok-reserve.ensures.log c.in_ok-reserve.ensures.nodes c.show_publishing.ensures.log c.show_publishing.ensures.nodes
    c.keep.ensures.log c.keep.ensures.nodes (fresh_of c.book-book.ensures.log c.is_fresh.ensures) c.in-Ok.ensures task.0
    (told_few g.D.Dir.cells c.args.cluster.now _ c.cluster.inside.ledger _ c.args.p c.take.result c.cluster.view_is c.requires.running (λ e. (c.cluster.invariant e).0) c.requires.node c.take.ensures.place
    c.primary_in-primary.result.0 c.primary_in-primary.result.1 c.primary_in-primary.ensures c.publish_start-started.new.self c.in-Ok-Some.task refl c.requires.primary task.0 task.1 c.publish_start-started.ensures.whole)

pub is_fresh-requires : goal.is_fresh-requires
is_fresh-requires g c = asked_of (λ (l : Log). entries_of_line c.args.at (printed l) ≡ []) c.cluster.view_is c.book-book.ensures.log c.requires.fresh

pub returns-in-Err-clause-rest : goal.returns-in-Err-clause-rest
returns-in-Err-clause-rest g c =
    let same = on_err _ _ c.in-Err.is c.publish_start-started.ensures.err in
    put_keeps g.D.Dir.cells c.args.cluster.now c.cluster.inside.ledger c.reserve.new.self c.reserve.new.self c.cluster.inside.tasks _ _ c.take.new.places.items _ c.args.p.0
    (record { node = Primary c.publish_start-started.new.self; held = c.primary_in-primary.result.1 }) (record { node = Primary c.primary_in-primary.result.0; held = c.primary_in-primary.result.1 })
    c.cluster.view_is c.in_ok-reserve.ensures.cut refl (record { count = c.take.ensures.count; taken = c.take.ensures.places; again = c.put.ensures.count; there = c.put.ensures.places })
    (c.take.ensures.place ∙ ap Some c.primary_in-primary.ensures)
    (primary_tells c.primary_in-primary.result.0 c.publish_start-started.new.self c.primary_in-primary.result.1 (ap (λ (z : PrimaryParts _). z.commits) same) (ap (λ (z : PrimaryParts _). z.infos.segs) same) (ap (λ (z : PrimaryParts _). z.merges) same))

pub returns-clause-rest : goal.returns-clause-rest
returns-clause-rest g c =
    let task = asked_task g.D.Dir.cells c.primary_in-primary.result.0 c.publish_start-started.new.self c.in-Ok-Some.field-0 c.in-Ok-Some.task c.in-Ok-Some.field-0-is c.in-Ok-Some.ensures.task c.in-Ok-Some.ensures.next in
    put_keeps g.D.Dir.cells c.args.cluster.now c.cluster.inside.ledger c.reserve.new.self c.keep.new.self c.cluster.inside.tasks _ _ c.take.new.places.items _ c.args.p.0
    (record { node = Primary c.publish_start-started.new.self; held = c.primary_in-primary.result.1 }) (record { node = Primary c.primary_in-primary.result.0; held = c.primary_in-primary.result.1 })
    c.cluster.view_is c.in_ok-reserve.ensures.cut (c.keep.ensures.cut ∙ c.show_publishing.ensures.cut) (record { count = c.take.ensures.count; taken = c.take.ensures.places; again = c.put.ensures.count; there = c.put.ensures.places })
    (c.take.ensures.place ∙ ap Some c.primary_in-primary.ensures)
    (primary_tells c.primary_in-primary.result.0 c.publish_start-started.new.self c.primary_in-primary.result.1 (ap (λ (z : PrimaryParts _). z.commits) task.1)
    (ap (λ (z : PrimaryParts _). z.infos.segs) task.1 ∙ drawn_segs (has_put c.primary_in-primary.result.0.waiting) c.primary_in-primary.result.0.infos) (ap (λ (z : PrimaryParts _). z.merges) task.1))
