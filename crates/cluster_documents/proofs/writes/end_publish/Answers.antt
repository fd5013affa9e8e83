use Rattle.std.proofs.Common.{ap, arith, ◌≡◌, ◌≤◌, ◌+◌, ◌∙◌, sym, refl, subst, Some, List, ℕ, map, length, true, false, true≢false}
use Rattle.history_rules.specs.declared.entry.Event.TheVariants.{Published, Refused}
use Rattle.history_rules.specs.declared.cause.Cause.TheVariants.{DiskFault}
use Rattle.index_primary.specs.declared.parts.PrimaryParts.{PrimaryParts}
use Rattle.cluster_state.proofs.Frames.{slot_at, slot_kept, there_at, rule_at}
use Rattle.cluster_documents.proofs.PublishPaths.{primary_stands, work_at, next_fits, next_is, published_rule, end_path, ends_now}
use Rattle.cluster_documents.proofs.PublishFiles.{end_files}
use Rattle.cluster_state.proofs.Ledgers.{legal_of, told_of, turns_of, asked_of, asked_size}
use Rattle.history_rules.specs.Nodes.{generation_of, newest_version, primary_of, IsNode}
use Rattle.history_rules.specs.Lines.{publish_in_flight, is_answered}
use Rattle.history_book.specs.Log.{Log, printed}
use Rattle.cluster_state.proofs.MergingPaths.{third_at, put_published}
use Rattle.cluster_state.specs.Run.{Run}
use Rattle.cluster_state.specs.Met.{met_in, with_met, ArePlanned, has_risen}
use Rattle.cluster_state.specs.Writes.{IsFlushed}
use Rattle.cluster_documents.proofs.MetWords.{met_flight, met_primary, met_flushed}
use Rattle.cluster_documents.proofs.GivenUp.{given_up_path, given_up_files, given_up_merges}
use Rattle.cluster_documents.proofs.MetStands.{ends_behind, left_by}
use Rattle.cluster_state.proofs.MetStands.{behind, run_behind, counted, stands_behind, as_many, on_any, fails_as_told}
use Rattle.cluster_nodes.specs.declared.nodes.Node.TheVariants.{Primary}
use Rattle.cluster_state.specs.CallsLeft.{stage_calls}
use Rattle.cluster_state.proofs.RestKept.{put_keeps, primary_tells}
use Rattle.cluster_documents.proofs.KeptPoint.{all_point, new_version, put_point}
use Rattle.cluster_documents.proofs.writes.end_publish.Goals as goal

pub take-requires-clause-slot : goal.take-requires-clause-slot
take-requires-clause-slot g c = slot_at g.D.Dir.cells c.args.cluster.now _ _ c.args.p.0 _ _ c.cluster.view_is c.requires.running (λ e. (c.cluster.invariant e).0) c.requires.node

pub take-requires-clause-there : goal.take-requires-clause-there
take-requires-clause-there g c = there_at g.D.Dir.cells c.args.cluster.now _ _ c.args.p.0 _ _ c.cluster.view_is c.requires.running (λ e. (c.cluster.invariant e).0) c.requires.node

pub primary_in-primary-requires : goal.primary_in-primary-requires
primary_in-primary-requires g c = primary_stands g.D.Dir.cells c.args.cluster.now _ c.cluster.inside.ledger _ c.args.p _ c.cluster.view_is c.requires.running (λ e. (c.cluster.invariant e).0) c.requires.node c.take.ensures.place c.requires.primary

pub put-requires : goal.put-requires
put-requires g c = record { slot = slot_kept g.D.Dir.cells _ _ c.args.p.0 c.take.ensures.count (slot_at g.D.Dir.cells c.args.cluster.now _ _ c.args.p.0 _ _ c.cluster.view_is c.requires.running (λ e. (c.cluster.invariant e).0) c.requires.node) }

pub publish_end-ended-requires-clause-work : goal.publish_end-ended-requires-clause-work
publish_end-ended-requires-clause-work g c = work_at g.D.Dir.cells c.args.cluster.now _ c.cluster.inside.ledger _ c.args.p c.take.result c.cluster.view_is c.requires.running (λ e. (c.cluster.invariant e).0) c.requires.node c.take.ensures.place
    c.primary_in-primary.result.0 c.primary_in-primary.result.1 c.primary_in-primary.ensures
    c.args.at c.args.work (legal_of c.book-book.ensures.nodes c.book-book.ensures.log c.is_legal.ensures.legal) (turns_of c.book-book.ensures.log c.is_legal.ensures.turns) c.requires.flight c.requires.work

pub publish_end-ended-requires-clause-below : goal.publish_end-ended-requires-clause-below
publish_end-ended-requires-clause-below g c = next_fits g.D.Dir.cells c.args.cluster.now _ c.cluster.inside.ledger _ c.args.p c.take.result c.cluster.view_is c.requires.running (λ e. (c.cluster.invariant e).0) c.requires.node c.take.ensures.place
    c.primary_in-primary.result.0 c.primary_in-primary.result.1 c.primary_in-primary.ensures
    c.newest-newest.result (told_of c.book-book.ensures.log newest_version c.newest-newest.ensures) (let low = c.if-newest.false in omega (arith, low))

pub is_flushed-requires : goal.is_flushed-requires
is_flushed-requires g c = asked_of (λ (l : Log). publish_in_flight (printed l) ≡ Some c.args.at) c.cluster.view_is c.book-book.ensures.log c.requires.flight

pub flies-requires : goal.flies-requires
flies-requires g c = asked_of (λ (l : Log). publish_in_flight (printed l) ≡ Some c.args.at) c.cluster.view_is c.book-book.ensures.log c.requires.flight

pub is_unanswered-requires : goal.is_unanswered-requires
is_unanswered-requires g c = λ none. absurd (let no = sym c.flies.ensures.open_is ∙ none in cc)

pub are_planned-requires-clause-count : goal.are_planned-requires-clause-count
are_planned-requires-clause-count g c = ap (λ (xs : List (ℕ × ℕ)). length xs) c.as_slice.ensures.value ∙ (as_many (met_in g.D.FaultDir.planned) c.in_ok-before.before.items c.cluster.inside.places.items c.cluster.inside.places.items c.met_before.new.ledger.nodes c.in_ok-before.ensures.met refl (counted g.D.Dir.cells c.args.cluster.now _ c.cluster.inside.ledger c.met_before.new.ledger c.cluster.inside.places.items c.cluster.inside.tasks c.cluster.view_is c.requires.running c.cluster.invariant c.in_ok-before.ensures.nodes) ∙ sym c.book.ensures.nodes)

pub are_planned-requires-clause-places : goal.are_planned-requires-clause-places
are_planned-requires-clause-places g c = (c.put.ensures.count ∙ (c.take.ensures.count ∙ counted g.D.Dir.cells c.args.cluster.now _ c.cluster.inside.ledger c.met_before.new.ledger c.cluster.inside.places.items c.cluster.inside.tasks c.cluster.view_is c.requires.running c.cluster.invariant c.in_ok-before.ensures.nodes)) ∙ sym c.book.ensures.nodes

pub note_published-requires-clause-room : goal.note_published-requires-clause-room
note_published-requires-clause-room g c = let room = c.in_ok-before.ensures.room in let same = ap (λ (xs : List (ℕ × ℕ)). length xs) c.as_slice-in-Ok.ensures.value in omega (arith, room, same)

pub note_published-requires-clause-count : goal.note_published-requires-clause-count
note_published-requires-clause-count g c = ap (λ (xs : List (ℕ × ℕ)). length xs) c.as_slice-in-Ok.ensures.value ∙ as_many (met_in g.D.FaultDir.planned) c.in_ok-before.before.items c.cluster.inside.places.items c.cluster.inside.places.items c.met_before.new.ledger.nodes c.in_ok-before.ensures.met refl (counted g.D.Dir.cells c.args.cluster.now _ c.cluster.inside.ledger c.met_before.new.ledger c.cluster.inside.places.items c.cluster.inside.tasks c.cluster.view_is c.requires.running c.cluster.invariant c.in_ok-before.ensures.nodes)

pub note_published-requires-clause-places : goal.note_published-requires-clause-places
note_published-requires-clause-places g c = (c.put.ensures.count ∙ (c.take.ensures.count ∙ counted g.D.Dir.cells c.args.cluster.now _ c.cluster.inside.ledger c.met_before.new.ledger c.cluster.inside.places.items c.cluster.inside.tasks c.cluster.view_is c.requires.running c.cluster.invariant c.in_ok-before.ensures.nodes))

pub note_published-requires-clause-few : goal.note_published-requires-clause-few
note_published-requires-clause-few g c = subst (λ (xs : List (ℕ × ℕ)). length xs ≤ 255) (c.as_slice.ensures.value ∙ sym c.as_slice-in-Ok.ensures.value) (c.if-not-are_planned.ensures.few refl)

pub note_published-requires-clause-planned : goal.note_published-requires-clause-planned
note_published-requires-clause-planned g c = subst (λ (z : List (ℕ × ℕ) × Log). ArePlanned 1 z.0 (map (met_in g.D.FaultDir.planned) c.put.new.places.items) (printed z.1)) (λ i. ((c.as_slice.ensures.value ∙ sym c.as_slice-in-Ok.ensures.value) i, c.book.ensures.log i)) (c.if-not-are_planned.ensures.planned refl)

pub note_published-requires-clause-unanswered : goal.note_published-requires-clause-unanswered
note_published-requires-clause-unanswered g c = ap (λ (l : Log). is_answered c.args.at (printed l)) (sym (c.book-book.ensures.log ∙ sym c.in_ok-before.ensures.log)) ∙ c.is_unanswered.ensures

pub note_published-requires-clause-flight : goal.note_published-requires-clause-flight
note_published-requires-clause-flight g c = asked_of (λ (l : Log). publish_in_flight (printed l) ≡ Some c.args.at) c.cluster.view_is c.in_ok-before.ensures.log c.requires.flight

pub note_published-requires-clause-present : goal.note_published-requires-clause-present
note_published-requires-clause-present g c = told_of (c.book-book.ensures.log ∙ sym c.in_ok-before.ensures.log) generation_of c.generation.ensures

pub note_published-requires-clause-next : goal.note_published-requires-clause-next
note_published-requires-clause-next g c = told_of (sym c.in_ok-before.ensures.log) (λ q. newest_version q + 1) (next_is g.D.Dir.cells c.args.cluster.now _ c.cluster.inside.ledger _ c.args.p c.take.result c.cluster.view_is c.requires.running (λ e. (c.cluster.invariant e).0) c.requires.node c.take.ensures.place c.primary_in-primary.result.0 c.primary_in-primary.result.1 c.primary_in-primary.ensures c.in-Ok.v c.in-Ok.ensures.version)

pub has_risen-requires : goal.has_risen-requires
has_risen-requires g c = record { count = (c.put.ensures.count ∙ (c.take.ensures.count ∙ counted g.D.Dir.cells c.args.cluster.now _ c.cluster.inside.ledger c.met_before.new.ledger c.cluster.inside.places.items c.cluster.inside.tasks c.cluster.view_is c.requires.running c.cluster.invariant c.in_ok-before.ensures.nodes)) ∙ sym (ap (λ (xs : List (ℕ × ℕ)). length xs) c.as_slice-in-Err.ensures.value ∙ as_many (met_in g.D.FaultDir.planned) c.in_ok-before.before.items c.cluster.inside.places.items c.cluster.inside.places.items c.met_before.new.ledger.nodes c.in_ok-before.ensures.met refl (counted g.D.Dir.cells c.args.cluster.now _ c.cluster.inside.ledger c.met_before.new.ledger c.cluster.inside.places.items c.cluster.inside.tasks c.cluster.view_is c.requires.running c.cluster.invariant c.in_ok-before.ensures.nodes)) }

pub note_given_up-requires-clause-room : goal.note_given_up-requires-clause-room
note_given_up-requires-clause-room g c = let room = c.in_ok-before.ensures.room in let same = ap (λ (xs : List (ℕ × ℕ)). length xs) c.as_slice-in-Err-2.ensures.value in omega (arith, room, same)

pub note_given_up-requires-clause-count : goal.note_given_up-requires-clause-count
note_given_up-requires-clause-count g c = ap (λ (xs : List (ℕ × ℕ)). length xs) c.as_slice-in-Err-2.ensures.value ∙ as_many (met_in g.D.FaultDir.planned) c.in_ok-before.before.items c.cluster.inside.places.items c.cluster.inside.places.items c.met_before.new.ledger.nodes c.in_ok-before.ensures.met refl (counted g.D.Dir.cells c.args.cluster.now _ c.cluster.inside.ledger c.met_before.new.ledger c.cluster.inside.places.items c.cluster.inside.tasks c.cluster.view_is c.requires.running c.cluster.invariant c.in_ok-before.ensures.nodes)

pub note_given_up-requires-clause-places : goal.note_given_up-requires-clause-places
note_given_up-requires-clause-places g c = (c.put.ensures.count ∙ (c.take.ensures.count ∙ counted g.D.Dir.cells c.args.cluster.now _ c.cluster.inside.ledger c.met_before.new.ledger c.cluster.inside.places.items c.cluster.inside.tasks c.cluster.view_is c.requires.running c.cluster.invariant c.in_ok-before.ensures.nodes))

pub note_given_up-requires-clause-few : goal.note_given_up-requires-clause-few
note_given_up-requires-clause-few g c = subst (λ (xs : List (ℕ × ℕ)). length xs ≤ 255) (c.as_slice.ensures.value ∙ sym c.as_slice-in-Err-2.ensures.value) (c.if-not-are_planned.ensures.few refl)

pub note_given_up-requires-clause-planned : goal.note_given_up-requires-clause-planned
note_given_up-requires-clause-planned g c = subst (λ (z : List (ℕ × ℕ) × Log). ArePlanned 1 z.0 (map (met_in g.D.FaultDir.planned) c.put.new.places.items) (printed z.1)) (λ i. ((c.as_slice.ensures.value ∙ sym c.as_slice-in-Err-2.ensures.value) i, c.book.ensures.log i)) (c.if-not-are_planned.ensures.planned refl)

pub note_given_up-requires-clause-unanswered : goal.note_given_up-requires-clause-unanswered
note_given_up-requires-clause-unanswered g c = ap (λ (l : Log). is_answered c.args.at (printed l)) (sym (c.book-book.ensures.log ∙ sym c.in_ok-before.ensures.log)) ∙ c.is_unanswered.ensures

pub note_given_up-requires-clause-flight : goal.note_given_up-requires-clause-flight
note_given_up-requires-clause-flight g c = asked_of (λ (l : Log). publish_in_flight (printed l) ≡ Some c.args.at) c.cluster.view_is c.in_ok-before.ensures.log c.requires.flight

pub note_given_up-requires-clause-risen : goal.note_given_up-requires-clause-risen
note_given_up-requires-clause-risen g c = ap (λ (xs : List (ℕ × ℕ)). has_risen c.args.p.0 1 xs (map (met_in g.D.FaultDir.planned) c.put.new.places.items)) (c.as_slice-in-Err-2.ensures.value ∙ sym c.as_slice-in-Err.ensures.value) ∙ (sym c.has_risen.ensures ∙ c.if-not-has_risen.false)

pub note_given_up-requires-clause-primary : goal.note_given_up-requires-clause-primary
note_given_up-requires-clause-primary g c = asked_of (λ (l : Log). primary_of (printed l) ≡ Some c.args.p) c.cluster.view_is c.in_ok-before.ensures.log c.requires.primary

pub invariant_of-cluster-in-Ok : goal.invariant_of-cluster-in-Ok
invariant_of-cluster-in-Ok g c = λ running. (
  end_path g.D.Dir.cells (run_behind c.args.at c.as_slice-in-Ok.result.now (map (met_in g.D.FaultDir.planned) c.put.new.places.items) c.met_before.new.ledger c.args.cluster.now) c.args.cluster.now.ended (behind c.args.at c.as_slice-in-Ok.result.now (map (met_in g.D.FaultDir.planned) c.put.new.places.items) c.met_before.new.ledger) (behind c.args.at c.as_slice-in-Ok.result.now (map (met_in g.D.FaultDir.planned) c.put.new.places.items) c.met_before.new.ledger) c.note_published.new.ledger c.cluster.inside.places.items c.take.new.places.items c.put.new.places.items c.args.at c.args.p (record { 0 = c.generation.result }) c.in-Ok.v
      c.take.result c.primary_in-primary.result.0 c.publish_end-ended.new.self c.args.work c.primary_in-primary.result.1
      refl c.requires.running (λ e. (stands_behind g.D.Dir.cells c.args.cluster.now _ c.cluster.inside.ledger c.met_before.new.ledger c.cluster.inside.places.items c.cluster.inside.tasks c.cluster.view_is c.requires.running c.cluster.invariant c.args.at c.as_slice-in-Ok.result.now (map (met_in g.D.FaultDir.planned) c.put.new.places.items) c.in_ok-before.ensures.log c.in_ok-before.ensures.nodes c.in_ok-before.ensures.cut).0) refl refl c.note_published.ensures.log c.note_published.ensures.nodes c.note_published.ensures.legal c.note_published.ensures.turns
      c.note_published.ensures.rule (met_flight c.args.at c.as_slice-in-Ok.result.now (map (met_in g.D.FaultDir.planned) c.put.new.places.items) c.met_before.new.ledger.log (with_met false c.args.at 1 c.as_slice-in-Ok.result.now (map (met_in g.D.FaultDir.planned) c.put.new.places.items) c.met_before.new.ledger.log) refl (asked_of (λ (l : Log). publish_in_flight (printed l) ≡ Some c.args.at) c.cluster.view_is c.in_ok-before.ensures.log c.requires.flight)) (asked_size (λ (k : ℕ). IsNode k c.args.p.0) c.cluster.view_is c.in_ok-before.ensures.nodes c.requires.node) (met_primary c.args.at c.args.p c.as_slice-in-Ok.result.now (map (met_in g.D.FaultDir.planned) c.put.new.places.items) c.met_before.new.ledger.log (with_met false c.args.at 1 c.as_slice-in-Ok.result.now (map (met_in g.D.FaultDir.planned) c.put.new.places.items) c.met_before.new.ledger.log) refl (asked_of (λ (l : Log). primary_of (printed l) ≡ Some c.args.p) c.cluster.view_is c.in_ok-before.ensures.log c.requires.primary)) (record { count = c.take.ensures.count; taken = c.take.ensures.places; again = c.put.ensures.count; there = c.put.ensures.places })
      c.take.ensures.place c.primary_in-primary.ensures (met_flushed c.args.at c.args.work c.as_slice-in-Ok.result.now (map (met_in g.D.FaultDir.planned) c.put.new.places.items) c.met_before.new.ledger.log (asked_of (λ (l : Log). IsFlushed c.args.at l c.args.work) c.cluster.view_is c.in_ok-before.ensures.log c.requires.work)) c.in-Ok.ensures.point c.in-Ok.ensures.documents
      (ap (λ (z : PrimaryParts _). z.accepted) c.publish_end-ended.ensures.others) (ap (λ (z : PrimaryParts _). z.merges) c.publish_end-ended.ensures.others) c.publish_end-ended.ensures.whole,
  end_files g.D.Dir.cells (run_behind c.args.at c.as_slice-in-Ok.result.now (map (met_in g.D.FaultDir.planned) c.put.new.places.items) c.met_before.new.ledger c.args.cluster.now) c.args.cluster.now.ended (behind c.args.at c.as_slice-in-Ok.result.now (map (met_in g.D.FaultDir.planned) c.put.new.places.items) c.met_before.new.ledger) (behind c.args.at c.as_slice-in-Ok.result.now (map (met_in g.D.FaultDir.planned) c.put.new.places.items) c.met_before.new.ledger) c.cluster.inside.places.items c.take.new.places.items c.put.new.places.items c.args.p c.take.result c.primary_in-primary.result.0 c.publish_end-ended.new.self c.primary_in-primary.result.1
      refl c.requires.running (λ e. (stands_behind g.D.Dir.cells c.args.cluster.now _ c.cluster.inside.ledger c.met_before.new.ledger c.cluster.inside.places.items c.cluster.inside.tasks c.cluster.view_is c.requires.running c.cluster.invariant c.args.at c.as_slice-in-Ok.result.now (map (met_in g.D.FaultDir.planned) c.put.new.places.items) c.in_ok-before.ensures.log c.in_ok-before.ensures.nodes c.in_ok-before.ensures.cut).0) (λ e. (stands_behind g.D.Dir.cells c.args.cluster.now _ c.cluster.inside.ledger c.met_before.new.ledger c.cluster.inside.places.items c.cluster.inside.tasks c.cluster.view_is c.requires.running c.cluster.invariant c.args.at c.as_slice-in-Ok.result.now (map (met_in g.D.FaultDir.planned) c.put.new.places.items) c.in_ok-before.ensures.log c.in_ok-before.ensures.nodes c.in_ok-before.ensures.cut).1) refl refl (asked_size (λ (k : ℕ). IsNode k c.args.p.0) c.cluster.view_is c.in_ok-before.ensures.nodes c.requires.node) (record { count = c.take.ensures.count; taken = c.take.ensures.places; again = c.put.ensures.count; there = c.put.ensures.places })
      c.take.ensures.place c.primary_in-primary.ensures
      c.note_published.new.ledger c.args.at c.note_published.ensures.legal c.note_published.ensures.turns (record { 0 = c.generation.result }) c.in-Ok.v c.args.work c.note_published.ensures.log c.note_published.ensures.nodes
      c.note_published.ensures.rule (met_flight c.args.at c.as_slice-in-Ok.result.now (map (met_in g.D.FaultDir.planned) c.put.new.places.items) c.met_before.new.ledger.log (with_met false c.args.at 1 c.as_slice-in-Ok.result.now (map (met_in g.D.FaultDir.planned) c.put.new.places.items) c.met_before.new.ledger.log) refl (asked_of (λ (l : Log). publish_in_flight (printed l) ≡ Some c.args.at) c.cluster.view_is c.in_ok-before.ensures.log c.requires.flight)) (met_primary c.args.at c.args.p c.as_slice-in-Ok.result.now (map (met_in g.D.FaultDir.planned) c.put.new.places.items) c.met_before.new.ledger.log (with_met false c.args.at 1 c.as_slice-in-Ok.result.now (map (met_in g.D.FaultDir.planned) c.put.new.places.items) c.met_before.new.ledger.log) refl (asked_of (λ (l : Log). primary_of (printed l) ≡ Some c.args.p) c.cluster.view_is c.in_ok-before.ensures.log c.requires.primary)) (met_flushed c.args.at c.args.work c.as_slice-in-Ok.result.now (map (met_in g.D.FaultDir.planned) c.put.new.places.items) c.met_before.new.ledger.log (asked_of (λ (l : Log). IsFlushed c.args.at l c.args.work) c.cluster.view_is c.in_ok-before.ensures.log c.requires.work)) c.in-Ok.ensures.point c.in-Ok.ensures.documents c.publish_end-ended.ensures.stays c.publish_end-ended.ensures.fresh c.publish_end-ended.ensures.drawn
      c.publish_end-ended.ensures.appears c.publish_end-ended.ensures.others c.publish_end-ended.ensures.whole c.files_last.ensures,
  put_published g.D.Dir.cells c.cluster.inside.tasks (run_behind c.args.at c.as_slice-in-Ok.result.now (map (met_in g.D.FaultDir.planned) c.put.new.places.items) c.met_before.new.ledger c.args.cluster.now) c.args.cluster.now.ended (behind c.args.at c.as_slice-in-Ok.result.now (map (met_in g.D.FaultDir.planned) c.put.new.places.items) c.met_before.new.ledger) (behind c.args.at c.as_slice-in-Ok.result.now (map (met_in g.D.FaultDir.planned) c.put.new.places.items) c.met_before.new.ledger) c.note_published.new.ledger c.cluster.inside.places.items c.take.new.places.items c.put.new.places.items c.args.p c.primary_in-primary.result.0 c.publish_end-ended.new.self
      c.primary_in-primary.result.1 c.args.at (record { 0 = c.generation.result }) c.in-Ok.v refl c.requires.running (λ e. (stands_behind g.D.Dir.cells c.args.cluster.now _ c.cluster.inside.ledger c.met_before.new.ledger c.cluster.inside.places.items c.cluster.inside.tasks c.cluster.view_is c.requires.running c.cluster.invariant c.args.at c.as_slice-in-Ok.result.now (map (met_in g.D.FaultDir.planned) c.put.new.places.items) c.in_ok-before.ensures.log c.in_ok-before.ensures.nodes c.in_ok-before.ensures.cut).0) refl refl
      c.note_published.ensures.log c.note_published.ensures.nodes c.note_published.ensures.cut (asked_size (λ (k : ℕ). IsNode k c.args.p.0) c.cluster.view_is c.in_ok-before.ensures.nodes c.requires.node) (met_primary c.args.at c.args.p c.as_slice-in-Ok.result.now (map (met_in g.D.FaultDir.planned) c.put.new.places.items) c.met_before.new.ledger.log (with_met false c.args.at 1 c.as_slice-in-Ok.result.now (map (met_in g.D.FaultDir.planned) c.put.new.places.items) c.met_before.new.ledger.log) refl (asked_of (λ (l : Log). primary_of (printed l) ≡ Some c.args.p) c.cluster.view_is c.in_ok-before.ensures.log c.requires.primary)) (record { count = c.take.ensures.count; taken = c.take.ensures.places; again = c.put.ensures.count; there = c.put.ensures.places })
      (c.take.ensures.place ∙ ap Some c.primary_in-primary.ensures) c.in-Ok.ensures.point.point.has_cut_over (ap (λ (z : PrimaryParts _). z.merges) c.publish_end-ended.ensures.others) (ap (λ (z : PrimaryParts _). z.states) c.publish_end-ended.ensures.others)
      (stands_behind g.D.Dir.cells c.args.cluster.now _ c.cluster.inside.ledger c.met_before.new.ledger c.cluster.inside.places.items c.cluster.inside.tasks c.cluster.view_is c.requires.running c.cluster.invariant c.args.at c.as_slice-in-Ok.result.now (map (met_in g.D.FaultDir.planned) c.put.new.places.items) c.in_ok-before.ensures.log c.in_ok-before.ensures.nodes c.in_ok-before.ensures.cut).2,
)

pub returns-in-Ok-clause-ok : goal.returns-in-Ok-clause-ok
returns-in-Ok-clause-ok g c = ends_behind g.D.FaultDir.planned c.cluster.inside.places.items c.put.new.places.items c.args.cluster.now _ c.cluster.inside.ledger c.met_before.new.ledger c.note_published.new.ledger c.args.at true c.as_slice-in-Ok.result.now (map (met_in g.D.FaultDir.planned) c.put.new.places.items) (Published (record { 0 = c.generation.result }) c.in-Ok.v) c.cluster.view_is c.in_ok-before.ensures.log c.in_ok-before.ensures.nodes c.note_published.ensures.log c.note_published.ensures.nodes
    (λ i. Published (record { 0 = told_of c.book-book.ensures.log generation_of c.generation.ensures i }) (record { 0 = (next_is g.D.Dir.cells c.args.cluster.now _ c.cluster.inside.ledger _ c.args.p c.take.result c.cluster.view_is c.requires.running (λ e. (c.cluster.invariant e).0) c.requires.node c.take.ensures.place c.primary_in-primary.result.0 c.primary_in-primary.result.1 c.primary_in-primary.ensures c.in-Ok.v c.in-Ok.ensures.version) i })) (c.as_slice-in-Ok.ensures.value ∙ c.in_ok-before.ensures.met) refl refl refl (λ none. absurd (true≢false none))

pub invariant_of-cluster-in-Err : goal.invariant_of-cluster-in-Err
invariant_of-cluster-in-Err g c = λ running. (
  given_up_path g.D.Dir.cells (run_behind c.args.at c.as_slice-in-Err-2.result.now (map (met_in g.D.FaultDir.planned) c.put.new.places.items) c.met_before.new.ledger c.args.cluster.now) c.args.cluster.now.ended (behind c.args.at c.as_slice-in-Err-2.result.now (map (met_in g.D.FaultDir.planned) c.put.new.places.items) c.met_before.new.ledger) (behind c.args.at c.as_slice-in-Err-2.result.now (map (met_in g.D.FaultDir.planned) c.put.new.places.items) c.met_before.new.ledger) c.note_given_up.new.ledger c.cluster.inside.places.items c.take.new.places.items c.put.new.places.items c.args.at c.args.p c.take.result c.primary_in-primary.result.0 c.publish_end-ended.new.self c.primary_in-primary.result.1
      refl c.requires.running refl refl c.note_given_up.ensures.log c.note_given_up.ensures.nodes c.note_given_up.ensures.legal c.note_given_up.ensures.turns c.note_given_up.ensures.rule c.note_given_up.ensures.flying (met_flight c.args.at c.as_slice-in-Err-2.result.now (map (met_in g.D.FaultDir.planned) c.put.new.places.items) c.met_before.new.ledger.log (with_met false c.args.at 1 c.as_slice-in-Err-2.result.now (map (met_in g.D.FaultDir.planned) c.put.new.places.items) c.met_before.new.ledger.log) refl (asked_of (λ (l : Log). publish_in_flight (printed l) ≡ Some c.args.at) c.cluster.view_is c.in_ok-before.ensures.log c.requires.flight)) (asked_size (λ (k : ℕ). IsNode k c.args.p.0) c.cluster.view_is c.in_ok-before.ensures.nodes c.requires.node) (met_primary c.args.at c.args.p c.as_slice-in-Err-2.result.now (map (met_in g.D.FaultDir.planned) c.put.new.places.items) c.met_before.new.ledger.log (with_met false c.args.at 1 c.as_slice-in-Err-2.result.now (map (met_in g.D.FaultDir.planned) c.put.new.places.items) c.met_before.new.ledger.log) refl (asked_of (λ (l : Log). primary_of (printed l) ≡ Some c.args.p) c.cluster.view_is c.in_ok-before.ensures.log c.requires.primary)) (record { count = c.take.ensures.count; taken = c.take.ensures.places; again = c.put.ensures.count; there = c.put.ensures.places })
      c.take.ensures.place c.primary_in-primary.ensures c.in-Err.ensures.err (left_by c.publish_end-ended.result c.in-Err.fault c.in-Err.is c.in_ok-is_failed-in-Err.ensures c.publish_end-ended.ensures.none) (λ e. (stands_behind g.D.Dir.cells c.args.cluster.now _ c.cluster.inside.ledger c.met_before.new.ledger c.cluster.inside.places.items c.cluster.inside.tasks c.cluster.view_is c.requires.running c.cluster.invariant c.args.at c.as_slice-in-Err-2.result.now (map (met_in g.D.FaultDir.planned) c.put.new.places.items) c.in_ok-before.ensures.log c.in_ok-before.ensures.nodes c.in_ok-before.ensures.cut).0) c.publish_end-ended.ensures.whole,
  given_up_files g.D.Dir.cells (run_behind c.args.at c.as_slice-in-Err-2.result.now (map (met_in g.D.FaultDir.planned) c.put.new.places.items) c.met_before.new.ledger c.args.cluster.now) c.args.cluster.now.ended (behind c.args.at c.as_slice-in-Err-2.result.now (map (met_in g.D.FaultDir.planned) c.put.new.places.items) c.met_before.new.ledger) (behind c.args.at c.as_slice-in-Err-2.result.now (map (met_in g.D.FaultDir.planned) c.put.new.places.items) c.met_before.new.ledger) c.note_given_up.new.ledger c.cluster.inside.places.items c.take.new.places.items c.put.new.places.items c.args.at c.args.p c.take.result c.primary_in-primary.result.0 c.publish_end-ended.new.self c.primary_in-primary.result.1
      refl c.requires.running refl refl c.note_given_up.ensures.log c.note_given_up.ensures.nodes c.note_given_up.ensures.legal c.note_given_up.ensures.turns c.note_given_up.ensures.rule c.note_given_up.ensures.flying (met_flight c.args.at c.as_slice-in-Err-2.result.now (map (met_in g.D.FaultDir.planned) c.put.new.places.items) c.met_before.new.ledger.log (with_met false c.args.at 1 c.as_slice-in-Err-2.result.now (map (met_in g.D.FaultDir.planned) c.put.new.places.items) c.met_before.new.ledger.log) refl (asked_of (λ (l : Log). publish_in_flight (printed l) ≡ Some c.args.at) c.cluster.view_is c.in_ok-before.ensures.log c.requires.flight)) (asked_size (λ (k : ℕ). IsNode k c.args.p.0) c.cluster.view_is c.in_ok-before.ensures.nodes c.requires.node) (met_primary c.args.at c.args.p c.as_slice-in-Err-2.result.now (map (met_in g.D.FaultDir.planned) c.put.new.places.items) c.met_before.new.ledger.log (with_met false c.args.at 1 c.as_slice-in-Err-2.result.now (map (met_in g.D.FaultDir.planned) c.put.new.places.items) c.met_before.new.ledger.log) refl (asked_of (λ (l : Log). primary_of (printed l) ≡ Some c.args.p) c.cluster.view_is c.in_ok-before.ensures.log c.requires.primary)) (record { count = c.take.ensures.count; taken = c.take.ensures.places; again = c.put.ensures.count; there = c.put.ensures.places })
      c.take.ensures.place c.primary_in-primary.ensures c.in-Err.ensures.err (left_by c.publish_end-ended.result c.in-Err.fault c.in-Err.is c.in_ok-is_failed-in-Err.ensures c.publish_end-ended.ensures.none) (λ e. (stands_behind g.D.Dir.cells c.args.cluster.now _ c.cluster.inside.ledger c.met_before.new.ledger c.cluster.inside.places.items c.cluster.inside.tasks c.cluster.view_is c.requires.running c.cluster.invariant c.args.at c.as_slice-in-Err-2.result.now (map (met_in g.D.FaultDir.planned) c.put.new.places.items) c.in_ok-before.ensures.log c.in_ok-before.ensures.nodes c.in_ok-before.ensures.cut).0) (λ e. (stands_behind g.D.Dir.cells c.args.cluster.now _ c.cluster.inside.ledger c.met_before.new.ledger c.cluster.inside.places.items c.cluster.inside.tasks c.cluster.view_is c.requires.running c.cluster.invariant c.args.at c.as_slice-in-Err-2.result.now (map (met_in g.D.FaultDir.planned) c.put.new.places.items) c.in_ok-before.ensures.log c.in_ok-before.ensures.nodes c.in_ok-before.ensures.cut).1) c.in-Err.ensures.given_back c.publish_end-ended.ensures.stays c.publish_end-ended.ensures.drawn c.publish_end-ended.ensures.appears c.files_last.ensures,
  given_up_merges g.D.Dir.cells (run_behind c.args.at c.as_slice-in-Err-2.result.now (map (met_in g.D.FaultDir.planned) c.put.new.places.items) c.met_before.new.ledger c.args.cluster.now) c.args.cluster.now.ended (behind c.args.at c.as_slice-in-Err-2.result.now (map (met_in g.D.FaultDir.planned) c.put.new.places.items) c.met_before.new.ledger) (behind c.args.at c.as_slice-in-Err-2.result.now (map (met_in g.D.FaultDir.planned) c.put.new.places.items) c.met_before.new.ledger) c.note_given_up.new.ledger c.cluster.inside.places.items c.take.new.places.items c.put.new.places.items c.args.at c.args.p c.take.result c.primary_in-primary.result.0 c.publish_end-ended.new.self c.primary_in-primary.result.1
      refl c.requires.running refl refl c.note_given_up.ensures.log c.note_given_up.ensures.nodes c.note_given_up.ensures.legal c.note_given_up.ensures.turns c.note_given_up.ensures.rule c.note_given_up.ensures.flying (met_flight c.args.at c.as_slice-in-Err-2.result.now (map (met_in g.D.FaultDir.planned) c.put.new.places.items) c.met_before.new.ledger.log (with_met false c.args.at 1 c.as_slice-in-Err-2.result.now (map (met_in g.D.FaultDir.planned) c.put.new.places.items) c.met_before.new.ledger.log) refl (asked_of (λ (l : Log). publish_in_flight (printed l) ≡ Some c.args.at) c.cluster.view_is c.in_ok-before.ensures.log c.requires.flight)) (asked_size (λ (k : ℕ). IsNode k c.args.p.0) c.cluster.view_is c.in_ok-before.ensures.nodes c.requires.node) (met_primary c.args.at c.args.p c.as_slice-in-Err-2.result.now (map (met_in g.D.FaultDir.planned) c.put.new.places.items) c.met_before.new.ledger.log (with_met false c.args.at 1 c.as_slice-in-Err-2.result.now (map (met_in g.D.FaultDir.planned) c.put.new.places.items) c.met_before.new.ledger.log) refl (asked_of (λ (l : Log). primary_of (printed l) ≡ Some c.args.p) c.cluster.view_is c.in_ok-before.ensures.log c.requires.primary)) (record { count = c.take.ensures.count; taken = c.take.ensures.places; again = c.put.ensures.count; there = c.put.ensures.places })
      c.take.ensures.place c.primary_in-primary.ensures c.in-Err.ensures.err (left_by c.publish_end-ended.result c.in-Err.fault c.in-Err.is c.in_ok-is_failed-in-Err.ensures c.publish_end-ended.ensures.none) c.cluster.inside.tasks refl c.note_given_up.ensures.cut (stands_behind g.D.Dir.cells c.args.cluster.now _ c.cluster.inside.ledger c.met_before.new.ledger c.cluster.inside.places.items c.cluster.inside.tasks c.cluster.view_is c.requires.running c.cluster.invariant c.args.at c.as_slice-in-Err-2.result.now (map (met_in g.D.FaultDir.planned) c.put.new.places.items) c.in_ok-before.ensures.log c.in_ok-before.ensures.nodes c.in_ok-before.ensures.cut).2,
)

pub returns-clause-ok : goal.returns-clause-ok
returns-clause-ok g c = ends_behind g.D.FaultDir.planned c.cluster.inside.places.items c.put.new.places.items c.args.cluster.now _ c.cluster.inside.ledger c.met_before.new.ledger c.note_given_up.new.ledger c.args.at false c.as_slice-in-Err-2.result.now (map (met_in g.D.FaultDir.planned) c.put.new.places.items) (Refused DiskFault) c.cluster.view_is c.in_ok-before.ensures.log c.in_ok-before.ensures.nodes c.note_given_up.ensures.log c.note_given_up.ensures.nodes refl (c.as_slice-in-Err-2.ensures.value ∙ c.in_ok-before.ensures.met) refl refl refl (λ none. record {
  p = c.args.p;
  primary = c.requires.primary;
  risen = fails_as_told g.D.FaultDir.planned c.cluster.inside.places.items c.put.new.places.items c.args.cluster.now _ c.cluster.inside.ledger c.args.p c.as_slice-in-Err-2.result.now (map (met_in g.D.FaultDir.planned) c.put.new.places.items) c.cluster.view_is
      (c.as_slice-in-Err-2.ensures.value ∙ c.in_ok-before.ensures.met) refl refl refl
      (ap (λ (xs : List (ℕ × ℕ)). has_risen c.args.p.0 1 xs (map (met_in g.D.FaultDir.planned) c.put.new.places.items)) (c.as_slice-in-Err-2.ensures.value ∙ sym c.as_slice-in-Err.ensures.value) ∙ (sym c.has_risen.ensures ∙ c.if-not-has_risen.false));
})

pub invariant_of-cluster : goal.invariant_of-cluster
invariant_of-cluster g c = λ ended. absurd (true≢false ended)

pub invariant_of-cluster-in_err-before : goal.invariant_of-cluster-in_err-before
invariant_of-cluster-in_err-before g c = λ ended. absurd (true≢false ended)

pub invariant_of-cluster-then-not-are_planned : goal.invariant_of-cluster-then-not-are_planned
invariant_of-cluster-then-not-are_planned g c = λ ended. absurd (true≢false ended)

pub invariant_of-cluster-in_err-is_failed-in-Err : goal.invariant_of-cluster-in_err-is_failed-in-Err
invariant_of-cluster-in_err-is_failed-in-Err g c = λ ended. absurd (true≢false ended)

pub invariant_of-cluster-then-not-has_risen : goal.invariant_of-cluster-then-not-has_risen
invariant_of-cluster-then-not-has_risen g c = λ ended. absurd (true≢false ended)

pub returns-then-newest-clause-err : goal.returns-then-newest-clause-err
returns-then-newest-clause-err g c = record { ended = refl; nodes = ap (λ (x : Run). x.nodes) c.cluster.view_is; log = ap (λ (x : Run). x.log) c.cluster.view_is }

pub returns-then-not-are_planned-clause-err : goal.returns-then-not-are_planned-clause-err
returns-then-not-are_planned-clause-err g c = record { ended = refl; nodes = c.in_ok-before.ensures.nodes ∙ ap (λ (x : Run). x.nodes) c.cluster.view_is; log = c.in_ok-before.ensures.log ∙ ap (λ (x : Run). x.log) c.cluster.view_is }

pub returns-then-not-has_risen-clause-err : goal.returns-then-not-has_risen-clause-err
returns-then-not-has_risen-clause-err g c = record { ended = refl; nodes = c.in_ok-before.ensures.nodes ∙ ap (λ (x : Run). x.nodes) c.cluster.view_is; log = c.in_ok-before.ensures.log ∙ ap (λ (x : Run). x.log) c.cluster.view_is }

pub returns-in_err-before-clause-err : goal.returns-in_err-before-clause-err
returns-in_err-before-clause-err g c = on_any c.from_residual.result (record { ended = refl; nodes = c.met_before.ensures.nodes ∙ ap (λ (x : Run). x.nodes) c.cluster.view_is; log = c.met_before.ensures.log ∙ ap (λ (x : Run). x.log) c.cluster.view_is })

pub returns-in_err-is_failed-in-Err-clause-err : goal.returns-in_err-is_failed-in-Err-clause-err
returns-in_err-is_failed-in-Err-clause-err g c = on_any c.from_residual-in_err-is_failed-in-Err.result (record { ended = refl; nodes = c.in_ok-before.ensures.nodes ∙ ap (λ (x : Run). x.nodes) c.cluster.view_is; log = c.in_ok-before.ensures.log ∙ ap (λ (x : Run). x.log) c.cluster.view_is })

pub returns-in-Ok-clause-rest : goal.returns-in-Ok-clause-rest
returns-in-Ok-clause-rest g c = record {
  rest = put_point g.D.Dir.cells c.args.cluster.now c.cluster.inside.ledger c.cluster.inside.tasks _ c.cluster.inside.places.items c.take.new.places.items c.put.new.places.items c.args.p.0
      (record { node = Primary c.publish_end-ended.new.self; held = c.primary_in-primary.result.1 }) (record { node = Primary c.primary_in-primary.result.0; held = c.primary_in-primary.result.1 })
      c.cluster.view_is (record { count = c.take.ensures.count; taken = c.take.ensures.places; again = c.put.ensures.count; there = c.put.ensures.places })
      (c.take.ensures.place ∙ ap Some c.primary_in-primary.ensures) (ap (λ (z : PrimaryParts _). stage_calls z.commits.stage) c.publish_end-ended.ensures.others) refl refl;
  still = λ same. absurd (new_version c.args.at (record { 0 = c.generation.result }) c.in-Ok.v c.as_slice-in-Ok.result.now (map (met_in g.D.FaultDir.planned) c.put.new.places.items) c.args.cluster.now.log c.met_before.new.ledger.log c.note_published.new.ledger.log
      c.note_published.ensures.log (c.in_ok-before.ensures.log ∙ ap (λ (x : Run). x.log) c.cluster.view_is)
      (next_is g.D.Dir.cells c.args.cluster.now _ c.cluster.inside.ledger _ c.args.p c.take.result c.cluster.view_is c.requires.running (λ e. (c.cluster.invariant e).0) c.requires.node c.take.ensures.place c.primary_in-primary.result.0 c.primary_in-primary.result.1 c.primary_in-primary.ensures c.in-Ok.v c.in-Ok.ensures.version ∙ ap (λ (x : Run). newest_version (printed x.log) + 1) c.cluster.view_is)
      same);
}

pub returns-clause-rest : goal.returns-clause-rest
returns-clause-rest g c =
    all_point _ _ (put_keeps g.D.Dir.cells c.args.cluster.now c.cluster.inside.ledger c.met_before.new.ledger c.note_given_up.new.ledger c.cluster.inside.tasks _ _ c.take.new.places.items _ c.args.p.0
    (record { node = Primary c.publish_end-ended.new.self; held = c.primary_in-primary.result.1 }) (record { node = Primary c.primary_in-primary.result.0; held = c.primary_in-primary.result.1 })
    c.cluster.view_is c.in_ok-before.ensures.cut c.note_given_up.ensures.cut (record { count = c.take.ensures.count; taken = c.take.ensures.places; again = c.put.ensures.count; there = c.put.ensures.places })
    (c.take.ensures.place ∙ ap Some c.primary_in-primary.ensures)
    (primary_tells c.primary_in-primary.result.0 c.publish_end-ended.new.self c.primary_in-primary.result.1 (ap (λ (z : PrimaryParts _). z.commits) c.in-Err.ensures.err) (ap (λ (z : PrimaryParts _). z.infos.segs) c.in-Err.ensures.err) (ap (λ (z : PrimaryParts _). z.merges) c.in-Err.ensures.err)))
