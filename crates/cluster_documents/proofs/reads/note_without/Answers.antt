use Rattle.std.proofs.Common.{ap, arith, ◌≡◌, ◌≢◌, ◌≤◌, ◌∷◌, ◌∙◌, sym, refl, subst, Some, List, ℕ, map, length, true, false}
use Rattle.history_rules.specs.declared.entry.Event.TheVariants.{Publishing}
use Rattle.history_rules.specs.Nodes.{IsNode}
use Rattle.history_rules.specs.FaultLaws.{stands_over}
use Rattle.history_rules.specs.Lines.{is_answered, start_entry, commit_in_flight}
use Rattle.history_book.specs.Log.{Log, printed, shown}
use Rattle.cluster_state.specs.Run.{Run}
use Rattle.cluster_state.specs.Met.{met_in, ArePlanned}
use Rattle.cluster_state.proofs.MetStands.{behind, run_behind, counted, stands_behind, now_behind, as_many, on_any}
use Rattle.cluster_documents.proofs.PointNames.{closed_holds}
use Rattle.cluster_state.proofs.Frames.{PutsBack, slot_at, there_at, slot_kept, told_at, rule_at}
use Rattle.cluster_documents.proofs.TicketPaths.{gives_back_at, without_path}
use Rattle.cluster_documents.proofs.Without.{met_line, met_flights}
use Rattle.cluster_state.proofs.FileFrames.{files_moved}
use Rattle.cluster_state.proofs.Ledgers.{still_apart, still_reigns, asked_of, asked_size}
use Rattle.cluster_state.proofs.MergingPaths.{put_shown, like_want, like_keeps, still_leaves}
use Rattle.cluster_state.proofs.RestKept.{put_keeps, node_tells}
use Rattle.cluster_state.proofs.Turning.{turn_at}
use Rattle.cluster_documents.proofs.reads.note_without.Goals as goal

pub take-place-requires-clause-slot : goal.take-place-requires-clause-slot
take-place-requires-clause-slot g c =
    slot_at g.D.Dir.cells c.args.cluster.now _ c.cluster.inside.ledger.nodes c.args.n.0 c.cluster.inside.ledger.log c.cluster.inside.places.items c.cluster.view_is c.requires.running (λ e. (c.cluster.invariant e).0) c.requires.node

pub take-place-requires-clause-there : goal.take-place-requires-clause-there
take-place-requires-clause-there g c =
    there_at g.D.Dir.cells c.args.cluster.now _ c.cluster.inside.ledger.nodes c.args.n.0 c.cluster.inside.ledger.log c.cluster.inside.places.items c.cluster.view_is c.requires.running (λ e. (c.cluster.invariant e).0) c.requires.node

pub give_ticket_back-requires : goal.give_ticket_back-requires
give_ticket_back-requires g c =
    gives_back_at g.D.Dir.cells c.args.cluster.now _ c.cluster.inside.ledger.nodes c.args.n.0 c.cluster.inside.ledger.log c.cluster.inside.places.items c.args.key c.take-place.result c.cluster.view_is c.requires.running (λ e. (c.cluster.invariant e).0)
    c.requires.node c.take-place.ensures.place

pub put-requires : goal.put-requires
put-requires g c = record {
  slot = slot_kept g.D.Dir.cells c.cluster.inside.places.items c.take-place.new.places.items c.args.n.0 c.take-place.ensures.count
      (slot_at g.D.Dir.cells c.args.cluster.now _ c.cluster.inside.ledger.nodes c.args.n.0 c.cluster.inside.ledger.log c.cluster.inside.places.items c.cluster.view_is c.requires.running (λ e. (c.cluster.invariant e).0) c.requires.node);
}

pub are_planned-requires-clause-count : goal.are_planned-requires-clause-count
are_planned-requires-clause-count g c =
    ap (λ (xs : List (ℕ × ℕ)). length xs) c.as_slice.ensures.value
    ∙ (as_many (met_in g.D.FaultDir.planned) c.in_ok-before.before.items c.cluster.inside.places.items c.cluster.inside.places.items c.met_before.new.ledger.nodes c.in_ok-before.ensures.met refl
    (counted g.D.Dir.cells c.args.cluster.now _ c.cluster.inside.ledger c.met_before.new.ledger c.cluster.inside.places.items c.cluster.inside.tasks c.cluster.view_is c.requires.running c.cluster.invariant c.in_ok-before.ensures.nodes) ∙ sym c.book.ensures.nodes)

pub are_planned-requires-clause-places : goal.are_planned-requires-clause-places
are_planned-requires-clause-places g c =
    (c.put.ensures.count ∙ (c.take-place.ensures.count ∙ counted g.D.Dir.cells c.args.cluster.now _ c.cluster.inside.ledger c.met_before.new.ledger c.cluster.inside.places.items c.cluster.inside.tasks c.cluster.view_is c.requires.running c.cluster.invariant c.in_ok-before.ensures.nodes))
    ∙ sym c.book.ensures.nodes

-- ---- the entry, behind the faults that were met

pub note_met-requires-clause-room : goal.note_met-requires-clause-room
note_met-requires-clause-room g c = let room = c.in_ok-before.ensures.room in let same = ap (λ (xs : List (ℕ × ℕ)). length xs) c.as_slice-2.ensures.value in omega (arith, room, same)

pub note_met-requires-clause-count : goal.note_met-requires-clause-count
note_met-requires-clause-count g c =
    ap (λ (xs : List (ℕ × ℕ)). length xs) c.as_slice-2.ensures.value
    ∙ as_many (met_in g.D.FaultDir.planned) c.in_ok-before.before.items c.cluster.inside.places.items c.cluster.inside.places.items c.met_before.new.ledger.nodes c.in_ok-before.ensures.met refl
    (counted g.D.Dir.cells c.args.cluster.now _ c.cluster.inside.ledger c.met_before.new.ledger c.cluster.inside.places.items c.cluster.inside.tasks c.cluster.view_is c.requires.running c.cluster.invariant c.in_ok-before.ensures.nodes)

pub note_met-requires-clause-places : goal.note_met-requires-clause-places
note_met-requires-clause-places g c =
    c.put.ensures.count ∙ (c.take-place.ensures.count ∙ counted g.D.Dir.cells c.args.cluster.now _ c.cluster.inside.ledger c.met_before.new.ledger c.cluster.inside.places.items c.cluster.inside.tasks c.cluster.view_is c.requires.running c.cluster.invariant c.in_ok-before.ensures.nodes)

pub note_met-requires-clause-few : goal.note_met-requires-clause-few
note_met-requires-clause-few g c = subst (λ (xs : List (ℕ × ℕ)). length xs ≤ 255) (c.as_slice.ensures.value ∙ sym c.as_slice-2.ensures.value) (c.if-not-are_planned.ensures.few refl)

pub note_met-requires-clause-planned : goal.note_met-requires-clause-planned
note_met-requires-clause-planned g c =
    subst (λ (z : List (ℕ × ℕ) × Log). ArePlanned 1 z.0 (map (met_in g.D.FaultDir.planned) c.put.new.places.items) (printed z.1)) (λ i. ((c.as_slice.ensures.value ∙ sym c.as_slice-2.ensures.value) i, c.book.ensures.log i)) (c.if-not-are_planned.ensures.planned refl)

pub note_met-requires-clause-unanswered : goal.note_met-requires-clause-unanswered
note_met-requires-clause-unanswered g c = asked_of (λ (l : Log). is_answered c.args.at (printed l) ≡ false) c.cluster.view_is c.in_ok-before.ensures.log c.requires.unanswered

pub note_met-requires-clause-rule : goal.note_met-requires-clause-rule
note_met-requires-clause-rule g c = rule_at c.args.cluster.now _ c.cluster.inside.ledger c.met_before.new.ledger c.args.at c.args.event c.cluster.view_is c.in_ok-before.ensures.log c.in_ok-before.ensures.nodes c.requires.rule

pub note_met-requires-clause-over : goal.note_met-requires-clause-over
note_met-requires-clause-over g c = asked_of (λ (l : Log). stands_over (start_entry c.args.at (printed l)) c.args.event ≡ true) c.cluster.view_is c.in_ok-before.ensures.log c.requires.over

pub note_met-requires-clause-turn : goal.note_met-requires-clause-turn
note_met-requires-clause-turn g c = turn_at c.args.cluster.now _ c.cluster.inside.ledger c.met_before.new.ledger c.args.at c.args.event c.cluster.view_is c.in_ok-before.ensures.log c.requires.turn

pub note_met-requires-clause-told : goal.note_met-requires-clause-told
note_met-requires-clause-told g c = told_at c.args.cluster.now _ c.cluster.inside.ledger c.met_before.new.ledger c.args.at c.args.event c.cluster.view_is c.in_ok-before.ensures.log c.requires.told

pub note_met-requires-clause-apart : goal.note_met-requires-clause-apart
note_met-requires-clause-apart g c = still_apart c.args.event c.requires.still

pub note_met-requires-clause-reigns : goal.note_met-requires-clause-reigns
note_met-requires-clause-reigns g c = still_reigns c.args.event _ c.requires.still

-- ---- what is true of the cluster then

pub invariant_of-cluster-2 : goal.invariant_of-cluster-2
invariant_of-cluster-2 g c =
    let news : List (ℕ × ℕ) = map (met_in g.D.FaultDir.planned) c.put.new.places.items in
    let r : Run = run_behind c.args.at c.as_slice-2.result.now news c.met_before.new.ledger c.args.cluster.now in
    let all = stands_behind g.D.Dir.cells c.args.cluster.now _ c.cluster.inside.ledger c.met_before.new.ledger c.cluster.inside.places.items c.cluster.inside.tasks c.cluster.view_is c.requires.running c.cluster.invariant c.args.at c.as_slice-2.result.now news
    c.in_ok-before.ensures.log c.in_ok-before.ensures.nodes c.in_ok-before.ensures.cut in
    let node = asked_size (λ (k : ℕ). IsNode k c.args.n.0) c.cluster.view_is c.in_ok-before.ensures.nodes c.requires.node in
    let puts : PutsBack g.D.Dir.cells c.cluster.inside.places.items c.take-place.new.places.items c.put.new.places.items c.args.n.0 c.give_ticket_back.new.place =
    record { count = c.take-place.ensures.count; taken = c.take-place.ensures.places; again = c.put.ensures.count; there = c.put.ensures.places } in
    λ running. (
      without_path g.D.Dir.cells r c.args.cluster.now.ended (behind c.args.at c.as_slice-2.result.now news c.met_before.new.ledger) (behind c.args.at c.as_slice-2.result.now news c.met_before.new.ledger) c.note_met.new.ledger c.cluster.inside.places.items c.take-place.new.places.items c.put.new.places.items
          c.args.at c.args.event c.args.n.0 c.args.key c.take-place.result c.give_ticket_back.new.place
          refl c.requires.running (λ e. all.0) refl refl c.note_met.ensures.log c.note_met.ensures.nodes c.note_met.ensures.legal c.note_met.ensures.turns
          c.note_met.ensures.rule (met_line c.args.at c.as_slice-2.result.now news c.met_before.new.ledger.log (asked_of (λ (l : Log). start_entry c.args.at (printed l) ≢ Some Publishing) c.cluster.view_is c.in_ok-before.ensures.log c.requires.line))
          c.requires.still c.requires.apart node (c.requires.ends (printed r.log)) puts
          c.take-place.ensures.place c.give_ticket_back.ensures.keeps c.give_ticket_back.ensures.less,
      files_moved g.D.Dir.cells r c.args.cluster.now.ended (behind c.args.at c.as_slice-2.result.now news c.met_before.new.ledger) (behind c.args.at c.as_slice-2.result.now news c.met_before.new.ledger) c.note_met.new.ledger c.cluster.inside.places.items c.take-place.new.places.items c.put.new.places.items
          c.args.at c.args.event c.args.n.0 c.give_ticket_back.new.place c.take-place.result
          refl c.requires.running (λ e. all.0) (λ e. all.1) refl refl c.note_met.ensures.log c.note_met.ensures.nodes c.note_met.ensures.legal c.note_met.ensures.turns c.note_met.ensures.rule c.note_met.ensures.turn c.requires.jobs c.requires.commits
          (met_flights c.args.at c.as_slice-2.result.now news c.met_before.new.ledger.log (asked_of (λ (l : Log). (m : ℕ) → commit_in_flight m (printed l) ≢ Some c.args.at) c.cluster.view_is c.in_ok-before.ensures.log c.requires.flights))
          puts node c.take-place.ensures.place c.give_ticket_back.ensures.files
          (closed_holds g.D.Dir.cells (printed (shown c.args.at c.args.event ∷ r.log)) c.args.key c.take-place.result c.give_ticket_back.new.place c.give_ticket_back.ensures.keeps c.give_ticket_back.ensures.less),
      put_shown g.D.Dir.cells c.cluster.inside.tasks r c.args.cluster.now.ended (behind c.args.at c.as_slice-2.result.now news c.met_before.new.ledger) (behind c.args.at c.as_slice-2.result.now news c.met_before.new.ledger) c.cluster.inside.places.items c.take-place.new.places.items c.put.new.places.items
          c.args.n.0 c.give_ticket_back.new.place c.take-place.result
          refl refl refl refl node puts
          c.take-place.ensures.place (like_want g.D.Dir.cells c.take-place.result c.give_ticket_back.new.place c.give_ticket_back.ensures.keeps)
          (like_keeps g.D.Dir.cells c.take-place.result.node c.give_ticket_back.new.place.node c.give_ticket_back.ensures.keeps c.give_ticket_back.ensures.files)
          all.2 c.note_met.new.ledger c.args.at c.args.event c.note_met.ensures.log c.note_met.ensures.nodes c.note_met.ensures.cut (still_leaves c.args.event _ c.requires.still c.requires.drains),
    )

pub returns-clause-ok : goal.returns-clause-ok
returns-clause-ok g c =
    now_behind g.D.FaultDir.planned c.cluster.inside.places.items c.put.new.places.items c.args.cluster.now _ c.cluster.inside.ledger c.met_before.new.ledger c.note_met.new.ledger c.args.at c.as_slice-2.result.now (map (met_in g.D.FaultDir.planned) c.put.new.places.items)
    (λ (l : Log). shown c.args.at c.args.event ∷ l) c.cluster.view_is c.in_ok-before.ensures.log c.in_ok-before.ensures.nodes c.note_met.ensures.log c.note_met.ensures.nodes
    (c.as_slice-2.ensures.value ∙ c.in_ok-before.ensures.met) refl refl refl

pub returns-clause-rest : goal.returns-clause-rest
returns-clause-rest g c =
    put_keeps g.D.Dir.cells c.args.cluster.now c.cluster.inside.ledger c.met_before.new.ledger c.note_met.new.ledger c.cluster.inside.tasks _ c.cluster.inside.places.items c.take-place.new.places.items c.put.new.places.items c.args.n.0 c.give_ticket_back.new.place c.take-place.result
    c.cluster.view_is c.in_ok-before.ensures.cut c.note_met.ensures.cut (record { count = c.take-place.ensures.count; taken = c.take-place.ensures.places; again = c.put.ensures.count; there = c.put.ensures.places })
    c.take-place.ensures.place (node_tells g.D.Dir.cells c.take-place.result c.give_ticket_back.new.place c.give_ticket_back.ensures.keeps)

-- ---- where no memory was found

pub returns-in_err-before-clause-err : goal.returns-in_err-before-clause-err
returns-in_err-before-clause-err g c = on_any c.from_residual.result (record { ended = refl; nodes = c.met_before.ensures.nodes ∙ ap (λ (x : Run). x.nodes) c.cluster.view_is; log = c.met_before.ensures.log ∙ ap (λ (x : Run). x.log) c.cluster.view_is })

pub returns-then-not-are_planned-clause-err : goal.returns-then-not-are_planned-clause-err
returns-then-not-are_planned-clause-err g c =
    record { ended = refl; nodes = c.in_ok-before.ensures.nodes ∙ ap (λ (x : Run). x.nodes) c.cluster.view_is; log = c.in_ok-before.ensures.log ∙ ap (λ (x : Run). x.log) c.cluster.view_is }
