use Rattle.std.proofs.Common.{◌≡◌, ◌≤◌, ◌∙◌, ◌+◌, ◌∷◌, [], ℕ, None, false, List, length, map, ap, sym, refl, subst, arith, true≢false}
use Rattle.history_rules.specs.declared.entry.Event.TheVariants.{Promoted}
use Rattle.history_rules.specs.Nodes.{IsNode, generation_of, is_at, primary_of}
use Rattle.history_rules.specs.Lines.{entries_of_line}
use Rattle.history_book.specs.Log.{printed, Log, shown}
use Rattle.cluster_state.specs.CallsLeft.{calls_in}
use Rattle.cluster_state.specs.JobsIn.{jobs_in}
use Rattle.cluster_state.specs.MergedCopies.{copies_in}
use Rattle.cluster_state.specs.NamesIn.{names_in}
use Rattle.cluster_state.specs.PlansIn.{plans_in}
use Rattle.cluster_state.specs.Run.{Run}
use Rattle.cluster_state.specs.Sizes.{sizes_in}
use Rattle.cluster_state.specs.Met.{met_in, with_met, ArePlanned}
use Rattle.cluster_state.proofs.Frames.{rule_at}
use Rattle.cluster_state.proofs.Ledgers.{asked_of, asked_size, legal_of, told_of, vacant_of}
use Rattle.cluster_state.proofs.MergingPaths.{two_parts, three_parts}
use Rattle.cluster_state.proofs.MetStands.{behind, run_behind, counted, stands_behind, now_behind, as_many, on_any}
use Rattle.cluster_recovery.proofs.MetLives.{begun_at, unanswered_at, met_unbegun, met_vacant, met_idle, met_promotion}
use Rattle.cluster_recovery.proofs.KeptPromotion.{promoted_rest}
use Rattle.cluster_recovery.proofs.PromotedNodes.{may_promote, can_path, promote_path}
use Rattle.cluster_recovery.proofs.PromotedMerges.{promoted_stands}
use Rattle.cluster_recovery.proofs.promoting.promote_node.Goals as goal

pub is_fresh-requires : goal.is_fresh-requires
is_fresh-requires g c = asked_of (λ (l : Log). entries_of_line c.args.at (printed l) ≡ []) c.cluster.view_is c.book-book.ensures.log c.requires.fresh

pub promote_in-requires : goal.promote_in-requires
promote_in-requires g c = can_path g.D.Dir.cells c.args.cluster.now _ c.cluster.inside.ledger _ c.args.n _ c.args.forced c.generation-last.result c.cluster.view_is c.requires.running (two_parts c.cluster.invariant) (legal_of c.book-book.ensures.nodes c.book-book.ensures.log c.is_legal.ensures.legal)
    c.requires.node c.requires.up c.requires.vacant ((told_of c.book-book.ensures.log generation_of c.generation-last.ensures) ∙ ap (λ (x : Run). generation_of (printed x.log)) c.cluster.view_is) refl (let low = c.if-last.false in omega (arith, low)) c.requires.low c.requires.high

pub are_planned-requires-clause-count : goal.are_planned-requires-clause-count
are_planned-requires-clause-count g c = ap (λ (xs : List (ℕ × ℕ)). length xs) c.as_slice.ensures.value ∙ ((as_many (met_in g.D.FaultDir.planned) c.in_ok-before.before.items c.cluster.inside.places.items c.cluster.inside.places.items c.met_before.new.ledger.nodes c.in_ok-before.ensures.met refl (counted g.D.Dir.cells c.args.cluster.now _ c.cluster.inside.ledger c.met_before.new.ledger c.cluster.inside.places.items c.cluster.inside.tasks c.cluster.view_is c.requires.running c.cluster.invariant c.in_ok-before.ensures.nodes)) ∙ sym c.book.ensures.nodes)

pub are_planned-requires-clause-places : goal.are_planned-requires-clause-places
are_planned-requires-clause-places g c = (c.in_ok-promote_in.ensures.moves.count ∙ (counted g.D.Dir.cells c.args.cluster.now _ c.cluster.inside.ledger c.met_before.new.ledger c.cluster.inside.places.items c.cluster.inside.tasks c.cluster.view_is c.requires.running c.cluster.invariant c.in_ok-before.ensures.nodes)) ∙ sym c.book.ensures.nodes

pub note_promoted-requires-clause-room : goal.note_promoted-requires-clause-room
note_promoted-requires-clause-room g c = let room = c.in_ok-before.ensures.room in let same = ap (λ (xs : List (ℕ × ℕ)). length xs) c.as_slice-2.ensures.value in omega (arith, room, same)

pub note_promoted-requires-clause-count : goal.note_promoted-requires-clause-count
note_promoted-requires-clause-count g c = ap (λ (xs : List (ℕ × ℕ)). length xs) c.as_slice-2.ensures.value ∙ (as_many (met_in g.D.FaultDir.planned) c.in_ok-before.before.items c.cluster.inside.places.items c.cluster.inside.places.items c.met_before.new.ledger.nodes c.in_ok-before.ensures.met refl (counted g.D.Dir.cells c.args.cluster.now _ c.cluster.inside.ledger c.met_before.new.ledger c.cluster.inside.places.items c.cluster.inside.tasks c.cluster.view_is c.requires.running c.cluster.invariant c.in_ok-before.ensures.nodes))

pub note_promoted-requires-clause-places : goal.note_promoted-requires-clause-places
note_promoted-requires-clause-places g c = (c.in_ok-promote_in.ensures.moves.count ∙ (counted g.D.Dir.cells c.args.cluster.now _ c.cluster.inside.ledger c.met_before.new.ledger c.cluster.inside.places.items c.cluster.inside.tasks c.cluster.view_is c.requires.running c.cluster.invariant c.in_ok-before.ensures.nodes))

pub note_promoted-requires-clause-few : goal.note_promoted-requires-clause-few
note_promoted-requires-clause-few g c = subst (λ (xs : List (ℕ × ℕ)). length xs ≤ 255) (c.as_slice.ensures.value ∙ sym c.as_slice-2.ensures.value) (c.if-not-are_planned.ensures.few refl)

pub note_promoted-requires-clause-planned : goal.note_promoted-requires-clause-planned
note_promoted-requires-clause-planned g c = subst (λ (z : List (ℕ × ℕ) × Log). ArePlanned 1 z.0 (map (met_in g.D.FaultDir.planned) c.promote_in.new.places.items) (printed z.1)) (λ i. ((c.as_slice.ensures.value ∙ sym c.as_slice-2.ensures.value) i, c.book.ensures.log i)) (c.if-not-are_planned.ensures.planned refl)

pub note_promoted-requires-clause-unanswered : goal.note_promoted-requires-clause-unanswered
note_promoted-requires-clause-unanswered g c = unanswered_at c.args.at c.in_ok-before.ensures.log c.book-book.ensures.log c.is_fresh.ensures

pub note_promoted-requires-clause-rule : goal.note_promoted-requires-clause-rule
note_promoted-requires-clause-rule g c = (rule_at c.args.cluster.now _ c.cluster.inside.ledger c.met_before.new.ledger c.args.at (Promoted c.args.n (record { 0 = c.generation-last.result + 1 }) c.args.forced (record { 0 = c.args.forced.0 + 1 })) c.cluster.view_is c.in_ok-before.ensures.log c.in_ok-before.ensures.nodes (may_promote g.D.Dir.cells c.args.cluster.now c.args.n _ c.args.forced _ c.generation-last.result c.args.at c.requires.node c.requires.up c.requires.vacant c.requires.low c.requires.high ((told_of c.book-book.ensures.log generation_of c.generation-last.ensures) ∙ ap (λ (x : Run). generation_of (printed x.log)) c.cluster.view_is) refl refl))

pub invariant_of-cluster-2 : goal.invariant_of-cluster-2
invariant_of-cluster-2 g c = λ running.
    let st = (stands_behind g.D.Dir.cells c.args.cluster.now _ c.cluster.inside.ledger c.met_before.new.ledger c.cluster.inside.places.items c.cluster.inside.tasks c.cluster.view_is c.requires.running c.cluster.invariant c.args.at c.as_slice-2.result.now (map (met_in g.D.FaultDir.planned) c.promote_in.new.places.items) c.in_ok-before.ensures.log c.in_ok-before.ensures.nodes c.in_ok-before.ensures.cut) in
    let begun = met_unbegun c.args.at c.as_slice-2.result.now (map (met_in g.D.FaultDir.planned) c.promote_in.new.places.items) c.met_before.new.ledger.log (begun_at c.args.at c.in_ok-before.ensures.log c.book-book.ensures.log c.is_fresh.ensures) in
    let node = asked_size (λ (k : ℕ). IsNode k c.args.n.0) c.cluster.view_is c.in_ok-before.ensures.nodes c.requires.node in
    let vacant = met_vacant c.args.at c.as_slice-2.result.now (map (met_in g.D.FaultDir.planned) c.promote_in.new.places.items) c.met_before.new.ledger.log (asked_of (λ (l : Log). primary_of (printed l) ≡ None) c.cluster.view_is c.in_ok-before.ensures.log c.requires.vacant) in
    let idle = met_idle c.args.at c.as_slice-2.result.now (map (met_in g.D.FaultDir.planned) c.promote_in.new.places.items) c.met_before.new.ledger.log (vacant_of (c.book-book.ensures.log ∙ sym c.in_ok-before.ensures.log) c.is_idle.ensures.vacant) in
    let rule = met_promotion c.args.at c.as_slice-2.result.now (map (met_in g.D.FaultDir.planned) c.promote_in.new.places.items) c.met_before.new.ledger.log c.met_before.new.ledger.nodes c.met_before.new.ledger.nodes (with_met false c.args.at 1 c.as_slice-2.result.now (map (met_in g.D.FaultDir.planned) c.promote_in.new.places.items) c.met_before.new.ledger.log) c.args.n (record { 0 = c.generation-last.result + 1 }) c.args.forced (record { 0 = c.args.forced.0 + 1 }) refl refl (rule_at c.args.cluster.now _ c.cluster.inside.ledger c.met_before.new.ledger c.args.at (Promoted c.args.n (record { 0 = c.generation-last.result + 1 }) c.args.forced (record { 0 = c.args.forced.0 + 1 })) c.cluster.view_is c.in_ok-before.ensures.log c.in_ok-before.ensures.nodes (may_promote g.D.Dir.cells c.args.cluster.now c.args.n _ c.args.forced _ c.generation-last.result c.args.at c.requires.node c.requires.up c.requires.vacant c.requires.low c.requires.high ((told_of c.book-book.ensures.log generation_of c.generation-last.ensures) ∙ ap (λ (x : Run). generation_of (printed x.log)) c.cluster.view_is) refl refl)) in
    let both = promote_path g.D.Dir.cells (run_behind c.args.at c.as_slice-2.result.now (map (met_in g.D.FaultDir.planned) c.promote_in.new.places.items) c.met_before.new.ledger c.args.cluster.now) c.args.cluster.now.ended (behind c.args.at c.as_slice-2.result.now (map (met_in g.D.FaultDir.planned) c.promote_in.new.places.items) c.met_before.new.ledger) (behind c.args.at c.as_slice-2.result.now (map (met_in g.D.FaultDir.planned) c.promote_in.new.places.items) c.met_before.new.ledger) c.note_promoted.new.ledger c.cluster.inside.places.items c.promote_in.new.places.items c.args.at c.args.n (record { 0 = c.generation-last.result + 1 }) c.args.forced (record { 0 = c.args.forced.0 + 1 })
    refl c.requires.running (λ e. (st.0, st.1)) refl refl c.note_promoted.ensures.log c.note_promoted.ensures.nodes c.note_promoted.ensures.legal c.note_promoted.ensures.turns idle begun rule c.in_ok-promote_in.ensures in
    three_parts both (promoted_stands g.D.Dir.cells c.cluster.inside.tasks (run_behind c.args.at c.as_slice-2.result.now (map (met_in g.D.FaultDir.planned) c.promote_in.new.places.items) c.met_before.new.ledger c.args.cluster.now) c.args.cluster.now.ended (behind c.args.at c.as_slice-2.result.now (map (met_in g.D.FaultDir.planned) c.promote_in.new.places.items) c.met_before.new.ledger) (behind c.args.at c.as_slice-2.result.now (map (met_in g.D.FaultDir.planned) c.promote_in.new.places.items) c.met_before.new.ledger) c.note_promoted.new.ledger c.cluster.inside.places.items c.promote_in.new.places.items c.args.n c.args.at (record { 0 = c.generation-last.result + 1 }) c.args.forced (record { 0 = c.args.forced.0 + 1 }) refl c.requires.running
    (λ e. st.0) refl refl refl c.note_promoted.ensures.log c.note_promoted.ensures.nodes c.note_promoted.ensures.cut node vacant c.in_ok-promote_in.ensures both.1 st.2)

pub returns-clause-ok : goal.returns-clause-ok
returns-clause-ok g c =
    let last = ((told_of c.book-book.ensures.log generation_of c.generation-last.ensures) ∙ ap (λ (x : Run). generation_of (printed x.log)) c.cluster.view_is) in
    now_behind g.D.FaultDir.planned c.cluster.inside.places.items c.promote_in.new.places.items c.args.cluster.now _ c.cluster.inside.ledger c.met_before.new.ledger c.note_promoted.new.ledger c.args.at c.as_slice-2.result.now (map (met_in g.D.FaultDir.planned) c.promote_in.new.places.items)
    (λ (l : Log). shown c.args.at (Promoted c.args.n (record { 0 = generation_of (printed c.args.cluster.now.log) + 1 }) c.args.forced (record { 0 = c.args.forced.0 + 1 })) ∷ l) c.cluster.view_is c.in_ok-before.ensures.log c.in_ok-before.ensures.nodes
    (c.note_promoted.ensures.log ∙ λ i. shown c.args.at (Promoted c.args.n (record { 0 = last i + 1 }) c.args.forced (record { 0 = c.args.forced.0 + 1 })) ∷ with_met false c.args.at 1 c.as_slice-2.result.now (map (met_in g.D.FaultDir.planned) c.promote_in.new.places.items) c.met_before.new.ledger.log)
    c.note_promoted.ensures.nodes (c.as_slice-2.ensures.value ∙ c.in_ok-before.ensures.met) refl refl refl

pub returns-clause-rest : goal.returns-clause-rest
returns-clause-rest g c =
    promoted_rest g.D.Dir.cells g.D.FaultDir.planned g.D.FaultDir.names c.args.cluster.now
    (record {
      ended = false;
      nodes = c.note_promoted.new.ledger.nodes;
      log = c.note_promoted.new.ledger.log;
      rest = record { calls_left = calls_in c.cluster.inside.carries c.promote_in.new.places.items; cut = c.note_promoted.new.ledger.cut; sizes = sizes_in c.promote_in.new.places.items; jobs = jobs_in c.promote_in.new.places.items; copies = copies_in c.promote_in.new.places.items; tasks = c.cluster.inside.tasks; plans = plans_in g.D.FaultDir.planned c.promote_in.new.places.items; names = names_in g.D.FaultDir.names c.promote_in.new.places.items };
    })
    c.cluster.inside.carries c.cluster.inside.ledger.cut c.note_promoted.new.ledger.cut c.cluster.inside.tasks c.cluster.inside.places.items c.promote_in.new.places.items (ap (λ (x : Run). x.rest) c.cluster.view_is) refl (c.note_promoted.ensures.cut ∙ c.in_ok-before.ensures.cut)
    c.args.n.0 (record { 0 = c.generation-last.result + 1 }) c.args.forced c.in_ok-promote_in.ensures c.cluster.inside.ledger.log c.cluster.inside.ledger.nodes
    (c.cluster.invariant (ap (λ (x : Run). x.ended) c.cluster.view_is ∙ c.requires.running)) (asked_of (λ (l : Log). primary_of (printed l) ≡ None) c.cluster.view_is refl c.requires.vacant)
    (invariant_of-cluster-2 g c refl) (asked_size (λ (k : ℕ). IsNode k c.args.n.0) c.cluster.view_is (c.note_promoted.ensures.nodes ∙ c.in_ok-before.ensures.nodes) c.requires.node)
    (λ m apart. ap (λ (l : Log). is_at (primary_of (printed l)) m) c.note_promoted.ensures.log ∙ apart)

pub returns-clause-tasks : goal.returns-clause-tasks
returns-clause-tasks g c = ap (λ (r : Run). r.rest.tasks) c.cluster.view_is

pub invariant_of-cluster : goal.invariant_of-cluster
invariant_of-cluster g c = λ ended. absurd (true≢false ended)

pub invariant_of-cluster-in_err-before : goal.invariant_of-cluster-in_err-before
invariant_of-cluster-in_err-before g c = λ ended. absurd (true≢false ended)

pub invariant_of-cluster-in_err-promote_in : goal.invariant_of-cluster-in_err-promote_in
invariant_of-cluster-in_err-promote_in g c = λ ended. absurd (true≢false ended)

pub invariant_of-cluster-then-not-are_planned : goal.invariant_of-cluster-then-not-are_planned
invariant_of-cluster-then-not-are_planned g c = λ ended. absurd (true≢false ended)

pub returns-then-last-clause-err : goal.returns-then-last-clause-err
returns-then-last-clause-err g c = record { ended = refl; nodes = ap (λ (x : Run). x.nodes) c.cluster.view_is; log = ap (λ (x : Run). x.log) c.cluster.view_is }

pub returns-in_err-before-clause-err : goal.returns-in_err-before-clause-err
returns-in_err-before-clause-err g c = on_any c.from_residual.result (record { ended = refl; nodes = c.met_before.ensures.nodes ∙ ap (λ (x : Run). x.nodes) c.cluster.view_is; log = c.met_before.ensures.log ∙ ap (λ (x : Run). x.log) c.cluster.view_is })

pub returns-in_err-promote_in-clause-err : goal.returns-in_err-promote_in-clause-err
returns-in_err-promote_in-clause-err g c = on_any c.from_residual-in_err-promote_in.result (record { ended = refl; nodes = c.in_ok-before.ensures.nodes ∙ ap (λ (x : Run). x.nodes) c.cluster.view_is; log = c.in_ok-before.ensures.log ∙ ap (λ (x : Run). x.log) c.cluster.view_is })

pub returns-then-not-are_planned-clause-err : goal.returns-then-not-are_planned-clause-err
returns-then-not-are_planned-clause-err g c = record { ended = refl; nodes = c.in_ok-before.ensures.nodes ∙ ap (λ (x : Run). x.nodes) c.cluster.view_is; log = c.in_ok-before.ensures.log ∙ ap (λ (x : Run). x.log) c.cluster.view_is }
