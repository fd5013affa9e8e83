use Rattle.std.proofs.Common.{ap, arith, ◌≡◌, ◌≤◌, ◌∷◌, ◌∙◌, sym, refl, subst, Some, List, ℕ, map, length, true, false, true≢false}
use Rattle.history_rules.specs.declared.cause.Cause.TheVariants.{DiskFault}
use Rattle.history_rules.specs.declared.entry.Event.TheVariants.{Committing, Committed, Refused}
use Rattle.history_rules.specs.Nodes.{IsNode, version_of}
use Rattle.history_rules.specs.Lines.{start_entry, commit_in_flight, is_answered}
use Rattle.history_rules.specs.Commits.{is_stuck}
use Rattle.history_rules.specs.Rules.{MayCommit}
use Rattle.history_book.specs.Laws.{may_find}
use Rattle.history_book.specs.Log.{Log, printed, shown}
use Rattle.cluster_nodes.specs.Places.{place_of}
use Rattle.cluster_state.specs.Run.{Run}
use Rattle.cluster_state.specs.Met.{met_in, ArePlanned, has_risen}
use Rattle.cluster_state.proofs.Frames.{slot_at}
use Rattle.cluster_state.proofs.Ledgers.{asked_of, asked_size}
use Rattle.cluster_state.proofs.MetStands.{behind, counted, stands_behind, now_behind, as_many, on_any, fails_as_told}
use Rattle.cluster_recovery.specs.Commits.{CallsFor}
use Rattle.cluster_recovery.proofs.CallsLeft.{made_call, carried_call, stopped_here, made_last, calls_was}
use Rattle.cluster_recovery.proofs.Committing.{stands_there, makes_in}
use Rattle.cluster_recovery.proofs.CommitPaths.{met_commit, met_flies, met_stuck, met_found, goes_stand, carry_stands, made_stand, stops_stand, stands_is, calls_count}
use Rattle.cluster_recovery.proofs.KeptLives.{owns_itself, one_commits, carried_commits, commit_kept}
use Rattle.cluster_nodes.specs.Commits.{StepsBook, KeepsBook}
use Rattle.cluster_recovery.proofs.commits.step_commit.Goals as goal

pub commit_found-requires : goal.commit_found-requires
commit_found-requires g c =
    asked_of (λ (l : Log). commit_in_flight c.args.n.0 (printed l) ≡ Some c.args.at) c.cluster.view_is c.book-book.ensures.log c.requires.flight

pub is_unanswered-requires : goal.is_unanswered-requires
is_unanswered-requires g c =
    c.commit_found.ensures.flies.is_open

pub is_stuck-stuck-requires : goal.is_stuck-stuck-requires
is_stuck-stuck-requires g c =
    asked_size (λ (k : ℕ). IsNode k c.args.n.0) c.cluster.view_is c.book-book.ensures.nodes c.requires.node

pub has_own_at-carries-requires : goal.has_own_at-carries-requires
has_own_at-carries-requires g c =
    c.requires.node.0

pub committing_in-requires : goal.committing_in-requires
committing_in-requires g c =
    slot_at g.D.Dir.cells c.args.cluster.now _ _ c.args.n.0 _ _ c.cluster.view_is c.requires.running (λ e. (c.cluster.invariant e).0) c.requires.node

pub call_for-requires-clause-slot : goal.call_for-requires-clause-slot
call_for-requires-clause-slot g c =
    slot_at g.D.Dir.cells c.args.cluster.now _ _ c.args.n.0 _ _ c.cluster.view_is c.requires.running (λ e. (c.cluster.invariant e).0) c.requires.node

pub call_for-requires-clause-in_flight : goal.call_for-requires-clause-in_flight
call_for-requires-clause-in_flight g c =
    stands_there g.D.Dir.cells c.in-Some.w (place_of c.cluster.inside.places.items c.args.n.0) (sym c.committing_in.ensures ∙ c.in-Some.is)

pub invariant_of-cluster : goal.invariant_of-cluster
invariant_of-cluster g c =
    λ ended. absurd (true≢false ended)

pub invariant_of-cluster-in_err-before : goal.invariant_of-cluster-in_err-before
invariant_of-cluster-in_err-before g c =
    λ ended. absurd (true≢false ended)

pub invariant_of-cluster-in_err-called : goal.invariant_of-cluster-in_err-called
invariant_of-cluster-in_err-called g c =
    λ ended. absurd (true≢false ended)

pub invariant_of-cluster-then-not-are_planned : goal.invariant_of-cluster-then-not-are_planned
invariant_of-cluster-then-not-are_planned g c =
    λ ended. absurd (true≢false ended)

pub invariant_of-cluster-then-not-may_commit : goal.invariant_of-cluster-then-not-may_commit
invariant_of-cluster-then-not-may_commit g c =
    λ ended. absurd (true≢false ended)

pub invariant_of-cluster-then-not-has_risen : goal.invariant_of-cluster-then-not-has_risen
invariant_of-cluster-then-not-has_risen g c =
    λ ended. absurd (true≢false ended)

pub returns-in_default-clause-err : goal.returns-in_default-clause-err
returns-in_default-clause-err g c =
    record { ended = refl; nodes = ap (λ (x : Run). x.nodes) c.cluster.view_is; log = ap (λ (x : Run). x.log) c.cluster.view_is }

pub returns-in_err-before-clause-err : goal.returns-in_err-before-clause-err
returns-in_err-before-clause-err g c =
    on_any c.from_residual.result (record { ended = refl; nodes = c.met_before.ensures.nodes ∙ ap (λ (x : Run). x.nodes) c.cluster.view_is; log = c.met_before.ensures.log ∙ ap (λ (x : Run). x.log) c.cluster.view_is })

pub returns-in_err-called-clause-err : goal.returns-in_err-called-clause-err
returns-in_err-called-clause-err g c =
    on_any c.from_residual-in_err-called.result (record { ended = refl; nodes = c.in_ok-before.ensures.nodes ∙ ap (λ (x : Run). x.nodes) c.cluster.view_is; log = c.in_ok-before.ensures.log ∙ ap (λ (x : Run). x.log) c.cluster.view_is })

pub returns-then-not-are_planned-clause-err : goal.returns-then-not-are_planned-clause-err
returns-then-not-are_planned-clause-err g c =
    record { ended = refl; nodes = c.in_ok-before.ensures.nodes ∙ ap (λ (x : Run). x.nodes) c.cluster.view_is; log = c.in_ok-before.ensures.log ∙ ap (λ (x : Run). x.log) c.cluster.view_is }

pub returns-then-not-may_commit-clause-err : goal.returns-then-not-may_commit-clause-err
returns-then-not-may_commit-clause-err g c =
    record { ended = refl; nodes = c.in_ok-before.ensures.nodes ∙ ap (λ (x : Run). x.nodes) c.cluster.view_is; log = c.in_ok-before.ensures.log ∙ ap (λ (x : Run). x.log) c.cluster.view_is }

pub returns-then-not-has_risen-clause-err : goal.returns-then-not-has_risen-clause-err
returns-then-not-has_risen-clause-err g c =
    record { ended = refl; nodes = c.in_ok-before.ensures.nodes ∙ ap (λ (x : Run). x.nodes) c.cluster.view_is; log = c.in_ok-before.ensures.log ∙ ap (λ (x : Run). x.log) c.cluster.view_is }

pub are_planned-requires-clause-count : goal.are_planned-requires-clause-count
are_planned-requires-clause-count g c =
    ap (λ (xs : List (ℕ × ℕ)). length xs) c.as_slice.ensures.value ∙ (as_many (met_in g.D.FaultDir.planned) c.in_ok-before.before.items c.cluster.inside.places.items c.cluster.inside.places.items c.met_before.new.ledger.nodes c.in_ok-before.ensures.met refl (counted g.D.Dir.cells c.args.cluster.now _ c.cluster.inside.ledger c.met_before.new.ledger c.cluster.inside.places.items c.cluster.inside.tasks c.cluster.view_is c.requires.running c.cluster.invariant c.in_ok-before.ensures.nodes) ∙ sym c.book.ensures.nodes)

pub are_planned-requires-clause-places : goal.are_planned-requires-clause-places
are_planned-requires-clause-places g c =
    (calls_count g.D.Dir.cells c.args.n.0 c.has_own_at-carries.result c.is_stuck-stuck.result c.cluster.inside.places.items c.call_for.new.places.items c.in_ok-called.called c.in_ok-called.ensures ∙ counted g.D.Dir.cells c.args.cluster.now _ c.cluster.inside.ledger c.met_before.new.ledger c.cluster.inside.places.items c.cluster.inside.tasks c.cluster.view_is c.requires.running c.cluster.invariant c.in_ok-before.ensures.nodes) ∙ sym c.book.ensures.nodes

pub show_met-requires-clause-room : goal.show_met-requires-clause-room
show_met-requires-clause-room g c =
    let room = c.in_ok-before.ensures.room in let same = ap (λ (xs : List (ℕ × ℕ)). length xs) c.as_slice-in-Goes.ensures.value in omega (arith, room, same)

pub show_met-requires-clause-count : goal.show_met-requires-clause-count
show_met-requires-clause-count g c =
    ap (λ (xs : List (ℕ × ℕ)). length xs) c.as_slice-in-Goes.ensures.value ∙ as_many (met_in g.D.FaultDir.planned) c.in_ok-before.before.items c.cluster.inside.places.items c.cluster.inside.places.items c.met_before.new.ledger.nodes c.in_ok-before.ensures.met refl (counted g.D.Dir.cells c.args.cluster.now _ c.cluster.inside.ledger c.met_before.new.ledger c.cluster.inside.places.items c.cluster.inside.tasks c.cluster.view_is c.requires.running c.cluster.invariant c.in_ok-before.ensures.nodes)

pub show_met-requires-clause-places : goal.show_met-requires-clause-places
show_met-requires-clause-places g c =
    calls_count g.D.Dir.cells c.args.n.0 c.has_own_at-carries.result c.is_stuck-stuck.result c.cluster.inside.places.items c.call_for.new.places.items c.in_ok-called.called c.in_ok-called.ensures ∙ counted g.D.Dir.cells c.args.cluster.now _ c.cluster.inside.ledger c.met_before.new.ledger c.cluster.inside.places.items c.cluster.inside.tasks c.cluster.view_is c.requires.running c.cluster.invariant c.in_ok-before.ensures.nodes

pub show_met-requires-clause-few : goal.show_met-requires-clause-few
show_met-requires-clause-few g c =
    subst (λ (xs : List (ℕ × ℕ)). length xs ≤ 255) (c.as_slice.ensures.value ∙ sym c.as_slice-in-Goes.ensures.value) (c.if-not-are_planned.ensures.few refl)

pub show_met-requires-clause-planned : goal.show_met-requires-clause-planned
show_met-requires-clause-planned g c =
    subst (λ (z : List (ℕ × ℕ) × Log). ArePlanned 1 z.0 (map (met_in g.D.FaultDir.planned) c.call_for.new.places.items) (printed z.1)) (λ i. ((c.as_slice.ensures.value ∙ sym c.as_slice-in-Goes.ensures.value) i, c.book.ensures.log i)) (c.if-not-are_planned.ensures.planned refl)

pub show_met-requires-clause-unanswered : goal.show_met-requires-clause-unanswered
show_met-requires-clause-unanswered g c =
    ap (λ (l : Log). is_answered c.args.at (printed l)) (sym (c.book-book.ensures.log ∙ sym c.in_ok-before.ensures.log)) ∙ c.is_unanswered.ensures

pub show_met-requires-in-Carried-clause-room : goal.show_met-requires-in-Carried-clause-room
show_met-requires-in-Carried-clause-room g c =
    let room = c.in_ok-before.ensures.room in let same = ap (λ (xs : List (ℕ × ℕ)). length xs) c.as_slice-in-Carried.ensures.value in omega (arith, room, same)

pub show_met-requires-in-Carried-clause-count : goal.show_met-requires-in-Carried-clause-count
show_met-requires-in-Carried-clause-count g c =
    ap (λ (xs : List (ℕ × ℕ)). length xs) c.as_slice-in-Carried.ensures.value ∙ as_many (met_in g.D.FaultDir.planned) c.in_ok-before.before.items c.cluster.inside.places.items c.cluster.inside.places.items c.met_before.new.ledger.nodes c.in_ok-before.ensures.met refl (counted g.D.Dir.cells c.args.cluster.now _ c.cluster.inside.ledger c.met_before.new.ledger c.cluster.inside.places.items c.cluster.inside.tasks c.cluster.view_is c.requires.running c.cluster.invariant c.in_ok-before.ensures.nodes)

pub show_met-requires-in-Carried-clause-places : goal.show_met-requires-in-Carried-clause-places
show_met-requires-in-Carried-clause-places g c =
    calls_count g.D.Dir.cells c.args.n.0 c.has_own_at-carries.result c.is_stuck-stuck.result c.cluster.inside.places.items c.call_for.new.places.items c.in_ok-called.called c.in_ok-called.ensures ∙ counted g.D.Dir.cells c.args.cluster.now _ c.cluster.inside.ledger c.met_before.new.ledger c.cluster.inside.places.items c.cluster.inside.tasks c.cluster.view_is c.requires.running c.cluster.invariant c.in_ok-before.ensures.nodes

pub show_met-requires-in-Carried-clause-few : goal.show_met-requires-in-Carried-clause-few
show_met-requires-in-Carried-clause-few g c =
    subst (λ (xs : List (ℕ × ℕ)). length xs ≤ 255) (c.as_slice.ensures.value ∙ sym c.as_slice-in-Carried.ensures.value) (c.if-not-are_planned.ensures.few refl)

pub show_met-requires-in-Carried-clause-planned : goal.show_met-requires-in-Carried-clause-planned
show_met-requires-in-Carried-clause-planned g c =
    subst (λ (z : List (ℕ × ℕ) × Log). ArePlanned 1 z.0 (map (met_in g.D.FaultDir.planned) c.call_for.new.places.items) (printed z.1)) (λ i. ((c.as_slice.ensures.value ∙ sym c.as_slice-in-Carried.ensures.value) i, c.book.ensures.log i)) (c.if-not-are_planned.ensures.planned refl)

pub show_met-requires-in-Carried-clause-unanswered : goal.show_met-requires-in-Carried-clause-unanswered
show_met-requires-in-Carried-clause-unanswered g c =
    ap (λ (l : Log). is_answered c.args.at (printed l)) (sym (c.book-book.ensures.log ∙ sym c.in_ok-before.ensures.log)) ∙ c.is_unanswered.ensures

pub note_own-requires : goal.note_own-requires
note_own-requires g c =
    c.requires.node.0

pub note_own-requires-in-Failed : goal.note_own-requires-in-Failed
note_own-requires-in-Failed g c =
    c.requires.node.0

pub may_commit-requires-clause-node : goal.may_commit-requires-clause-node
may_commit-requires-clause-node g c =
    asked_size (λ (k : ℕ). IsNode k c.args.n.0) c.cluster.view_is (c.book-in-Made.ensures.nodes ∙ c.in_ok-before.ensures.nodes) c.requires.node

pub may_commit-requires-clause-flight : goal.may_commit-requires-clause-flight
may_commit-requires-clause-flight g c =
    asked_of (λ (l : Log). commit_in_flight c.args.n.0 (printed l) ≡ Some c.args.at) c.cluster.view_is (c.book-in-Made.ensures.log ∙ c.in_ok-before.ensures.log) c.requires.flight

pub may_commit-requires-clause-started : goal.may_commit-requires-clause-started
may_commit-requires-clause-started g c =
    asked_of (λ (l : Log). start_entry c.args.at (printed l) ≡ Some (Committing c.args.n c.args.v)) c.cluster.view_is (c.book-in-Made.ensures.log ∙ c.in_ok-before.ensures.log) c.requires.started

pub note_met-requires-clause-room : goal.note_met-requires-clause-room
note_met-requires-clause-room g c =
    let room = c.in_ok-before.ensures.room in let same = ap (λ (xs : List (ℕ × ℕ)). length xs) c.as_slice-in-Made.ensures.value in omega (arith, room, same)

pub note_met-requires-clause-count : goal.note_met-requires-clause-count
note_met-requires-clause-count g c =
    ap (λ (xs : List (ℕ × ℕ)). length xs) c.as_slice-in-Made.ensures.value ∙ as_many (met_in g.D.FaultDir.planned) c.in_ok-before.before.items c.cluster.inside.places.items c.cluster.inside.places.items c.met_before.new.ledger.nodes c.in_ok-before.ensures.met refl (counted g.D.Dir.cells c.args.cluster.now _ c.cluster.inside.ledger c.met_before.new.ledger c.cluster.inside.places.items c.cluster.inside.tasks c.cluster.view_is c.requires.running c.cluster.invariant c.in_ok-before.ensures.nodes)

pub note_met-requires-clause-places : goal.note_met-requires-clause-places
note_met-requires-clause-places g c =
    calls_count g.D.Dir.cells c.args.n.0 c.has_own_at-carries.result c.is_stuck-stuck.result c.cluster.inside.places.items c.call_for.new.places.items c.in_ok-called.called c.in_ok-called.ensures ∙ counted g.D.Dir.cells c.args.cluster.now _ c.cluster.inside.ledger c.met_before.new.ledger c.cluster.inside.places.items c.cluster.inside.tasks c.cluster.view_is c.requires.running c.cluster.invariant c.in_ok-before.ensures.nodes

pub note_met-requires-clause-few : goal.note_met-requires-clause-few
note_met-requires-clause-few g c =
    subst (λ (xs : List (ℕ × ℕ)). length xs ≤ 255) (c.as_slice.ensures.value ∙ sym c.as_slice-in-Made.ensures.value) (c.if-not-are_planned.ensures.few refl)

pub note_met-requires-clause-planned : goal.note_met-requires-clause-planned
note_met-requires-clause-planned g c =
    subst (λ (z : List (ℕ × ℕ) × Log). ArePlanned 1 z.0 (map (met_in g.D.FaultDir.planned) c.call_for.new.places.items) (printed z.1)) (λ i. ((c.as_slice.ensures.value ∙ sym c.as_slice-in-Made.ensures.value) i, c.book.ensures.log i)) (c.if-not-are_planned.ensures.planned refl)

pub note_met-requires-clause-unanswered : goal.note_met-requires-clause-unanswered
note_met-requires-clause-unanswered g c =
    ap (λ (l : Log). is_answered c.args.at (printed l)) (sym (c.book-book.ensures.log ∙ sym c.in_ok-before.ensures.log)) ∙ c.is_unanswered.ensures

pub note_met-requires-clause-rule : goal.note_met-requires-clause-rule
note_met-requires-clause-rule g c =
    subst (λ (z : ℕ × Log). MayCommit z.0 (printed z.1) c.args.at c.args.n c.in-Some.w) (λ i. (c.book-in-Made.ensures.nodes i, c.book-in-Made.ensures.log i)) (c.if-not-may_commit.ensures.may refl)

pub note_met-requires-clause-turn : goal.note_met-requires-clause-turn
note_met-requires-clause-turn g c =
    record { once = tt; flight = asked_of (λ (l : Log). commit_in_flight c.args.n.0 (printed l) ≡ Some c.args.at) c.cluster.view_is c.in_ok-before.ensures.log c.requires.flight }

pub has_risen-requires : goal.has_risen-requires
has_risen-requires g c = record { count = (calls_count g.D.Dir.cells c.args.n.0 c.has_own_at-carries.result c.is_stuck-stuck.result c.cluster.inside.places.items c.call_for.new.places.items c.in_ok-called.called c.in_ok-called.ensures ∙ counted g.D.Dir.cells c.args.cluster.now _ c.cluster.inside.ledger c.met_before.new.ledger c.cluster.inside.places.items c.cluster.inside.tasks c.cluster.view_is c.requires.running c.cluster.invariant c.in_ok-before.ensures.nodes) ∙ sym (ap (λ (xs : List (ℕ × ℕ)). length xs) c.as_slice-in-Failed.ensures.value ∙ as_many (met_in g.D.FaultDir.planned) c.in_ok-before.before.items c.cluster.inside.places.items c.cluster.inside.places.items c.met_before.new.ledger.nodes c.in_ok-before.ensures.met refl (counted g.D.Dir.cells c.args.cluster.now _ c.cluster.inside.ledger c.met_before.new.ledger c.cluster.inside.places.items c.cluster.inside.tasks c.cluster.view_is c.requires.running c.cluster.invariant c.in_ok-before.ensures.nodes)) }

pub note_stopped-requires-clause-room : goal.note_stopped-requires-clause-room
note_stopped-requires-clause-room g c =
    let room = c.in_ok-before.ensures.room in let same = ap (λ (xs : List (ℕ × ℕ)). length xs) c.as_slice-in-Failed-2.ensures.value in omega (arith, room, same)

pub note_stopped-requires-clause-count : goal.note_stopped-requires-clause-count
note_stopped-requires-clause-count g c =
    ap (λ (xs : List (ℕ × ℕ)). length xs) c.as_slice-in-Failed-2.ensures.value ∙ as_many (met_in g.D.FaultDir.planned) c.in_ok-before.before.items c.cluster.inside.places.items c.cluster.inside.places.items c.met_before.new.ledger.nodes c.in_ok-before.ensures.met refl (counted g.D.Dir.cells c.args.cluster.now _ c.cluster.inside.ledger c.met_before.new.ledger c.cluster.inside.places.items c.cluster.inside.tasks c.cluster.view_is c.requires.running c.cluster.invariant c.in_ok-before.ensures.nodes)

pub note_stopped-requires-clause-places : goal.note_stopped-requires-clause-places
note_stopped-requires-clause-places g c =
    calls_count g.D.Dir.cells c.args.n.0 c.has_own_at-carries.result c.is_stuck-stuck.result c.cluster.inside.places.items c.call_for.new.places.items c.in_ok-called.called c.in_ok-called.ensures ∙ counted g.D.Dir.cells c.args.cluster.now _ c.cluster.inside.ledger c.met_before.new.ledger c.cluster.inside.places.items c.cluster.inside.tasks c.cluster.view_is c.requires.running c.cluster.invariant c.in_ok-before.ensures.nodes

pub note_stopped-requires-clause-few : goal.note_stopped-requires-clause-few
note_stopped-requires-clause-few g c =
    subst (λ (xs : List (ℕ × ℕ)). length xs ≤ 255) (c.as_slice.ensures.value ∙ sym c.as_slice-in-Failed-2.ensures.value) (c.if-not-are_planned.ensures.few refl)

pub note_stopped-requires-clause-planned : goal.note_stopped-requires-clause-planned
note_stopped-requires-clause-planned g c =
    subst (λ (z : List (ℕ × ℕ) × Log). ArePlanned 1 z.0 (map (met_in g.D.FaultDir.planned) c.call_for.new.places.items) (printed z.1)) (λ i. ((c.as_slice.ensures.value ∙ sym c.as_slice-in-Failed-2.ensures.value) i, c.book.ensures.log i)) (c.if-not-are_planned.ensures.planned refl)

pub note_stopped-requires-clause-unanswered : goal.note_stopped-requires-clause-unanswered
note_stopped-requires-clause-unanswered g c =
    ap (λ (l : Log). is_answered c.args.at (printed l)) (sym (c.book-book.ensures.log ∙ sym c.in_ok-before.ensures.log)) ∙ c.is_unanswered.ensures

pub note_stopped-requires-clause-flight : goal.note_stopped-requires-clause-flight
note_stopped-requires-clause-flight g c =
    asked_of (λ (l : Log). commit_in_flight c.args.n.0 (printed l) ≡ Some c.args.at) c.cluster.view_is c.in_ok-before.ensures.log c.requires.flight

pub note_stopped-requires-clause-risen : goal.note_stopped-requires-clause-risen
note_stopped-requires-clause-risen g c =
    ap (λ (xs : List (ℕ × ℕ)). has_risen c.args.n.0 1 xs (map (met_in g.D.FaultDir.planned) c.call_for.new.places.items)) (c.as_slice-in-Failed-2.ensures.value ∙ sym c.as_slice-in-Failed.ensures.value) ∙ (sym c.has_risen.ensures ∙ c.if-not-has_risen.false)

pub invariant_of-cluster-in-Goes : goal.invariant_of-cluster-in-Goes
invariant_of-cluster-in-Goes g c =
    λ running. stands_is c.show_met.ensures.nodes c.show_met.ensures.cut c.show_met.ensures.log
    (goes_stand g.D.Dir.cells (behind c.args.at c.as_slice-in-Goes.result.now (map (met_in g.D.FaultDir.planned) c.call_for.new.places.items) c.met_before.new.ledger) c.cluster.inside.tasks c.cluster.inside.places.items c.call_for.new.places.items c.args.n (asked_size (λ (k : ℕ). IsNode k c.args.n.0) c.cluster.view_is c.in_ok-before.ensures.nodes c.requires.node) (stands_behind g.D.Dir.cells c.args.cluster.now _ c.cluster.inside.ledger c.met_before.new.ledger c.cluster.inside.places.items c.cluster.inside.tasks c.cluster.view_is c.requires.running c.cluster.invariant c.args.at c.as_slice-in-Goes.result.now (map (met_in g.D.FaultDir.planned) c.call_for.new.places.items) c.in_ok-before.ensures.log c.in_ok-before.ensures.nodes c.in_ok-before.ensures.cut) c.args.at (subst (CallsFor g.D.Dir.cells c.args.n.0 c.has_own_at-carries.result c.is_stuck-stuck.result c.cluster.inside.places.items c.call_for.new.places.items) c.in-Goes.is c.in_ok-called.ensures))

pub invariant_of-cluster-in-Carried : goal.invariant_of-cluster-in-Carried
invariant_of-cluster-in-Carried g c =
    λ running. stands_is c.show_met-in-Carried.ensures.nodes c.show_met-in-Carried.ensures.cut c.show_met-in-Carried.ensures.log
    (carry_stands g.D.Dir.cells (behind c.args.at c.as_slice-in-Carried.result.now (map (met_in g.D.FaultDir.planned) c.call_for.new.places.items) c.met_before.new.ledger) c.cluster.inside.tasks c.cluster.inside.places.items c.call_for.new.places.items c.args.n (asked_size (λ (k : ℕ). IsNode k c.args.n.0) c.cluster.view_is c.in_ok-before.ensures.nodes c.requires.node) (stands_behind g.D.Dir.cells c.args.cluster.now _ c.cluster.inside.ledger c.met_before.new.ledger c.cluster.inside.places.items c.cluster.inside.tasks c.cluster.view_is c.requires.running c.cluster.invariant c.args.at c.as_slice-in-Carried.result.now (map (met_in g.D.FaultDir.planned) c.call_for.new.places.items) c.in_ok-before.ensures.log c.in_ok-before.ensures.nodes c.in_ok-before.ensures.cut) c.args.at (met_flies c.args.at c.as_slice-in-Carried.result.now (map (met_in g.D.FaultDir.planned) c.call_for.new.places.items) c.met_before.new.ledger.log c.args.n.0 (asked_of (λ (l : Log). commit_in_flight c.args.n.0 (printed l) ≡ Some c.args.at) c.cluster.view_is c.in_ok-before.ensures.log c.requires.flight))
    (met_stuck c.args.at c.as_slice-in-Carried.result.now (map (met_in g.D.FaultDir.planned) c.call_for.new.places.items) c.met_before.new.ledger.log c.args.n.0 (subst (λ (l : Log). is_stuck c.args.n.0 (printed l) ≡ true) (c.book-book.ensures.log ∙ sym c.in_ok-before.ensures.log) (sym c.is_stuck-stuck.ensures ∙ (subst (CallsFor g.D.Dir.cells c.args.n.0 c.has_own_at-carries.result c.is_stuck-stuck.result c.cluster.inside.places.items c.call_for.new.places.items) c.in-Carried.is c.in_ok-called.ensures).2)))
    (met_found c.args.at c.as_slice-in-Carried.result.now (map (met_in g.D.FaultDir.planned) c.call_for.new.places.items) c.met_before.new.ledger.log c.args.n.0 (subst (λ (l : Log). may_find c.args.n.0 (version_of c.args.n.0 (printed l)) (printed l) ≡ true) (c.book-book.ensures.log ∙ sym c.in_ok-before.ensures.log) (c.commit_found.ensures.found.late (sym c.is_stuck-stuck.ensures ∙ (subst (CallsFor g.D.Dir.cells c.args.n.0 c.has_own_at-carries.result c.is_stuck-stuck.result c.cluster.inside.places.items c.call_for.new.places.items) c.in-Carried.is c.in_ok-called.ensures).2)))) (subst (CallsFor g.D.Dir.cells c.args.n.0 c.has_own_at-carries.result c.is_stuck-stuck.result c.cluster.inside.places.items c.call_for.new.places.items) c.in-Carried.is c.in_ok-called.ensures).0)

pub invariant_of-cluster-in-Made : goal.invariant_of-cluster-in-Made
invariant_of-cluster-in-Made g c =
    λ running. stands_is c.note_met.ensures.nodes c.note_met.ensures.cut c.note_met.ensures.log
    (made_stand g.D.Dir.cells (behind c.args.at c.as_slice-in-Made.result.now (map (met_in g.D.FaultDir.planned) c.call_for.new.places.items) c.met_before.new.ledger) c.cluster.inside.tasks c.cluster.inside.places.items c.call_for.new.places.items c.args.n (asked_size (λ (k : ℕ). IsNode k c.args.n.0) c.cluster.view_is c.in_ok-before.ensures.nodes c.requires.node) (stands_behind g.D.Dir.cells c.args.cluster.now _ c.cluster.inside.ledger c.met_before.new.ledger c.cluster.inside.places.items c.cluster.inside.tasks c.cluster.view_is c.requires.running c.cluster.invariant c.args.at c.as_slice-in-Made.result.now (map (met_in g.D.FaultDir.planned) c.call_for.new.places.items) c.in_ok-before.ensures.log c.in_ok-before.ensures.nodes c.in_ok-before.ensures.cut) c.args.at c.note_met.ensures.legal c.note_met.ensures.turns c.args.v
    (met_commit c.args.at c.as_slice-in-Made.result.now (map (met_in g.D.FaultDir.planned) c.call_for.new.places.items) c.met_before.new.ledger.log c.args.n c.args.v (record { flight = asked_of (λ (l : Log). commit_in_flight c.args.n.0 (printed l) ≡ Some c.args.at) c.cluster.view_is c.in_ok-before.ensures.log c.requires.flight; started = asked_of (λ (l : Log). start_entry c.args.at (printed l) ≡ Some (Committing c.args.n c.args.v)) c.cluster.view_is c.in_ok-before.ensures.log c.requires.started })) c.in-Some.w c.note_met.ensures.rule c.note_met.ensures.turn (makes_in g.D.Dir.cells c.in-Some.w c.args.n.0 c.cluster.inside.places.items c.call_for.new.places.items (sym c.committing_in.ensures ∙ c.in-Some.is) (subst (CallsFor g.D.Dir.cells c.args.n.0 c.has_own_at-carries.result c.is_stuck-stuck.result c.cluster.inside.places.items c.call_for.new.places.items) c.in-Made.is c.in_ok-called.ensures).0))

pub invariant_of-cluster-in-Failed : goal.invariant_of-cluster-in-Failed
invariant_of-cluster-in-Failed g c =
    λ running. stands_is c.note_stopped.ensures.nodes c.note_stopped.ensures.cut c.note_stopped.ensures.log
    (stops_stand g.D.Dir.cells (behind c.args.at c.as_slice-in-Failed-2.result.now (map (met_in g.D.FaultDir.planned) c.call_for.new.places.items) c.met_before.new.ledger) c.cluster.inside.tasks c.cluster.inside.places.items c.call_for.new.places.items c.args.n (asked_size (λ (k : ℕ). IsNode k c.args.n.0) c.cluster.view_is c.in_ok-before.ensures.nodes c.requires.node) (stands_behind g.D.Dir.cells c.args.cluster.now _ c.cluster.inside.ledger c.met_before.new.ledger c.cluster.inside.places.items c.cluster.inside.tasks c.cluster.view_is c.requires.running c.cluster.invariant c.args.at c.as_slice-in-Failed-2.result.now (map (met_in g.D.FaultDir.planned) c.call_for.new.places.items) c.in_ok-before.ensures.log c.in_ok-before.ensures.nodes c.in_ok-before.ensures.cut) c.args.at c.note_stopped.ensures.legal c.note_stopped.ensures.turns c.args.v
    (met_commit c.args.at c.as_slice-in-Failed-2.result.now (map (met_in g.D.FaultDir.planned) c.call_for.new.places.items) c.met_before.new.ledger.log c.args.n c.args.v (record { flight = asked_of (λ (l : Log). commit_in_flight c.args.n.0 (printed l) ≡ Some c.args.at) c.cluster.view_is c.in_ok-before.ensures.log c.requires.flight; started = asked_of (λ (l : Log). start_entry c.args.at (printed l) ≡ Some (Committing c.args.n c.args.v)) c.cluster.view_is c.in_ok-before.ensures.log c.requires.started })) c.note_stopped.ensures.rule (subst (CallsFor g.D.Dir.cells c.args.n.0 c.has_own_at-carries.result c.is_stuck-stuck.result c.cluster.inside.places.items c.call_for.new.places.items) c.in-Failed.is c.in_ok-called.ensures))

pub returns-in-Goes-clause-ok : goal.returns-in-Goes-clause-ok
returns-in-Goes-clause-ok g c = (
  now_behind g.D.FaultDir.planned c.cluster.inside.places.items c.call_for.new.places.items c.args.cluster.now _ c.cluster.inside.ledger c.met_before.new.ledger c.show_met.new.ledger c.args.at c.as_slice-in-Goes.result.now (map (met_in g.D.FaultDir.planned) c.call_for.new.places.items) (λ (l : Log). l) c.cluster.view_is c.in_ok-before.ensures.log c.in_ok-before.ensures.nodes c.show_met.ensures.log c.show_met.ensures.nodes
      (c.as_slice-in-Goes.ensures.value ∙ c.in_ok-before.ensures.met) refl refl refl,
  made_call g.D.Dir.cells c.args.n.0 c.args.cluster.now _ c.cluster.inside.carries c.cluster.inside.carries c.cluster.inside.places.items c.call_for.new.places.items (calls_was c.args.cluster.now _ c.cluster.view_is) refl refl (stands_there g.D.Dir.cells c.in-Some.w (place_of c.cluster.inside.places.items c.args.n.0) (sym c.committing_in.ensures ∙ c.in-Some.is)) (subst (CallsFor g.D.Dir.cells c.args.n.0 c.has_own_at-carries.result c.is_stuck-stuck.result c.cluster.inside.places.items c.call_for.new.places.items) c.in-Goes.is c.in_ok-called.ensures),
)

pub returns-in-Goes-clause-rest : goal.returns-in-Goes-clause-rest
returns-in-Goes-clause-rest g c =
    commit_kept g.D.FaultDir.planned g.D.FaultDir.names c.args.cluster.now _ _ _ _ _ _ c.cluster.inside.places.items c.call_for.new.places.items (ap (λ (x : Run). x.rest) c.cluster.view_is) refl (c.show_met.ensures.cut ∙ c.in_ok-before.ensures.cut) g.D.Dir.cells c.args.n.0
    (one_commits g.D.Dir.cells g.D.FaultDir.planned (StepsBook false) c.args.n.0 c.cluster.inside.places.items c.call_for.new.places.items (subst (CallsFor g.D.Dir.cells c.args.n.0 c.has_own_at-carries.result c.is_stuck-stuck.result c.cluster.inside.places.items c.call_for.new.places.items) c.in-Goes.is c.in_ok-called.ensures)) (owns_itself c.args.n.0 c.cluster.inside.carries)

pub returns-in-Carried-clause-ok : goal.returns-in-Carried-clause-ok
returns-in-Carried-clause-ok g c = (
  now_behind g.D.FaultDir.planned c.cluster.inside.places.items c.call_for.new.places.items c.args.cluster.now _ c.cluster.inside.ledger c.met_before.new.ledger c.show_met-in-Carried.new.ledger c.args.at c.as_slice-in-Carried.result.now (map (met_in g.D.FaultDir.planned) c.call_for.new.places.items) (λ (l : Log). l) c.cluster.view_is c.in_ok-before.ensures.log c.in_ok-before.ensures.nodes c.show_met-in-Carried.ensures.log c.show_met-in-Carried.ensures.nodes
      (c.as_slice-in-Carried.ensures.value ∙ c.in_ok-before.ensures.met) refl refl refl,
  carried_call g.D.Dir.cells c.args.n.0 c.args.cluster.now _ c.cluster.inside.carries c.note_own.new.carries c.cluster.inside.places.items c.call_for.new.places.items (calls_was c.args.cluster.now _ c.cluster.view_is) refl (sym c.has_own_at-carries.ensures ∙ (subst (CallsFor g.D.Dir.cells c.args.n.0 c.has_own_at-carries.result c.is_stuck-stuck.result c.cluster.inside.places.items c.call_for.new.places.items) c.in-Carried.is c.in_ok-called.ensures).1) c.note_own.ensures.own (subst (CallsFor g.D.Dir.cells c.args.n.0 c.has_own_at-carries.result c.is_stuck-stuck.result c.cluster.inside.places.items c.call_for.new.places.items) c.in-Carried.is c.in_ok-called.ensures).0,
)

pub returns-in-Carried-clause-rest : goal.returns-in-Carried-clause-rest
returns-in-Carried-clause-rest g c =
    commit_kept g.D.FaultDir.planned g.D.FaultDir.names c.args.cluster.now _ _ _ _ _ _ c.cluster.inside.places.items c.call_for.new.places.items (ap (λ (x : Run). x.rest) c.cluster.view_is) refl (c.show_met-in-Carried.ensures.cut ∙ c.in_ok-before.ensures.cut) g.D.Dir.cells c.args.n.0
    (carried_commits g.D.Dir.cells g.D.FaultDir.planned c.args.n.0 c.cluster.inside.places.items c.call_for.new.places.items (subst (CallsFor g.D.Dir.cells c.args.n.0 c.has_own_at-carries.result c.is_stuck-stuck.result c.cluster.inside.places.items c.call_for.new.places.items) c.in-Carried.is c.in_ok-called.ensures).0) c.note_own.ensures.others

pub returns-in-Made-clause-ok : goal.returns-in-Made-clause-ok
returns-in-Made-clause-ok g c =
    record {
      version = c.in-Some.w;
      now = now_behind g.D.FaultDir.planned c.cluster.inside.places.items c.call_for.new.places.items c.args.cluster.now _ c.cluster.inside.ledger c.met_before.new.ledger c.note_met.new.ledger c.args.at c.as_slice-in-Made.result.now (map (met_in g.D.FaultDir.planned) c.call_for.new.places.items) (λ (l : Log). shown c.args.at (Committed c.args.n c.in-Some.w) ∷ l) c.cluster.view_is c.in_ok-before.ensures.log c.in_ok-before.ensures.nodes c.note_met.ensures.log c.note_met.ensures.nodes
          (c.as_slice-in-Made.ensures.value ∙ c.in_ok-before.ensures.met) refl refl refl;
      exact = λ free. c.if-not-may_commit.ensures.exact refl (asked_of (λ (l : Log). is_stuck c.args.n.0 (printed l) ≡ false) c.cluster.view_is (c.book-in-Made.ensures.log ∙ c.in_ok-before.ensures.log) free);
      last = made_last g.D.Dir.cells c.args.n.0 c.args.cluster.now c.cluster.inside.carries c.cluster.inside.places.items (calls_was c.args.cluster.now _ c.cluster.view_is) (sym c.has_own_at-carries.ensures ∙ (subst (CallsFor g.D.Dir.cells c.args.n.0 c.has_own_at-carries.result c.is_stuck-stuck.result c.cluster.inside.places.items c.call_for.new.places.items) c.in-Made.is c.in_ok-called.ensures).1) c.call_for.new.places.items (subst (CallsFor g.D.Dir.cells c.args.n.0 c.has_own_at-carries.result c.is_stuck-stuck.result c.cluster.inside.places.items c.call_for.new.places.items) c.in-Made.is c.in_ok-called.ensures).0;
    }

pub returns-in-Made-clause-rest : goal.returns-in-Made-clause-rest
returns-in-Made-clause-rest g c =
    commit_kept g.D.FaultDir.planned g.D.FaultDir.names c.args.cluster.now _ _ _ _ _ _ c.cluster.inside.places.items c.call_for.new.places.items (ap (λ (x : Run). x.rest) c.cluster.view_is) refl (c.note_met.ensures.cut ∙ c.in_ok-before.ensures.cut) g.D.Dir.cells c.args.n.0
    (one_commits g.D.Dir.cells g.D.FaultDir.planned (StepsBook true) c.args.n.0 c.cluster.inside.places.items c.call_for.new.places.items (subst (CallsFor g.D.Dir.cells c.args.n.0 c.has_own_at-carries.result c.is_stuck-stuck.result c.cluster.inside.places.items c.call_for.new.places.items) c.in-Made.is c.in_ok-called.ensures).0) (owns_itself c.args.n.0 c.cluster.inside.carries)

pub returns-clause-ok : goal.returns-clause-ok
returns-clause-ok g c =
    record {
      now = now_behind g.D.FaultDir.planned c.cluster.inside.places.items c.call_for.new.places.items c.args.cluster.now _ c.cluster.inside.ledger c.met_before.new.ledger c.note_stopped.new.ledger c.args.at c.as_slice-in-Failed-2.result.now (map (met_in g.D.FaultDir.planned) c.call_for.new.places.items) (λ (l : Log). shown c.args.at (Refused DiskFault) ∷ l) c.cluster.view_is c.in_ok-before.ensures.log c.in_ok-before.ensures.nodes c.note_stopped.ensures.log c.note_stopped.ensures.nodes
          (c.as_slice-in-Failed-2.ensures.value ∙ c.in_ok-before.ensures.met) refl refl refl;
      failed = fails_as_told g.D.FaultDir.planned c.cluster.inside.places.items c.call_for.new.places.items c.args.cluster.now _ c.cluster.inside.ledger c.args.n c.as_slice-in-Failed-2.result.now (map (met_in g.D.FaultDir.planned) c.call_for.new.places.items) c.cluster.view_is
          (c.as_slice-in-Failed-2.ensures.value ∙ c.in_ok-before.ensures.met) refl refl refl
          (ap (λ (xs : List (ℕ × ℕ)). has_risen c.args.n.0 1 xs (map (met_in g.D.FaultDir.planned) c.call_for.new.places.items)) (c.as_slice-in-Failed-2.ensures.value ∙ sym c.as_slice-in-Failed.ensures.value) ∙ (sym c.has_risen.ensures ∙ c.if-not-has_risen.false));
      calls = (stopped_here g.D.Dir.cells c.args.n.0 c.args.cluster.now _ c.cluster.inside.carries c.note_own-in-Failed.new.carries c.cluster.inside.places.items c.call_for.new.places.items (calls_was c.args.cluster.now _ c.cluster.view_is) refl (stands_there g.D.Dir.cells c.in-Some.w (place_of c.cluster.inside.places.items c.args.n.0) (sym c.committing_in.ensures ∙ c.in-Some.is)) c.note_own-in-Failed.ensures.own (subst (CallsFor g.D.Dir.cells c.args.n.0 c.has_own_at-carries.result c.is_stuck-stuck.result c.cluster.inside.places.items c.call_for.new.places.items) c.in-Failed.is c.in_ok-called.ensures)).0;
      more = (stopped_here g.D.Dir.cells c.args.n.0 c.args.cluster.now _ c.cluster.inside.carries c.note_own-in-Failed.new.carries c.cluster.inside.places.items c.call_for.new.places.items (calls_was c.args.cluster.now _ c.cluster.view_is) refl (stands_there g.D.Dir.cells c.in-Some.w (place_of c.cluster.inside.places.items c.args.n.0) (sym c.committing_in.ensures ∙ c.in-Some.is)) c.note_own-in-Failed.ensures.own (subst (CallsFor g.D.Dir.cells c.args.n.0 c.has_own_at-carries.result c.is_stuck-stuck.result c.cluster.inside.places.items c.call_for.new.places.items) c.in-Failed.is c.in_ok-called.ensures)).1;
    }

pub returns-clause-rest : goal.returns-clause-rest
returns-clause-rest g c =
    commit_kept g.D.FaultDir.planned g.D.FaultDir.names c.args.cluster.now _ _ _ _ _ _ c.cluster.inside.places.items c.call_for.new.places.items (ap (λ (x : Run). x.rest) c.cluster.view_is) refl (c.note_stopped.ensures.cut ∙ c.in_ok-before.ensures.cut) g.D.Dir.cells c.args.n.0
    (one_commits g.D.Dir.cells g.D.FaultDir.planned KeepsBook c.args.n.0 c.cluster.inside.places.items c.call_for.new.places.items (subst (CallsFor g.D.Dir.cells c.args.n.0 c.has_own_at-carries.result c.is_stuck-stuck.result c.cluster.inside.places.items c.call_for.new.places.items) c.in-Failed.is c.in_ok-called.ensures)) c.note_own-in-Failed.ensures.others
