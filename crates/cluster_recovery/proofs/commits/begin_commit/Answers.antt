use Rattle.std.proofs.Common.{ap, ◌≡◌, [], ◌∷◌, ◌∙◌, sym, refl, None, ℕ, true, false, true≢false}
use Rattle.history_rules.specs.declared.entry.Event.TheVariants.{Committing}
use Rattle.history_rules.specs.Nodes.{IsNode, is_running, version_of}
use Rattle.history_rules.specs.Lines.{entries_of_line, commit_in_flight}
use Rattle.history_rules.specs.Commits.{is_stuck}
use Rattle.history_book.specs.Log.{Log, printed, shown}
use Rattle.cluster_nodes.specs.Places.{place_of}
use Rattle.cluster_state.specs.Run.{Run}
use Rattle.cluster_state.proofs.Frames.{slot_at}
use Rattle.cluster_state.proofs.Ledgers.{asked_of, asked_size, fresh_of, legal_of, told_of, turns_of}
use Rattle.cluster_state.proofs.MetStands.{on_any}
use Rattle.cluster_state.proofs.Turning.{fresh_turn, running_has}
use Rattle.cluster_recovery.proofs.CallsLeft.{begun_calls, waiting_calls, rests_here, calls_was}
use Rattle.cluster_recovery.proofs.Committing.{stands_there, none_there, stays_in}
use Rattle.cluster_recovery.proofs.CommitPaths.{begins_stand, carries_stand, stands_is, may_begin, stuck_there}
use Rattle.cluster_recovery.proofs.KeptLives.{owns_itself, none_commits, one_commits, commit_kept}
use Rattle.commit_steps.specs.Book.{HasBegun}
use Rattle.cluster_recovery.proofs.commits.begin_commit.Goals as goal

pub is_fresh-requires : goal.is_fresh-requires
is_fresh-requires g c =
    asked_of (λ (l : Log). entries_of_line c.args.at (printed l) ≡ []) c.cluster.view_is c.book-book.ensures.log c.requires.fresh

pub version-requires : goal.version-requires
version-requires g c =
    asked_size (λ (k : ℕ). IsNode k c.args.n.0) c.cluster.view_is c.book-book.ensures.nodes c.requires.node

pub has_own_at-requires : goal.has_own_at-requires
has_own_at-requires g c =
    c.requires.node.0

pub invariant_of-cluster : goal.invariant_of-cluster
invariant_of-cluster g c =
    λ ended. absurd (true≢false ended)

pub invariant_of-cluster-in_err-reserve : goal.invariant_of-cluster-in_err-reserve
invariant_of-cluster-in_err-reserve g c =
    λ ended. absurd (true≢false ended)

pub invariant_of-cluster-in_err-begin_commit_in-in-None : goal.invariant_of-cluster-in_err-begin_commit_in-in-None
invariant_of-cluster-in_err-begin_commit_in-in-None g c =
    λ ended. absurd (true≢false ended)

pub returns-then-has_own_at-clause-err : goal.returns-then-has_own_at-clause-err
returns-then-has_own_at-clause-err g c =
    record { ended = refl; nodes = ap (λ (x : Run). x.nodes) c.cluster.view_is; log = ap (λ (x : Run). x.log) c.cluster.view_is }

pub returns-in_err-reserve-clause-err : goal.returns-in_err-reserve-clause-err
returns-in_err-reserve-clause-err g c =
    on_any c.from_residual.result (record { ended = refl; nodes = c.reserve.ensures.nodes ∙ ap (λ (x : Run). x.nodes) c.cluster.view_is; log = c.reserve.ensures.log ∙ ap (λ (x : Run). x.log) c.cluster.view_is })

pub returns-in_err-begin_commit_in-in-None-clause-err : goal.returns-in_err-begin_commit_in-in-None-clause-err
returns-in_err-begin_commit_in-in-None-clause-err g c =
    on_any c.from_residual-in_err-begin_commit_in-in-None.result (record { ended = refl; nodes = c.in_ok-reserve.ensures.nodes ∙ ap (λ (x : Run). x.nodes) c.cluster.view_is; log = c.in_ok-reserve.ensures.log ∙ ap (λ (x : Run). x.log) c.cluster.view_is })

pub committing_in-requires : goal.committing_in-requires
committing_in-requires g c =
    slot_at g.D.Dir.cells c.args.cluster.now _ _ c.args.n.0 _ _ c.cluster.view_is c.requires.running (λ e. (c.cluster.invariant e).0) c.requires.node

pub note_own-requires : goal.note_own-requires
note_own-requires g c =
    c.requires.node.0

pub begin_commit_in-requires-clause-slot : goal.begin_commit_in-requires-clause-slot
begin_commit_in-requires-clause-slot g c =
    slot_at g.D.Dir.cells c.args.cluster.now _ _ c.args.n.0 _ _ c.cluster.view_is c.requires.running (λ e. (c.cluster.invariant e).0) c.requires.node

pub begin_commit_in-requires-clause-none : goal.begin_commit_in-requires-clause-none
begin_commit_in-requires-clause-none g c =
    (none_there g.D.Dir.cells c.reserve.new.self.log c.args.n.0 (place_of c.cluster.inside.places.items c.args.n.0) ((stands_is c.in_ok-reserve.ensures.nodes c.in_ok-reserve.ensures.cut c.in_ok-reserve.ensures.log (running_has c.cluster.view_is c.requires.running c.cluster.invariant)).0.each c.args.n.0 (asked_size (λ (k : ℕ). IsNode k c.args.n.0) c.cluster.view_is c.in_ok-reserve.ensures.nodes c.requires.node)) (asked_of (λ (l : Log). is_running c.args.n.0 (printed l) ≡ true) c.cluster.view_is c.in_ok-reserve.ensures.log c.requires.up) (sym c.committing_in.ensures ∙ c.in-None.is))

pub show-requires-clause-rule : goal.show-requires-clause-rule
show-requires-clause-rule g c =
    (may_begin c.reserve.new.self.nodes (printed c.reserve.new.self.log) c.args.at c.args.n (record { 0 = c.version.result }) (fresh_of (c.book-book.ensures.log ∙ sym c.in_ok-reserve.ensures.log) c.is_fresh.ensures) (asked_size (λ (k : ℕ). IsNode k c.args.n.0) c.cluster.view_is c.in_ok-reserve.ensures.nodes c.requires.node) (asked_of (λ (l : Log). is_running c.args.n.0 (printed l) ≡ true) c.cluster.view_is c.in_ok-reserve.ensures.log c.requires.up) (told_of (c.book-book.ensures.log ∙ sym c.in_ok-reserve.ensures.log) (version_of c.args.n.0) c.version.ensures) (asked_of (λ (l : Log). commit_in_flight c.args.n.0 (printed l) ≡ None) c.cluster.view_is c.in_ok-reserve.ensures.log c.requires.free))

pub show-requires-clause-turn : goal.show-requires-clause-turn
show-requires-clause-turn g c =
    fresh_turn (printed c.reserve.new.self.log) c.args.at (Committing c.args.n (record { 0 = c.version.result })) (fresh_of (c.book-book.ensures.log ∙ sym c.in_ok-reserve.ensures.log) c.is_fresh.ensures) tt

pub show-requires-in-None-clause-rule : goal.show-requires-in-None-clause-rule
show-requires-in-None-clause-rule g c =
    (may_begin c.reserve.new.self.nodes (printed c.reserve.new.self.log) c.args.at c.args.n (record { 0 = c.version.result }) (fresh_of (c.book-book.ensures.log ∙ sym c.in_ok-reserve.ensures.log) c.is_fresh.ensures) (asked_size (λ (k : ℕ). IsNode k c.args.n.0) c.cluster.view_is c.in_ok-reserve.ensures.nodes c.requires.node) (asked_of (λ (l : Log). is_running c.args.n.0 (printed l) ≡ true) c.cluster.view_is c.in_ok-reserve.ensures.log c.requires.up) (told_of (c.book-book.ensures.log ∙ sym c.in_ok-reserve.ensures.log) (version_of c.args.n.0) c.version.ensures) (asked_of (λ (l : Log). commit_in_flight c.args.n.0 (printed l) ≡ None) c.cluster.view_is c.in_ok-reserve.ensures.log c.requires.free))

pub show-requires-in-None-clause-turn : goal.show-requires-in-None-clause-turn
show-requires-in-None-clause-turn g c =
    fresh_turn (printed c.reserve.new.self.log) c.args.at (Committing c.args.n (record { 0 = c.version.result })) (fresh_of (c.book-book.ensures.log ∙ sym c.in_ok-reserve.ensures.log) c.is_fresh.ensures) tt

pub invariant_of-cluster-in-Some : goal.invariant_of-cluster-in-Some
invariant_of-cluster-in-Some g c =
    λ running. stands_is c.show.ensures.nodes c.show.ensures.cut c.show.ensures.log
    (carries_stand g.D.Dir.cells c.reserve.new.self c.cluster.inside.tasks c.cluster.inside.places.items c.cluster.inside.places.items c.args.n (asked_size (λ (k : ℕ). IsNode k c.args.n.0) c.cluster.view_is c.in_ok-reserve.ensures.nodes c.requires.node) (stands_is c.in_ok-reserve.ensures.nodes c.in_ok-reserve.ensures.cut c.in_ok-reserve.ensures.log (running_has c.cluster.view_is c.requires.running c.cluster.invariant)) c.args.at (legal_of (c.book-book.ensures.nodes ∙ sym c.in_ok-reserve.ensures.nodes) (c.book-book.ensures.log ∙ sym c.in_ok-reserve.ensures.log) c.is_legal.ensures.legal) (turns_of (c.book-book.ensures.log ∙ sym c.in_ok-reserve.ensures.log) c.is_legal.ensures.turns) (record { 0 = c.version.result }) (fresh_of (c.book-book.ensures.log ∙ sym c.in_ok-reserve.ensures.log) c.is_fresh.ensures) (may_begin c.reserve.new.self.nodes (printed c.reserve.new.self.log) c.args.at c.args.n (record { 0 = c.version.result }) (fresh_of (c.book-book.ensures.log ∙ sym c.in_ok-reserve.ensures.log) c.is_fresh.ensures) (asked_size (λ (k : ℕ). IsNode k c.args.n.0) c.cluster.view_is c.in_ok-reserve.ensures.nodes c.requires.node) (asked_of (λ (l : Log). is_running c.args.n.0 (printed l) ≡ true) c.cluster.view_is c.in_ok-reserve.ensures.log c.requires.up) (told_of (c.book-book.ensures.log ∙ sym c.in_ok-reserve.ensures.log) (version_of c.args.n.0) c.version.ensures) (asked_of (λ (l : Log). commit_in_flight c.args.n.0 (printed l) ≡ None) c.cluster.view_is c.in_ok-reserve.ensures.log c.requires.free)) (asked_of (λ (l : Log). commit_in_flight c.args.n.0 (printed l) ≡ None) c.cluster.view_is c.in_ok-reserve.ensures.log c.requires.free) (stays_in g.D.Dir.cells c.reserve.new.self.log c.reserve.new.self.nodes c.in-Some.field-0 c.args.n.0 c.cluster.inside.places.items (stands_is c.in_ok-reserve.ensures.nodes c.in_ok-reserve.ensures.cut c.in_ok-reserve.ensures.log (running_has c.cluster.view_is c.requires.running c.cluster.invariant)).0 (asked_size (λ (k : ℕ). IsNode k c.args.n.0) c.cluster.view_is c.in_ok-reserve.ensures.nodes c.requires.node) (sym c.committing_in.ensures ∙ c.in-Some.is)))

pub invariant_of-cluster-in-None : goal.invariant_of-cluster-in-None
invariant_of-cluster-in-None g c =
    λ running. stands_is c.show-in-None.ensures.nodes c.show-in-None.ensures.cut c.show-in-None.ensures.log
    (begins_stand g.D.Dir.cells c.reserve.new.self c.cluster.inside.tasks c.cluster.inside.places.items c.begin_commit_in.new.places.items c.args.n (asked_size (λ (k : ℕ). IsNode k c.args.n.0) c.cluster.view_is c.in_ok-reserve.ensures.nodes c.requires.node) (stands_is c.in_ok-reserve.ensures.nodes c.in_ok-reserve.ensures.cut c.in_ok-reserve.ensures.log (running_has c.cluster.view_is c.requires.running c.cluster.invariant)) c.args.at (legal_of (c.book-book.ensures.nodes ∙ sym c.in_ok-reserve.ensures.nodes) (c.book-book.ensures.log ∙ sym c.in_ok-reserve.ensures.log) c.is_legal.ensures.legal) (turns_of (c.book-book.ensures.log ∙ sym c.in_ok-reserve.ensures.log) c.is_legal.ensures.turns) (record { 0 = c.version.result }) (fresh_of (c.book-book.ensures.log ∙ sym c.in_ok-reserve.ensures.log) c.is_fresh.ensures) (may_begin c.reserve.new.self.nodes (printed c.reserve.new.self.log) c.args.at c.args.n (record { 0 = c.version.result }) (fresh_of (c.book-book.ensures.log ∙ sym c.in_ok-reserve.ensures.log) c.is_fresh.ensures) (asked_size (λ (k : ℕ). IsNode k c.args.n.0) c.cluster.view_is c.in_ok-reserve.ensures.nodes c.requires.node) (asked_of (λ (l : Log). is_running c.args.n.0 (printed l) ≡ true) c.cluster.view_is c.in_ok-reserve.ensures.log c.requires.up) (told_of (c.book-book.ensures.log ∙ sym c.in_ok-reserve.ensures.log) (version_of c.args.n.0) c.version.ensures) (asked_of (λ (l : Log). commit_in_flight c.args.n.0 (printed l) ≡ None) c.cluster.view_is c.in_ok-reserve.ensures.log c.requires.free)) (told_of (c.book-book.ensures.log ∙ sym c.in_ok-reserve.ensures.log) (version_of c.args.n.0) c.version.ensures) c.in_ok-begin_commit_in-in-None.ensures)

pub returns-in-Some-clause-ok : goal.returns-in-Some-clause-ok
returns-in-Some-clause-ok g c =
    record {
      node = refl;
      version = (told_of (c.book-book.ensures.log ∙ ap (λ (x : Run). x.log) c.cluster.view_is) (version_of c.args.n.0) c.version.ensures);
      now = record {
        running = refl;
        nodes = c.show.ensures.nodes ∙ (c.in_ok-reserve.ensures.nodes ∙ ap (λ (x : Run). x.nodes) c.cluster.view_is);
        log = c.show.ensures.log ∙ ap (λ (l : Log). shown c.args.at (Committing c.args.n (record { 0 = c.version.result })) ∷ l) (c.in_ok-reserve.ensures.log ∙ ap (λ (x : Run). x.log) c.cluster.view_is);
      };
      calls = waiting_calls g.D.Dir.cells c.args.n.0 c.args.cluster.now _ c.cluster.inside.carries c.note_own.new.carries c.cluster.inside.places.items c.cluster.inside.places.items (calls_was c.args.cluster.now _ c.cluster.view_is) refl refl (stays_in g.D.Dir.cells c.reserve.new.self.log c.reserve.new.self.nodes c.in-Some.field-0 c.args.n.0 c.cluster.inside.places.items (stands_is c.in_ok-reserve.ensures.nodes c.in_ok-reserve.ensures.cut c.in_ok-reserve.ensures.log (running_has c.cluster.view_is c.requires.running c.cluster.invariant)).0 (asked_size (λ (k : ℕ). IsNode k c.args.n.0) c.cluster.view_is c.in_ok-reserve.ensures.nodes c.requires.node) (sym c.committing_in.ensures ∙ c.in-Some.is)).place (stays_in g.D.Dir.cells c.reserve.new.self.log c.reserve.new.self.nodes c.in-Some.field-0 c.args.n.0 c.cluster.inside.places.items (stands_is c.in_ok-reserve.ensures.nodes c.in_ok-reserve.ensures.cut c.in_ok-reserve.ensures.log (running_has c.cluster.view_is c.requires.running c.cluster.invariant)).0 (asked_size (λ (k : ℕ). IsNode k c.args.n.0) c.cluster.view_is c.in_ok-reserve.ensures.nodes c.requires.node) (sym c.committing_in.ensures ∙ c.in-Some.is)).there (sym c.has_own_at.ensures ∙ c.if-has_own_at.false) c.note_own.ensures.own;
      none = λ free. absurd (true≢false (sym (stuck_there g.D.Dir.cells c.reserve.new.self.nodes c.reserve.new.self.log c.cluster.inside.places.items c.args.n.0 (asked_size (λ (k : ℕ). IsNode k c.args.n.0) c.cluster.view_is c.in_ok-reserve.ensures.nodes c.requires.node) (stands_is c.in_ok-reserve.ensures.nodes c.in_ok-reserve.ensures.cut c.in_ok-reserve.ensures.log (running_has c.cluster.view_is c.requires.running c.cluster.invariant)).1 (asked_of (λ (l : Log). commit_in_flight c.args.n.0 (printed l) ≡ None) c.cluster.view_is c.in_ok-reserve.ensures.log c.requires.free) (stands_there g.D.Dir.cells c.in-Some.field-0 (place_of c.cluster.inside.places.items c.args.n.0) (sym c.committing_in.ensures ∙ c.in-Some.is))) ∙ asked_of (λ (l : Log). is_stuck c.args.n.0 (printed l) ≡ false) c.cluster.view_is c.in_ok-reserve.ensures.log free));
    }

pub returns-in-Some-clause-rest : goal.returns-in-Some-clause-rest
returns-in-Some-clause-rest g c =
    commit_kept g.D.FaultDir.planned g.D.FaultDir.names c.args.cluster.now _ _ _ _ _ _ c.cluster.inside.places.items c.cluster.inside.places.items (ap (λ (x : Run). x.rest) c.cluster.view_is) refl (c.show.ensures.cut ∙ c.in_ok-reserve.ensures.cut) g.D.Dir.cells c.args.n.0
    (none_commits g.D.Dir.cells g.D.FaultDir.planned c.args.n.0 c.cluster.inside.places.items) c.note_own.ensures.others

pub returns-in_ok-begin_commit_in-in-None-clause-ok : goal.returns-in_ok-begin_commit_in-in-None-clause-ok
returns-in_ok-begin_commit_in-in-None-clause-ok g c =
    record {
      node = refl;
      version = (told_of (c.book-book.ensures.log ∙ ap (λ (x : Run). x.log) c.cluster.view_is) (version_of c.args.n.0) c.version.ensures);
      now = record {
        running = refl;
        nodes = c.show-in-None.ensures.nodes ∙ (c.in_ok-reserve.ensures.nodes ∙ ap (λ (x : Run). x.nodes) c.cluster.view_is);
        log = c.show-in-None.ensures.log ∙ ap (λ (l : Log). shown c.args.at (Committing c.args.n (record { 0 = c.version.result })) ∷ l) (c.in_ok-reserve.ensures.log ∙ ap (λ (x : Run). x.log) c.cluster.view_is);
      };
      calls = begun_calls g.D.Dir.cells c.args.n.0 c.args.cluster.now _ c.cluster.inside.carries c.cluster.inside.carries c.cluster.inside.places.items c.begin_commit_in.new.places.items (calls_was c.args.cluster.now _ c.cluster.view_is) refl refl (none_there g.D.Dir.cells c.reserve.new.self.log c.args.n.0 (place_of c.cluster.inside.places.items c.args.n.0) ((stands_is c.in_ok-reserve.ensures.nodes c.in_ok-reserve.ensures.cut c.in_ok-reserve.ensures.log (running_has c.cluster.view_is c.requires.running c.cluster.invariant)).0.each c.args.n.0 (asked_size (λ (k : ℕ). IsNode k c.args.n.0) c.cluster.view_is c.in_ok-reserve.ensures.nodes c.requires.node)) (asked_of (λ (l : Log). is_running c.args.n.0 (printed l) ≡ true) c.cluster.view_is c.in_ok-reserve.ensures.log c.requires.up) (sym c.committing_in.ensures ∙ c.in-None.is)) c.in_ok-begin_commit_in-in-None.ensures;
      none = λ free. rests_here g.D.Dir.cells c.args.n.0 c.args.cluster.now c.cluster.inside.carries c.cluster.inside.places.items (calls_was c.args.cluster.now _ c.cluster.view_is) (sym c.has_own_at.ensures ∙ c.if-has_own_at.false) c.in_ok-begin_commit_in-in-None.ensures.place c.in_ok-begin_commit_in-in-None.ensures.there (none_there g.D.Dir.cells c.reserve.new.self.log c.args.n.0 (place_of c.cluster.inside.places.items c.args.n.0) ((stands_is c.in_ok-reserve.ensures.nodes c.in_ok-reserve.ensures.cut c.in_ok-reserve.ensures.log (running_has c.cluster.view_is c.requires.running c.cluster.invariant)).0.each c.args.n.0 (asked_size (λ (k : ℕ). IsNode k c.args.n.0) c.cluster.view_is c.in_ok-reserve.ensures.nodes c.requires.node)) (asked_of (λ (l : Log). is_running c.args.n.0 (printed l) ≡ true) c.cluster.view_is c.in_ok-reserve.ensures.log c.requires.up) (sym c.committing_in.ensures ∙ c.in-None.is));
    }

pub returns-in_ok-begin_commit_in-in-None-clause-rest : goal.returns-in_ok-begin_commit_in-in-None-clause-rest
returns-in_ok-begin_commit_in-in-None-clause-rest g c =
    commit_kept g.D.FaultDir.planned g.D.FaultDir.names c.args.cluster.now _ _ _ _ _ _ c.cluster.inside.places.items c.begin_commit_in.new.places.items (ap (λ (x : Run). x.rest) c.cluster.view_is) refl (c.show-in-None.ensures.cut ∙ c.in_ok-reserve.ensures.cut) g.D.Dir.cells c.args.n.0
    (one_commits g.D.Dir.cells g.D.FaultDir.planned HasBegun c.args.n.0 c.cluster.inside.places.items c.begin_commit_in.new.places.items c.in_ok-begin_commit_in-in-None.ensures) (owns_itself c.args.n.0 c.cluster.inside.carries)
