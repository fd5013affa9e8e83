use Rattle.std.proofs.Common.{◌≡◌, ◌∙◌, ◌∷◌, [], ℕ, Some, None, true, false, nat_lt, map, ap, sym, subst, refl, true≢false}
use Rattle.history_rules.specs.declared.cause.Cause.TheVariants.{DiskFault}
use Rattle.history_rules.specs.declared.cause.FaultKind.TheVariants.{Disk, Stop}
use Rattle.history_rules.specs.declared.entry.Event.TheVariants.{Reopened, Refused}
use Rattle.history_rules.specs.Nodes.{IsNode, is_running}
use Rattle.history_rules.specs.Lines.{entries_of_line}
use Rattle.history_rules.specs.Faults.{is_planned}
use Rattle.history_book.specs.Log.{Log, printed, shown}
use Rattle.cluster_nodes.specs.Lives.{ReopensIn, StaysDownIn}
use Rattle.cluster_state.specs.Run.{Run}
use Rattle.cluster_state.specs.Met.{met_in}
use Rattle.cluster_state.proofs.Frames.{slot_at, there_at, rule_at}
use Rattle.cluster_state.proofs.Ledgers.{asked_of, asked_size, fresh_of, legal_of, turns_of, down_of, uncommitting_of}
use Rattle.cluster_state.proofs.MergingPaths.{two_parts, three_parts, third_at}
use Rattle.cluster_state.proofs.MetStands.{now_behind, on_any}
use Rattle.cluster_recovery.proofs.Reopening.{settled_there, opens_where, rule_there, reopen_path}
use Rattle.cluster_recovery.proofs.ReopenMerges.{reopened_stands}
use Rattle.cluster_recovery.proofs.MetLives.{plans_was}
use Rattle.cluster_recovery.proofs.MetOnce.{own_log, own_failed, none_at}
use Rattle.cluster_recovery.proofs.StaysDown.{went_done, went_failed, slot_after, stays_path}
use Rattle.cluster_recovery.proofs.KeptLives.{owns_itself, one_moves, node_kept, disks_kept, names_left, down_sizes}
use Rattle.cluster_nodes.specs.declared.nodes.Node.TheVariants.{Replica, Down}
use Rattle.cluster_recovery.proofs.lives.reopen_node.Goals as goal

pub is_fresh-requires : goal.is_fresh-requires
is_fresh-requires g c = asked_of (λ (l : Log). entries_of_line c.args.at (printed l) ≡ []) c.cluster.view_is c.book-book.ensures.log c.requires.fresh

pub node_kinds-before-requires : goal.node_kinds-before-requires
node_kinds-before-requires g c = (slot_at g.D.Dir.cells c.args.cluster.now _ _ c.args.n.0 _ _ c.cluster.view_is c.requires.running (λ e. (c.cluster.invariant e).0) c.requires.node)

pub reopen_in-requires-clause-slot : goal.reopen_in-requires-clause-slot
reopen_in-requires-clause-slot g c = (slot_at g.D.Dir.cells c.args.cluster.now _ _ c.args.n.0 _ _ c.cluster.view_is c.requires.running (λ e. (c.cluster.invariant e).0) c.requires.node)

pub reopen_in-requires-clause-there : goal.reopen_in-requires-clause-there
reopen_in-requires-clause-there g c = there_at g.D.Dir.cells c.args.cluster.now _ _ c.args.n.0 _ _ c.cluster.view_is c.requires.running (λ e. (c.cluster.invariant e).0) c.requires.node

pub reopen_in-requires-clause-settled : goal.reopen_in-requires-clause-settled
reopen_in-requires-clause-settled g c = settled_there g.D.Dir.cells c.args.cluster.now _ c.cluster.inside.ledger _ c.args.at c.args.n c.cluster.view_is c.requires.running (two_parts c.cluster.invariant) c.files_last.ensures (legal_of c.book-book.ensures.nodes c.book-book.ensures.log c.is_legal.ensures.legal) (turns_of c.book-book.ensures.log c.is_legal.ensures.turns) (fresh_of c.book-book.ensures.log c.is_fresh.ensures) c.requires.node c.requires.down

pub reopen_in-requires-clause-opens : goal.reopen_in-requires-clause-opens
reopen_in-requires-clause-opens g c = opens_where g.D.Dir.cells c.args.cluster.now _ c.cluster.inside.ledger _ c.args.at c.args.n c.cluster.view_is c.requires.running (two_parts c.cluster.invariant) c.files_last.ensures (legal_of c.book-book.ensures.nodes c.book-book.ensures.log c.is_legal.ensures.legal) (turns_of c.book-book.ensures.log c.is_legal.ensures.turns) (fresh_of c.book-book.ensures.log c.is_fresh.ensures) c.requires.node c.requires.down

pub node_kinds-now-requires : goal.node_kinds-now-requires
node_kinds-now-requires g c = slot_after g.D.Dir.cells g.D.Dir.faults c.args.n.0 c.cluster.inside.places.items c.reopen_in.new.places.items c.in_ok-went.went c.in_ok-went.ensures (slot_at g.D.Dir.cells c.args.cluster.now _ _ c.args.n.0 _ _ c.cluster.view_is c.requires.running (λ e. (c.cluster.invariant e).0) c.requires.node)

pub show-requires-clause-rule : goal.show-requires-clause-rule
show-requires-clause-rule g c = rule_at c.args.cluster.now _ c.cluster.inside.ledger c.reserve.new.self c.args.at (Reopened c.args.n c.in-Done.v) c.cluster.view_is c.in_ok-reserve.ensures.log c.in_ok-reserve.ensures.nodes
    (rule_there g.D.Dir.cells c.args.cluster.now _ c.cluster.inside.ledger _ c.args.at c.args.n c.cluster.view_is c.requires.running (two_parts c.cluster.invariant) c.files_last.ensures (legal_of c.book-book.ensures.nodes c.book-book.ensures.log c.is_legal.ensures.legal) (turns_of c.book-book.ensures.log c.is_legal.ensures.turns) (fresh_of c.book-book.ensures.log c.is_fresh.ensures) c.requires.node c.requires.down c.in-Done.v _ (went_done (λ v. ReopensIn g.D.Dir.cells c.args.n.0 v c.cluster.inside.places.items c.reopen_in.new.places.items) (StaysDownIn g.D.Dir.cells g.D.Dir.faults c.args.n.0 c.cluster.inside.places.items c.reopen_in.new.places.items) c.in_ok-went.went c.in-Done.v c.in-Done.is c.in_ok-went.ensures))

pub invariant_of-cluster-in-Done : goal.invariant_of-cluster-in-Done
invariant_of-cluster-in-Done g c = λ running. three_parts (reopen_path g.D.Dir.cells c.args.cluster.now _ c.cluster.inside.ledger _ c.args.at c.args.n c.cluster.view_is c.requires.running (two_parts c.cluster.invariant) c.files_last.ensures (legal_of c.book-book.ensures.nodes c.book-book.ensures.log c.is_legal.ensures.legal) (turns_of c.book-book.ensures.log c.is_legal.ensures.turns) (fresh_of c.book-book.ensures.log c.is_fresh.ensures) c.requires.node c.requires.down c.in-Done.v _ (went_done (λ v. ReopensIn g.D.Dir.cells c.args.n.0 v c.cluster.inside.places.items c.reopen_in.new.places.items) (StaysDownIn g.D.Dir.cells g.D.Dir.faults c.args.n.0 c.cluster.inside.places.items c.reopen_in.new.places.items) c.in_ok-went.went c.in-Done.v c.in-Done.is c.in_ok-went.ensures) c.reserve.new.self c.show.new.self
    c.in_ok-reserve.ensures.log c.in_ok-reserve.ensures.nodes c.show.ensures.log c.show.ensures.nodes (down_of c.book-book.ensures.log c.is_idle.ensures.down) (uncommitting_of c.book-book.ensures.log c.is_idle.ensures.commits))
    (reopened_stands g.D.Dir.cells _ c.args.cluster.now _ c.cluster.inside.ledger c.reserve.new.self c.show.new.self _ _ c.args.n c.in-Done.v c.args.at c.cluster.view_is c.requires.running (λ e. (c.cluster.invariant e).0) c.in_ok-reserve.ensures.log c.in_ok-reserve.ensures.nodes c.in_ok-reserve.ensures.cut
    c.show.ensures.log c.show.ensures.nodes c.show.ensures.cut c.requires.node c.requires.down (went_done (λ v. ReopensIn g.D.Dir.cells c.args.n.0 v c.cluster.inside.places.items c.reopen_in.new.places.items) (StaysDownIn g.D.Dir.cells g.D.Dir.faults c.args.n.0 c.cluster.inside.places.items c.reopen_in.new.places.items) c.in_ok-went.went c.in-Done.v c.in-Done.is c.in_ok-went.ensures) (third_at c.cluster.view_is c.requires.running c.cluster.invariant))

pub returns-else-has_failed-clause-ok : goal.returns-else-has_failed-clause-ok
returns-else-has_failed-clause-ok g c =
    let b = (went_done (λ v. ReopensIn g.D.Dir.cells c.args.n.0 v c.cluster.inside.places.items c.reopen_in.new.places.items) (StaysDownIn g.D.Dir.cells g.D.Dir.faults c.args.n.0 c.cluster.inside.places.items c.reopen_in.new.places.items) c.in_ok-went.went c.in-Done.v c.in-Done.is c.in_ok-went.ensures) in
    let none = (sym c.has_failed.ensures ∙ c.if-has_failed.false) in
    record {
      version = Some c.in-Done.v;
      now = now_behind g.D.FaultDir.planned c.cluster.inside.places.items c.reopen_in.new.places.items c.args.cluster.now _ c.cluster.inside.ledger c.reserve.new.self c.show.new.self c.args.at (map (met_in g.D.FaultDir.planned) c.cluster.inside.places.items) (map (met_in g.D.FaultDir.planned) c.reopen_in.new.places.items) (λ (l : Log). shown c.args.at (Reopened c.args.n c.in-Done.v) ∷ l) c.cluster.view_is
          c.in_ok-reserve.ensures.log c.in_ok-reserve.ensures.nodes
          (c.show.ensures.log ∙ ap (λ (l : Log). shown c.args.at (Reopened c.args.n c.in-Done.v) ∷ l) (sym (own_log g.D.FaultDir.planned c.args.at c.args.n _ c.cluster.inside.places.items c.reopen_in.new.places.items (slot_at g.D.Dir.cells c.args.cluster.now _ _ c.args.n.0 _ _ c.cluster.view_is c.requires.running (λ e. (c.cluster.invariant e).0) c.requires.node) b.moves c.node_kinds-before.result c.node_kinds-now.result c.node_kinds-before.ensures c.node_kinds-now.ensures c.reserve.new.self.log ∙ none_at c.args.at c.args.n.0 c.node_kinds-before.result c.node_kinds-now.result c.reserve.new.self.log none))) c.show.ensures.nodes refl refl refl refl;
      found = (
        (rule_there g.D.Dir.cells c.args.cluster.now _ c.cluster.inside.ledger _ c.args.at c.args.n c.cluster.view_is c.requires.running (two_parts c.cluster.invariant) c.files_last.ensures (legal_of c.book-book.ensures.nodes c.book-book.ensures.log c.is_legal.ensures.legal) (turns_of c.book-book.ensures.log c.is_legal.ensures.turns) (fresh_of c.book-book.ensures.log c.is_fresh.ensures) c.requires.node c.requires.down c.in-Done.v _ b).found,
        own_failed g.D.FaultDir.planned c.args.at c.args.n _ c.cluster.inside.places.items c.reopen_in.new.places.items (slot_at g.D.Dir.cells c.args.cluster.now _ _ c.args.n.0 _ _ c.cluster.view_is c.requires.running (λ e. (c.cluster.invariant e).0) c.requires.node) b.moves c.node_kinds-before.result c.node_kinds-now.result c.node_kinds-before.ensures c.node_kinds-now.ensures c.args.cluster.now (plans_was c.args.cluster.now _ c.cluster.view_is) ∙ none,
      );
    }

pub returns-else-has_failed-clause-rest : goal.returns-else-has_failed-clause-rest
returns-else-has_failed-clause-rest g c =
    let b = went_done (λ v. ReopensIn g.D.Dir.cells c.args.n.0 v c.cluster.inside.places.items c.reopen_in.new.places.items) (StaysDownIn g.D.Dir.cells g.D.Dir.faults c.args.n.0 c.cluster.inside.places.items c.reopen_in.new.places.items) c.in_ok-went.went c.in-Done.v c.in-Done.is c.in_ok-went.ensures in
    node_kept g.D.FaultDir.planned g.D.FaultDir.names c.args.cluster.now _ _ _ _ _ _ c.cluster.inside.places.items c.reopen_in.new.places.items (ap (λ (x : Run). x.rest) c.cluster.view_is) refl (c.show.ensures.cut ∙ c.in_ok-reserve.ensures.cut) c.args.n.0
    (one_moves c.args.n.0 b.place (record { node = Replica b.replica; held = b.place.held }) c.cluster.inside.places.items c.reopen_in.new.places.items b.there b.moves
    (sym (down_sizes g.D.Dir.cells c.cluster.inside.ledger.log c.cluster.inside.ledger.nodes c.args.n.0 c.cluster.inside.places.items (c.cluster.invariant (ap (λ (x : Run). x.ended) c.cluster.view_is ∙ c.requires.running)).0
    (asked_size (λ (k : ℕ). IsNode k c.args.n.0) c.cluster.view_is refl c.requires.node) (asked_of (λ (l : Log). is_running c.args.n.0 (printed l) ≡ false) c.cluster.view_is refl c.requires.down) b.place b.there))) (owns_itself c.args.n.0 c.cluster.inside.carries)

pub returns-else-has_failed-clause-disks : goal.returns-else-has_failed-clause-disks
returns-else-has_failed-clause-disks g c =
    let b = went_done (λ v. ReopensIn g.D.Dir.cells c.args.n.0 v c.cluster.inside.places.items c.reopen_in.new.places.items) (StaysDownIn g.D.Dir.cells g.D.Dir.faults c.args.n.0 c.cluster.inside.places.items c.reopen_in.new.places.items) c.in_ok-went.went c.in-Done.v c.in-Done.is c.in_ok-went.ensures in
    disks_kept g.D.FaultDir.planned g.D.FaultDir.names c.args.cluster.now (record { ended = false; nodes = c.show.new.self.nodes; log = c.show.new.self.log; rest = _ }) _ _ _ _ _ c.cluster.inside.places.items c.reopen_in.new.places.items (ap (λ (x : Run). x.rest) c.cluster.view_is) refl (c.show.ensures.cut ∙ c.in_ok-reserve.ensures.cut) c.args.n.0 (record { node = Replica b.replica; held = b.place.held }) b.moves

pub returns-else-has_failed-clause-names : goal.returns-else-has_failed-clause-names
returns-else-has_failed-clause-names g c =
    let b = went_done (λ v. ReopensIn g.D.Dir.cells c.args.n.0 v c.cluster.inside.places.items c.reopen_in.new.places.items) (StaysDownIn g.D.Dir.cells g.D.Dir.faults c.args.n.0 c.cluster.inside.places.items c.reopen_in.new.places.items) c.in_ok-went.went c.in-Done.v c.in-Done.is c.in_ok-went.ensures in
    names_left g.D.FaultDir.planned g.D.FaultDir.names c.args.cluster.now (record { ended = false; nodes = c.show.new.self.nodes; log = c.show.new.self.log; rest = _ }) _ _ _ _ _ c.cluster.inside.places.items c.reopen_in.new.places.items (ap (λ (x : Run). x.rest) c.cluster.view_is) refl (c.show.ensures.cut ∙ c.in_ok-reserve.ensures.cut) c.args.n.0 (record { node = Replica b.replica; held = b.place.held }) b.moves

pub is_planned_at-requires : goal.is_planned_at-requires
is_planned_at-requires g c = asked_size (λ (k : ℕ). IsNode k c.args.n.0) c.cluster.view_is (c.book.ensures.nodes ∙ c.in_ok-reserve.ensures.nodes) c.requires.node

pub note_down-requires-clause-fresh : goal.note_down-requires-clause-fresh
note_down-requires-clause-fresh g c = (fresh_of (c.book-book.ensures.log ∙ sym c.in_ok-reserve.ensures.log) c.is_fresh.ensures)

pub note_down-requires-clause-node : goal.note_down-requires-clause-node
note_down-requires-clause-node g c = (asked_size (λ (k : ℕ). IsNode k c.args.n.0) c.cluster.view_is c.in_ok-reserve.ensures.nodes c.requires.node)

pub note_down-requires-clause-disk : goal.note_down-requires-clause-disk
note_down-requires-clause-disk g c = subst (λ (l : Log). nat_lt c.node_kinds-before.result.0 c.node_kinds-now.result.0 ≡ true → is_planned c.args.n.0 Disk (printed l) ≡ true) c.book.ensures.log (c.if-not-is_planned_at.ensures.disk refl)

pub note_down-requires-clause-stop : goal.note_down-requires-clause-stop
note_down-requires-clause-stop g c = subst (λ (l : Log). nat_lt c.node_kinds-before.result.1 c.node_kinds-now.result.1 ≡ true → is_planned c.args.n.0 Stop (printed l) ≡ true) c.book.ensures.log (c.if-not-is_planned_at.ensures.stop refl)

pub note_down-requires-clause-rose : goal.note_down-requires-clause-rose
note_down-requires-clause-rose g c = (sym c.has_failed-in-Failed.ensures ∙ c.if-not-has_failed.false)

pub invariant_of-cluster-in-Failed : goal.invariant_of-cluster-in-Failed
invariant_of-cluster-in-Failed g c = λ running.
    stays_path g.D.Dir.cells g.D.Dir.faults c.args.cluster.now _ c.cluster.inside.ledger c.reserve.new.self c.note_down.new.ledger c.cluster.inside.places.items c.reopen_in.new.places.items c.cluster.inside.tasks c.args.at c.args.n c.node_kinds-before.result c.node_kinds-now.result c.cluster.view_is c.requires.running c.cluster.invariant
    c.in_ok-reserve.ensures.log c.in_ok-reserve.ensures.nodes c.in_ok-reserve.ensures.cut c.note_down.ensures.log c.note_down.ensures.nodes c.note_down.ensures.cut c.note_down.ensures.legal c.note_down.ensures.turns c.note_down.ensures.rule c.note_down.ensures.turn
    (fresh_of (c.book-book.ensures.log ∙ sym c.in_ok-reserve.ensures.log) c.is_fresh.ensures) (asked_size (λ (k : ℕ). IsNode k c.args.n.0) c.cluster.view_is c.in_ok-reserve.ensures.nodes c.requires.node) (asked_of (λ (l : Log). is_running c.args.n.0 (printed l) ≡ false) c.cluster.view_is c.in_ok-reserve.ensures.log c.requires.down) (went_failed (λ v. ReopensIn g.D.Dir.cells c.args.n.0 v c.cluster.inside.places.items c.reopen_in.new.places.items) (StaysDownIn g.D.Dir.cells g.D.Dir.faults c.args.n.0 c.cluster.inside.places.items c.reopen_in.new.places.items) c.in_ok-went.went c.in-Failed.is c.in_ok-went.ensures)

pub returns-else-not-is_planned_at-clause-ok : goal.returns-else-not-is_planned_at-clause-ok
returns-else-not-is_planned_at-clause-ok g c =
    let b = (went_failed (λ v. ReopensIn g.D.Dir.cells c.args.n.0 v c.cluster.inside.places.items c.reopen_in.new.places.items) (StaysDownIn g.D.Dir.cells g.D.Dir.faults c.args.n.0 c.cluster.inside.places.items c.reopen_in.new.places.items) c.in_ok-went.went c.in-Failed.is c.in_ok-went.ensures) in
    record {
      version = None;
      now = now_behind g.D.FaultDir.planned c.cluster.inside.places.items c.reopen_in.new.places.items c.args.cluster.now _ c.cluster.inside.ledger c.reserve.new.self c.note_down.new.ledger c.args.at (map (met_in g.D.FaultDir.planned) c.cluster.inside.places.items) (map (met_in g.D.FaultDir.planned) c.reopen_in.new.places.items) (λ (l : Log). shown c.args.at (Refused DiskFault) ∷ l) c.cluster.view_is
          c.in_ok-reserve.ensures.log c.in_ok-reserve.ensures.nodes
          (c.note_down.ensures.log ∙ ap (λ (l : Log). shown c.args.at (Refused DiskFault) ∷ l) (sym (own_log g.D.FaultDir.planned c.args.at c.args.n _ c.cluster.inside.places.items c.reopen_in.new.places.items (slot_at g.D.Dir.cells c.args.cluster.now _ _ c.args.n.0 _ _ c.cluster.view_is c.requires.running (λ e. (c.cluster.invariant e).0) c.requires.node) b.moves c.node_kinds-before.result c.node_kinds-now.result c.node_kinds-before.ensures c.node_kinds-now.ensures c.reserve.new.self.log))) c.note_down.ensures.nodes refl refl refl refl;
      found = own_failed g.D.FaultDir.planned c.args.at c.args.n _ c.cluster.inside.places.items c.reopen_in.new.places.items (slot_at g.D.Dir.cells c.args.cluster.now _ _ c.args.n.0 _ _ c.cluster.view_is c.requires.running (λ e. (c.cluster.invariant e).0) c.requires.node) b.moves c.node_kinds-before.result c.node_kinds-now.result c.node_kinds-before.ensures c.node_kinds-now.ensures c.args.cluster.now (plans_was c.args.cluster.now _ c.cluster.view_is) ∙ (sym c.has_failed-in-Failed.ensures ∙ c.if-not-has_failed.false);
    }

pub returns-else-not-is_planned_at-clause-rest : goal.returns-else-not-is_planned_at-clause-rest
returns-else-not-is_planned_at-clause-rest g c =
    let b = went_failed (λ v. ReopensIn g.D.Dir.cells c.args.n.0 v c.cluster.inside.places.items c.reopen_in.new.places.items) (StaysDownIn g.D.Dir.cells g.D.Dir.faults c.args.n.0 c.cluster.inside.places.items c.reopen_in.new.places.items) c.in_ok-went.went c.in-Failed.is c.in_ok-went.ensures in
    node_kept g.D.FaultDir.planned g.D.FaultDir.names c.args.cluster.now _ _ _ _ _ _ c.cluster.inside.places.items c.reopen_in.new.places.items (ap (λ (x : Run). x.rest) c.cluster.view_is) refl (c.note_down.ensures.cut ∙ c.in_ok-reserve.ensures.cut) c.args.n.0
    (one_moves c.args.n.0 b.place (record { node = Down b.dir; held = b.place.held }) c.cluster.inside.places.items c.reopen_in.new.places.items b.there b.moves
    (sym (down_sizes g.D.Dir.cells c.cluster.inside.ledger.log c.cluster.inside.ledger.nodes c.args.n.0 c.cluster.inside.places.items (c.cluster.invariant (ap (λ (x : Run). x.ended) c.cluster.view_is ∙ c.requires.running)).0
    (asked_size (λ (k : ℕ). IsNode k c.args.n.0) c.cluster.view_is refl c.requires.node) (asked_of (λ (l : Log). is_running c.args.n.0 (printed l) ≡ false) c.cluster.view_is refl c.requires.down) b.place b.there))) (owns_itself c.args.n.0 c.cluster.inside.carries)

pub returns-else-not-is_planned_at-clause-disks : goal.returns-else-not-is_planned_at-clause-disks
returns-else-not-is_planned_at-clause-disks g c =
    let b = went_failed (λ v. ReopensIn g.D.Dir.cells c.args.n.0 v c.cluster.inside.places.items c.reopen_in.new.places.items) (StaysDownIn g.D.Dir.cells g.D.Dir.faults c.args.n.0 c.cluster.inside.places.items c.reopen_in.new.places.items) c.in_ok-went.went c.in-Failed.is c.in_ok-went.ensures in
    disks_kept g.D.FaultDir.planned g.D.FaultDir.names c.args.cluster.now (record { ended = false; nodes = c.note_down.new.ledger.nodes; log = c.note_down.new.ledger.log; rest = _ }) _ _ _ _ _ c.cluster.inside.places.items c.reopen_in.new.places.items (ap (λ (x : Run). x.rest) c.cluster.view_is) refl (c.note_down.ensures.cut ∙ c.in_ok-reserve.ensures.cut) c.args.n.0 (record { node = Down b.dir; held = b.place.held }) b.moves

pub returns-else-not-is_planned_at-clause-names : goal.returns-else-not-is_planned_at-clause-names
returns-else-not-is_planned_at-clause-names g c =
    let b = went_failed (λ v. ReopensIn g.D.Dir.cells c.args.n.0 v c.cluster.inside.places.items c.reopen_in.new.places.items) (StaysDownIn g.D.Dir.cells g.D.Dir.faults c.args.n.0 c.cluster.inside.places.items c.reopen_in.new.places.items) c.in_ok-went.went c.in-Failed.is c.in_ok-went.ensures in
    names_left g.D.FaultDir.planned g.D.FaultDir.names c.args.cluster.now (record { ended = false; nodes = c.note_down.new.ledger.nodes; log = c.note_down.new.ledger.log; rest = _ }) _ _ _ _ _ c.cluster.inside.places.items c.reopen_in.new.places.items (ap (λ (x : Run). x.rest) c.cluster.view_is) refl (c.note_down.ensures.cut ∙ c.in_ok-reserve.ensures.cut) c.args.n.0 (record { node = Down b.dir; held = b.place.held }) b.moves

pub invariant_of-cluster : goal.invariant_of-cluster
invariant_of-cluster g c = λ ended. absurd (true≢false ended)

pub invariant_of-cluster-in_err-went : goal.invariant_of-cluster-in_err-went
invariant_of-cluster-in_err-went g c = λ ended. absurd (true≢false ended)

pub invariant_of-cluster-then-has_failed : goal.invariant_of-cluster-then-has_failed
invariant_of-cluster-then-has_failed g c = λ ended. absurd (true≢false ended)

pub invariant_of-cluster-then-not-has_failed : goal.invariant_of-cluster-then-not-has_failed
invariant_of-cluster-then-not-has_failed g c = λ ended. absurd (true≢false ended)

pub invariant_of-cluster-then-not-is_planned_at : goal.invariant_of-cluster-then-not-is_planned_at
invariant_of-cluster-then-not-is_planned_at g c = λ ended. absurd (true≢false ended)

pub returns-in_err-reserve-clause-err : goal.returns-in_err-reserve-clause-err
returns-in_err-reserve-clause-err g c = on_any c.from_residual.result (record { ended = refl; nodes = c.reserve.ensures.nodes ∙ ap (λ (x : Run). x.nodes) c.cluster.view_is; log = c.reserve.ensures.log ∙ ap (λ (x : Run). x.log) c.cluster.view_is })

pub returns-in_err-went-clause-err : goal.returns-in_err-went-clause-err
returns-in_err-went-clause-err g c = on_any c.from_residual-in_err-went.result (record { ended = refl; nodes = c.in_ok-reserve.ensures.nodes ∙ ap (λ (x : Run). x.nodes) c.cluster.view_is; log = c.in_ok-reserve.ensures.log ∙ ap (λ (x : Run). x.log) c.cluster.view_is })

pub returns-then-has_failed-clause-err : goal.returns-then-has_failed-clause-err
returns-then-has_failed-clause-err g c = record { ended = refl; nodes = c.in_ok-reserve.ensures.nodes ∙ ap (λ (x : Run). x.nodes) c.cluster.view_is; log = c.in_ok-reserve.ensures.log ∙ ap (λ (x : Run). x.log) c.cluster.view_is }

pub returns-then-not-has_failed-clause-err : goal.returns-then-not-has_failed-clause-err
returns-then-not-has_failed-clause-err g c = record { ended = refl; nodes = c.in_ok-reserve.ensures.nodes ∙ ap (λ (x : Run). x.nodes) c.cluster.view_is; log = c.in_ok-reserve.ensures.log ∙ ap (λ (x : Run). x.log) c.cluster.view_is }

pub returns-then-not-is_planned_at-clause-err : goal.returns-then-not-is_planned_at-clause-err
returns-then-not-is_planned_at-clause-err g c = record { ended = refl; nodes = c.in_ok-reserve.ensures.nodes ∙ ap (λ (x : Run). x.nodes) c.cluster.view_is; log = c.in_ok-reserve.ensures.log ∙ ap (λ (x : Run). x.log) c.cluster.view_is }
