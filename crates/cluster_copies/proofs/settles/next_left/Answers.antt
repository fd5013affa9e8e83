use Rattle.std.proofs.Common.{◌≡◌, ◌==◌, ◌∷◌, ◌<◌, ◌≤◌, drop, refl, sym, subst}
use Rattle.std.specs.List.{All, AllPairs}
use Rattle.nrt_base.specs.declared.numbers.NodeNo.{NodeNo}
use Rattle.history_book.specs.Log.{printed}
use Rattle.cluster_copies.proofs.Settling.{first_is, none_is, first_least, waits_at, one_passed, reached_at, crashed_at, none_left}
use Rattle.cluster_copies.proofs.settles.next_left.Goals.{else-node_survives-via-then-node_survives+else-version-task, else-node_survives-via-else-node_survives}
use Rattle.cluster_state.proofs.Ledgers.{legal_of, told_of}
use Rattle.history_rules.specs.Nodes.{crashes, version_of}
use Rattle.history_rules.specs.Lines.{before_start}
use Rattle.cluster_copies.proofs.settles.next_left.Goals as goal

pub returns-then-version-task-clause-first : goal.returns-then-version-task-clause-first
returns-then-version-task-clause-first g c =
    let items = c.loop-n.task.left.items in
    let n = c.in-Some.n.now in
    let is : items ≡ n ∷ drop 1 items = first_is c.deref.result.now items _ n c.deref.ensures.value c.in-Some.ensures.value refl in
    subst (All (λ (m : NodeNo). n.0 ≤ m.0)) (sym is) (first_least n (drop 1 items) (subst (AllPairs (λ (a b : NodeNo). a.0 < b.0)) is c.loop-n.invariant.settling.ascending))

pub returns-then-version-task-clause-waits : goal.returns-then-version-task-clause-waits
returns-then-version-task-clause-waits g c =
    let items = c.loop-n.task.left.items in
    let n = c.in-Some.n.now in
    waits_at c.args.cluster.now _ c.cluster.inside.ledger c.args.at c.loop-n.task n c.node_survives.result c.version.result c.cluster.view_is (legal_of c.book-book.ensures.nodes c.book-book.ensures.log c.is_legal.ensures.legal) c.requires.survives
    (first_is c.deref.result.now items _ n c.deref.ensures.value c.in-Some.ensures.value refl)
    (told_of c.book-book.ensures.log (λ q. crashes n.0 q == crashes n.0 (before_start c.args.at q)) c.node_survives.ensures) c.if-node_survives.true (told_of c.book-book.ensures.log (version_of n.0) c.version.ensures) c.if-version-task.true c.loop-n.invariant.settling

pub loop-n-preserved : goal.loop-n-preserved
loop-n-preserved g c =
    let items = c.loop-n.task.left.items in
    let n = c.in-Some.n.now in
    record {
      settling = one_passed c.args.cluster.now.nodes (printed c.args.cluster.now.log) c.args.at c.loop-n.task (record { version = c.loop-n.task.version; left = c.remove.new.self }) n (drop 1 items)
          (first_is c.deref.result.now items _ n c.deref.ensures.value c.in-Some.ensures.value refl) c.remove.ensures.items refl
          (elim c.else-node_survives.branch [
            | else-node_survives-via-then-node_survives+else-version-task w ↦
                reached_at c.args.cluster.now _ c.cluster.inside.ledger c.args.at c.loop-n.task.version.0 w.version.result n c.cluster.view_is (told_of c.book-book.ensures.log (version_of n.0) w.version.ensures) w.if-version-task.false
            | else-node_survives-via-else-node_survives w ↦
                crashed_at c.args.cluster.now _ c.cluster.inside.ledger c.args.at c.loop-n.task.version.0 n c.node_survives.result c.cluster.view_is (told_of c.book-book.ensures.log (λ q. crashes n.0 q == crashes n.0 (before_start c.args.at q)) c.node_survives.ensures) w.if-node_survives.false
          ])
          c.loop-n.invariant.settling;
      same = c.loop-n.invariant.same;
    }

pub returns-clause-done : goal.returns-clause-done
returns-clause-done g c = λ none whole.
    none_left c.args.cluster.now.nodes (printed c.args.cluster.now.log) c.args.at c.loop-n.task c.requires.survives
    (none_is c.deref.result.now c.loop-n.task.left.items _ c.deref.ensures.value c.in_default.ensures.value refl) whole c.loop-n.invariant.settling
