use Rattle.std.proofs.Common.{◌≡◌, ◌∙◌, Bool, true, false, List, inl, inr, refl, ap, sym, subst}
use Rattle.history_rules.specs.Nodes.{primary_of}
use Rattle.history_book.specs.Jobs.{job_at}
use Rattle.history_book.specs.Log.{Log, printed}
use Rattle.merge_tasks.specs.declared.tasks.OpenMerge.{OpenMerge}
use Rattle.merge_tasks.specs.Board.{Board, open_merge, spread_at, has_copy_task}
use Rattle.cluster_state.specs.Run.{Run, misses_at}
use Rattle.cluster_state.proofs.MergingPaths.{third_at}
use Rattle.cluster_merges.specs.CopyTurns.{IsTurnWhere, TurnsCopy}
use Rattle.cluster_merges.specs.declared.precopies.CopyTurn.{CopyTurn}
use Rattle.cluster_merges.proofs.CopyCalls.{nothing_done}
use Rattle.cluster_merges.specs.TaskCalls.{EndsCopyOnce}
use Rattle.cluster_merges.proofs.Turning.{no_row}
use Rattle.cluster_merges.specs.MergesKept.{KeepsButEnded}
use Rattle.cluster_merges.proofs.tasks.precopy_next.Goals as goal

pub returns-then-not-has_copy_task-clause-ok : goal.returns-then-not-has_copy_task-clause-ok
returns-then-not-has_copy_task-clause-ok g c =
    let tasks : c.state.inside.tasks ≡ c.args.state.now.rest.tasks = ap (λ (r : Run). r.rest.tasks) c.state.view_is in
    let test : has_copy_task c.args.n.0 c.args.job (spread_at (open_merge c.args.seg.0 c.args.state.now.rest.tasks.rows)) ≡ false = ap (λ (b : Board). has_copy_task c.args.n.0 c.args.job (spread_at (open_merge c.args.seg.0 b.rows))) (sym tasks) ∙ sym c.if-not-has_copy_task.ensures in
    subst (λ (t : Bool). EndsCopyOnce c.args.line c.args.seg c.args.by c.args.n c.args.job c.args.state.now c.args.state.now t) (sym test) (nothing_done c.args.state.now c.requires.running)

pub unreachable-requires : goal.unreachable-requires
unreachable-requires g c =
    let log : c.state.inside.ledger.log ≡ c.args.state.now.log = ap (λ (r : Run). r.log) c.state.view_is in
    no_row _ _ _ c.state.inside.tasks _ (third_at c.state.view_is c.requires.running c.state.invariant) (λ (rows : List OpenMerge). has_copy_task c.args.n.0 c.args.job (spread_at (open_merge c.args.seg.0 rows))) refl (ap (λ (l : Log). primary_of (printed l)) log ∙ sym c.primary.ensures.is ∙ c.in_default.is) (sym c.if-not-has_copy_task.ensures)

pub returns-in-Waits-clause-ok : goal.returns-in-Waits-clause-ok
returns-in-Waits-clause-ok g c =
    let tasks : c.state.inside.tasks ≡ c.args.state.now.rest.tasks = ap (λ (r : Run). r.rest.tasks) c.state.view_is in
    let test : has_copy_task c.args.n.0 c.args.job (spread_at (open_merge c.args.seg.0 c.args.state.now.rest.tasks.rows)) ≡ true = ap (λ (b : Board). has_copy_task c.args.n.0 c.args.job (spread_at (open_merge c.args.seg.0 b.rows))) (sym tasks) ∙ sym c.if-not-has_copy_task.ensures in
    let turn = subst (λ (t : CopyTurn). TurnsCopy c.args.line c.args.seg c.args.by c.args.n c.args.job c.args.state.now c.next_merged.new.cluster t) c.in-Waits.is c.in_ok-next_merged.ensures.ok in
    (test, turn.1, turn.0, (subst (λ (t : CopyTurn). IsTurnWhere (misses_at c.args.seg.0 c.args.n.0 c.args.job c.args.state.now) (job_at c.args.n.0 c.args.state.now.log) t) c.in-Waits.is c.in_ok-next_merged.ensures.turn).0)

pub returns-in-Hands-clause-ok : goal.returns-in-Hands-clause-ok
returns-in-Hands-clause-ok g c =
    let tasks : c.state.inside.tasks ≡ c.args.state.now.rest.tasks = ap (λ (r : Run). r.rest.tasks) c.state.view_is in
    let test : has_copy_task c.args.n.0 c.args.job (spread_at (open_merge c.args.seg.0 c.args.state.now.rest.tasks.rows)) ≡ true = ap (λ (b : Board). has_copy_task c.args.n.0 c.args.job (spread_at (open_merge c.args.seg.0 b.rows))) (sym tasks) ∙ sym c.if-not-has_copy_task.ensures in
    let turn = subst (λ (t : CopyTurn). TurnsCopy c.args.line c.args.seg c.args.by c.args.n c.args.job c.args.state.now c.next_merged.new.cluster t) c.in-Hands.is c.in_ok-next_merged.ensures.ok in
    let where_is = subst (λ (t : CopyTurn). IsTurnWhere (misses_at c.args.seg.0 c.args.n.0 c.args.job c.args.state.now) (job_at c.args.n.0 c.args.state.now.log) t) c.in-Hands.is c.in_ok-next_merged.ensures.turn in
    (test, turn, where_is.0, where_is.1)

pub returns-in-Ends-clause-ok : goal.returns-in-Ends-clause-ok
returns-in-Ends-clause-ok g c =
    let tasks : c.state.inside.tasks ≡ c.args.state.now.rest.tasks = ap (λ (r : Run). r.rest.tasks) c.state.view_is in
    let test : has_copy_task c.args.n.0 c.args.job (spread_at (open_merge c.args.seg.0 c.args.state.now.rest.tasks.rows)) ≡ true = ap (λ (b : Board). has_copy_task c.args.n.0 c.args.job (spread_at (open_merge c.args.seg.0 b.rows))) (sym tasks) ∙ sym c.if-not-has_copy_task.ensures in
    let turn = subst (λ (t : CopyTurn). TurnsCopy c.args.line c.args.seg c.args.by c.args.n c.args.job c.args.state.now c.next_merged.new.cluster t) c.in-Ends.is c.in_ok-next_merged.ensures.ok in
    subst (λ (t : Bool). EndsCopyOnce c.args.line c.args.seg c.args.by c.args.n c.args.job c.args.state.now c.next_merged.new.cluster t) (sym test)
    (inl (turn, subst (λ (t : CopyTurn). IsTurnWhere (misses_at c.args.seg.0 c.args.n.0 c.args.job c.args.state.now) (job_at c.args.n.0 c.args.state.now.log) t) c.in-Ends.is c.in_ok-next_merged.ensures.turn))

pub returns-in-Fails-clause-ok : goal.returns-in-Fails-clause-ok
returns-in-Fails-clause-ok g c =
    let tasks : c.state.inside.tasks ≡ c.args.state.now.rest.tasks = ap (λ (r : Run). r.rest.tasks) c.state.view_is in
    let test : has_copy_task c.args.n.0 c.args.job (spread_at (open_merge c.args.seg.0 c.args.state.now.rest.tasks.rows)) ≡ true = ap (λ (b : Board). has_copy_task c.args.n.0 c.args.job (spread_at (open_merge c.args.seg.0 b.rows))) (sym tasks) ∙ sym c.if-not-has_copy_task.ensures in
    subst (λ (t : Bool). EndsCopyOnce c.args.line c.args.seg c.args.by c.args.n c.args.job c.args.state.now c.next_merged.new.cluster t) (sym test)
    (inr (subst (λ (t : CopyTurn). TurnsCopy c.args.line c.args.seg c.args.by c.args.n c.args.job c.args.state.now c.next_merged.new.cluster t) c.in-Fails.is c.in_ok-next_merged.ensures.ok))

pub returns-then-not-has_copy_task-clause-rest : goal.returns-then-not-has_copy_task-clause-rest
returns-then-not-has_copy_task-clause-rest g c = record { rest = refl; copies = λ m apart. refl; own = refl }

pub returns-in-Waits-clause-rest : goal.returns-in-Waits-clause-rest
returns-in-Waits-clause-rest g c = subst (KeepsButEnded c.args.n.0 c.args.job c.args.state.now c.next_merged.new.cluster) c.in-Waits.is c.in_ok-next_merged.ensures.rest

pub returns-in-Hands-clause-rest : goal.returns-in-Hands-clause-rest
returns-in-Hands-clause-rest g c = subst (KeepsButEnded c.args.n.0 c.args.job c.args.state.now c.next_merged.new.cluster) c.in-Hands.is c.in_ok-next_merged.ensures.rest

pub returns-in-Ends-clause-rest : goal.returns-in-Ends-clause-rest
returns-in-Ends-clause-rest g c = subst (KeepsButEnded c.args.n.0 c.args.job c.args.state.now c.next_merged.new.cluster) c.in-Ends.is c.in_ok-next_merged.ensures.rest

pub returns-in-Fails-clause-rest : goal.returns-in-Fails-clause-rest
returns-in-Fails-clause-rest g c = subst (KeepsButEnded c.args.n.0 c.args.job c.args.state.now c.next_merged.new.cluster) c.in-Fails.is c.in_ok-next_merged.ensures.rest
