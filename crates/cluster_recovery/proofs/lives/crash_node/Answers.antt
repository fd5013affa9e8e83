use Rattle.std.proofs.Common.{◌≡◌, ◌≤◌, ◌∙◌, ◌∷◌, [], ℕ, true, List, length, map, ap, sym, refl, subst, arith, true≢false, Option, Bool, false, if◌then◌else◌}
use Rattle.disk_model.specs.Disk.{restarted}
use Rattle.disk_model.specs.Faults.{ended}
use Rattle.history_rules.specs.declared.entry.Event.TheVariants.{Crashed}
use Rattle.history_rules.specs.Nodes.{IsNode, is_at, primary_of, is_running}
use Rattle.history_rules.specs.Lines.{entries_of_line}
use Rattle.history_book.specs.Log.{Log, printed, shown}
use Rattle.cluster_state.specs.LifeCalls.{crashed_tasks}
use Rattle.cluster_state.specs.Run.{Run}
use Rattle.cluster_state.specs.Met.{met_in, with_met, ArePlanned}
use Rattle.cluster_state.proofs.Frames.{slot_at, there_at}
use Rattle.cluster_state.proofs.Ledgers.{asked_of, asked_size, vacant_of}
use Rattle.cluster_state.proofs.MergingPaths.{two_parts}
use Rattle.cluster_state.proofs.NodeDirs.{node_dir}
use Rattle.cluster_nodes.specs.Places.{dir_of}
use Rattle.cluster_state.proofs.JobsLeft.{jobs_was}
use Rattle.cluster_state.proofs.MetStands.{behind, run_behind, counted, stands_behind, now_behind, as_many, on_any}
use Rattle.cluster_recovery.proofs.DownFirst.{slot_ended, there_ended, down_first, left_as}
use Rattle.cluster_recovery.proofs.Crashing.{can_end, crash_path}
use Rattle.cluster_recovery.proofs.CrashMerges.{crash_all, crash_dir, crash_jobs, crash_plans, crash_count, crash_tasks}
use Rattle.cluster_recovery.proofs.MetLives.{begun_at, unanswered_at, plans_was, met_unbegun, met_running, met_reign}
use Rattle.cluster_recovery.proofs.KeptCrash.{fallen_vacant, other_sizes, crash_told}
use Rattle.nrt_base.specs.declared.numbers.NodeNo.{NodeNo}
use Rattle.cluster_state.specs.CallsLeft.{calls_in}
use Rattle.cluster_state.specs.Sizes.{sizes_in}
use Rattle.cluster_state.specs.JobsIn.{jobs_in}
use Rattle.cluster_state.specs.MergedCopies.{copies_in}
use Rattle.cluster_state.specs.NamesIn.{names_in}
use Rattle.cluster_state.specs.PlansIn.{plans_in}
use Rattle.cluster_recovery.proofs.lives.crash_node.Goals as goal

pub is_fresh-requires : goal.is_fresh-requires
is_fresh-requires g c = asked_of (λ (l : Log). entries_of_line c.args.at (printed l) ≡ []) c.cluster.view_is c.book-book.ensures.log c.requires.fresh

pub end_all-requires-clause-slot : goal.end_all-requires-clause-slot
end_all-requires-clause-slot g c = slot_at g.D.Dir.cells c.args.cluster.now _ _ c.args.n.0 _ _ c.cluster.view_is c.requires.running (λ e. (c.cluster.invariant e).0) c.requires.node

pub end_all-requires-clause-can : goal.end_all-requires-clause-can
end_all-requires-clause-can g c = can_end g.D.Dir.cells c.args.cluster.now _ c.cluster.inside.ledger _ c.primary-primary.result c.args.n c.cluster.view_is c.requires.running (two_parts c.cluster.invariant) c.primary-primary.ensures.is c.primary-primary.ensures.node c.requires.node

pub crash_in-requires-clause-slot : goal.crash_in-requires-clause-slot
crash_in-requires-clause-slot g c = slot_ended g.D.Dir.cells c.primary-primary.result c.args.n.0 c.cluster.inside.tasks c.end_all.new.tasks c.cluster.inside.places.items c.end_all.new.places.items c.in_ok-end_all.ensures (slot_at g.D.Dir.cells c.args.cluster.now _ _ c.args.n.0 _ _ c.cluster.view_is c.requires.running (λ e. (c.cluster.invariant e).0) c.requires.node)

pub crash_in-requires-clause-there : goal.crash_in-requires-clause-there
crash_in-requires-clause-there g c = there_ended g.D.Dir.cells c.primary-primary.result c.args.n.0 c.cluster.inside.tasks c.end_all.new.tasks c.cluster.inside.places.items c.end_all.new.places.items c.in_ok-end_all.ensures (there_at g.D.Dir.cells c.args.cluster.now _ _ c.args.n.0 _ _ c.cluster.view_is c.requires.running (λ e. (c.cluster.invariant e).0) c.requires.node)

pub are_planned-requires-clause-count : goal.are_planned-requires-clause-count
are_planned-requires-clause-count g c = ap (λ (xs : List (ℕ × ℕ)). length xs) c.as_slice.ensures.value ∙ ((as_many (met_in g.D.FaultDir.planned) c.in_ok-before.before.items c.cluster.inside.places.items c.cluster.inside.places.items c.met_before.new.ledger.nodes c.in_ok-before.ensures.met refl (counted g.D.Dir.cells c.args.cluster.now _ c.cluster.inside.ledger c.met_before.new.ledger c.cluster.inside.places.items c.cluster.inside.tasks c.cluster.view_is c.requires.running c.cluster.invariant c.in_ok-before.ensures.nodes)) ∙ sym c.book.ensures.nodes)

pub are_planned-requires-clause-places : goal.are_planned-requires-clause-places
are_planned-requires-clause-places g c =
    let b = down_first g.D.Dir.cells c.primary-primary.result c.args.n.0 c.cluster.inside.tasks c.end_all.new.tasks c.cluster.inside.places.items c.end_all.new.places.items c.crash_in.new.places.items (slot_at g.D.Dir.cells c.args.cluster.now _ _ c.args.n.0 _ _ c.cluster.view_is c.requires.running (λ e. (c.cluster.invariant e).0) c.requires.node) c.in_ok-end_all.ensures c.in_ok-crash_in.ensures.crashes in
    (crash_count g.D.Dir.cells c.primary-primary.result c.args.n.0 c.cluster.inside.places.items b.mid c.crash_in.new.places.items c.cluster.inside.tasks c.end_all.new.tasks b.crashes b.falls b.stays ∙ (counted g.D.Dir.cells c.args.cluster.now _ c.cluster.inside.ledger c.met_before.new.ledger c.cluster.inside.places.items c.cluster.inside.tasks c.cluster.view_is c.requires.running c.cluster.invariant c.in_ok-before.ensures.nodes)) ∙ sym c.book.ensures.nodes

pub note_crashed-requires-clause-room : goal.note_crashed-requires-clause-room
note_crashed-requires-clause-room g c = let room = c.in_ok-before.ensures.room in let same = ap (λ (xs : List (ℕ × ℕ)). length xs) c.as_slice-2.ensures.value in omega (arith, room, same)

pub note_crashed-requires-clause-count : goal.note_crashed-requires-clause-count
note_crashed-requires-clause-count g c = ap (λ (xs : List (ℕ × ℕ)). length xs) c.as_slice-2.ensures.value ∙ (as_many (met_in g.D.FaultDir.planned) c.in_ok-before.before.items c.cluster.inside.places.items c.cluster.inside.places.items c.met_before.new.ledger.nodes c.in_ok-before.ensures.met refl (counted g.D.Dir.cells c.args.cluster.now _ c.cluster.inside.ledger c.met_before.new.ledger c.cluster.inside.places.items c.cluster.inside.tasks c.cluster.view_is c.requires.running c.cluster.invariant c.in_ok-before.ensures.nodes))

pub note_crashed-requires-clause-places : goal.note_crashed-requires-clause-places
note_crashed-requires-clause-places g c =
    let b = down_first g.D.Dir.cells c.primary-primary.result c.args.n.0 c.cluster.inside.tasks c.end_all.new.tasks c.cluster.inside.places.items c.end_all.new.places.items c.crash_in.new.places.items (slot_at g.D.Dir.cells c.args.cluster.now _ _ c.args.n.0 _ _ c.cluster.view_is c.requires.running (λ e. (c.cluster.invariant e).0) c.requires.node) c.in_ok-end_all.ensures c.in_ok-crash_in.ensures.crashes in
    (crash_count g.D.Dir.cells c.primary-primary.result c.args.n.0 c.cluster.inside.places.items b.mid c.crash_in.new.places.items c.cluster.inside.tasks c.end_all.new.tasks b.crashes b.falls b.stays ∙ (counted g.D.Dir.cells c.args.cluster.now _ c.cluster.inside.ledger c.met_before.new.ledger c.cluster.inside.places.items c.cluster.inside.tasks c.cluster.view_is c.requires.running c.cluster.invariant c.in_ok-before.ensures.nodes))

pub note_crashed-requires-clause-few : goal.note_crashed-requires-clause-few
note_crashed-requires-clause-few g c = subst (λ (xs : List (ℕ × ℕ)). length xs ≤ 255) (c.as_slice.ensures.value ∙ sym c.as_slice-2.ensures.value) (c.if-not-are_planned.ensures.few refl)

pub note_crashed-requires-clause-planned : goal.note_crashed-requires-clause-planned
note_crashed-requires-clause-planned g c = subst (λ (z : List (ℕ × ℕ) × Log). ArePlanned 1 z.0 (map (met_in g.D.FaultDir.planned) c.crash_in.new.places.items) (printed z.1)) (λ i. ((c.as_slice.ensures.value ∙ sym c.as_slice-2.ensures.value) i, c.book.ensures.log i)) (c.if-not-are_planned.ensures.planned refl)

pub note_crashed-requires-clause-unanswered : goal.note_crashed-requires-clause-unanswered
note_crashed-requires-clause-unanswered g c = unanswered_at c.args.at c.in_ok-before.ensures.log c.book-book.ensures.log c.is_fresh.ensures

pub note_crashed-requires-clause-node : goal.note_crashed-requires-clause-node
note_crashed-requires-clause-node g c = asked_size (λ (k : ℕ). IsNode k c.args.n.0) c.cluster.view_is c.in_ok-before.ensures.nodes c.requires.node

pub note_crashed-requires-clause-up : goal.note_crashed-requires-clause-up
note_crashed-requires-clause-up g c = (asked_of (λ (l : Log). is_running c.args.n.0 (printed l) ≡ true) c.cluster.view_is c.in_ok-before.ensures.log c.requires.up)

pub invariant_of-cluster-2 : goal.invariant_of-cluster-2
invariant_of-cluster-2 g c = λ running.
    let b = down_first g.D.Dir.cells c.primary-primary.result c.args.n.0 c.cluster.inside.tasks c.end_all.new.tasks c.cluster.inside.places.items c.end_all.new.places.items c.crash_in.new.places.items (slot_at g.D.Dir.cells c.args.cluster.now _ _ c.args.n.0 _ _ c.cluster.view_is c.requires.running (λ e. (c.cluster.invariant e).0) c.requires.node) c.in_ok-end_all.ensures c.in_ok-crash_in.ensures.crashes in
    let st = (stands_behind g.D.Dir.cells c.args.cluster.now _ c.cluster.inside.ledger c.met_before.new.ledger c.cluster.inside.places.items c.cluster.inside.tasks c.cluster.view_is c.requires.running c.cluster.invariant c.args.at c.as_slice-2.result.now (map (met_in g.D.FaultDir.planned) c.crash_in.new.places.items) c.in_ok-before.ensures.log c.in_ok-before.ensures.nodes c.in_ok-before.ensures.cut) in
    let begun = met_unbegun c.args.at c.as_slice-2.result.now (map (met_in g.D.FaultDir.planned) c.crash_in.new.places.items) c.met_before.new.ledger.log (begun_at c.args.at c.in_ok-before.ensures.log c.book-book.ensures.log c.is_fresh.ensures) in
    let node = asked_size (λ (k : ℕ). IsNode k c.args.n.0) c.cluster.view_is c.in_ok-before.ensures.nodes c.requires.node in
    let up = met_running c.args.at c.as_slice-2.result.now (map (met_in g.D.FaultDir.planned) c.crash_in.new.places.items) c.met_before.new.ledger.log c.args.n.0 (asked_of (λ (l : Log). is_running c.args.n.0 (printed l) ≡ true) c.cluster.view_is c.in_ok-before.ensures.log c.requires.up) in
    let reign = met_reign c.args.at c.as_slice-2.result.now (map (met_in g.D.FaultDir.planned) c.crash_in.new.places.items) c.met_before.new.ledger.log c.primary-primary.result (asked_of (λ (l : Log). c.primary-primary.result ≡ primary_of (printed l)) c.cluster.view_is c.in_ok-before.ensures.log c.primary-primary.ensures.is) in
    let vacant = vacant_of c.book-2.ensures.log c.is_idle.ensures.vacant in
    crash_all g.D.Dir.cells (run_behind c.args.at c.as_slice-2.result.now (map (met_in g.D.FaultDir.planned) c.crash_in.new.places.items) c.met_before.new.ledger c.args.cluster.now) c.args.cluster.now.ended (behind c.args.at c.as_slice-2.result.now (map (met_in g.D.FaultDir.planned) c.crash_in.new.places.items) c.met_before.new.ledger) (behind c.args.at c.as_slice-2.result.now (map (met_in g.D.FaultDir.planned) c.crash_in.new.places.items) c.met_before.new.ledger) c.note_crashed.new.ledger c.cluster.inside.tasks c.end_all.new.tasks c.cluster.inside.places.items b.mid c.crash_in.new.places.items c.args.at c.args.n c.primary-primary.result
    refl c.requires.running (λ e. (st.0, st.1)) st.2 refl refl refl c.note_crashed.ensures.log c.note_crashed.ensures.nodes c.note_crashed.ensures.cut c.note_crashed.ensures.legal c.note_crashed.ensures.turns
    c.files_last.ensures vacant begun node up reign b.crashes
    (crash_path g.D.Dir.cells (run_behind c.args.at c.as_slice-2.result.now (map (met_in g.D.FaultDir.planned) c.crash_in.new.places.items) c.met_before.new.ledger c.args.cluster.now) c.args.cluster.now.ended (behind c.args.at c.as_slice-2.result.now (map (met_in g.D.FaultDir.planned) c.crash_in.new.places.items) c.met_before.new.ledger) (behind c.args.at c.as_slice-2.result.now (map (met_in g.D.FaultDir.planned) c.crash_in.new.places.items) c.met_before.new.ledger) c.note_crashed.new.ledger c.cluster.inside.places.items b.mid c.args.at c.args.n c.primary-primary.result
    refl c.requires.running (λ e. (st.0, st.1)) refl refl c.note_crashed.ensures.log c.note_crashed.ensures.nodes c.note_crashed.ensures.legal c.note_crashed.ensures.turns
    c.files_last.ensures vacant begun node up reign b.crashes)
    b.falls b.stays

pub returns-clause-ok : goal.returns-clause-ok
returns-clause-ok g c =
    now_behind g.D.FaultDir.planned c.cluster.inside.places.items c.crash_in.new.places.items c.args.cluster.now _ c.cluster.inside.ledger c.met_before.new.ledger c.note_crashed.new.ledger c.args.at c.as_slice-2.result.now (map (met_in g.D.FaultDir.planned) c.crash_in.new.places.items) (λ (l : Log). shown c.args.at (Crashed c.args.n) ∷ l) c.cluster.view_is c.in_ok-before.ensures.log c.in_ok-before.ensures.nodes
    c.note_crashed.ensures.log c.note_crashed.ensures.nodes (c.as_slice-2.ensures.value ∙ c.in_ok-before.ensures.met) refl refl refl

pub returns-clause-plans : goal.returns-clause-plans
returns-clause-plans g c =
    let b = down_first g.D.Dir.cells c.primary-primary.result c.args.n.0 c.cluster.inside.tasks c.end_all.new.tasks c.cluster.inside.places.items c.end_all.new.places.items c.crash_in.new.places.items (slot_at g.D.Dir.cells c.args.cluster.now _ _ c.args.n.0 _ _ c.cluster.view_is c.requires.running (λ e. (c.cluster.invariant e).0) c.requires.node) c.in_ok-end_all.ensures c.in_ok-crash_in.ensures.crashes in
    crash_plans g.D.Dir.cells g.D.FaultDir.planned c.args.cluster.now _ _ _ _ c.primary-primary.result c.args.n _ _ (plans_was c.args.cluster.now _ c.cluster.view_is) refl b.crashes (left_as (λ x y. g.D.FaultDir.planned y ≡ ended (g.D.FaultDir.planned x)) c.args.n.0 c.cluster.inside.places.items c.end_all.new.places.items c.crash_in.new.places.items _ b.was b.left c.in_ok-crash_in.ensures.plans) b.falls b.stays

pub returns-clause-dir : goal.returns-clause-dir
returns-clause-dir g c =
    let b = down_first g.D.Dir.cells c.primary-primary.result c.args.n.0 c.cluster.inside.tasks c.end_all.new.tasks c.cluster.inside.places.items c.end_all.new.places.items c.crash_in.new.places.items (slot_at g.D.Dir.cells c.args.cluster.now _ _ c.args.n.0 _ _ c.cluster.view_is c.requires.running (λ e. (c.cluster.invariant e).0) c.requires.node) c.in_ok-end_all.ensures c.in_ok-crash_in.ensures.crashes in
    crash_dir g.D.Dir.cells g.D.FaultDir.names g.D.FaultDir.leaves c.args.cluster.now _ c.cluster.inside.places.items b.mid c.crash_in.new.places.items c.primary-primary.result c.args.n c.args.pick c.cluster.inside.tasks c.end_all.new.tasks
    (λ place there. node_dir g.D.Dir.cells g.D.FaultDir.names c.args.cluster.now _ c.cluster.inside.ledger.nodes c.args.n.0 c.cluster.inside.ledger.log _ c.cluster.inside.places.items place (dir_of place.node) c.cluster.view_is c.requires.running c.cluster.invariant refl there refl)
    (invariant_of-cluster-2 g c refl) refl b.crashes (left_as (λ x y. g.D.Dir.cells y ≡ restarted (g.D.FaultDir.leaves x c.args.pick)) c.args.n.0 c.cluster.inside.places.items c.end_all.new.places.items c.crash_in.new.places.items _ b.was b.left c.in_ok-crash_in.ensures.picked) b.falls b.stays

pub returns-clause-stays : goal.returns-clause-stays
returns-clause-stays g c = λ m apart.
    let b = down_first g.D.Dir.cells c.primary-primary.result c.args.n.0 c.cluster.inside.tasks c.end_all.new.tasks c.cluster.inside.places.items c.end_all.new.places.items c.crash_in.new.places.items (slot_at g.D.Dir.cells c.args.cluster.now _ _ c.args.n.0 _ _ c.cluster.view_is c.requires.running (λ e. (c.cluster.invariant e).0) c.requires.node) c.in_ok-end_all.ensures c.in_ok-crash_in.ensures.crashes in
    crash_jobs g.D.Dir.cells c.args.cluster.now _ _ _ _ c.primary-primary.result c.args.n _ _ (jobs_was c.args.cluster.now _ c.cluster.view_is) refl b.crashes b.falls b.stays m apart

pub returns-clause-tasks : goal.returns-clause-tasks
returns-clause-tasks g c =
    let b = down_first g.D.Dir.cells c.primary-primary.result c.args.n.0 c.cluster.inside.tasks c.end_all.new.tasks c.cluster.inside.places.items c.end_all.new.places.items c.crash_in.new.places.items (slot_at g.D.Dir.cells c.args.cluster.now _ _ c.args.n.0 _ _ c.cluster.view_is c.requires.running (λ e. (c.cluster.invariant e).0) c.requires.node) c.in_ok-end_all.ensures c.in_ok-crash_in.ensures.crashes in
    crash_tasks g.D.Dir.cells c.primary-primary.result c.args.n.0 b.mid c.crash_in.new.places.items c.cluster.inside.tasks c.end_all.new.tasks b.falls b.stays
    ∙ λ i. crashed_tasks (is_at (c.primary-primary.ensures.is i) c.args.n.0) (c.cluster.view_is i).rest.tasks

pub returns-clause-rest : goal.returns-clause-rest
returns-clause-rest g c =
    let b = down_first g.D.Dir.cells c.primary-primary.result c.args.n.0 c.cluster.inside.tasks c.end_all.new.tasks c.cluster.inside.places.items c.end_all.new.places.items c.crash_in.new.places.items (slot_at g.D.Dir.cells c.args.cluster.now _ _ c.args.n.0 _ _ c.cluster.view_is c.requires.running (λ e. (c.cluster.invariant e).0) c.requires.node) c.in_ok-end_all.ensures c.in_ok-crash_in.ensures.crashes in
    let reign = met_reign c.args.at c.as_slice-2.result.now (map (met_in g.D.FaultDir.planned) c.crash_in.new.places.items) c.met_before.new.ledger.log c.primary-primary.result (asked_of (λ (l : Log). c.primary-primary.result ≡ primary_of (printed l)) c.cluster.view_is c.in_ok-before.ensures.log c.primary-primary.ensures.is) in
    crash_told g.D.Dir.cells g.D.FaultDir.planned g.D.FaultDir.names c.args.cluster.now
    (record {
      ended = false;
      nodes = c.note_crashed.new.ledger.nodes;
      log = c.note_crashed.new.ledger.log;
      rest = record { calls_left = calls_in c.note_own.new.carries c.crash_in.new.places.items; cut = c.note_crashed.new.ledger.cut; sizes = sizes_in c.crash_in.new.places.items; jobs = jobs_in c.crash_in.new.places.items; copies = copies_in c.crash_in.new.places.items; tasks = c.end_all.new.tasks; plans = plans_in g.D.FaultDir.planned c.crash_in.new.places.items; names = names_in g.D.FaultDir.names c.crash_in.new.places.items };
    })
    c.cluster.inside.carries c.note_own.new.carries c.cluster.inside.ledger.cut c.note_crashed.new.ledger.cut c.cluster.inside.tasks c.end_all.new.tasks c.cluster.inside.places.items b.mid c.crash_in.new.places.items (ap (λ (x : Run). x.rest) c.cluster.view_is) refl
    c.primary-primary.result c.args.n.0 b.crashes b.falls b.stays c.note_own.ensures.others
    c.primary-primary.ensures.is
    (c.note_crashed.ensures.cut ∙ λ i. if is_at (sym reign i) c.args.n.0 then false else c.in_ok-before.ensures.cut i)
    (λ other. other_sizes g.D.Dir.cells c.cluster.inside.ledger.log c.cluster.inside.ledger.nodes c.args.n.0 c.cluster.inside.places.items (c.cluster.invariant (ap (λ (x : Run). x.ended) c.cluster.view_is ∙ c.requires.running)).0
    (asked_size (λ (k : ℕ). IsNode k c.args.n.0) c.cluster.view_is refl c.requires.node)
    (asked_of (λ (l : Log). is_at (primary_of (printed l)) c.args.n.0 ≡ false) c.cluster.view_is refl (ap (λ (o : Option NodeNo). is_at o c.args.n.0) (sym c.primary-primary.ensures.is) ∙ other)))
    c.note_crashed.new.ledger.log c.note_crashed.new.ledger.nodes (invariant_of-cluster-2 g c refl)
    (fallen_vacant c.primary-primary.result c.args.at c.args.n (with_met false c.args.at 1 c.as_slice-2.result.now (map (met_in g.D.FaultDir.planned) c.crash_in.new.places.items) c.met_before.new.ledger.log) c.note_crashed.new.ledger.log c.note_crashed.ensures.log reign)
    c.note_own.ensures.own

pub note_own-requires : goal.note_own-requires
note_own-requires g c = c.requires.node.0

pub invariant_of-cluster : goal.invariant_of-cluster
invariant_of-cluster g c = λ ended. absurd (true≢false ended)

pub invariant_of-cluster-in_err-end_all : goal.invariant_of-cluster-in_err-end_all
invariant_of-cluster-in_err-end_all g c = λ ended. absurd (true≢false ended)

pub invariant_of-cluster-in_err-crash_in : goal.invariant_of-cluster-in_err-crash_in
invariant_of-cluster-in_err-crash_in g c = λ ended. absurd (true≢false ended)

pub invariant_of-cluster-then-not-are_planned : goal.invariant_of-cluster-then-not-are_planned
invariant_of-cluster-then-not-are_planned g c = λ ended. absurd (true≢false ended)

pub returns-in_err-before-clause-err : goal.returns-in_err-before-clause-err
returns-in_err-before-clause-err g c = on_any c.from_residual.result (record { ended = refl; nodes = c.met_before.ensures.nodes ∙ ap (λ (x : Run). x.nodes) c.cluster.view_is; log = c.met_before.ensures.log ∙ ap (λ (x : Run). x.log) c.cluster.view_is })

pub returns-in_err-end_all-clause-err : goal.returns-in_err-end_all-clause-err
returns-in_err-end_all-clause-err g c = on_any c.from_residual-in_err-end_all.result (record { ended = refl; nodes = c.in_ok-before.ensures.nodes ∙ ap (λ (x : Run). x.nodes) c.cluster.view_is; log = c.in_ok-before.ensures.log ∙ ap (λ (x : Run). x.log) c.cluster.view_is })

pub returns-in_err-crash_in-clause-err : goal.returns-in_err-crash_in-clause-err
returns-in_err-crash_in-clause-err g c = on_any c.from_residual-in_err-crash_in.result (record { ended = refl; nodes = c.in_ok-before.ensures.nodes ∙ ap (λ (x : Run). x.nodes) c.cluster.view_is; log = c.in_ok-before.ensures.log ∙ ap (λ (x : Run). x.log) c.cluster.view_is })

pub returns-then-not-are_planned-clause-err : goal.returns-then-not-are_planned-clause-err
returns-then-not-are_planned-clause-err g c = record { ended = refl; nodes = c.in_ok-before.ensures.nodes ∙ ap (λ (x : Run). x.nodes) c.cluster.view_is; log = c.in_ok-before.ensures.log ∙ ap (λ (x : Run). x.log) c.cluster.view_is }
