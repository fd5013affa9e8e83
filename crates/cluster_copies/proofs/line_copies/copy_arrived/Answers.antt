use Rattle.std.proofs.Common.{ℕ, ◌≡◌, ◌≢◌, ◌<◌, None, Some, false, true≢false, map, arith, refl, ap, ◌∙◌, subst, sym}
use Rattle.std.specs.Prelude.{Result}
use Rattle.copy_job.specs.declared.copying.Part.{Part}
use Rattle.copy_job.specs.declared.fault.JobFault.{JobFault}
use Rattle.history_rules.specs.Lines.{highest_switched}
use Rattle.history_tables.specs.Begins.{open_line}
use Rattle.history_book.specs.Log.{Log, printed}
use Rattle.merge_tasks.specs.Merging.{Sheet}
use Rattle.cluster_nodes.specs.declared.went.Went.{Went}
use Rattle.cluster_nodes.specs.Went.{ByWent}
use Rattle.cluster_nodes.specs.JobPlaces.{StopsIn, TakesIn}
use Rattle.cluster_state.specs.DueFaults.{MeetsFate, ArrivesBy}
use Rattle.cluster_state.specs.Copies.{JobRuns}
use Rattle.cluster_state.specs.FilesOut.{file_out}
use Rattle.cluster_state.specs.Files.{FilesShow}
use Rattle.cluster_state.specs.Met.{met_in, ArePlanned}
use Rattle.cluster_state.specs.Run.{Run}
use Rattle.cluster_state.specs.State.{Shows}
use Rattle.cluster_state.specs.declared.turn.Turn.TheVariants.{Work, Done}
use Rattle.cluster_state.proofs.KeptOthers.{but_files}
use Rattle.cluster_state.proofs.MergingPaths.{two_parts, three_parts}
use Rattle.cluster_state.proofs.MergingStill.{stand_same}
use Rattle.cluster_state.proofs.MetStands.{on_any, behind, run_behind, now_behind}
use Rattle.cluster_copies.proofs.Calls.{call_of, job_call, JobCall, going_at, going1, log_has, ledger_room, can_tell, met_stands, runs_met, lane_met, out_met, node_rule, refused_turn}
use Rattle.cluster_copies.proofs.CopyRows.{runs_takes, runs_arrives, part_out, part_meta, part_taken, part_fails}
use Rattle.cluster_copies.proofs.Ending.{can_stop}
use Rattle.cluster_copies.proofs.JobWays.{refused_stand, refused_by_node}
use Rattle.cluster_copies.proofs.KeptJobs.{taken_tells, taken_copies, stopped_kept, none_moved, came_after}
use Rattle.cluster_copies.proofs.PartPaths.{can_take, part_path, brings_file, took_stand}
use Rattle.cluster_copies.proofs.line_copies.copy_arrived.Goals as goal

-- ---- what kept it back

pub refuse_part-requires-clause-met : goal.refuse_part-requires-clause-met
refuse_part-requires-clause-met g c = subst (λ (x : Run). MeetsFate c.args.file.now.fate c.args.row.job.at c.args.row.job.node.0 (printed x.log)) (sym (c.in_ok-is_stopped.ensures.same c.if-branch.false)) c.requires.met

pub refuse_part-requires-clause-arrives : goal.refuse_part-requires-clause-arrives
refuse_part-requires-clause-arrives g c = subst (λ (r : Result Part JobFault). ArrivesBy c.args.file.now r) c.in-Err.is c.requires.arrives

-- ---- a part

pub source_of-p-requires-clause-running : goal.source_of-p-requires-clause-running
source_of-p-requires-clause-running g c = (c.in_ok-is_stopped.ensures.runs c.if-branch.false).now.running

pub source_of-p-requires-clause-runs : goal.source_of-p-requires-clause-runs
source_of-p-requires-clause-runs g c = subst (λ (x : Run). JobRuns x.log c.args.row) (sym (c.in_ok-is_stopped.ensures.same c.if-branch.false)) (c.in_ok-is_stopped.ensures.runs c.if-branch.false).runs

pub source_of-p-requires-clause-line : goal.source_of-p-requires-clause-line
source_of-p-requires-clause-line g c = subst (λ (x : Run). open_line c.args.row.job.at (printed x.log) ≢ None) (sym (c.in_ok-is_stopped.ensures.same c.if-branch.false)) c.requires.copies.is_open

pub source_of-p-requires-clause-ordered : goal.source_of-p-requires-clause-ordered
source_of-p-requires-clause-ordered g c = subst (λ (x : Run). highest_switched c.args.row.job.at (printed x.log) < c.args.row.job.node.0) (sym (c.in_ok-is_stopped.ensures.same c.if-branch.false)) c.requires.copies.ordered

pub take_in-requires-clause-can : goal.take_in-requires-clause-can
take_in-requires-clause-can g c =
    can_take g.D.Dir.cells c.is_stopped.new.state _ c.state.inside.ledger.nodes c.state.inside.ledger.log _ c.args.row c.in-Ok.part c.state.view_is (c.in_ok-is_stopped.ensures.runs c.if-branch.false).now.running (two_parts c.state.invariant) c.source_of-p.ensures.runs (going_at c.state.view_is refl refl c.source_of-p.ensures).lane (going_at c.state.view_is refl refl c.source_of-p.ensures).replica
    (part_out c.args.row c.args.state.now c.is_stopped.new.state c.args.file.now c.in-Ok.part (c.in_ok-is_stopped.ensures.same c.if-branch.false) (subst (λ (r : Result Part JobFault). ArrivesBy c.args.file.now r) c.in-Ok.is c.requires.arrives) c.requires.out) (part_meta c.args.file.now c.in-Ok.part (subst (λ (r : Result Part JobFault). ArrivesBy c.args.file.now r) c.in-Ok.is c.requires.arrives) c.requires.meta)

pub take_in-requires-clause-stop : goal.take_in-requires-clause-stop
take_in-requires-clause-stop g c =
    can_stop g.D.Dir.cells c.is_stopped.new.state _ c.state.inside.ledger.nodes c.state.inside.ledger.log _ c.source_of-p.result c.args.row c.state.view_is (c.in_ok-is_stopped.ensures.runs c.if-branch.false).now.running (two_parts c.state.invariant) c.source_of-p.ensures.source c.source_of-p.ensures.primary c.source_of-p.ensures.runs (going_at c.state.view_is refl refl c.source_of-p.ensures).lane (going_at c.state.view_is refl refl c.source_of-p.ensures).replica

pub take_in-requires-clause-meta : goal.take_in-requires-clause-meta
take_in-requires-clause-meta g c = (part_meta c.args.file.now c.in-Ok.part (subst (λ (r : Result Part JobFault). ArrivesBy c.args.file.now r) c.in-Ok.is c.requires.arrives) c.requires.meta)

pub must_be_planned-requires-clause-count : goal.must_be_planned-requires-clause-count
must_be_planned-requires-clause-count g c =
    (ledger_room g.D.Dir.cells g.D.FaultDir.planned c.is_stopped.new.state c.state.inside.ledger c.met_before.new.ledger c.state.inside.places.items c.state.inside.tasks 2 c.state.view_is (c.in_ok-is_stopped.ensures.runs c.if-branch.false).now.running c.state.invariant c.in_ok-before.ensures.nodes c.as_slice-met.ensures.value c.in_ok-before.ensures.met c.in_ok-before.ensures.room c.in_ok-before.ensures.few).count ∙ sym c.book.ensures.nodes

pub must_be_planned-requires-clause-places : goal.must_be_planned-requires-clause-places
must_be_planned-requires-clause-places g c =
    c.in_ok-taken.ensures.count ∙ ((ledger_room g.D.Dir.cells g.D.FaultDir.planned c.is_stopped.new.state c.state.inside.ledger c.met_before.new.ledger c.state.inside.places.items c.state.inside.tasks 2 c.state.view_is (c.in_ok-is_stopped.ensures.runs c.if-branch.false).now.running c.state.invariant c.in_ok-before.ensures.nodes c.as_slice-met.ensures.value c.in_ok-before.ensures.met c.in_ok-before.ensures.room c.in_ok-before.ensures.few).nodes ∙ sym c.book.ensures.nodes)

-- ---- it was taken

pub show_met-requires-clause-room : goal.show_met-requires-clause-room
show_met-requires-clause-room g c =
    let room = (ledger_room g.D.Dir.cells g.D.FaultDir.planned c.is_stopped.new.state c.state.inside.ledger c.met_before.new.ledger c.state.inside.places.items c.state.inside.tasks 2 c.state.view_is (c.in_ok-is_stopped.ensures.runs c.if-branch.false).now.running c.state.invariant c.in_ok-before.ensures.nodes c.as_slice-met.ensures.value c.in_ok-before.ensures.met c.in_ok-before.ensures.room c.in_ok-before.ensures.few).room in
    omega (arith, room)

pub show_met-requires-clause-count : goal.show_met-requires-clause-count
show_met-requires-clause-count g c =
    (ledger_room g.D.Dir.cells g.D.FaultDir.planned c.is_stopped.new.state c.state.inside.ledger c.met_before.new.ledger c.state.inside.places.items c.state.inside.tasks 2 c.state.view_is (c.in_ok-is_stopped.ensures.runs c.if-branch.false).now.running c.state.invariant c.in_ok-before.ensures.nodes c.as_slice-met.ensures.value c.in_ok-before.ensures.met c.in_ok-before.ensures.room c.in_ok-before.ensures.few).count

pub show_met-requires-clause-places : goal.show_met-requires-clause-places
show_met-requires-clause-places g c =
    c.in_ok-taken.ensures.count ∙ (ledger_room g.D.Dir.cells g.D.FaultDir.planned c.is_stopped.new.state c.state.inside.ledger c.met_before.new.ledger c.state.inside.places.items c.state.inside.tasks 2 c.state.view_is (c.in_ok-is_stopped.ensures.runs c.if-branch.false).now.running c.state.invariant c.in_ok-before.ensures.nodes c.as_slice-met.ensures.value c.in_ok-before.ensures.met c.in_ok-before.ensures.room c.in_ok-before.ensures.few).nodes

pub show_met-requires-clause-few : goal.show_met-requires-clause-few
show_met-requires-clause-few g c =
    (ledger_room g.D.Dir.cells g.D.FaultDir.planned c.is_stopped.new.state c.state.inside.ledger c.met_before.new.ledger c.state.inside.places.items c.state.inside.tasks 2 c.state.view_is (c.in_ok-is_stopped.ensures.runs c.if-branch.false).now.running c.state.invariant c.in_ok-before.ensures.nodes c.as_slice-met.ensures.value c.in_ok-before.ensures.met c.in_ok-before.ensures.room c.in_ok-before.ensures.few).few

pub show_met-requires-clause-planned : goal.show_met-requires-clause-planned
show_met-requires-clause-planned g c =
    subst (λ (l : Log). ArePlanned 1 c.as_slice-met.result.now (map (met_in g.D.FaultDir.planned) c.take_in.new.places.items) (printed l)) c.book.ensures.log c.in_ok-must_be_planned.ensures

pub show_met-requires-clause-unanswered : goal.show_met-requires-clause-unanswered
show_met-requires-clause-unanswered g c = (going_at c.state.view_is c.in_ok-before.ensures.nodes c.in_ok-before.ensures.log c.source_of-p.ensures).unanswered

pub invariant_of-state-in-Done : goal.invariant_of-state-in-Done
invariant_of-state-in-Done g c =
    let k : JobCall g.D.Dir.cells c.is_stopped.new.state c.state.inside.ledger c.met_before.new.ledger c.state.inside.places.items c.state.inside.tasks c.args.row c.source_of-p.result = job_call (call_of c.state.view_is (c.in_ok-is_stopped.ensures.runs c.if-branch.false).now.running c.state.invariant c.in_ok-before.ensures.log c.in_ok-before.ensures.nodes c.in_ok-before.ensures.cut) c.source_of-p.ensures in
    let w = going1 k in
    let olds = c.as_slice-met.result.now in
    let news = map (met_in g.D.FaultDir.planned) c.take_in.new.places.items in
    let mid = behind c.args.row.job.at olds news c.met_before.new.ledger in
    let run = run_behind c.args.row.job.at olds news c.met_before.new.ledger c.is_stopped.new.state in
    let st = met_stands k.call c.args.row.job.at olds news in
    let b = subst (λ (x : Went Unit). ByWent (λ done. TakesIn g.D.Dir.cells c.args.row.job.node.0 c.in-Ok.part c.state.inside.places.items c.take_in.new.places.items) (StopsIn g.D.Dir.cells (Some c.in-Ok.part) c.source_of-p.result.0 c.args.row.job.node.0 c.state.inside.places.items c.take_in.new.places.items) x) c.in-Done.is c.in_ok-taken.ensures.went in
    let out = out_met w olds news (Some c.in-Ok.part) (log_has k.call (λ (l : Log). file_out c.args.row.job.at c.args.row.job.node.0 c.args.row.job.number c.in-Ok.part.name l ≡ Some c.in-Ok.part.bytes) (part_out c.args.row c.args.state.now c.is_stopped.new.state c.args.file.now c.in-Ok.part (c.in_ok-is_stopped.ensures.same c.if-branch.false) (subst (λ (r : Result Part JobFault). ArrivesBy c.args.file.now r) c.in-Ok.is c.requires.arrives) c.requires.out)) in
    λ running. three_parts
    (subst (λ (x : Log × ℕ). Shows g.D.Dir.cells x.0 x.1 c.take_in.new.places.items × FilesShow g.D.Dir.cells x.0 x.1 c.take_in.new.places.items) (λ i. (sym c.show_met.ensures.log i, sym c.show_met.ensures.nodes i))
    (part_path g.D.Dir.cells run c.is_stopped.new.state.ended c.met_before.new.ledger.nodes mid.log c.state.inside.places.items c.take_in.new.places.items c.args.row c.in-Ok.part refl (c.in_ok-is_stopped.ensures.runs c.if-branch.false).now.running (λ e. (st.0, st.1)) c.files_last.ensures (runs_met w olds news) (lane_met w olds news) out b))
    (stand_same c.state.inside.tasks c.state.inside.places.items c.take_in.new.places.items mid c.show_met.new.ledger c.show_met.ensures.log c.show_met.ensures.nodes c.show_met.ensures.cut
    (took_stand g.D.Dir.cells c.state.inside.tasks run c.is_stopped.new.state.ended mid c.state.inside.places.items c.take_in.new.places.items c.args.row c.in-Ok.part refl (c.in_ok-is_stopped.ensures.runs c.if-branch.false).now.running (λ e. (st.0, st.1)) (runs_met w olds news) (lane_met w olds news) b st.2) st.2)

pub returns-in-Done-clause-ok : goal.returns-in-Done-clause-ok
returns-in-Done-clause-ok g c = λ begun is.
    let now = now_behind g.D.FaultDir.planned c.state.inside.places.items c.take_in.new.places.items c.is_stopped.new.state _ c.state.inside.ledger c.met_before.new.ledger c.show_met.new.ledger c.args.row.job.at c.as_slice-met.result.now (map (met_in g.D.FaultDir.planned) c.take_in.new.places.items)
    (λ l. l) c.state.view_is c.in_ok-before.ensures.log c.in_ok-before.ensures.nodes c.show_met.ensures.log c.show_met.ensures.nodes (c.as_slice-met.ensures.value ∙ c.in_ok-before.ensures.met) refl refl refl in
    let brings = brings_file g.D.Dir.cells c.is_stopped.new.state (record { ended = false; nodes = c.show_met.new.ledger.nodes; log = c.show_met.new.ledger.log; rest = _ }) _ c.state.inside.ledger.nodes c.state.inside.ledger.log c.state.inside.places.items c.take_in.new.places.items c.args.row c.in-Ok.part c.state.view_is (c.in_ok-is_stopped.ensures.runs c.if-branch.false).now.running (two_parts c.state.invariant) refl refl c.source_of-p.ensures.runs (going_at c.state.view_is refl refl c.source_of-p.ensures).lane
    (subst (λ (x : Went Unit). ByWent (λ done. TakesIn g.D.Dir.cells c.args.row.job.node.0 c.in-Ok.part c.state.inside.places.items c.take_in.new.places.items) (StopsIn g.D.Dir.cells (Some c.in-Ok.part) c.source_of-p.result.0 c.args.row.job.node.0 c.state.inside.places.items c.take_in.new.places.items) x) c.in-Done.is c.in_ok-taken.ensures.went) in
    runs_arrives c.args.row c.args.state.now c.is_stopped.new.state (record { ended = false; nodes = c.show_met.new.ledger.nodes; log = c.show_met.new.ledger.log; rest = _ }) (c.in_ok-is_stopped.ensures.same c.if-branch.false) c.args.file.now _ c.in_ok-is_stopped.field-0 (Work _) c.if-branch.false (c.in_ok-is_stopped.ensures.ok begun is)
    (part_taken c.args.row c.is_stopped.new.state (record { ended = false; nodes = c.show_met.new.ledger.nodes; log = c.show_met.new.ledger.log; rest = _ }) c.args.file.now c.in-Ok.part (subst (λ (r : Result Part JobFault). ArrivesBy c.args.file.now r) c.in-Ok.is c.requires.arrives) now brings)

pub returns-in-Done-clause-goes : goal.returns-in-Done-clause-goes
returns-in-Done-clause-goes g c = λ runs.
    let now = now_behind g.D.FaultDir.planned c.state.inside.places.items c.take_in.new.places.items c.is_stopped.new.state _ c.state.inside.ledger c.met_before.new.ledger c.show_met.new.ledger c.args.row.job.at c.as_slice-met.result.now (map (met_in g.D.FaultDir.planned) c.take_in.new.places.items)
    (λ l. l) c.state.view_is c.in_ok-before.ensures.log c.in_ok-before.ensures.nodes c.show_met.ensures.log c.show_met.ensures.nodes (c.as_slice-met.ensures.value ∙ c.in_ok-before.ensures.met) refl refl refl in
    let brings = brings_file g.D.Dir.cells c.is_stopped.new.state (record { ended = false; nodes = c.show_met.new.ledger.nodes; log = c.show_met.new.ledger.log; rest = _ }) _ c.state.inside.ledger.nodes c.state.inside.ledger.log c.state.inside.places.items c.take_in.new.places.items c.args.row c.in-Ok.part c.state.view_is (c.in_ok-is_stopped.ensures.runs c.if-branch.false).now.running (two_parts c.state.invariant) refl refl c.source_of-p.ensures.runs (going_at c.state.view_is refl refl c.source_of-p.ensures).lane
    (subst (λ (x : Went Unit). ByWent (λ done. TakesIn g.D.Dir.cells c.args.row.job.node.0 c.in-Ok.part c.state.inside.places.items c.take_in.new.places.items) (StopsIn g.D.Dir.cells (Some c.in-Ok.part) c.source_of-p.result.0 c.args.row.job.node.0 c.state.inside.places.items c.take_in.new.places.items) x) c.in-Done.is c.in_ok-taken.ensures.went) in
    runs_takes c.args.row c.args.state.now c.is_stopped.new.state (record { ended = false; nodes = c.show_met.new.ledger.nodes; log = c.show_met.new.ledger.log; rest = _ }) (c.in_ok-is_stopped.ensures.same c.if-branch.false) c.args.file.now (Work _)
    (part_taken c.args.row c.is_stopped.new.state (record { ended = false; nodes = c.show_met.new.ledger.nodes; log = c.show_met.new.ledger.log; rest = _ }) c.args.file.now c.in-Ok.part (subst (λ (r : Result Part JobFault). ArrivesBy c.args.file.now r) c.in-Ok.is c.requires.arrives) now brings)

pub returns-in-Done-clause-rest : goal.returns-in-Done-clause-rest
returns-in-Done-clause-rest g c =
    let b = subst (λ (x : Went Unit). ByWent (λ done. TakesIn g.D.Dir.cells c.args.row.job.node.0 c.in-Ok.part c.state.inside.places.items c.take_in.new.places.items) (StopsIn g.D.Dir.cells (Some c.in-Ok.part) c.source_of-p.result.0 c.args.row.job.node.0 c.state.inside.places.items c.take_in.new.places.items) x) c.in-Done.is c.in_ok-taken.ensures.went in
    came_after c.args.row.job.node.0 c.args.state.now c.is_stopped.new.state (record { ended = false; nodes = c.show_met.new.ledger.nodes; log = c.show_met.new.ledger.log; rest = _ }) (c.in_ok-is_stopped.ensures.same c.if-branch.false)
    (but_files c.is_stopped.new.state _ _ _ _ _ _ _ c.state.inside.places.items c.take_in.new.places.items (ap (λ (x : Run). x.rest) c.state.view_is) refl (c.show_met.ensures.cut ∙ c.in_ok-before.ensures.cut) c.args.row.job.node.0
    (taken_tells g.D.Dir.cells c.args.row.job.node.0 c.in-Ok.part c.state.inside.places.items c.take_in.new.places.items b) (taken_copies g.D.Dir.cells c.args.row.job.node.0 c.in-Ok.part c.state.inside.places.items c.take_in.new.places.items b))

-- ---- the disk failed

pub note_disk_failed-requires-clause-tells : goal.note_disk_failed-requires-clause-tells
note_disk_failed-requires-clause-tells g c =
    can_tell g.D.FaultDir.planned 2 c.take_in.new.places.items (ledger_room g.D.Dir.cells g.D.FaultDir.planned c.is_stopped.new.state c.state.inside.ledger c.met_before.new.ledger c.state.inside.places.items c.state.inside.tasks 2 c.state.view_is (c.in_ok-is_stopped.ensures.runs c.if-branch.false).now.running c.state.invariant c.in_ok-before.ensures.nodes c.as_slice-met.ensures.value c.in_ok-before.ensures.met c.in_ok-before.ensures.room c.in_ok-before.ensures.few) (omega arith) c.in_ok-taken.ensures.count
    (subst (λ (l : Log). ArePlanned 1 c.as_slice-met.result.now (map (met_in g.D.FaultDir.planned) c.take_in.new.places.items) (printed l)) c.book.ensures.log c.in_ok-must_be_planned.ensures)
    (going_at c.state.view_is c.in_ok-before.ensures.nodes c.in_ok-before.ensures.log c.source_of-p.ensures).unanswered

pub note_disk_failed-requires-clause-rule : goal.note_disk_failed-requires-clause-rule
note_disk_failed-requires-clause-rule g c = node_rule (going_at c.state.view_is c.in_ok-before.ensures.nodes c.in_ok-before.ensures.log c.source_of-p.ensures) c.as_slice-met.result.now (map (met_in g.D.FaultDir.planned) c.take_in.new.places.items)

pub note_disk_failed-requires-clause-turn : goal.note_disk_failed-requires-clause-turn
note_disk_failed-requires-clause-turn g c = refused_turn (going_at c.state.view_is c.in_ok-before.ensures.nodes c.in_ok-before.ensures.log c.source_of-p.ensures) c.as_slice-met.result.now (map (met_in g.D.FaultDir.planned) c.take_in.new.places.items)

pub invariant_of-state-in-Failed : goal.invariant_of-state-in-Failed
invariant_of-state-in-Failed g c =
    let k : JobCall g.D.Dir.cells c.is_stopped.new.state c.state.inside.ledger c.met_before.new.ledger c.state.inside.places.items c.state.inside.tasks c.args.row c.source_of-p.result = job_call (call_of c.state.view_is (c.in_ok-is_stopped.ensures.runs c.if-branch.false).now.running c.state.invariant c.in_ok-before.ensures.log c.in_ok-before.ensures.nodes c.in_ok-before.ensures.cut) c.source_of-p.ensures in
    let olds = c.as_slice-met.result.now in
    let stops = subst (λ (x : Went Unit). ByWent (λ done. TakesIn g.D.Dir.cells c.args.row.job.node.0 c.in-Ok.part c.state.inside.places.items c.take_in.new.places.items) (StopsIn g.D.Dir.cells (Some c.in-Ok.part) c.source_of-p.result.0 c.args.row.job.node.0 c.state.inside.places.items c.take_in.new.places.items) x) c.in-Failed.is c.in_ok-taken.ensures.went in
    λ running. refused_stand k g.D.FaultDir.planned olds c.take_in.new.places.items c.note_disk_failed.new.ledger (Some c.in-Ok.part) c.args.row.job.node c.in_ok-note_disk_failed-in-Failed.ensures.ok stops c.in_ok-note_disk_failed-in-Failed.ensures.nodes c.in_ok-note_disk_failed-in-Failed.ensures.cut c.files_last.ensures (node_rule (going1 k) olds (map (met_in g.D.FaultDir.planned) c.take_in.new.places.items))
    (log_has k.call (λ (l : Log). file_out c.args.row.job.at c.args.row.job.node.0 c.args.row.job.number c.in-Ok.part.name l ≡ Some c.in-Ok.part.bytes) (part_out c.args.row c.args.state.now c.is_stopped.new.state c.args.file.now c.in-Ok.part (c.in_ok-is_stopped.ensures.same c.if-branch.false) (subst (λ (r : Result Part JobFault). ArrivesBy c.args.file.now r) c.in-Ok.is c.requires.arrives) c.requires.out))

pub returns-clause-ok : goal.returns-clause-ok
returns-clause-ok g c = λ begun is.
    let k : JobCall g.D.Dir.cells c.is_stopped.new.state c.state.inside.ledger c.met_before.new.ledger c.state.inside.places.items c.state.inside.tasks c.args.row c.source_of-p.result = job_call (call_of c.state.view_is (c.in_ok-is_stopped.ensures.runs c.if-branch.false).now.running c.state.invariant c.in_ok-before.ensures.log c.in_ok-before.ensures.nodes c.in_ok-before.ensures.cut) c.source_of-p.ensures in
    let olds = c.as_slice-met.result.now in
    let stops = subst (λ (x : Went Unit). ByWent (λ done. TakesIn g.D.Dir.cells c.args.row.job.node.0 c.in-Ok.part c.state.inside.places.items c.take_in.new.places.items) (StopsIn g.D.Dir.cells (Some c.in-Ok.part) c.source_of-p.result.0 c.args.row.job.node.0 c.state.inside.places.items c.take_in.new.places.items) x) c.in-Failed.is c.in_ok-taken.ensures.went in
    let refused = refused_by_node k g.D.FaultDir.planned olds c.take_in.new.places.items c.note_disk_failed.new.ledger (Some c.in-Ok.part) c.args.row.job.node c.in_ok-note_disk_failed-in-Failed.ensures.ok stops c.in_ok-note_disk_failed-in-Failed.ensures.nodes _ (c.as_slice-met.ensures.value ∙ c.in_ok-before.ensures.met)
    (sym (ap (λ (x : Run). x.rest.plans) c.state.view_is)) refl (sym (ap (λ (x : Run). x.rest.jobs) c.state.view_is)) refl refl in
    runs_arrives c.args.row c.args.state.now c.is_stopped.new.state (record { ended = false; nodes = c.note_disk_failed.new.ledger.nodes; log = c.note_disk_failed.new.ledger.log; rest = _ }) (c.in_ok-is_stopped.ensures.same c.if-branch.false) c.args.file.now _ c.in_ok-is_stopped.field-0 Done c.if-branch.false (c.in_ok-is_stopped.ensures.ok begun is)
    (part_fails c.args.row c.is_stopped.new.state (record { ended = false; nodes = c.note_disk_failed.new.ledger.nodes; log = c.note_disk_failed.new.ledger.log; rest = _ }) c.args.file.now c.in-Ok.part (subst (λ (r : Result Part JobFault). ArrivesBy c.args.file.now r) c.in-Ok.is c.requires.arrives) refused)

pub returns-clause-goes : goal.returns-clause-goes
returns-clause-goes g c = λ runs.
    let k : JobCall g.D.Dir.cells c.is_stopped.new.state c.state.inside.ledger c.met_before.new.ledger c.state.inside.places.items c.state.inside.tasks c.args.row c.source_of-p.result = job_call (call_of c.state.view_is (c.in_ok-is_stopped.ensures.runs c.if-branch.false).now.running c.state.invariant c.in_ok-before.ensures.log c.in_ok-before.ensures.nodes c.in_ok-before.ensures.cut) c.source_of-p.ensures in
    let olds = c.as_slice-met.result.now in
    let stops = subst (λ (x : Went Unit). ByWent (λ done. TakesIn g.D.Dir.cells c.args.row.job.node.0 c.in-Ok.part c.state.inside.places.items c.take_in.new.places.items) (StopsIn g.D.Dir.cells (Some c.in-Ok.part) c.source_of-p.result.0 c.args.row.job.node.0 c.state.inside.places.items c.take_in.new.places.items) x) c.in-Failed.is c.in_ok-taken.ensures.went in
    let refused = refused_by_node k g.D.FaultDir.planned olds c.take_in.new.places.items c.note_disk_failed.new.ledger (Some c.in-Ok.part) c.args.row.job.node c.in_ok-note_disk_failed-in-Failed.ensures.ok stops c.in_ok-note_disk_failed-in-Failed.ensures.nodes _ (c.as_slice-met.ensures.value ∙ c.in_ok-before.ensures.met)
    (sym (ap (λ (x : Run). x.rest.plans) c.state.view_is)) refl (sym (ap (λ (x : Run). x.rest.jobs) c.state.view_is)) refl refl in
    runs_takes c.args.row c.args.state.now c.is_stopped.new.state (record { ended = false; nodes = c.note_disk_failed.new.ledger.nodes; log = c.note_disk_failed.new.ledger.log; rest = _ }) (c.in_ok-is_stopped.ensures.same c.if-branch.false) c.args.file.now Done (part_fails c.args.row c.is_stopped.new.state (record { ended = false; nodes = c.note_disk_failed.new.ledger.nodes; log = c.note_disk_failed.new.ledger.log; rest = _ }) c.args.file.now c.in-Ok.part (subst (λ (r : Result Part JobFault). ArrivesBy c.args.file.now r) c.in-Ok.is c.requires.arrives) refused)

pub returns-clause-rest : goal.returns-clause-rest
returns-clause-rest g c =
    let k : JobCall g.D.Dir.cells c.is_stopped.new.state c.state.inside.ledger c.met_before.new.ledger c.state.inside.places.items c.state.inside.tasks c.args.row c.source_of-p.result = job_call (call_of c.state.view_is (c.in_ok-is_stopped.ensures.runs c.if-branch.false).now.running c.state.invariant c.in_ok-before.ensures.log c.in_ok-before.ensures.nodes c.in_ok-before.ensures.cut) c.source_of-p.ensures in
    came_after c.args.row.job.node.0 c.args.state.now c.is_stopped.new.state (record { ended = false; nodes = c.note_disk_failed.new.ledger.nodes; log = c.note_disk_failed.new.ledger.log; rest = _ }) (c.in_ok-is_stopped.ensures.same c.if-branch.false) (none_moved c.args.row.job.node.0 c.is_stopped.new.state (record { ended = false; nodes = c.note_disk_failed.new.ledger.nodes; log = c.note_disk_failed.new.ledger.log; rest = _ })
    (stopped_kept k (record { ended = false; nodes = c.note_disk_failed.new.ledger.nodes; log = c.note_disk_failed.new.ledger.log; rest = _ }) _ _ _ _ _ c.take_in.new.places.items (ap (λ (x : Run). x.rest) c.state.view_is) refl (c.in_ok-note_disk_failed-in-Failed.ensures.cut ∙ c.in_ok-before.ensures.cut) (Some c.in-Ok.part) (subst (λ (x : Went Unit). ByWent (λ done. TakesIn g.D.Dir.cells c.args.row.job.node.0 c.in-Ok.part c.state.inside.places.items c.take_in.new.places.items) (StopsIn g.D.Dir.cells (Some c.in-Ok.part) c.source_of-p.result.0 c.args.row.job.node.0 c.state.inside.places.items c.take_in.new.places.items) x) c.in-Failed.is c.in_ok-taken.ensures.went)))

-- ---- it did not come, or the job had stopped

pub returns-in-Err-clause-ok : goal.returns-in-Err-clause-ok
returns-in-Err-clause-ok g c = λ begun is.
    runs_arrives c.args.row c.args.state.now c.is_stopped.new.state c.refuse_part.new.cluster (c.in_ok-is_stopped.ensures.same c.if-branch.false) c.args.file.now _ c.in_ok-is_stopped.field-0 Done c.if-branch.false (c.in_ok-is_stopped.ensures.ok begun is) c.in_ok-refuse_part-in-Err.ensures.ok

pub returns-in-Err-clause-goes : goal.returns-in-Err-clause-goes
returns-in-Err-clause-goes g c = λ runs.
    runs_takes c.args.row c.args.state.now c.is_stopped.new.state c.refuse_part.new.cluster (c.in_ok-is_stopped.ensures.same c.if-branch.false) c.args.file.now Done c.in_ok-refuse_part-in-Err.ensures.ok

pub returns-in-Err-clause-rest : goal.returns-in-Err-clause-rest
returns-in-Err-clause-rest g c =
    came_after c.args.row.job.node.0 c.args.state.now c.is_stopped.new.state c.refuse_part.new.cluster (c.in_ok-is_stopped.ensures.same c.if-branch.false) (none_moved c.args.row.job.node.0 c.is_stopped.new.state c.refuse_part.new.cluster c.in_ok-refuse_part-in-Err.ensures.rest)

pub returns-then-branch-clause-rest : goal.returns-then-branch-clause-rest
returns-then-branch-clause-rest g c =
    none_moved c.args.row.job.node.0 c.args.state.now c.is_stopped.new.state c.in_ok-is_stopped.ensures.rest

-- ---- memory ran out

pub invariant_of-state : goal.invariant_of-state
invariant_of-state g c = λ ended. absurd (true≢false ended)

pub invariant_of-state-in_err-taken : goal.invariant_of-state-in_err-taken
invariant_of-state-in_err-taken g c = λ ended. absurd (true≢false ended)

pub invariant_of-state-in_err-must_be_planned : goal.invariant_of-state-in_err-must_be_planned
invariant_of-state-in_err-must_be_planned g c = λ ended. absurd (true≢false ended)

pub invariant_of-state-in_err-note_disk_failed-in-Failed : goal.invariant_of-state-in_err-note_disk_failed-in-Failed
invariant_of-state-in_err-note_disk_failed-in-Failed g c = λ ended. absurd (true≢false ended)

pub returns-in_err-before-clause-err : goal.returns-in_err-before-clause-err
returns-in_err-before-clause-err g c =
    let was = c.state.view_is ∙ c.in_ok-is_stopped.ensures.same c.if-branch.false in
    on_any c.from_residual-in_err-before.result (record { ended = refl; nodes = c.met_before.ensures.nodes ∙ ap (λ (x : Run). x.nodes) was; log = c.met_before.ensures.log ∙ ap (λ (x : Run). x.log) was })

pub returns-in_err-must_be_planned-clause-err : goal.returns-in_err-must_be_planned-clause-err
returns-in_err-must_be_planned-clause-err g c =
    let was = c.state.view_is ∙ c.in_ok-is_stopped.ensures.same c.if-branch.false in
    on_any c.from_residual-in_err-must_be_planned.result (record { ended = refl; nodes = c.in_ok-before.ensures.nodes ∙ ap (λ (x : Run). x.nodes) was; log = c.in_ok-before.ensures.log ∙ ap (λ (x : Run). x.log) was })

pub returns-in_err-note_disk_failed-in-Failed-clause-err : goal.returns-in_err-note_disk_failed-in-Failed-clause-err
returns-in_err-note_disk_failed-in-Failed-clause-err g c =
    let was = c.state.view_is ∙ c.in_ok-is_stopped.ensures.same c.if-branch.false in
    on_any c.from_residual-in_err-note_disk_failed-in-Failed.result (record {
      ended = refl;
      nodes = c.in_err-note_disk_failed-in-Failed.ensures.nodes ∙ (c.in_ok-before.ensures.nodes ∙ ap (λ (x : Run). x.nodes) was);
      log = ap (λ (b : Sheet). b.log) c.in_err-note_disk_failed-in-Failed.ensures.err ∙ (c.in_ok-before.ensures.log ∙ ap (λ (x : Run). x.log) was);
    })
