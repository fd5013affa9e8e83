use Rattle.std.proofs.Common.{◌≡◌, ◌∙◌, ◌∷◌, false, Some, None, Option, ap, refl, sym, subst, map, true≢false}
use Rattle.history_rules.specs.declared.entry.Event.{Event}
use Rattle.history_rules.specs.Lines.{start_entry}
use Rattle.history_book.specs.Log.{Log, printed, kept}
use Rattle.link_model.specs.declared.fate.Fate.{Fate}
use Rattle.history_book.specs.declared.inner.Inner.TheVariants.{FileOut}
use Rattle.merge_tasks.specs.Fates.{fate_due}
use Rattle.cluster_nodes.specs.declared.tasks.FileTask.{FileTask}
use Rattle.cluster_nodes.specs.declared.went.Went.{Went}
use Rattle.cluster_nodes.specs.Went.{ByWent}
use Rattle.cluster_nodes.specs.JobChanges.{HasNextFile}
use Rattle.cluster_nodes.specs.JobPlaces.{FinishesIn, StopsIn, ReadsIn}
use Rattle.cluster_nodes.specs.Places.{place_of}
use Rattle.cluster_state.specs.DueFaults.{MeetsFate, with_due}
use Rattle.cluster_state.specs.Run.{Run}
use Rattle.cluster_state.specs.Copies.{HandsFile, ended_log}
use Rattle.cluster_state.specs.Met.{met_in}
use Rattle.cluster_state.proofs.Ledgers.{legal_of, turns_of}
use Rattle.cluster_state.proofs.MergingPaths.{two_parts, three_parts}
use Rattle.cluster_state.proofs.MergingStill.{stand_same, stand_kept, all_keep}
use Rattle.cluster_state.proofs.MetStands.{on_any, behind, run_behind, now_behind, met_as_told}
use Rattle.cluster_state.proofs.KeptOthers.{all_kept}
use Rattle.cluster_copies.specs.Going.{met_since, HandsOut, RefusesForDisk}
use Rattle.cluster_copies.proofs.HandPaths.{next_slot, next_job, can_read, hand_path, first_of, same_files, hand_meta, hand_footer}
use Rattle.cluster_copies.proofs.Ending.{can_finish, can_stop, copy_here, finish_path}
use Rattle.cluster_copies.proofs.TransferMerges.{read_stand, ended_stand, finished_stand}
use Rattle.cluster_copies.proofs.Calls.{call_of, job_call, JobCall, going_at, going1, ledger_room, met_stands, behind_due, run_due, due_stand, runs_due, lane_due, replica_due, primary_due, meets_due, runs_met, lane_met, replica_met, source_met, primary_met, begun_met, node_rule, source_rule}
use Rattle.cluster_copies.proofs.JobWays.{refused_stand, refused_by_node, refused_by_source}
use Rattle.cluster_copies.proofs.KeptJobs.{read_tells, stopped_kept, ended_kept, none_moved}
use Rattle.cluster_copies.proofs.transfers.go_on.Goals as goal

pub next_in-requires-clause-slot : goal.next_in-requires-clause-slot
next_in-requires-clause-slot g c = next_slot g.D.Dir.cells c.args.cluster.now _ c.cluster.inside.ledger _ c.args.row c.cluster.view_is c.requires.running (two_parts c.cluster.invariant) c.requires.runs (going_at c.cluster.view_is refl refl c.source_of-p.ensures).lane (going_at c.cluster.view_is refl refl c.source_of-p.ensures).replica

pub next_in-requires-clause-job : goal.next_in-requires-clause-job
next_in-requires-clause-job g c = next_job g.D.Dir.cells c.args.cluster.now _ c.cluster.inside.ledger _ c.args.row c.cluster.view_is c.requires.running (two_parts c.cluster.invariant) c.requires.runs (going_at c.cluster.view_is refl refl c.source_of-p.ensures).lane (going_at c.cluster.view_is refl refl c.source_of-p.ensures).replica

-- ---- nothing is missing

pub finish-requires-clause-going : goal.finish-requires-clause-going
finish-requires-clause-going g c = going_at c.cluster.view_is c.in_ok-before.ensures.nodes c.in_ok-before.ensures.log c.source_of-p.ensures

pub finish-requires-clause-room : goal.finish-requires-clause-room
finish-requires-clause-room g c =
    ledger_room g.D.Dir.cells g.D.FaultDir.planned c.args.cluster.now c.cluster.inside.ledger c.met_before.new.ledger c.cluster.inside.places.items c.cluster.inside.tasks 3 c.cluster.view_is c.requires.running c.cluster.invariant c.in_ok-before.ensures.nodes c.as_slice-met.ensures.value c.in_ok-before.ensures.met c.in_ok-before.ensures.room c.in_ok-before.ensures.few

pub finish-requires-clause-can : goal.finish-requires-clause-can
finish-requires-clause-can g c =
    can_finish g.D.Dir.cells c.args.cluster.now _ _ _ _ c.source_of-p.result c.args.row c.cluster.view_is c.requires.running (two_parts c.cluster.invariant) c.sourced_stands.ensures c.source_of-p.ensures.source c.source_of-p.ensures.primary c.requires.runs (going_at c.cluster.view_is refl refl c.source_of-p.ensures).lane (going_at c.cluster.view_is refl refl c.source_of-p.ensures).replica
    (subst (HasNextFile (place_of c.cluster.inside.places.items c.args.row.job.node.0)) c.in-None.is c.in_ok-next_in.ensures)

pub finish-requires-clause-below : goal.finish-requires-clause-below
finish-requires-clause-below g c =
    (copy_here g.D.Dir.cells c.args.cluster.now _ c.cluster.inside.ledger c.met_before.new.ledger _ c.args.row c.cluster.view_is c.requires.running (two_parts c.cluster.invariant) c.in_ok-before.ensures.log c.requires.runs (going_at c.cluster.view_is refl refl c.source_of-p.ensures).lane (going_at c.cluster.view_is refl refl c.source_of-p.ensures).replica).0

pub finish-requires-clause-latest : goal.finish-requires-clause-latest
finish-requires-clause-latest g c =
    (copy_here g.D.Dir.cells c.args.cluster.now _ c.cluster.inside.ledger c.met_before.new.ledger _ c.args.row c.cluster.view_is c.requires.running (two_parts c.cluster.invariant) c.in_ok-before.ensures.log c.requires.runs (going_at c.cluster.view_is refl refl c.source_of-p.ensures).lane (going_at c.cluster.view_is refl refl c.source_of-p.ensures).replica).1

pub invariant_of-cluster-in-Done : goal.invariant_of-cluster-in-Done
invariant_of-cluster-in-Done g c =
    let k : JobCall g.D.Dir.cells c.args.cluster.now c.cluster.inside.ledger c.met_before.new.ledger c.cluster.inside.places.items c.cluster.inside.tasks c.args.row c.source_of-p.result = job_call (call_of c.cluster.view_is c.requires.running c.cluster.invariant c.in_ok-before.ensures.log c.in_ok-before.ensures.nodes c.in_ok-before.ensures.cut) c.source_of-p.ensures in
    let w = going1 k in
    let olds = c.as_slice-met.result.now in
    let news = map (met_in g.D.FaultDir.planned) c.finish.new.places.items in
    let mid = behind c.args.row.job.at olds news c.met_before.new.ledger in
    let run = run_behind c.args.row.job.at olds news c.met_before.new.ledger c.args.cluster.now in
    let st = met_stands k.call c.args.row.job.at olds news in
    let b = subst (λ (x : Went Unit). ByWent (λ done. FinishesIn g.D.Dir.cells c.source_of-p.result.0 c.args.row.job.node.0 c.cluster.inside.places.items c.finish.new.places.items) (StopsIn g.D.Dir.cells None c.source_of-p.result.0 c.args.row.job.node.0 c.cluster.inside.places.items c.finish.new.places.items) x) c.in-Done.is c.in_ok-finish-in-None.ensures.went in
    let noted = subst (λ (x : Went Unit). ByWent (λ done. c.finish.new.ledger.log ≡ ended_log c.args.row.job (start_entry c.args.row.job.at (printed c.met_before.new.ledger.log)) (met_since g.D.FaultDir.planned c.args.row.job.at c.as_slice-met.result.now c.finish.new.places.items c.met_before.new.ledger.log)) (RefusesForDisk g.D.FaultDir.planned c.args.row c.args.row.job.node c.as_slice-met.result.now c.finish.new.places.items c.met_before.new.ledger c.finish.new.ledger) x) c.in-Done.is c.in_ok-finish-in-None.ensures.noted in
    λ running. three_parts
    (finish_path g.D.Dir.cells run c.args.cluster.now.ended mid mid c.finish.new.ledger c.cluster.inside.places.items c.finish.new.places.items c.source_of-p.result c.args.row refl c.requires.running (λ e. (st.0, st.1)) refl refl
    (noted ∙ ap (λ (o : Option Event). ended_log c.args.row.job o mid.log) (sym (begun_met w olds news))) c.in_ok-finish-in-None.ensures.nodes
    (legal_of c.book.ensures.nodes c.book.ensures.log c.is_legal.ensures.legal) (turns_of c.book.ensures.log c.is_legal.ensures.turns) c.sourced_stands.ensures c.files_last.ensures (source_met w olds news) (primary_met w olds news)
    (runs_met w olds news) (lane_met w olds news) (replica_met w olds news) (subst (HasNextFile (place_of c.cluster.inside.places.items c.args.row.job.node.0)) c.in-None.is c.in_ok-next_in.ensures) b)
    (ended_stand c.cluster.inside.tasks c.finish.new.places.items c.args.row.job mid c.finish.new.ledger (start_entry c.args.row.job.at (printed c.met_before.new.ledger.log)) noted c.in_ok-finish-in-None.ensures.nodes c.in_ok-finish-in-None.ensures.cut
    (stand_same c.cluster.inside.tasks c.cluster.inside.places.items c.finish.new.places.items mid mid refl refl refl
    (finished_stand g.D.Dir.cells run c.args.cluster.now.ended mid c.cluster.inside.places.items c.finish.new.places.items c.source_of-p.result c.args.row refl c.requires.running (λ e. (st.0, st.1)) (source_met w olds news) (primary_met w olds news) (runs_met w olds news) (lane_met w olds news) b) st.2))

pub returns-in-Done-clause-ok : goal.returns-in-Done-clause-ok
returns-in-Done-clause-ok g c =
    let noted = subst (λ (x : Went Unit). ByWent (λ done. c.finish.new.ledger.log ≡ ended_log c.args.row.job (start_entry c.args.row.job.at (printed c.met_before.new.ledger.log)) (met_since g.D.FaultDir.planned c.args.row.job.at c.as_slice-met.result.now c.finish.new.places.items c.met_before.new.ledger.log)) (RefusesForDisk g.D.FaultDir.planned c.args.row c.args.row.job.node c.as_slice-met.result.now c.finish.new.places.items c.met_before.new.ledger c.finish.new.ledger) x) c.in-Done.is c.in_ok-finish-in-None.ensures.noted in
    now_behind g.D.FaultDir.planned c.cluster.inside.places.items c.finish.new.places.items c.args.cluster.now _ c.cluster.inside.ledger c.met_before.new.ledger c.finish.new.ledger c.args.row.job.at c.as_slice-met.result.now (map (met_in g.D.FaultDir.planned) c.finish.new.places.items)
    (λ l. ended_log c.args.row.job (start_entry c.args.row.job.at (printed c.args.cluster.now.log)) l) c.cluster.view_is c.in_ok-before.ensures.log c.in_ok-before.ensures.nodes
    (noted ∙ ap (λ (l : Log). ended_log c.args.row.job (start_entry c.args.row.job.at (printed l)) (met_since g.D.FaultDir.planned c.args.row.job.at c.as_slice-met.result.now c.finish.new.places.items c.met_before.new.ledger.log)) (c.in_ok-before.ensures.log ∙ ap (λ (r : Run). r.log) c.cluster.view_is))
    c.in_ok-finish-in-None.ensures.nodes (c.as_slice-met.ensures.value ∙ c.in_ok-before.ensures.met) refl refl refl

pub returns-in-Done-clause-rest : goal.returns-in-Done-clause-rest
returns-in-Done-clause-rest g c =
    let k : JobCall g.D.Dir.cells c.args.cluster.now c.cluster.inside.ledger c.met_before.new.ledger c.cluster.inside.places.items c.cluster.inside.tasks c.args.row c.source_of-p.result = job_call (call_of c.cluster.view_is c.requires.running c.cluster.invariant c.in_ok-before.ensures.log c.in_ok-before.ensures.nodes c.in_ok-before.ensures.cut) c.source_of-p.ensures in
    ended_kept k _ _ _ _ _ _ c.finish.new.places.items (ap (λ (x : Run). x.rest) c.cluster.view_is) refl (c.in_ok-finish-in-None.ensures.cut ∙ c.in_ok-before.ensures.cut)
    (subst (λ (x : Went Unit). ByWent (λ done. FinishesIn g.D.Dir.cells c.source_of-p.result.0 c.args.row.job.node.0 c.cluster.inside.places.items c.finish.new.places.items) (StopsIn g.D.Dir.cells None c.source_of-p.result.0 c.args.row.job.node.0 c.cluster.inside.places.items c.finish.new.places.items) x) c.in-Done.is c.in_ok-finish-in-None.ensures.went)

pub invariant_of-cluster-in-Failed : goal.invariant_of-cluster-in-Failed
invariant_of-cluster-in-Failed g c =
    let k : JobCall g.D.Dir.cells c.args.cluster.now c.cluster.inside.ledger c.met_before.new.ledger c.cluster.inside.places.items c.cluster.inside.tasks c.args.row c.source_of-p.result = job_call (call_of c.cluster.view_is c.requires.running c.cluster.invariant c.in_ok-before.ensures.log c.in_ok-before.ensures.nodes c.in_ok-before.ensures.cut) c.source_of-p.ensures in
    let olds = c.as_slice-met.result.now in
    let stops = subst (λ (x : Went Unit). ByWent (λ done. FinishesIn g.D.Dir.cells c.source_of-p.result.0 c.args.row.job.node.0 c.cluster.inside.places.items c.finish.new.places.items) (StopsIn g.D.Dir.cells None c.source_of-p.result.0 c.args.row.job.node.0 c.cluster.inside.places.items c.finish.new.places.items) x) c.in-Failed.is c.in_ok-finish-in-None.ensures.went in
    let noted = subst (λ (x : Went Unit). ByWent (λ done. c.finish.new.ledger.log ≡ ended_log c.args.row.job (start_entry c.args.row.job.at (printed c.met_before.new.ledger.log)) (met_since g.D.FaultDir.planned c.args.row.job.at c.as_slice-met.result.now c.finish.new.places.items c.met_before.new.ledger.log)) (RefusesForDisk g.D.FaultDir.planned c.args.row c.args.row.job.node c.as_slice-met.result.now c.finish.new.places.items c.met_before.new.ledger c.finish.new.ledger) x) c.in-Failed.is c.in_ok-finish-in-None.ensures.noted in
    λ running. refused_stand k g.D.FaultDir.planned olds c.finish.new.places.items c.finish.new.ledger None c.args.row.job.node noted stops c.in_ok-finish-in-None.ensures.nodes c.in_ok-finish-in-None.ensures.cut c.files_last.ensures (node_rule (going1 k) olds (map (met_in g.D.FaultDir.planned) c.finish.new.places.items)) tt

pub returns-in-None-clause-ok : goal.returns-in-None-clause-ok
returns-in-None-clause-ok g c =
    let k : JobCall g.D.Dir.cells c.args.cluster.now c.cluster.inside.ledger c.met_before.new.ledger c.cluster.inside.places.items c.cluster.inside.tasks c.args.row c.source_of-p.result = job_call (call_of c.cluster.view_is c.requires.running c.cluster.invariant c.in_ok-before.ensures.log c.in_ok-before.ensures.nodes c.in_ok-before.ensures.cut) c.source_of-p.ensures in
    let olds = c.as_slice-met.result.now in
    let stops = subst (λ (x : Went Unit). ByWent (λ done. FinishesIn g.D.Dir.cells c.source_of-p.result.0 c.args.row.job.node.0 c.cluster.inside.places.items c.finish.new.places.items) (StopsIn g.D.Dir.cells None c.source_of-p.result.0 c.args.row.job.node.0 c.cluster.inside.places.items c.finish.new.places.items) x) c.in-Failed.is c.in_ok-finish-in-None.ensures.went in
    let noted = subst (λ (x : Went Unit). ByWent (λ done. c.finish.new.ledger.log ≡ ended_log c.args.row.job (start_entry c.args.row.job.at (printed c.met_before.new.ledger.log)) (met_since g.D.FaultDir.planned c.args.row.job.at c.as_slice-met.result.now c.finish.new.places.items c.met_before.new.ledger.log)) (RefusesForDisk g.D.FaultDir.planned c.args.row c.args.row.job.node c.as_slice-met.result.now c.finish.new.places.items c.met_before.new.ledger c.finish.new.ledger) x) c.in-Failed.is c.in_ok-finish-in-None.ensures.noted in
    refused_by_node k g.D.FaultDir.planned olds c.finish.new.places.items c.finish.new.ledger None c.args.row.job.node noted stops c.in_ok-finish-in-None.ensures.nodes _ (c.as_slice-met.ensures.value ∙ c.in_ok-before.ensures.met)
    (sym (ap (λ (x : Run). x.rest.plans) c.cluster.view_is)) refl (sym (ap (λ (x : Run). x.rest.jobs) c.cluster.view_is)) refl refl

pub returns-in-None-clause-rest : goal.returns-in-None-clause-rest
returns-in-None-clause-rest g c =
    let k : JobCall g.D.Dir.cells c.args.cluster.now c.cluster.inside.ledger c.met_before.new.ledger c.cluster.inside.places.items c.cluster.inside.tasks c.args.row c.source_of-p.result = job_call (call_of c.cluster.view_is c.requires.running c.cluster.invariant c.in_ok-before.ensures.log c.in_ok-before.ensures.nodes c.in_ok-before.ensures.cut) c.source_of-p.ensures in
    stopped_kept k (record { ended = false; nodes = c.finish.new.ledger.nodes; log = c.finish.new.ledger.log; rest = _ }) _ _ _ _ _ c.finish.new.places.items (ap (λ (x : Run). x.rest) c.cluster.view_is) refl (c.in_ok-finish-in-None.ensures.cut ∙ c.in_ok-before.ensures.cut) None
    (subst (λ (x : Went Unit). ByWent (λ done. FinishesIn g.D.Dir.cells c.source_of-p.result.0 c.args.row.job.node.0 c.cluster.inside.places.items c.finish.new.places.items) (StopsIn g.D.Dir.cells None c.source_of-p.result.0 c.args.row.job.node.0 c.cluster.inside.places.items c.finish.new.places.items) x) c.in-Failed.is c.in_ok-finish-in-None.ensures.went)

-- ---- a file is missing

pub hand_out-requires-clause-going : goal.hand_out-requires-clause-going
hand_out-requires-clause-going g c = going_at c.cluster.view_is c.in_ok-before.ensures.nodes c.in_ok-before.ensures.log c.source_of-p.ensures

pub hand_out-requires-clause-room : goal.hand_out-requires-clause-room
hand_out-requires-clause-room g c =
    ledger_room g.D.Dir.cells g.D.FaultDir.planned c.args.cluster.now c.cluster.inside.ledger c.met_before.new.ledger c.cluster.inside.places.items c.cluster.inside.tasks 3 c.cluster.view_is c.requires.running c.cluster.invariant c.in_ok-before.ensures.nodes c.as_slice-met.ensures.value c.in_ok-before.ensures.met c.in_ok-before.ensures.room c.in_ok-before.ensures.few

pub hand_out-requires-clause-read : goal.hand_out-requires-clause-read
hand_out-requires-clause-read g c =
    can_read g.D.Dir.cells c.args.cluster.now _ c.cluster.inside.ledger _ c.args.row c.cluster.view_is c.requires.running (two_parts c.cluster.invariant) c.requires.runs (going_at c.cluster.view_is refl refl c.source_of-p.ensures).lane (going_at c.cluster.view_is refl refl c.source_of-p.ensures).replica c.source_of-p.result c.in-Some.file.0 c.in-Some.file.1 c.files_last.ensures
    c.source_of-p.ensures.source c.source_of-p.ensures.primary (subst (HasNextFile (place_of c.cluster.inside.places.items c.args.row.job.node.0)) c.in-Some.is c.in_ok-next_in.ensures)

pub hand_out-requires-clause-stop : goal.hand_out-requires-clause-stop
hand_out-requires-clause-stop g c =
    can_stop g.D.Dir.cells c.args.cluster.now _ c.cluster.inside.ledger.nodes c.cluster.inside.ledger.log _ c.source_of-p.result c.args.row c.cluster.view_is c.requires.running (two_parts c.cluster.invariant) c.source_of-p.ensures.source c.source_of-p.ensures.primary c.requires.runs (going_at c.cluster.view_is refl refl c.source_of-p.ensures).lane (going_at c.cluster.view_is refl refl c.source_of-p.ensures).replica

pub invariant_of-cluster-in-Done-handed : goal.invariant_of-cluster-in-Done-handed
invariant_of-cluster-in-Done-handed g c =
    let k : JobCall g.D.Dir.cells c.args.cluster.now c.cluster.inside.ledger c.met_before.new.ledger c.cluster.inside.places.items c.cluster.inside.tasks c.args.row c.source_of-p.result = job_call (call_of c.cluster.view_is c.requires.running c.cluster.invariant c.in_ok-before.ensures.log c.in_ok-before.ensures.nodes c.in_ok-before.ensures.cut) c.source_of-p.ensures in
    let w = going1 k in
    let olds = c.as_slice-met.result.now in
    let news = map (met_in g.D.FaultDir.planned) c.hand_out.new.places.items in
    let task = c.in-Done-handed.task in
    let mid = behind_due c.args.row.job.at c.args.row.job.node.0 olds news c.met_before.new.ledger in
    let run = run_due c.args.row.job.at c.args.row.job.node.0 olds news c.met_before.new.ledger c.args.cluster.now in
    let st = due_stand k olds news in
    let b = subst (λ (x : Went FileTask). ByWent (λ task. ReadsIn g.D.Dir.cells c.source_of-p.result.0 c.in-Some.file.0 task.source c.cluster.inside.places.items c.hand_out.new.places.items) (StopsIn g.D.Dir.cells None c.source_of-p.result.0 c.args.row.job.node.0 c.cluster.inside.places.items c.hand_out.new.places.items) x) c.in-Done-handed.is c.in_ok-handed-in-Some.ensures.went in
    let noted = subst (λ (x : Went FileTask). ByWent (HandsOut g.D.FaultDir.planned c.args.row c.in-Some.file c.as_slice-met.result.now c.hand_out.new.places.items c.met_before.new.ledger c.hand_out.new.ledger) (RefusesForDisk g.D.FaultDir.planned c.args.row c.source_of-p.result c.as_slice-met.result.now c.hand_out.new.places.items c.met_before.new.ledger c.hand_out.new.ledger) x) c.in-Done-handed.is c.in_ok-handed-in-Some.ensures.noted in
    let read = stand_same c.cluster.inside.tasks c.cluster.inside.places.items c.hand_out.new.places.items mid mid refl refl refl
    (read_stand g.D.Dir.cells c.cluster.inside.tasks run c.args.cluster.now.ended mid c.cluster.inside.places.items c.hand_out.new.places.items c.source_of-p.result c.in-Some.file.0 task.source refl (source_met w olds news) b st.2) st.2 in
    λ running. three_parts
    (hand_path g.D.Dir.cells run c.args.cluster.now.ended mid c.cluster.inside.places.items c.args.row refl c.requires.running (λ e. (st.0, st.1)) (runs_due w olds news) (lane_due w olds news) (replica_due w olds news)
    mid c.hand_out.new.ledger c.hand_out.new.places.items c.source_of-p.result c.in-Some.file.0 c.in-Some.file.1 task.source task.source task.fate c.files_last.ensures (source_met w olds news) (primary_due w olds news) (subst (HasNextFile (place_of c.cluster.inside.places.items c.args.row.job.node.0)) c.in-Some.is c.in_ok-next_in.ensures) b refl refl refl noted.log c.in_ok-handed-in-Some.ensures.nodes)
    (stand_kept c.cluster.inside.tasks c.hand_out.new.places.items c.hand_out.new.places.items mid c.hand_out.new.ledger (FileOut c.args.row.job.at.line c.args.row.job.node c.args.row.job.number c.in-Some.file.0 task.source task.fate (Some c.args.row.job.at)) noted.log c.in_ok-handed-in-Some.ensures.nodes c.in_ok-handed-in-Some.ensures.cut refl (all_keep _ c.cluster.inside.tasks _ _ _ read) read)

pub returns-in-Done-handed-clause-ok : goal.returns-in-Done-handed-clause-ok
returns-in-Done-handed-clause-ok g c =
    let k : JobCall g.D.Dir.cells c.args.cluster.now c.cluster.inside.ledger c.met_before.new.ledger c.cluster.inside.places.items c.cluster.inside.tasks c.args.row c.source_of-p.result = job_call (call_of c.cluster.view_is c.requires.running c.cluster.invariant c.in_ok-before.ensures.log c.in_ok-before.ensures.nodes c.in_ok-before.ensures.cut) c.source_of-p.ensures in
    let olds = c.as_slice-met.result.now in
    let news = map (met_in g.D.FaultDir.planned) c.hand_out.new.places.items in
    let task = c.in-Done-handed.task in
    let next = (subst (HasNextFile (place_of c.cluster.inside.places.items c.args.row.job.node.0)) c.in-Some.is c.in_ok-next_in.ensures) in
    let b = subst (λ (x : Went FileTask). ByWent (λ task. ReadsIn g.D.Dir.cells c.source_of-p.result.0 c.in-Some.file.0 task.source c.cluster.inside.places.items c.hand_out.new.places.items) (StopsIn g.D.Dir.cells None c.source_of-p.result.0 c.args.row.job.node.0 c.cluster.inside.places.items c.hand_out.new.places.items) x) c.in-Done-handed.is c.in_ok-handed-in-Some.ensures.went in
    let noted = subst (λ (x : Went FileTask). ByWent (HandsOut g.D.FaultDir.planned c.args.row c.in-Some.file c.as_slice-met.result.now c.hand_out.new.places.items c.met_before.new.ledger c.hand_out.new.ledger) (RefusesForDisk g.D.FaultDir.planned c.args.row c.source_of-p.result c.as_slice-met.result.now c.hand_out.new.places.items c.met_before.new.ledger c.hand_out.new.ledger) x) c.in-Done-handed.is c.in_ok-handed-in-Some.ensures.noted in
    subst (HandsFile c.args.row.job c.args.cluster.now _) (sym noted.task_is) (record {
      now = now_behind g.D.FaultDir.planned c.cluster.inside.places.items c.hand_out.new.places.items c.args.cluster.now _ c.cluster.inside.ledger c.met_before.new.ledger c.hand_out.new.ledger c.args.row.job.at olds news
          (λ l. kept (FileOut c.args.row.job.at.line c.args.row.job.node c.args.row.job.number c.in-Some.file.0 task.source task.fate (Some c.args.row.job.at)) ∷ with_due false c.args.row.job.at c.args.row.job.node.0 l) c.cluster.view_is c.in_ok-before.ensures.log c.in_ok-before.ensures.nodes
          noted.log c.in_ok-handed-in-Some.ensures.nodes (c.as_slice-met.ensures.value ∙ c.in_ok-before.ensures.met) refl refl refl;
      fate = noted.fate ∙ ap (fate_due c.args.row.job.node.0)
          (met_as_told g.D.FaultDir.planned c.cluster.inside.places.items c.hand_out.new.places.items c.args.cluster.now _ c.cluster.inside.ledger c.met_before.new.ledger c.args.row.job.at olds news c.cluster.view_is c.in_ok-before.ensures.log (c.as_slice-met.ensures.value ∙ c.in_ok-before.ensures.met) refl refl refl);
      met = subst (λ (z : Fate × Log). MeetsFate z.0 c.args.row.job.at c.args.row.job.node.0 (printed z.1)) (λ i. (sym noted.fate i, sym noted.log i)) (meets_due (going1 k) olds news noted.spared);
      first = first_of g.D.Dir.cells c.args.cluster.now _ c.cluster.inside.ledger _ c.args.row c.cluster.view_is c.requires.running (two_parts c.cluster.invariant) c.requires.runs (going_at c.cluster.view_is refl refl c.source_of-p.ensures).lane (going_at c.cluster.view_is refl refl c.source_of-p.ensures).replica c.in-Some.file refl next;
      files = same_files g.D.Dir.cells c.args.cluster.now _ c.cluster.inside.ledger _ c.args.row c.cluster.view_is c.requires.running (two_parts c.cluster.invariant) c.requires.runs (going_at c.cluster.view_is refl refl c.source_of-p.ensures).lane (going_at c.cluster.view_is refl refl c.source_of-p.ensures).replica _ _ c.source_of-p.result c.in-Some.file.0 task.source refl refl b;
      meta = hand_meta g.D.Dir.cells c.args.cluster.now _ c.cluster.inside.ledger _ c.args.row c.cluster.view_is c.requires.running (two_parts c.cluster.invariant) c.requires.runs (going_at c.cluster.view_is refl refl c.source_of-p.ensures).lane (going_at c.cluster.view_is refl refl c.source_of-p.ensures).replica _ c.source_of-p.result c.in-Some.file.0 c.in-Some.file.1 task.source c.files_last.ensures c.source_of-p.ensures.source next b;
      footer = hand_footer g.D.Dir.cells c.args.cluster.now _ c.cluster.inside.ledger _ c.args.row c.cluster.view_is c.requires.running (two_parts c.cluster.invariant) c.requires.runs (going_at c.cluster.view_is refl refl c.source_of-p.ensures).lane (going_at c.cluster.view_is refl refl c.source_of-p.ensures).replica _ c.source_of-p.result c.in-Some.file.0 c.in-Some.file.1 task.source c.files_last.ensures c.source_of-p.ensures.source next b noted.bytes;
    })

pub returns-in-Done-handed-clause-rest : goal.returns-in-Done-handed-clause-rest
returns-in-Done-handed-clause-rest g c =
    none_moved c.args.row.job.node.0 c.args.cluster.now _ (all_kept c.args.cluster.now (record { ended = false; nodes = c.hand_out.new.ledger.nodes; log = c.hand_out.new.ledger.log; rest = _ }) _ _ _ _ _ _ c.cluster.inside.places.items c.hand_out.new.places.items (ap (λ (x : Run). x.rest) c.cluster.view_is) refl
    (c.in_ok-handed-in-Some.ensures.cut ∙ c.in_ok-before.ensures.cut) (read_tells g.D.Dir.cells c.source_of-p.result.0 c.in-Some.file.0 c.in-Done-handed.task.source c.cluster.inside.places.items c.hand_out.new.places.items (subst (λ (x : Went FileTask). ByWent (λ task. ReadsIn g.D.Dir.cells c.source_of-p.result.0 c.in-Some.file.0 task.source c.cluster.inside.places.items c.hand_out.new.places.items) (StopsIn g.D.Dir.cells None c.source_of-p.result.0 c.args.row.job.node.0 c.cluster.inside.places.items c.hand_out.new.places.items) x) c.in-Done-handed.is c.in_ok-handed-in-Some.ensures.went)))

pub invariant_of-cluster-in-Some : goal.invariant_of-cluster-in-Some
invariant_of-cluster-in-Some g c =
    let k : JobCall g.D.Dir.cells c.args.cluster.now c.cluster.inside.ledger c.met_before.new.ledger c.cluster.inside.places.items c.cluster.inside.tasks c.args.row c.source_of-p.result = job_call (call_of c.cluster.view_is c.requires.running c.cluster.invariant c.in_ok-before.ensures.log c.in_ok-before.ensures.nodes c.in_ok-before.ensures.cut) c.source_of-p.ensures in
    let olds = c.as_slice-met.result.now in
    let stops = subst (λ (x : Went FileTask). ByWent (λ task. ReadsIn g.D.Dir.cells c.source_of-p.result.0 c.in-Some.file.0 task.source c.cluster.inside.places.items c.hand_out.new.places.items) (StopsIn g.D.Dir.cells None c.source_of-p.result.0 c.args.row.job.node.0 c.cluster.inside.places.items c.hand_out.new.places.items) x) c.in-Failed-handed.is c.in_ok-handed-in-Some.ensures.went in
    let noted = subst (λ (x : Went FileTask). ByWent (HandsOut g.D.FaultDir.planned c.args.row c.in-Some.file c.as_slice-met.result.now c.hand_out.new.places.items c.met_before.new.ledger c.hand_out.new.ledger) (RefusesForDisk g.D.FaultDir.planned c.args.row c.source_of-p.result c.as_slice-met.result.now c.hand_out.new.places.items c.met_before.new.ledger c.hand_out.new.ledger) x) c.in-Failed-handed.is c.in_ok-handed-in-Some.ensures.noted in
    λ running. refused_stand k g.D.FaultDir.planned olds c.hand_out.new.places.items c.hand_out.new.ledger None c.source_of-p.result noted stops c.in_ok-handed-in-Some.ensures.nodes c.in_ok-handed-in-Some.ensures.cut c.files_last.ensures (source_rule (going1 k) olds (map (met_in g.D.FaultDir.planned) c.hand_out.new.places.items)) tt

pub returns-clause-ok : goal.returns-clause-ok
returns-clause-ok g c =
    let k : JobCall g.D.Dir.cells c.args.cluster.now c.cluster.inside.ledger c.met_before.new.ledger c.cluster.inside.places.items c.cluster.inside.tasks c.args.row c.source_of-p.result = job_call (call_of c.cluster.view_is c.requires.running c.cluster.invariant c.in_ok-before.ensures.log c.in_ok-before.ensures.nodes c.in_ok-before.ensures.cut) c.source_of-p.ensures in
    let olds = c.as_slice-met.result.now in
    let stops = subst (λ (x : Went FileTask). ByWent (λ task. ReadsIn g.D.Dir.cells c.source_of-p.result.0 c.in-Some.file.0 task.source c.cluster.inside.places.items c.hand_out.new.places.items) (StopsIn g.D.Dir.cells None c.source_of-p.result.0 c.args.row.job.node.0 c.cluster.inside.places.items c.hand_out.new.places.items) x) c.in-Failed-handed.is c.in_ok-handed-in-Some.ensures.went in
    let noted = subst (λ (x : Went FileTask). ByWent (HandsOut g.D.FaultDir.planned c.args.row c.in-Some.file c.as_slice-met.result.now c.hand_out.new.places.items c.met_before.new.ledger c.hand_out.new.ledger) (RefusesForDisk g.D.FaultDir.planned c.args.row c.source_of-p.result c.as_slice-met.result.now c.hand_out.new.places.items c.met_before.new.ledger c.hand_out.new.ledger) x) c.in-Failed-handed.is c.in_ok-handed-in-Some.ensures.noted in
    refused_by_source k g.D.FaultDir.planned olds c.hand_out.new.places.items c.hand_out.new.ledger None c.source_of-p.result noted stops c.in_ok-handed-in-Some.ensures.nodes _ (c.as_slice-met.ensures.value ∙ c.in_ok-before.ensures.met)
    (sym (ap (λ (x : Run). x.rest.plans) c.cluster.view_is)) refl (sym (ap (λ (x : Run). x.rest.jobs) c.cluster.view_is)) refl refl

pub returns-clause-rest : goal.returns-clause-rest
returns-clause-rest g c =
    let k : JobCall g.D.Dir.cells c.args.cluster.now c.cluster.inside.ledger c.met_before.new.ledger c.cluster.inside.places.items c.cluster.inside.tasks c.args.row c.source_of-p.result = job_call (call_of c.cluster.view_is c.requires.running c.cluster.invariant c.in_ok-before.ensures.log c.in_ok-before.ensures.nodes c.in_ok-before.ensures.cut) c.source_of-p.ensures in
    stopped_kept k (record { ended = false; nodes = c.hand_out.new.ledger.nodes; log = c.hand_out.new.ledger.log; rest = _ }) _ _ _ _ _ c.hand_out.new.places.items (ap (λ (x : Run). x.rest) c.cluster.view_is) refl (c.in_ok-handed-in-Some.ensures.cut ∙ c.in_ok-before.ensures.cut) None
    (subst (λ (x : Went FileTask). ByWent (λ task. ReadsIn g.D.Dir.cells c.source_of-p.result.0 c.in-Some.file.0 task.source c.cluster.inside.places.items c.hand_out.new.places.items) (StopsIn g.D.Dir.cells None c.source_of-p.result.0 c.args.row.job.node.0 c.cluster.inside.places.items c.hand_out.new.places.items) x) c.in-Failed-handed.is c.in_ok-handed-in-Some.ensures.went)

-- ---- memory ran out

pub invariant_of-cluster : goal.invariant_of-cluster
invariant_of-cluster g c = λ ended. absurd (true≢false ended)

pub returns-in_err-before-clause-err : goal.returns-in_err-before-clause-err
returns-in_err-before-clause-err g c =
    on_any c.from_residual.result (record { ended = refl; nodes = c.met_before.ensures.nodes ∙ ap (λ (x : Run). x.nodes) c.cluster.view_is; log = c.met_before.ensures.log ∙ ap (λ (x : Run). x.log) c.cluster.view_is })

pub invariant_of-cluster-in_err-next_in : goal.invariant_of-cluster-in_err-next_in
invariant_of-cluster-in_err-next_in g c = λ ended. absurd (true≢false ended)

pub returns-in_err-next_in-clause-err : goal.returns-in_err-next_in-clause-err
returns-in_err-next_in-clause-err g c = on_any c.from_residual-in_err-next_in.result (record { ended = refl; nodes = c.in_ok-before.ensures.nodes ∙ ap (λ (x : Run). x.nodes) c.cluster.view_is; log = c.in_ok-before.ensures.log ∙ ap (λ (x : Run). x.log) c.cluster.view_is })

pub invariant_of-cluster-in_err-finish-in-None : goal.invariant_of-cluster-in_err-finish-in-None
invariant_of-cluster-in_err-finish-in-None g c = λ ended. absurd (true≢false ended)

pub invariant_of-cluster-in_err-handed-in-Some : goal.invariant_of-cluster-in_err-handed-in-Some
invariant_of-cluster-in_err-handed-in-Some g c = λ ended. absurd (true≢false ended)
