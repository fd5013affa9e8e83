use Rattle.std.proofs.Common.{◌≢◌, ◌∙◌, ◌∷◌, false, None, ap, refl, sym, subst, arith, map, true≢false}
use Rattle.history_rules.specs.declared.cause.Cause.{Cause}
use Rattle.history_rules.specs.declared.entry.Event.TheVariants.{Refused}
use Rattle.history_rules.specs.Legal.{KeepsRule}
use Rattle.history_book.specs.Log.{Log, printed, shown, kept}
use Rattle.history_book.specs.Told.{IsSo}
use Rattle.history_book.specs.declared.inner.Inner.TheVariants.{JobEnd}
use Rattle.cluster_state.specs.Run.{Run}
use Rattle.cluster_state.specs.DueFaults.{MeetsFate, fate_cause}
use Rattle.cluster_state.specs.Met.{met_in, with_met, ArePlanned}
use Rattle.cluster_state.proofs.MergingPaths.{two_parts}
use Rattle.cluster_state.proofs.MetStands.{on_any, behind, run_behind, now_behind}
use Rattle.cluster_state.proofs.Arrivals.{not_whole}
use Rattle.cluster_copies.proofs.HandPaths.{next_slot, next_job, named_drawn}
use Rattle.cluster_copies.proofs.DueLines.{fate_told, fate_spared}
use Rattle.cluster_copies.proofs.Ending.{can_stop}
use Rattle.cluster_copies.proofs.Calls.{call_of, job_call, going_at, going1, log_has, ledger_room, can_tell, met_stands, JobCall, runs_met, lane_met, replica_met, file_rule, broken_turn, refused_path, refused_files}
use Rattle.cluster_copies.proofs.KeptJobs.{stopped_kept}
use Rattle.cluster_copies.proofs.transfers.refuse_part.Goals as goal

pub next_in-requires-clause-slot : goal.next_in-requires-clause-slot
next_in-requires-clause-slot g c =
    next_slot g.D.Dir.cells c.args.cluster.now _ c.cluster.inside.ledger _ c.args.row c.cluster.view_is c.requires.running (two_parts c.cluster.invariant) c.requires.runs (going_at c.cluster.view_is refl refl c.source_of-p.ensures).lane (going_at c.cluster.view_is refl refl c.source_of-p.ensures).replica

pub next_in-requires-clause-job : goal.next_in-requires-clause-job
next_in-requires-clause-job g c =
    next_job g.D.Dir.cells c.args.cluster.now _ c.cluster.inside.ledger _ c.args.row c.cluster.view_is c.requires.running (two_parts c.cluster.invariant) c.requires.runs (going_at c.cluster.view_is refl refl c.source_of-p.ensures).lane (going_at c.cluster.view_is refl refl c.source_of-p.ensures).replica

pub stop_job_in-requires : goal.stop_job_in-requires
stop_job_in-requires g c =
    can_stop g.D.Dir.cells c.args.cluster.now _ c.cluster.inside.ledger.nodes c.cluster.inside.ledger.log _ c.source_of-p.result c.args.row c.cluster.view_is c.requires.running (two_parts c.cluster.invariant) c.source_of-p.ensures.source c.source_of-p.ensures.primary c.requires.runs
    (going_at c.cluster.view_is refl refl c.source_of-p.ensures).lane (going_at c.cluster.view_is refl refl c.source_of-p.ensures).replica

pub must_be_planned-requires-clause-count : goal.must_be_planned-requires-clause-count
must_be_planned-requires-clause-count g c =
    (ledger_room g.D.Dir.cells g.D.FaultDir.planned c.args.cluster.now c.cluster.inside.ledger c.met_before.new.ledger c.cluster.inside.places.items c.cluster.inside.tasks 2 c.cluster.view_is c.requires.running c.cluster.invariant c.in_ok-before.ensures.nodes c.as_slice-met.ensures.value c.in_ok-before.ensures.met c.in_ok-before.ensures.room c.in_ok-before.ensures.few).count ∙ sym c.book.ensures.nodes

pub must_be_planned-requires-clause-places : goal.must_be_planned-requires-clause-places
must_be_planned-requires-clause-places g c =
    c.in_ok-stop_job_in.ensures.count ∙ ((ledger_room g.D.Dir.cells g.D.FaultDir.planned c.args.cluster.now c.cluster.inside.ledger c.met_before.new.ledger c.cluster.inside.places.items c.cluster.inside.tasks 2 c.cluster.view_is c.requires.running c.cluster.invariant c.in_ok-before.ensures.nodes c.as_slice-met.ensures.value c.in_ok-before.ensures.met c.in_ok-before.ensures.room c.in_ok-before.ensures.few).nodes ∙ sym c.book.ensures.nodes)

pub note_refused-requires-clause-tells : goal.note_refused-requires-clause-tells
note_refused-requires-clause-tells g c =
    can_tell g.D.FaultDir.planned 2 c.stop_job_in.new.places.items (ledger_room g.D.Dir.cells g.D.FaultDir.planned c.args.cluster.now c.cluster.inside.ledger c.met_before.new.ledger c.cluster.inside.places.items c.cluster.inside.tasks 2 c.cluster.view_is c.requires.running c.cluster.invariant c.in_ok-before.ensures.nodes c.as_slice-met.ensures.value c.in_ok-before.ensures.met c.in_ok-before.ensures.room c.in_ok-before.ensures.few) (omega arith) c.in_ok-stop_job_in.ensures.count
    (subst (λ (l : Log). ArePlanned 1 c.as_slice-met.result.now (map (met_in g.D.FaultDir.planned) c.stop_job_in.new.places.items) (printed l)) c.book.ensures.log c.in_ok-must_be_planned.ensures)
    (going_at c.cluster.view_is c.in_ok-before.ensures.nodes c.in_ok-before.ensures.log c.source_of-p.ensures).unanswered

pub cause_of-cause-requires : goal.cause_of-cause-requires
cause_of-cause-requires g c = c.requires.arrives

pub note_refused-requires-clause-rule : goal.note_refused-requires-clause-rule
note_refused-requires-clause-rule g c =
    let k : JobCall g.D.Dir.cells c.args.cluster.now c.cluster.inside.ledger c.met_before.new.ledger c.cluster.inside.places.items c.cluster.inside.tasks c.args.row c.source_of-p.result = job_call (call_of c.cluster.view_is c.requires.running c.cluster.invariant c.in_ok-before.ensures.log c.in_ok-before.ensures.nodes c.in_ok-before.ensures.cut) c.source_of-p.ensures in
    let st = met_stands k.call c.args.row.job.at c.as_slice-met.result.now (map (met_in g.D.FaultDir.planned) c.stop_job_in.new.places.items) in
    subst (λ (cause : Cause). KeepsRule c.met_before.new.ledger.nodes (printed (with_met false c.args.row.job.at 1 c.as_slice-met.result.now (map (met_in g.D.FaultDir.planned) c.stop_job_in.new.places.items) c.met_before.new.ledger.log)) c.args.row.job.at (Refused cause)) (sym c.cause_of-cause.ensures)
    (file_rule (going1 k) c.as_slice-met.result.now (map (met_in g.D.FaultDir.planned) c.stop_job_in.new.places.items) c.args.file.now.fate c.args.file.now.name (not_whole c.args.file.now c.args.fault c.requires.arrives) (log_has k.call (λ (l : Log). MeetsFate c.args.file.now.fate c.args.row.job.at c.args.row.job.node.0 (printed l)) c.requires.met)
    (named_drawn g.D.Dir.cells (run_behind c.args.row.job.at c.as_slice-met.result.now (map (met_in g.D.FaultDir.planned) c.stop_job_in.new.places.items) c.met_before.new.ledger c.args.cluster.now) c.args.cluster.now.ended (behind c.args.row.job.at c.as_slice-met.result.now (map (met_in g.D.FaultDir.planned) c.stop_job_in.new.places.items) c.met_before.new.ledger) c.cluster.inside.places.items c.args.row refl c.requires.running (λ e. (st.0, st.1))
    (runs_met (going1 k) c.as_slice-met.result.now (map (met_in g.D.FaultDir.planned) c.stop_job_in.new.places.items)) (lane_met (going1 k) c.as_slice-met.result.now (map (met_in g.D.FaultDir.planned) c.stop_job_in.new.places.items)) (replica_met (going1 k) c.as_slice-met.result.now (map (met_in g.D.FaultDir.planned) c.stop_job_in.new.places.items)) c.in_ok-next.next c.args.file.now.name c.files_last.ensures c.in_ok-next.ensures c.in_ok-must_be_next.ensures))

pub note_refused-requires-clause-told : goal.note_refused-requires-clause-told
note_refused-requires-clause-told g c =
    subst (λ (cause : Cause). IsSo (with_met false c.args.row.job.at 1 c.as_slice-met.result.now (map (met_in g.D.FaultDir.planned) c.stop_job_in.new.places.items) c.met_before.new.ledger.log) c.args.row.job.at (Refused cause)) (sym c.cause_of-cause.ensures)
    (fate_told c.args.file.now.fate c.args.file.now.name c.args.row.job.at (with_met false c.args.row.job.at 1 c.as_slice-met.result.now (map (met_in g.D.FaultDir.planned) c.stop_job_in.new.places.items) c.met_before.new.ledger.log))

pub note_refused-requires-clause-turn : goal.note_refused-requires-clause-turn
note_refused-requires-clause-turn g c =
    let k : JobCall g.D.Dir.cells c.args.cluster.now c.cluster.inside.ledger c.met_before.new.ledger c.cluster.inside.places.items c.cluster.inside.tasks c.args.row c.source_of-p.result = job_call (call_of c.cluster.view_is c.requires.running c.cluster.invariant c.in_ok-before.ensures.log c.in_ok-before.ensures.nodes c.in_ok-before.ensures.cut) c.source_of-p.ensures in
    broken_turn (going1 k) c.as_slice-met.result.now (map (met_in g.D.FaultDir.planned) c.stop_job_in.new.places.items) c.cause_of-cause.result

pub invariant_of-cluster-2 : goal.invariant_of-cluster-2
invariant_of-cluster-2 g c =
    let k : JobCall g.D.Dir.cells c.args.cluster.now c.cluster.inside.ledger c.met_before.new.ledger c.cluster.inside.places.items c.cluster.inside.tasks c.args.row c.source_of-p.result = job_call (call_of c.cluster.view_is c.requires.running c.cluster.invariant c.in_ok-before.ensures.log c.in_ok-before.ensures.nodes c.in_ok-before.ensures.cut) c.source_of-p.ensures in
    λ running. refused_path k c.as_slice-met.result.now (map (met_in g.D.FaultDir.planned) c.stop_job_in.new.places.items) c.cause_of-cause.result c.note_refused.new.ledger c.stop_job_in.new.places.items None c.files_last.ensures c.note_refused.ensures.legal c.note_refused.ensures.turns
    (subst (λ (cause : Cause). KeepsRule c.met_before.new.ledger.nodes (printed (with_met false c.args.row.job.at 1 c.as_slice-met.result.now (map (met_in g.D.FaultDir.planned) c.stop_job_in.new.places.items) c.met_before.new.ledger.log)) c.args.row.job.at (Refused cause)) (sym c.cause_of-cause.ensures)
    (let st = met_stands k.call c.args.row.job.at c.as_slice-met.result.now (map (met_in g.D.FaultDir.planned) c.stop_job_in.new.places.items) in file_rule (going1 k) c.as_slice-met.result.now (map (met_in g.D.FaultDir.planned) c.stop_job_in.new.places.items) c.args.file.now.fate c.args.file.now.name (not_whole c.args.file.now c.args.fault c.requires.arrives) (log_has k.call (λ (l : Log). MeetsFate c.args.file.now.fate c.args.row.job.at c.args.row.job.node.0 (printed l)) c.requires.met)
    (named_drawn g.D.Dir.cells (run_behind c.args.row.job.at c.as_slice-met.result.now (map (met_in g.D.FaultDir.planned) c.stop_job_in.new.places.items) c.met_before.new.ledger c.args.cluster.now) c.args.cluster.now.ended (behind c.args.row.job.at c.as_slice-met.result.now (map (met_in g.D.FaultDir.planned) c.stop_job_in.new.places.items) c.met_before.new.ledger) c.cluster.inside.places.items c.args.row refl c.requires.running (λ e. (st.0, st.1))
    (runs_met (going1 k) c.as_slice-met.result.now (map (met_in g.D.FaultDir.planned) c.stop_job_in.new.places.items)) (lane_met (going1 k) c.as_slice-met.result.now (map (met_in g.D.FaultDir.planned) c.stop_job_in.new.places.items)) (replica_met (going1 k) c.as_slice-met.result.now (map (met_in g.D.FaultDir.planned) c.stop_job_in.new.places.items)) c.in_ok-next.next c.args.file.now.name c.files_last.ensures c.in_ok-next.ensures c.in_ok-must_be_next.ensures)))
    c.note_refused.ensures.log c.note_refused.ensures.nodes c.note_refused.ensures.cut tt c.in_ok-stop_job_in.ensures.stopped

pub returns-clause-ok : goal.returns-clause-ok
returns-clause-ok g c =
    let k : JobCall g.D.Dir.cells c.args.cluster.now c.cluster.inside.ledger c.met_before.new.ledger c.cluster.inside.places.items c.cluster.inside.tasks c.args.row c.source_of-p.result = job_call (call_of c.cluster.view_is c.requires.running c.cluster.invariant c.in_ok-before.ensures.log c.in_ok-before.ensures.nodes c.in_ok-before.ensures.cut) c.source_of-p.ensures in
    record {
      now = now_behind g.D.FaultDir.planned c.cluster.inside.places.items c.stop_job_in.new.places.items c.args.cluster.now _ c.cluster.inside.ledger c.met_before.new.ledger c.note_refused.new.ledger c.args.row.job.at c.as_slice-met.result.now (map (met_in g.D.FaultDir.planned) c.stop_job_in.new.places.items)
          (λ l. kept (JobEnd c.args.row.job.at.line c.args.row.job.node c.args.row.job.number) ∷ shown c.args.row.job.at (Refused (fate_cause c.args.file.now.fate c.args.file.now.name)) ∷ l) c.cluster.view_is c.in_ok-before.ensures.log c.in_ok-before.ensures.nodes
          (c.note_refused.ensures.log ∙ ap (λ (cause : Cause). kept (JobEnd c.args.row.job.at.line c.args.row.job.node c.args.row.job.number) ∷ shown c.args.row.job.at (Refused cause) ∷ with_met false c.args.row.job.at 1 c.as_slice-met.result.now (map (met_in g.D.FaultDir.planned) c.stop_job_in.new.places.items) c.met_before.new.ledger.log) c.cause_of-cause.ensures)
          c.note_refused.ensures.nodes (c.as_slice-met.ensures.value ∙ c.in_ok-before.ensures.met) refl refl refl;
      files = refused_files k _ c.stop_job_in.new.places.items None c.in_ok-stop_job_in.ensures.stopped (sym (ap (λ (r : Run). r.rest.jobs) c.cluster.view_is)) refl;
      failed = fate_spared c.args.file.now.fate c.args.file.now.name c.args.row.job.node c.args.cluster.now _ (not_whole c.args.file.now c.args.fault c.requires.arrives);
    }

pub returns-clause-rest : goal.returns-clause-rest
returns-clause-rest g c =
    let k : JobCall g.D.Dir.cells c.args.cluster.now c.cluster.inside.ledger c.met_before.new.ledger c.cluster.inside.places.items c.cluster.inside.tasks c.args.row c.source_of-p.result = job_call (call_of c.cluster.view_is c.requires.running c.cluster.invariant c.in_ok-before.ensures.log c.in_ok-before.ensures.nodes c.in_ok-before.ensures.cut) c.source_of-p.ensures in
    stopped_kept k (record { ended = false; nodes = c.note_refused.new.ledger.nodes; log = c.note_refused.new.ledger.log; rest = _ }) _ _ _ _ _ c.stop_job_in.new.places.items (ap (λ (x : Run). x.rest) c.cluster.view_is) refl (c.note_refused.ensures.cut ∙ c.in_ok-before.ensures.cut) None c.in_ok-stop_job_in.ensures.stopped

pub invariant_of-cluster : goal.invariant_of-cluster
invariant_of-cluster g c =
    λ ended. absurd (true≢false ended)

pub returns-in_err-before-clause-err : goal.returns-in_err-before-clause-err
returns-in_err-before-clause-err g c =
    on_any c.from_residual.result (record { ended = refl; nodes = c.met_before.ensures.nodes ∙ ap (λ (x : Run). x.nodes) c.cluster.view_is; log = c.met_before.ensures.log ∙ ap (λ (x : Run). x.log) c.cluster.view_is })

pub invariant_of-cluster-in_err-next : goal.invariant_of-cluster-in_err-next
invariant_of-cluster-in_err-next g c =
    λ ended. absurd (true≢false ended)

pub returns-in_err-next-clause-err : goal.returns-in_err-next-clause-err
returns-in_err-next-clause-err g c =
    on_any c.from_residual-in_err-next.result (record { ended = refl; nodes = c.in_ok-before.ensures.nodes ∙ ap (λ (x : Run). x.nodes) c.cluster.view_is; log = c.in_ok-before.ensures.log ∙ ap (λ (x : Run). x.log) c.cluster.view_is })

pub invariant_of-cluster-in_err-must_be_next : goal.invariant_of-cluster-in_err-must_be_next
invariant_of-cluster-in_err-must_be_next g c =
    λ ended. absurd (true≢false ended)

pub returns-in_err-must_be_next-clause-err : goal.returns-in_err-must_be_next-clause-err
returns-in_err-must_be_next-clause-err g c =
    on_any c.from_residual-in_err-must_be_next.result (record { ended = refl; nodes = c.in_ok-before.ensures.nodes ∙ ap (λ (x : Run). x.nodes) c.cluster.view_is; log = c.in_ok-before.ensures.log ∙ ap (λ (x : Run). x.log) c.cluster.view_is })

pub invariant_of-cluster-in_err-stop_job_in : goal.invariant_of-cluster-in_err-stop_job_in
invariant_of-cluster-in_err-stop_job_in g c =
    λ ended. absurd (true≢false ended)

pub returns-in_err-stop_job_in-clause-err : goal.returns-in_err-stop_job_in-clause-err
returns-in_err-stop_job_in-clause-err g c =
    on_any c.from_residual-in_err-stop_job_in.result (record { ended = refl; nodes = c.in_ok-before.ensures.nodes ∙ ap (λ (x : Run). x.nodes) c.cluster.view_is; log = c.in_ok-before.ensures.log ∙ ap (λ (x : Run). x.log) c.cluster.view_is })

pub invariant_of-cluster-in_err-must_be_planned : goal.invariant_of-cluster-in_err-must_be_planned
invariant_of-cluster-in_err-must_be_planned g c =
    λ ended. absurd (true≢false ended)

pub returns-in_err-must_be_planned-clause-err : goal.returns-in_err-must_be_planned-clause-err
returns-in_err-must_be_planned-clause-err g c =
    on_any c.from_residual-in_err-must_be_planned.result (record { ended = refl; nodes = c.in_ok-before.ensures.nodes ∙ ap (λ (x : Run). x.nodes) c.cluster.view_is; log = c.in_ok-before.ensures.log ∙ ap (λ (x : Run). x.log) c.cluster.view_is })
