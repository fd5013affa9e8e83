use Rattle.std.proofs.Common.{false, ◌≢◌, ◌∙◌, ◌∷◌, ℕ, Some, None, ap, refl, sym, subst, arith, map, true≢false}
use Rattle.nrt_base.specs.declared.numbers.Version.{Version}
use Rattle.history_rules.specs.declared.cause.Cause.TheVariants.{DiskFault}
use Rattle.history_rules.specs.declared.entry.Event.TheVariants.{Refused}
use Rattle.history_rules.specs.Nodes.{newest_version}
use Rattle.history_rules.specs.Lines.{is_answered}
use Rattle.history_tables.specs.Begins.{open_line}
use Rattle.history_book.specs.Log.{Log, printed, shown, kept}
use Rattle.history_book.specs.declared.inner.Inner.TheVariants.{JobBegun}
use Rattle.cluster_nodes.specs.declared.went.Went.{Went}
use Rattle.cluster_nodes.specs.Went.{ByWent}
use Rattle.cluster_nodes.specs.JobPlaces.{AltersIn, BeginsIn}
use Rattle.cluster_state.specs.Run.{Run}
use Rattle.cluster_state.specs.Met.{met_in, failures_by_plan, ArePlanned}
use Rattle.cluster_state.specs.PlansIn.{plans_in}
use Rattle.cluster_state.proofs.Ledgers.{asked_of, legal_of, told_of}
use Rattle.cluster_state.proofs.MergingPaths.{two_parts, three_parts}
use Rattle.cluster_state.proofs.MergingStill.{stand_kept}
use Rattle.cluster_state.proofs.MetStands.{on_any, behind, run_behind, met_as_told, now_behind, fails_as_told}
use Rattle.cluster_copies.proofs.CopyPaths.{can_begin_settling, settle_path, settle_turn, settle_job_begun}
use Rattle.cluster_copies.proofs.TakingOver.{taken_by}
use Rattle.cluster_copies.proofs.JobMerges.{begun_stand}
use Rattle.cluster_copies.proofs.MetLines.{met_words, line_still, source_still, waits_still}
use Rattle.cluster_copies.proofs.Calls.{call_of, ledger_room, can_tell, met_stands, altered_files, SettleCall, settle_started, settle_line, settle_survives, settle_waits, settle_primary, settle_older, settle_newest, settle_source, settle_rule, settle_fail_turn, no_settle_path}
use Rattle.cluster_state.proofs.KeptOthers.{all_kept, but_job}
use Rattle.cluster_copies.proofs.KeptJobs.{altered_tells, begun_tells}
use Rattle.cluster_copies.proofs.copies.begin_settling.Goals as goal

pub is_unanswered-requires : goal.is_unanswered-requires
is_unanswered-requires g c = asked_of (λ (l : Log). open_line c.args.at (printed l) ≢ None) c.cluster.view_is c.book-book.ensures.log c.requires.line

pub begin_in-requires : goal.begin_in-requires
begin_in-requires g c = can_begin_settling g.D.Dir.cells c.args.cluster.now _ _ _ _ c.args.at c.args.p c.args.n c.args.v c.cluster.view_is c.requires.running (two_parts c.cluster.invariant) (legal_of c.book-book.ensures.nodes c.book-book.ensures.log c.is_legal.ensures.legal) c.requires.started c.requires.waits c.requires.source c.requires.primary

pub must_be_planned-requires-clause-count : goal.must_be_planned-requires-clause-count
must_be_planned-requires-clause-count g c =
    (ledger_room g.D.Dir.cells g.D.FaultDir.planned c.args.cluster.now c.cluster.inside.ledger c.met_before.new.ledger c.cluster.inside.places.items c.cluster.inside.tasks 1 c.cluster.view_is c.requires.running c.cluster.invariant c.in_ok-before.ensures.nodes c.as_slice-met.ensures.value c.in_ok-before.ensures.met c.in_ok-before.ensures.room c.in_ok-before.ensures.few).count ∙ sym c.book.ensures.nodes

pub must_be_planned-requires-clause-places : goal.must_be_planned-requires-clause-places
must_be_planned-requires-clause-places g c =
    c.in_ok-begun.ensures.count ∙ ((ledger_room g.D.Dir.cells g.D.FaultDir.planned c.args.cluster.now c.cluster.inside.ledger c.met_before.new.ledger c.cluster.inside.places.items c.cluster.inside.tasks 1 c.cluster.view_is c.requires.running c.cluster.invariant c.in_ok-before.ensures.nodes c.as_slice-met.ensures.value c.in_ok-before.ensures.met c.in_ok-before.ensures.room c.in_ok-before.ensures.few).nodes ∙ sym c.book.ensures.nodes)

pub note_job-requires-clause-tells : goal.note_job-requires-clause-tells
note_job-requires-clause-tells g c =
    can_tell g.D.FaultDir.planned 1 c.begin_in.new.places.items (ledger_room g.D.Dir.cells g.D.FaultDir.planned c.args.cluster.now c.cluster.inside.ledger c.met_before.new.ledger c.cluster.inside.places.items c.cluster.inside.tasks 1 c.cluster.view_is c.requires.running c.cluster.invariant c.in_ok-before.ensures.nodes c.as_slice-met.ensures.value c.in_ok-before.ensures.met c.in_ok-before.ensures.room c.in_ok-before.ensures.few) (omega arith) c.in_ok-begun.ensures.count
    (subst (λ (l : Log). ArePlanned 1 c.as_slice-met.result.now (map (met_in g.D.FaultDir.planned) c.begin_in.new.places.items) (printed l)) c.book.ensures.log c.in_ok-must_be_planned.ensures)
    (ap (λ (l : Log). is_answered c.args.at (printed l)) (sym (c.book-book.ensures.log ∙ sym c.in_ok-before.ensures.log)) ∙ c.is_unanswered.ensures)

pub note_failed-requires-clause-tells : goal.note_failed-requires-clause-tells
note_failed-requires-clause-tells g c =
    can_tell g.D.FaultDir.planned 1 c.begin_in.new.places.items (ledger_room g.D.Dir.cells g.D.FaultDir.planned c.args.cluster.now c.cluster.inside.ledger c.met_before.new.ledger c.cluster.inside.places.items c.cluster.inside.tasks 1 c.cluster.view_is c.requires.running c.cluster.invariant c.in_ok-before.ensures.nodes c.as_slice-met.ensures.value c.in_ok-before.ensures.met c.in_ok-before.ensures.room c.in_ok-before.ensures.few) (omega arith) c.in_ok-begun.ensures.count
    (subst (λ (l : Log). ArePlanned 1 c.as_slice-met.result.now (map (met_in g.D.FaultDir.planned) c.begin_in.new.places.items) (printed l)) c.book.ensures.log c.in_ok-must_be_planned.ensures)
    (ap (λ (l : Log). is_answered c.args.at (printed l)) (sym (c.book-book.ensures.log ∙ sym c.in_ok-before.ensures.log)) ∙ c.is_unanswered.ensures)

pub note_job-requires-clause-inside : goal.note_job-requires-clause-inside
note_job-requires-clause-inside g c =
    let k : SettleCall g.D.Dir.cells c.args.cluster.now c.cluster.inside.ledger c.met_before.new.ledger c.cluster.inside.places.items c.cluster.inside.tasks c.args.at c.args.p c.args.n (record { 0 = c.newest.result }) c.args.v = record {
      call = call_of c.cluster.view_is c.requires.running c.cluster.invariant c.in_ok-before.ensures.log c.in_ok-before.ensures.nodes c.in_ok-before.ensures.cut;
      legal = legal_of c.book-book.ensures.nodes c.book-book.ensures.log c.is_legal.ensures.legal;
      started = c.requires.started;
      line = c.requires.line;
      node_p = c.requires.source;
      primary = c.requires.primary;
      survives = c.requires.survives;
      waits = c.requires.waits;
      older = c.requires.older;
      newest = told_of c.book-book.ensures.log newest_version c.newest.ensures;
    } in (
      refl,
      settle_turn (run_behind c.args.at c.as_slice-met.result.now (map (met_in g.D.FaultDir.planned) c.begin_in.new.places.items) c.met_before.new.ledger c.args.cluster.now) (behind c.args.at c.as_slice-met.result.now (map (met_in g.D.FaultDir.planned) c.begin_in.new.places.items) c.met_before.new.ledger) c.args.at c.args.n (record { 0 = c.newest.result }) c.args.v refl refl (settle_line k c.as_slice-met.result.now (map (met_in g.D.FaultDir.planned) c.begin_in.new.places.items)) (settle_started k c.as_slice-met.result.now (map (met_in g.D.FaultDir.planned) c.begin_in.new.places.items)) (settle_survives k c.as_slice-met.result.now (map (met_in g.D.FaultDir.planned) c.begin_in.new.places.items)) (settle_waits k c.as_slice-met.result.now (map (met_in g.D.FaultDir.planned) c.begin_in.new.places.items)) (settle_newest k c.as_slice-met.result.now (map (met_in g.D.FaultDir.planned) c.begin_in.new.places.items)) (settle_older k c.as_slice-met.result.now (map (met_in g.D.FaultDir.planned) c.begin_in.new.places.items)),
    )

pub must_have_risen-requires : goal.must_have_risen-requires
must_have_risen-requires g c =
    let r = ledger_room g.D.Dir.cells g.D.FaultDir.planned c.args.cluster.now c.cluster.inside.ledger c.met_before.new.ledger c.cluster.inside.places.items c.cluster.inside.tasks 1 c.cluster.view_is c.requires.running c.cluster.invariant c.in_ok-before.ensures.nodes c.as_slice-met.ensures.value c.in_ok-before.ensures.met c.in_ok-before.ensures.room c.in_ok-before.ensures.few in
    c.in_ok-begun.ensures.count ∙ (r.nodes ∙ sym r.count)

pub note_failed-requires-clause-rule : goal.note_failed-requires-clause-rule
note_failed-requires-clause-rule g c =
    let k : SettleCall g.D.Dir.cells c.args.cluster.now c.cluster.inside.ledger c.met_before.new.ledger c.cluster.inside.places.items c.cluster.inside.tasks c.args.at c.args.p c.args.n (record { 0 = c.newest.result }) c.args.v = record {
      call = call_of c.cluster.view_is c.requires.running c.cluster.invariant c.in_ok-before.ensures.log c.in_ok-before.ensures.nodes c.in_ok-before.ensures.cut;
      legal = legal_of c.book-book.ensures.nodes c.book-book.ensures.log c.is_legal.ensures.legal;
      started = c.requires.started;
      line = c.requires.line;
      node_p = c.requires.source;
      primary = c.requires.primary;
      survives = c.requires.survives;
      waits = c.requires.waits;
      older = c.requires.older;
      newest = told_of c.book-book.ensures.log newest_version c.newest.ensures;
    } in
    settle_rule k c.as_slice-met.result.now (map (met_in g.D.FaultDir.planned) c.begin_in.new.places.items) c.in_ok-must_have_risen-in-Failed.ensures

pub note_failed-requires-clause-turn : goal.note_failed-requires-clause-turn
note_failed-requires-clause-turn g c =
    let k : SettleCall g.D.Dir.cells c.args.cluster.now c.cluster.inside.ledger c.met_before.new.ledger c.cluster.inside.places.items c.cluster.inside.tasks c.args.at c.args.p c.args.n (record { 0 = c.newest.result }) c.args.v = record {
      call = call_of c.cluster.view_is c.requires.running c.cluster.invariant c.in_ok-before.ensures.log c.in_ok-before.ensures.nodes c.in_ok-before.ensures.cut;
      legal = legal_of c.book-book.ensures.nodes c.book-book.ensures.log c.is_legal.ensures.legal;
      started = c.requires.started;
      line = c.requires.line;
      node_p = c.requires.source;
      primary = c.requires.primary;
      survives = c.requires.survives;
      waits = c.requires.waits;
      older = c.requires.older;
      newest = told_of c.book-book.ensures.log newest_version c.newest.ensures;
    } in
    settle_fail_turn k c.as_slice-met.result.now (map (met_in g.D.FaultDir.planned) c.begin_in.new.places.items)

pub invariant_of-cluster-in-Done : goal.invariant_of-cluster-in-Done
invariant_of-cluster-in-Done g c =
    let k : SettleCall g.D.Dir.cells c.args.cluster.now c.cluster.inside.ledger c.met_before.new.ledger c.cluster.inside.places.items c.cluster.inside.tasks c.args.at c.args.p c.args.n (record { 0 = c.newest.result }) c.args.v = record {
      call = call_of c.cluster.view_is c.requires.running c.cluster.invariant c.in_ok-before.ensures.log c.in_ok-before.ensures.nodes c.in_ok-before.ensures.cut;
      legal = legal_of c.book-book.ensures.nodes c.book-book.ensures.log c.is_legal.ensures.legal;
      started = c.requires.started;
      line = c.requires.line;
      node_p = c.requires.source;
      primary = c.requires.primary;
      survives = c.requires.survives;
      waits = c.requires.waits;
      older = c.requires.older;
      newest = told_of c.book-book.ensures.log newest_version c.newest.ensures;
    } in
    let st = met_stands k.call c.args.at c.as_slice-met.result.now (map (met_in g.D.FaultDir.planned) c.begin_in.new.places.items) in
    let b = (subst (λ (x : Went ℕ). ByWent (λ number. BeginsIn g.D.Dir.cells c.args.p.0 c.args.n.0 number c.cluster.inside.places.items c.begin_in.new.places.items) (AltersIn g.D.Dir.cells c.args.p.0 c.cluster.inside.places.items c.begin_in.new.places.items) x) c.in-Done.is c.in_ok-begun.ensures.went) in
    λ running. three_parts
    (settle_path g.D.Dir.cells (run_behind c.args.at c.as_slice-met.result.now (map (met_in g.D.FaultDir.planned) c.begin_in.new.places.items) c.met_before.new.ledger c.args.cluster.now) c.args.cluster.now.ended (behind c.args.at c.as_slice-met.result.now (map (met_in g.D.FaultDir.planned) c.begin_in.new.places.items) c.met_before.new.ledger) (behind c.args.at c.as_slice-met.result.now (map (met_in g.D.FaultDir.planned) c.begin_in.new.places.items) c.met_before.new.ledger) c.note_job.new.ledger c.cluster.inside.places.items c.begin_in.new.places.items c.args.at c.args.p c.args.n (record { 0 = c.newest.result }) c.args.v c.in-Done.job
    refl c.requires.running (λ e. (st.0, st.1)) refl refl c.note_job.ensures.log c.note_job.ensures.nodes c.note_job.ensures.legal c.files_last.ensures (settle_newest k c.as_slice-met.result.now (map (met_in g.D.FaultDir.planned) c.begin_in.new.places.items))
    (settle_started k c.as_slice-met.result.now (map (met_in g.D.FaultDir.planned) c.begin_in.new.places.items)) (settle_waits k c.as_slice-met.result.now (map (met_in g.D.FaultDir.planned) c.begin_in.new.places.items)) (settle_source k c.as_slice-met.result.now (map (met_in g.D.FaultDir.planned) c.begin_in.new.places.items)) (settle_primary k c.as_slice-met.result.now (map (met_in g.D.FaultDir.planned) c.begin_in.new.places.items)) (settle_older k c.as_slice-met.result.now (map (met_in g.D.FaultDir.planned) c.begin_in.new.places.items)) b)
    (stand_kept c.cluster.inside.tasks c.cluster.inside.places.items c.begin_in.new.places.items (behind c.args.at c.as_slice-met.result.now (map (met_in g.D.FaultDir.planned) c.begin_in.new.places.items) c.met_before.new.ledger) c.note_job.new.ledger (JobBegun c.args.at.line c.args.n c.in-Done.job (Some (record { 0 = c.newest.result })) (Some c.args.at)) c.note_job.ensures.log c.note_job.ensures.nodes c.note_job.ensures.cut refl
    (begun_stand g.D.Dir.cells (run_behind c.args.at c.as_slice-met.result.now (map (met_in g.D.FaultDir.planned) c.begin_in.new.places.items) c.met_before.new.ledger c.args.cluster.now) c.args.cluster.now.ended (behind c.args.at c.as_slice-met.result.now (map (met_in g.D.FaultDir.planned) c.begin_in.new.places.items) c.met_before.new.ledger) c.cluster.inside.places.items c.begin_in.new.places.items c.args.p c.args.n c.in-Done.job refl c.requires.running (λ e. (st.0, st.1)) (settle_source k c.as_slice-met.result.now (map (met_in g.D.FaultDir.planned) c.begin_in.new.places.items)) (settle_waits k c.as_slice-met.result.now (map (met_in g.D.FaultDir.planned) c.begin_in.new.places.items)).node (settle_primary k c.as_slice-met.result.now (map (met_in g.D.FaultDir.planned) c.begin_in.new.places.items)) b) st.2)

pub returns-in-Done-clause-ok : goal.returns-in-Done-clause-ok
returns-in-Done-clause-ok g c =
    let w = met_words c.args.at c.args.at (map failures_by_plan c.args.cluster.now.rest.plans) (map failures_by_plan (plans_in g.D.FaultDir.planned c.begin_in.new.places.items)) c.args.cluster.now.log in
    settle_job_begun c.args.cluster.now _ _ c.args.at c.args.n (record { 0 = c.newest.result }) c.args.v c.in-Done.job refl
    (c.note_job.ensures.nodes ∙ (c.in_ok-before.ensures.nodes ∙ ap (λ (r : Run). r.nodes) c.cluster.view_is)) (ap (λ (k : ℕ). let v : Version = record { 0 = k } in v) (told_of c.book-book.ensures.log newest_version c.newest.ensures ∙ ap (λ (r : Run). newest_version (printed r.log)) c.cluster.view_is))
    (c.note_job.ensures.log ∙ ap (λ (l : Log). kept (JobBegun c.args.at.line c.args.n c.in-Done.job (Some (record { 0 = c.newest.result })) (Some c.args.at)) ∷ l) (met_as_told g.D.FaultDir.planned c.cluster.inside.places.items c.begin_in.new.places.items c.args.cluster.now _ c.cluster.inside.ledger c.met_before.new.ledger c.args.at c.as_slice-met.result.now (map (met_in g.D.FaultDir.planned) c.begin_in.new.places.items)
    c.cluster.view_is c.in_ok-before.ensures.log (c.as_slice-met.ensures.value ∙ c.in_ok-before.ensures.met) refl refl refl))
    (line_still c.args.at c.args.cluster.now.log _ w c.requires.line) (waits_still c.args.at c.args.cluster.now.log _ w c.args.cluster.now.nodes c.args.v.0 c.args.n c.requires.waits) (source_still c.args.at c.args.cluster.now.log _ w c.requires.survives)
    (taken_by g.D.Dir.cells c.args.cluster.now _ _ c.cluster.inside.ledger c.cluster.inside.places.items c.begin_in.new.places.items c.args.p c.args.n c.in-Done.job c.cluster.view_is c.requires.running (two_parts c.cluster.invariant) c.files_last.ensures refl refl c.requires.source c.requires.waits.node (subst (λ (x : Went ℕ). ByWent (λ number. BeginsIn g.D.Dir.cells c.args.p.0 c.args.n.0 number c.cluster.inside.places.items c.begin_in.new.places.items) (AltersIn g.D.Dir.cells c.args.p.0 c.cluster.inside.places.items c.begin_in.new.places.items) x) c.in-Done.is c.in_ok-begun.ensures.went))

pub returns-in-Done-clause-rest : goal.returns-in-Done-clause-rest
returns-in-Done-clause-rest g c =
    but_job c.args.cluster.now _ _ _ _ _ _ _ c.cluster.inside.places.items c.begin_in.new.places.items (ap (λ (x : Run). x.rest) c.cluster.view_is) refl (c.note_job.ensures.cut ∙ c.in_ok-before.ensures.cut) c.args.n.0
    (begun_tells g.D.Dir.cells c.args.p.0 c.args.n.0 c.in-Done.job c.cluster.inside.places.items c.begin_in.new.places.items (subst (λ (x : Went ℕ). ByWent (λ number. BeginsIn g.D.Dir.cells c.args.p.0 c.args.n.0 number c.cluster.inside.places.items c.begin_in.new.places.items) (AltersIn g.D.Dir.cells c.args.p.0 c.cluster.inside.places.items c.begin_in.new.places.items) x) c.in-Done.is c.in_ok-begun.ensures.went))

pub invariant_of-cluster-in-Failed : goal.invariant_of-cluster-in-Failed
invariant_of-cluster-in-Failed g c =
    let k : SettleCall g.D.Dir.cells c.args.cluster.now c.cluster.inside.ledger c.met_before.new.ledger c.cluster.inside.places.items c.cluster.inside.tasks c.args.at c.args.p c.args.n (record { 0 = c.newest.result }) c.args.v = record {
      call = call_of c.cluster.view_is c.requires.running c.cluster.invariant c.in_ok-before.ensures.log c.in_ok-before.ensures.nodes c.in_ok-before.ensures.cut;
      legal = legal_of c.book-book.ensures.nodes c.book-book.ensures.log c.is_legal.ensures.legal;
      started = c.requires.started;
      line = c.requires.line;
      node_p = c.requires.source;
      primary = c.requires.primary;
      survives = c.requires.survives;
      waits = c.requires.waits;
      older = c.requires.older;
      newest = told_of c.book-book.ensures.log newest_version c.newest.ensures;
    } in
    λ running. no_settle_path k c.as_slice-met.result.now (map (met_in g.D.FaultDir.planned) c.begin_in.new.places.items) c.note_failed.new.ledger c.begin_in.new.places.items c.note_failed.ensures.legal c.note_failed.ensures.turns c.in_ok-must_have_risen-in-Failed.ensures c.note_failed.ensures.log c.note_failed.ensures.nodes c.note_failed.ensures.cut (subst (λ (x : Went ℕ). ByWent (λ number. BeginsIn g.D.Dir.cells c.args.p.0 c.args.n.0 number c.cluster.inside.places.items c.begin_in.new.places.items) (AltersIn g.D.Dir.cells c.args.p.0 c.cluster.inside.places.items c.begin_in.new.places.items) x) c.in-Failed.is c.in_ok-begun.ensures.went)

pub returns-clause-ok : goal.returns-clause-ok
returns-clause-ok g c =
    record {
      now = now_behind g.D.FaultDir.planned c.cluster.inside.places.items c.begin_in.new.places.items c.args.cluster.now _ c.cluster.inside.ledger c.met_before.new.ledger c.note_failed.new.ledger c.args.at c.as_slice-met.result.now (map (met_in g.D.FaultDir.planned) c.begin_in.new.places.items)
          (λ l. shown c.args.at (Refused DiskFault) ∷ l) c.cluster.view_is c.in_ok-before.ensures.log c.in_ok-before.ensures.nodes c.note_failed.ensures.log c.note_failed.ensures.nodes (c.as_slice-met.ensures.value ∙ c.in_ok-before.ensures.met) refl refl refl;
      files = altered_files c.args.cluster.now _ c.cluster.inside.places.items c.begin_in.new.places.items (sym (ap (λ (r : Run). r.rest.jobs) c.cluster.view_is)) refl g.D.Dir.cells c.args.p.0 c.args.n.0 (subst (λ (x : Went ℕ). ByWent (λ number. BeginsIn g.D.Dir.cells c.args.p.0 c.args.n.0 number c.cluster.inside.places.items c.begin_in.new.places.items) (AltersIn g.D.Dir.cells c.args.p.0 c.cluster.inside.places.items c.begin_in.new.places.items) x) c.in-Failed.is c.in_ok-begun.ensures.went);
      failed = record {
        p = c.args.p;
        primary = c.requires.primary;
        risen = fails_as_told g.D.FaultDir.planned c.cluster.inside.places.items c.begin_in.new.places.items c.args.cluster.now _ c.cluster.inside.ledger c.args.p c.as_slice-met.result.now (map (met_in g.D.FaultDir.planned) c.begin_in.new.places.items) c.cluster.view_is
            (c.as_slice-met.ensures.value ∙ c.in_ok-before.ensures.met) refl refl refl c.in_ok-must_have_risen-in-Failed.ensures;
      };
    }

pub returns-clause-rest : goal.returns-clause-rest
returns-clause-rest g c =
    all_kept c.args.cluster.now (record { ended = false; nodes = c.note_failed.new.ledger.nodes; log = c.note_failed.new.ledger.log; rest = _ }) _ _ _ _ _ _ c.cluster.inside.places.items c.begin_in.new.places.items (ap (λ (x : Run). x.rest) c.cluster.view_is) refl (c.note_failed.ensures.cut ∙ c.in_ok-before.ensures.cut)
    (altered_tells g.D.Dir.cells c.args.p.0 c.cluster.inside.places.items c.begin_in.new.places.items (subst (λ (x : Went ℕ). ByWent (λ number. BeginsIn g.D.Dir.cells c.args.p.0 c.args.n.0 number c.cluster.inside.places.items c.begin_in.new.places.items) (AltersIn g.D.Dir.cells c.args.p.0 c.cluster.inside.places.items c.begin_in.new.places.items) x) c.in-Failed.is c.in_ok-begun.ensures.went))

pub invariant_of-cluster : goal.invariant_of-cluster
invariant_of-cluster g c =
    λ ended. absurd (true≢false ended)

pub returns-in_err-before-clause-err : goal.returns-in_err-before-clause-err
returns-in_err-before-clause-err g c =
    on_any c.from_residual.result (record { ended = refl; nodes = c.met_before.ensures.nodes ∙ ap (λ (x : Run). x.nodes) c.cluster.view_is; log = c.met_before.ensures.log ∙ ap (λ (x : Run). x.log) c.cluster.view_is })

pub invariant_of-cluster-in_err-begun : goal.invariant_of-cluster-in_err-begun
invariant_of-cluster-in_err-begun g c =
    λ ended. absurd (true≢false ended)

pub returns-in_err-begun-clause-err : goal.returns-in_err-begun-clause-err
returns-in_err-begun-clause-err g c =
    on_any c.from_residual-in_err-begun.result (record { ended = refl; nodes = c.in_ok-before.ensures.nodes ∙ ap (λ (x : Run). x.nodes) c.cluster.view_is; log = c.in_ok-before.ensures.log ∙ ap (λ (x : Run). x.log) c.cluster.view_is })

pub invariant_of-cluster-in_err-must_be_planned : goal.invariant_of-cluster-in_err-must_be_planned
invariant_of-cluster-in_err-must_be_planned g c =
    λ ended. absurd (true≢false ended)

pub returns-in_err-must_be_planned-clause-err : goal.returns-in_err-must_be_planned-clause-err
returns-in_err-must_be_planned-clause-err g c =
    on_any c.from_residual-in_err-must_be_planned.result (record { ended = refl; nodes = c.in_ok-before.ensures.nodes ∙ ap (λ (x : Run). x.nodes) c.cluster.view_is; log = c.in_ok-before.ensures.log ∙ ap (λ (x : Run). x.log) c.cluster.view_is })

pub invariant_of-cluster-in_err-must_have_risen-in-Failed : goal.invariant_of-cluster-in_err-must_have_risen-in-Failed
invariant_of-cluster-in_err-must_have_risen-in-Failed g c =
    λ ended. absurd (true≢false ended)

pub returns-in_err-must_have_risen-in-Failed-clause-err : goal.returns-in_err-must_have_risen-in-Failed-clause-err
returns-in_err-must_have_risen-in-Failed-clause-err g c =
    on_any c.from_residual-in_err-must_have_risen-in-Failed.result (record { ended = refl; nodes = c.in_ok-before.ensures.nodes ∙ ap (λ (x : Run). x.nodes) c.cluster.view_is; log = c.in_ok-before.ensures.log ∙ ap (λ (x : Run). x.log) c.cluster.view_is })
