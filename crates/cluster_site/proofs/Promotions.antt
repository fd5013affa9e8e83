-- What a promotion does where there may be a log: its own entry, and then what is accepted again.
use Rattle.std.proofs.Common.{◌≡◌, ◌≢◌, ◌+◌, ◌∷◌, ◌++◌, ◌||◌, ℕ, Bool, true, false, List, [], Option, Some, None, refl, ap, ◌∙◌, sym, subst, true≢false, drop, length, map}
use Rattle.std.specs.Prelude.{Result, Ok, Err, OnOk, OnErr, is_some}
use Rattle.std.proofs.lemmas.List.{drop-map}
use Rattle.nrt_base.specs.declared.numbers.At.{At}
use Rattle.nrt_base.specs.declared.numbers.NodeNo.{NodeNo}
use Rattle.documents.specs.declared.operation.Op.{Op}
use Rattle.disk_model.specs.Disk.{Cells}
use Rattle.disk_model.specs.Faults.{Plans}
use Rattle.history_rules.specs.declared.cause.Cause.{Cause}
use Rattle.history_rules.specs.declared.cause.FaultKind.{FaultKind}
use Rattle.history_rules.specs.declared.entry.Event.{Event}
use Rattle.history_rules.specs.declared.entry.Event.TheVariants.{Promoted, Refused}
use Rattle.history_rules.specs.Nodes.{Past, generation_of}
use Rattle.history_rules.specs.Lines.{is_answered, start_entry, entries_of_line}
use Rattle.history_rules.specs.Points.{operations_at}
use Rattle.history_tables.proofs.RowLemmas.{same_at_self}
use Rattle.history_book.specs.Laws.{IsFresh}
use Rattle.history_book.specs.Log.{Log, printed, shown}
use Rattle.history_book.proofs.FreshLaws.{fresh}
use Rattle.script_serving.specs.declared.script.Force.{Force}
use Rattle.script_serving.specs.declared.script.LineCommand.{LineCommand}
use Rattle.script_serving.specs.declared.script.LineCommand.TheVariants.{Promote}
use Rattle.script_serving.specs.Refusals.{forced_version, refusal}
use Rattle.script_serving.specs.Replays.{logged_operations, due}
use Rattle.script_serving.specs.Serves.{First}
use Rattle.lane_threads.specs.Owes.{SuitsOrFault, SuitsOrReplays, AddsEntries, GoesByLine}
use Rattle.lane_threads.proofs.WalkLemmas.{call_faults, log_then}
use Rattle.lane_threads.proofs.IdleLemmas.{apart_none, apart_first}
use Rattle.trans_log.specs.declared.record.LogOp.{LogOp}
use Rattle.trans_log.specs.declared.log.TransLog.{TransLog}
use Rattle.cluster_state.specs.Run.{Run, IsNow, IsEnded}
use Rattle.cluster_state.specs.Met.{failures_by_plan, fault_by, with_met}
use Rattle.cluster_state.specs.GivesUp.{met_log}
use Rattle.cluster_state.proofs.Faulted.{met_has}
use Rattle.cluster_state.specs.Calls.{by_refusal}
use Rattle.cluster_core.specs.Given.{promote_event}
use Rattle.cluster_core.specs.Doing.{IsReplied}
use Rattle.cluster_core.proofs.MetDoes.{Meets, met_meets, met_forced, adds_then, behind_goes, first_behind}
use Rattle.cluster_site.specs.Sites.{SiteRun, SiteStands, AreLogged, IsInStep, DoesAtSite, records_of, is_logged}
use Rattle.cluster_site.specs.Replays.{with_accepted, with_replay, with_promotion, newest_promoted, MayAcceptAgain, OwesRecords, OwesLacking, AcceptsRecords, AcceptsLacking}
use Rattle.cluster_site.proofs.Replays.{some_none}
use Rattle.cluster_site.proofs.Stands.{site_of, runs_was}

-- ---- what a line added joins

goes_join : (logged : Bool) (command : LineCommand) (at : At) (old mid new : Log) → GoesByLine logged command at old mid → GoesByLine logged command at mid new → GoesByLine logged command at old new
goes_join logged command at old mid new h k = record {
  more = k.more ++ h.more;
  log = log_then old mid new h.more k.more h.log k.log;
  adds = adds_then logged command at k.more h.more old (subst (λ (l : Log). AddsEntries logged command at k.more l) h.log k.adds) h.adds;
}

-- where no memory was found nothing was added
pub ended_goes : {D : Type 0} (command : LineCommand) (at : At) (old new : Run) (log : Option (TransLog D)) (s : SiteRun) → site_of old log ≡ s → IsEnded old new → GoesByLine (is_logged s) command at s.run.log new.log
ended_goes command at old new log s view ends =
    subst (λ (z : SiteRun). GoesByLine (is_logged z) command at z.run.log new.log) view (record { more = []; log = ends.log; adds = tt })

-- ---- the promotion's entry

none_due : (kept : Option (List LogOp)) (past : Past) → IsInStep kept past → due (is_some kept) past ≡ []
none_due None past step = refl
none_due (Some records) past step = step.replayed

module _ (n : NodeNo) (force : Force) (at : At) where
  -- what the line does where it is not refused
  abbrev promotion : Past → Event
  promotion past = let forced = forced_version force past in
      Promoted n (record { 0 = generation_of past + 1 }) (record { 0 = forced }) (record { 0 = forced + 1 })

  -- the entries with it, behind the faults that it met
  abbrev behind : Past → Past → Option Cause → Past
  behind start past o = record { at = at; event = by_refusal o (promotion start) } ∷ past

  -- the log behind the faults that the line met: the promotion finds there what it found before them
  record FindsAgain (kept : Option (List LogOp)) (old met : Log) : Type 0 where
    meets : Meets (is_some kept) (Promote n force) at old met
    forced : forced_version force (printed met) ≡ forced_version force (printed old)
    begun : start_entry at (printed met) ≡ None
    logged : logged_operations (printed met) ≡ logged_operations (printed old)
    step : IsInStep kept (printed met)

  step_over : (kept : Option (List LogOp)) (k : ℕ) (kind : FaultKind) (log : Log) → IsInStep kept (printed log) → IsInStep kept (printed (fault_by false at k kind ∷ log))
  step_over None k kind log step = tt
  step_over (Some records) k kind log step = record { operations = step.operations; replayed = step.replayed }

  finds_again : (kept : Option (List LogOp)) (old mid : Run) → IsInStep kept (printed old.log) → IsFresh at (printed old.log) → FindsAgain kept old.log (met_log at old mid)
  finds_again kept old mid step new_line = record {
    meets = met_meets (is_some kept) (Promote n force) at old mid (none_due kept (printed old.log) step) new_line.replied;
    forced = met_forced force at old mid;
    begun = over (λ l. start_entry at (printed l) ≡ None) (λ k kind l is. is) new_line.begun;
    logged = over (λ l. logged_operations (printed l) ≡ logged_operations (printed old.log)) (λ k kind l is. is) refl;
    step = over (λ l. IsInStep kept (printed l)) (λ k kind l is. step_over kept k kind l is) step;
  }
    where
      over : (P : Log → Type 0) → ((k : ℕ) (kind : FaultKind) (l : Log) → P l → P (fault_by false at k kind ∷ l)) → P old.log → P (met_log at old mid)
      over P one was = met_has P false at one 1 (map failures_by_plan old.rest.plans) (map failures_by_plan mid.rest.plans) old.log was

  promotion_suits : (kept : Option (List LogOp)) (old met : Log) → FindsAgain kept old met → IsFresh at (printed old) → SuitsOrFault (Promote n force) at (printed met) (promote_event at.lane.0 n force (printed old))
  promotion_suits kept old met f new_line = by (refusal (Promote n force) at.lane.0 (printed old)) refl
    where
      by : (o : Option Cause) → refusal (Promote n force) at.lane.0 (printed old) ≡ o → SuitsOrFault (Promote n force) at (printed met) (by_refusal o (promotion (printed old)))
      by None is =
          first_behind (Promote n force) at old met (promotion (printed old)) f.meets new_line
          (subst (λ (r : Option Cause). First (Promote n force) at (printed met) r (promotion (printed old))) (sym is) (refl, sym f.forced))
      by (Some cause) is =
          first_behind (Promote n force) at old met (Refused cause) f.meets new_line (subst (λ (r : Option Cause). First (Promote n force) at (printed met) r (Refused cause)) (sym is) refl)

  promotion_may : (start past : Past) → start_entry at past ≡ None → MayAcceptAgain at (record { at = at; event = promotion start } ∷ past)
  promotion_may start past begun = record {
    newest = same_at_self at;
    replied = ap (λ (b : Bool). b || is_answered at past) (same_at_self at);
    begun = begun;
    primary = λ none. some_none n none;
  }

  promotion_goes : (kept : Option (List LogOp)) (old met mid : Log) → FindsAgain kept old met → IsFresh at (printed old) → mid ≡ shown at (promote_event at.lane.0 n force (printed old)) ∷ met → GoesByLine (is_some kept) (Promote n force) at old mid
  promotion_goes kept old met mid f new_line is =
      behind_goes (is_some kept) (Promote n force) at old mid (shown at (promote_event at.lane.0 n force (printed old)) ∷ []) met f.meets is (
        refl,
        subst (λ (ops : List Op). SuitsOrReplays ops (Promote n force) at (printed met) (promote_event at.lane.0 n force (printed old))) (sym f.meets.undue) (promotion_suits kept old met f new_line),
        tt,
      )

  -- behind it just the records that the point lacks are due
  promotion_owes : (records : List LogOp) (start past : Past) → AreLogged records past → start_entry at past ≡ None → (o : Option Cause)
      → OwesRecords at (behind start past o) records (newest_promoted (behind start past o))
  promotion_owes records start past step begun (Some cause) = tt
  promotion_owes records start past step begun None =
      let count : ℕ = length (operations_at (behind start past None) (forced_version force start + 1)) in
      (promotion_may start past begun, ap (drop count) (sym step.operations) ∙ drop-map (λ (r : LogOp). r.op) count records)

  owes_lacking : (kept : Option (List LogOp)) (old met mid : Log) → FindsAgain kept old met → mid ≡ shown at (promote_event at.lane.0 n force (printed old)) ∷ met → OwesLacking at (printed mid) kept
  owes_lacking None old met mid f is = tt
  owes_lacking (Some records) old met mid f is =
      subst (λ (l : Log). OwesRecords at (printed l) records (newest_promoted (printed l))) (sym is) (promotion_owes records (printed old) (printed met) f.step f.begun (refusal (Promote n force) at.lane.0 (printed old)))

  -- ---- and then what was accepted again

  -- what the whole line added, and the log in step with it
  record Ends (kept : Option (List LogOp)) (old mid new : Log) : Type 0 where
    whole : new ≡ with_replay at (is_some kept) mid
    goes : GoesByLine (is_some kept) (Promote n force) at old new
    step : IsInStep kept (printed new)
    replied : is_answered at (printed new) ≡ true

  promotion_logged : (start past : Past) (o : Option Cause) → logged_operations (behind start past o) ≡ logged_operations past
  promotion_logged start past None = refl
  promotion_logged start past (Some cause) = refl

  -- a refusal leaves the log in step
  refusal_steps : (records : List LogOp) (start past : Past) (o : Option Cause) → newest_promoted (behind start past o) ≡ None → AreLogged records past → AreLogged records (behind start past o)
  refusal_steps records start past None promoted step = absurd (some_none (forced_version force start + 1) promoted)
  refusal_steps records start past (Some cause) promoted step = record { operations = step.operations; replayed = step.replayed }

  ends : (kept : Option (List LogOp)) (old met mid new : Log) → FindsAgain kept old met → IsInStep kept (printed old) → IsFresh at (printed old) → mid ≡ shown at (promote_event at.lane.0 n force (printed old)) ∷ met → is_answered at (printed mid) ≡ true
      → AcceptsLacking at mid new kept → Ends kept old mid new
  ends None old met mid new f step new_line is replied same = record {
    whole = same;
    goes = subst (λ (l : Log). GoesByLine false (Promote n force) at old l) (sym same) (promotion_goes None old met mid f new_line is);
    step = tt;
    replied = subst (λ (l : Log). is_answered at (printed l) ≡ true) (sym same) replied;
  }
  ends (Some records) old met mid new f step new_line is replied done = by (newest_promoted (printed mid)) refl done
    where
      logged_mid : logged_operations (printed mid) ≡ logged_operations (printed old)
      logged_mid = ap (λ (l : Log). logged_operations (printed l)) is ∙ (promotion_logged (printed old) (printed met) (refusal (Promote n force) at.lane.0 (printed old)) ∙ f.logged)

      step_mid : newest_promoted (printed mid) ≡ None → AreLogged records (printed mid)
      step_mid promoted = subst (λ (l : Log). AreLogged records (printed l)) (sym is)
          (refusal_steps records (printed old) (printed met) (refusal (Promote n force) at.lane.0 (printed old)) (subst (λ (l : Log). newest_promoted (printed l) ≡ None) is promoted) f.step)

      by : (o : Option ℕ) → newest_promoted (printed mid) ≡ o → AcceptsRecords at mid new o → Ends (Some records) old mid new
      by None promoted same = record {
        whole = same ∙ ap (λ (ops : List Op). with_accepted at ops mid) (sym (step_mid promoted).replayed);
        goes = subst (λ (l : Log). GoesByLine true (Promote n force) at old l) (sym same) (promotion_goes (Some records) old met mid f new_line is);
        step = subst (λ (l : Log). AreLogged records (printed l)) (sym same) (step_mid promoted);
        replied = subst (λ (l : Log). is_answered at (printed l) ≡ true) (sym same) replied;
      }
      by (Some v) promoted r = record {
        whole = r.whole;
        goes = goes_join true (Promote n force) at old mid new (promotion_goes (Some records) old met mid f new_line is) (r.goes n force);
        step = record { operations = step.operations ∙ (sym logged_mid ∙ sym r.logged); replayed = r.due };
        replied = r.may.replied;
      }

-- ---- at a site

module _ {D : Type 0} (cells : D → Cells) (plans : D → Option Plans) (n : NodeNo) (force : Force) (at : At) (old mid new : Run) (log : Option (TransLog D)) (s : SiteRun) (view : site_of old log ≡ s) (running : s.run.ended ≡ false)
    (unbegun : entries_of_line at (printed s.run.log) ≡ []) (was : SiteStands cells plans old log) (now : IsNow old mid (shown at (promote_event at.lane.0 n force (printed old.log)) ∷ met_log at old mid)) where
  runs : old.ended ≡ false
  runs = runs_was old log s view running

  fresh_here : IsFresh at (printed old.log)
  fresh_here = fresh at (printed old.log) (subst (λ (z : SiteRun). entries_of_line at (printed z.run.log) ≡ []) (sym view) unbegun)

  step_here : IsInStep (records_of log) (printed old.log)
  step_here = was.in_step runs

  finds_here : FindsAgain n force at (records_of log) old.log (met_log at old mid)
  finds_here = finds_again n force at (records_of log) old mid step_here fresh_here

  pub promoted_owes : OwesLacking at (printed mid.log) (records_of log)
  promoted_owes = owes_lacking n force at (records_of log) old.log (met_log at old mid) mid.log finds_here now.log

  module _ (same : new.nodes ≡ mid.nodes) (replied : IsReplied at mid) where
    whole : AcceptsLacking at mid.log new.log (records_of log) → Ends n force at (records_of log) old.log mid.log new.log
    whole done = ends n force at (records_of log) old.log (met_log at old mid) mid.log new.log finds_here step_here fresh_here now.log replied done

    pub promoted_goes : {X E : Type 0} (r : Result X E) → OnOk r (AcceptsLacking at mid.log new.log (records_of log))
        → OnErr r ((m : NodeNo) (f : Force) → GoesByLine (is_some (records_of log)) (Promote m f) at mid.log new.log) → GoesByLine (is_logged s) (Promote n force) at s.run.log new.log
    promoted_goes r done more = subst (λ (z : SiteRun). GoesByLine (is_logged z) (Promote n force) at z.run.log new.log) view (by r done more)
      where
        by : {X E : Type 0} (r : Result X E) → OnOk r (AcceptsLacking at mid.log new.log (records_of log))
            → OnErr r ((m : NodeNo) (f : Force) → GoesByLine (is_some (records_of log)) (Promote m f) at mid.log new.log) → GoesByLine (is_some (records_of log)) (Promote n force) at old.log new.log
        by (Ok x) done more = (whole done).goes
        by (Err e) done more = goes_join (is_some (records_of log)) (Promote n force) at old.log mid.log new.log (promotion_goes n force at (records_of log) old.log (met_log at old mid) mid.log finds_here fresh_here now.log) (more n force)

    promoted_was : {X E : Type 0} (r : Result X E) → OnErr r (new.ended ≡ true) → OnOk r (AcceptsLacking at mid.log new.log (records_of log))
        → OnErr r ((m : NodeNo) (f : Force) → GoesByLine (is_some (records_of log)) (Promote m f) at mid.log new.log) → SiteStands cells plans new log
    promoted_was (Ok x) ended done more = record {
      faults = call_faults (is_some (records_of log)) (Promote n force) at old.log new.log was.faults (whole done).goes;
      in_step = λ _. (whole done).step;
      stands = λ _. was.stands runs;
    }
    promoted_was (Err e) ended done more = record {
      faults = call_faults (is_some (records_of log)) (Promote n force) at old.log new.log was.faults
          (goes_join (is_some (records_of log)) (Promote n force) at old.log mid.log new.log (promotion_goes n force at (records_of log) old.log (met_log at old mid) mid.log finds_here fresh_here now.log) (more n force));
      in_step = λ runs_on. absurd (true≢false (sym ended ∙ runs_on));
      stands = λ runs_on. absurd (true≢false (sym ended ∙ runs_on));
    }

    -- the log of the site is as before
    pub promoted_stands : {X E : Type 0} (r : Result X E) (later : Option (TransLog D)) → later ≡ log → OnErr r (new.ended ≡ true) → OnOk r (AcceptsLacking at mid.log new.log (records_of log))
        → OnErr r ((m : NodeNo) (f : Force) → GoesByLine (is_some (records_of log)) (Promote m f) at mid.log new.log) → SiteStands cells plans new later
    promoted_stands r later is ended done more = subst (λ (l : Option (TransLog D)). SiteStands cells plans new l) (sym is) (promoted_was r ended done more)

    pub promoted_does : {X E : Type 0} (r : Result X E) (later : Option (TransLog D)) → later ≡ log → OnOk r (new.ended ≡ false) → OnOk r (AcceptsLacking at mid.log new.log (records_of log))
        → OnOk r (DoesAtSite (Promote n force) at s (site_of new later))
    promoted_does (Ok x) later is goes_on done =
        subst (λ (z : SiteRun). DoesAtSite (Promote n force) at z (site_of new later)) view
        (record { running = goes_on; nodes = same ∙ now.nodes; logged = ap (λ (l : Option (TransLog D)). is_some (records_of l)) is; goes = (whole done).goes; none = apart_none (Promote n force) at old.log new.log refl (whole done).goes; first = apart_first (Promote n force) at old.log new.log refl (whole done).goes })
    promoted_does (Err e) later is goes_on done = tt

    pub promoted_replied : {X E : Type 0} (r : Result X E) → OnOk r (AcceptsLacking at mid.log new.log (records_of log)) → OnOk r (IsReplied at new)
    promoted_replied (Ok x) done = (whole done).replied
    promoted_replied (Err e) done = tt

    -- just the promotion's entry was added, and behind it all that was due
    pub promoted_whole : {X E : Type 0} (r : Result X E) → OnOk r (new.ended ≡ false) → OnOk r (new.rest.plans ≡ mid.rest.plans) → OnOk r (AcceptsLacking at mid.log new.log (records_of log))
        → OnOk r (IsNow s.run new (with_promotion at n force (is_logged s) s.run new))
    promoted_whole (Ok x) goes_on kept done =
        let met : met_log at old mid ≡ met_log at old new = ap (λ (later : List Plans). with_met false at 1 (map failures_by_plan old.rest.plans) (map failures_by_plan later) old.log) (sym kept) in
        subst (λ (z : SiteRun). IsNow z.run new (with_promotion at n force (is_logged z) z.run new)) view
        (record {
          running = goes_on;
          nodes = same ∙ now.nodes;
          log = (whole done).whole ∙ ap (λ (l : Log). with_replay at (is_some (records_of log)) l) (now.log ∙ ap (λ (l : Log). shown at (promote_event at.lane.0 n force (printed old.log)) ∷ l) met);
        })
    promoted_whole (Err e) goes_on kept done = tt

    pub promoted_nodes : new.nodes ≡ s.run.nodes
    promoted_nodes = same ∙ (now.nodes ∙ ap (λ (z : SiteRun). z.run.nodes) view)
