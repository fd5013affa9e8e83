-- What accepting an operation does where there is a log, and what a promotion does where there is none.
use Rattle.std.proofs.Common.{◌≡◌, ◌↔◌, ◌+◌, ◌<◌, ◌^◌, ◌∷◌, ◌++◌, ℕ, Bool, true, false, List, [], Option, Some, None, refl, ap, ◌∙◌, sym, subst, true≢false, if◌then◌else◌, drop}
use Rattle.std.specs.Prelude.{Result, Ok, Err, OnOk, OnErr, IsTrue, IsErr, IsErrOf, is_some, is_none}
use Rattle.std.proofs.lemmas.Bool.{false≢true}
use Rattle.nrt_base.specs.declared.numbers.At.{At}
use Rattle.nrt_base.specs.declared.numbers.NodeNo.{NodeNo}
use Rattle.documents.specs.declared.operation.Op.{Op}
use Rattle.documents.specs.declared.operation.Op.TheVariants.{Put as PutOp, Delete as DeleteOp, Drop as DropOp}
use Rattle.disk_model.specs.Disk.{Cells}
use Rattle.disk_model.specs.Faults.{Plans}
use Rattle.history_rules.specs.declared.cause.Cause.TheVariants.{NoPrimary}
use Rattle.history_rules.specs.declared.entry.Event.{Event}
use Rattle.history_rules.specs.declared.entry.Event.TheVariants.{Accepted, Refused}
use Rattle.history_rules.specs.Nodes.{Past, primary_of, accepted_count, generation_of}
use Rattle.history_rules.specs.Lines.{entries_of_line, is_answered}
use Rattle.history_book.specs.Log.{Log, printed, shown}
use Rattle.history_book.proofs.FreshLaws.{fresh}
use Rattle.script_serving.specs.Refusals.{when, without_primary}
use Rattle.script_serving.specs.Replays.{logged_operations}
use Rattle.lane_threads.specs.Owes.{GoesByLine, FaultsFit}
use Rattle.lane_threads.proofs.WalkLemmas.{call_faults}
use Rattle.lane_threads.proofs.IdleLemmas.{is_publish, is_merge, apart_none, apart_first}
use Rattle.trans_log.specs.declared.record.LogOp.{LogOp}
use Rattle.trans_log.specs.declared.log.TransLog.{TransLog}
use Rattle.trans_log.specs.declared.log.LogFault.{LogFault}
use Rattle.trans_log.specs.declared.log.LogFault.TheVariants.{Memory as LogMemory}
use Rattle.trans_log.proofs.Calm.{told_by}
use Rattle.trans_log.specs.Logs.{IsOpenLog, IsLogSafe, IsCalm, in_flight}
use Rattle.cluster_state.specs.Run.{Run, IsNow, IsEnded}
use Rattle.cluster_state.specs.Calls.{by_refusal}
use Rattle.cluster_core.specs.Doing.{Does, writing_command}
use Rattle.cluster_site.specs.Sites.{SiteRun, SiteStands, IsInStep, LogGoesOn, LogStands, DoesAtSite, operations_in, records_of, with_record, next_record, with_next}
use Rattle.cluster_site.proofs.Lifting.{is_promotion, line_goes}
use Rattle.cluster_site.proofs.Stands.{site_of, runs_was, ended_stands}

-- ---- an append

unended : {T E : Type 0} (b : Bool) (r : Result T E) (x : T) → r ≡ Ok x → IsTrue b ↔ IsErr r → b ≡ false
unended false r x is told = refl
unended {T = T} {E = E} true r x is told = absurd (true≢false (sym (subst (λ (z : Result T E). IsErr z) is (told.0 refl))))

-- what refuses one is want of memory
pub memory_is : {U : Type 0} (r : Result U LogFault) (fault : LogFault) → r ≡ Err fault → OnErr r (IsErrOf r LogMemory) → fault ≡ LogMemory
memory_is {U = U} r fault is only =
    let told : ◌≡◌ {A = Result U LogFault} (Err fault) (Err LogMemory) = subst (λ (z : Result U LogFault). OnErr z (IsErrOf z LogMemory)) is only in
    ap told_by told

-- the log goes on behind one that was answered
pub appended : {D : Type 0} (cells : D → Cells) (plans : D → Option Plans) (old new : TransLog D) (r : LogOp) (result : Result (Unit {0}) LogFault) (x : Unit {0}) → result ≡ Ok x → LogGoesOn cells plans old → IsTrue new.ended ↔ IsErr result
    → OnOk result (IsOpenLog (cells new.dir) new.records.items) → (IsLogSafe (cells old.dir) old.records.items None → IsLogSafe (cells new.dir) new.records.items (in_flight result r)) → (IsCalm (plans old.dir) → IsCalm (plans new.dir))
    → LogGoesOn cells plans new
appended cells plans old new r result x is was ended files safe calm = record {
  unended = unended new.ended result x is ended;
  files = subst (λ (z : Result (Unit {0}) LogFault). OnOk z (IsOpenLog (cells new.dir) new.records.items)) is files;
  safe = subst (λ (z : Result (Unit {0}) LogFault). IsLogSafe (cells new.dir) new.records.items (in_flight z r)) is (safe was.safe);
  calm = calm was.calm;
}

-- one more record is there where a log is
pub noted : {D : Type 0} {X E : Type 0} (old : Option (TransLog D)) (was now : TransLog D) (entry : LogOp) (r : Result X E) → old ≡ Some was → OnOk r (now.records.items ≡ was.records.items ++ entry ∷ [])
    → OnOk r (◌≡◌ {A = Option (List LogOp)} (Some now.records.items) (with_record entry (records_of old)))
noted old was now entry (Ok x) is more = ap Some more ∙ sym (ap (λ (o : Option (TransLog _)). with_record entry (records_of o)) is)
noted old was now entry (Err e) is more = tt

-- ---- one more record

operations_more : (records : List LogOp) (r : LogOp) → operations_in (records ++ r ∷ []) ≡ operations_in records ++ r.op ∷ []
operations_more [] r = refl
operations_more (x ∷ records) r = ap (λ (ops : List Op). x.op ∷ ops) (operations_more records r)

kept_flag : (r : LogOp) (now kept : Option (List LogOp)) → now ≡ with_record r kept → is_some now ≡ is_some kept
kept_flag r now None is = ap is_some is
kept_flag r now (Some records) is = ap is_some is

-- an operation that is logged and accepted as its line's reply
accepted_step : (kept : Option (List LogOp)) (r : LogOp) (past : Past) (at : At) (k : ℕ) → is_answered at past ≡ false → IsInStep kept past
    → IsInStep (with_record r kept) (record { at = at; event = Accepted k r.op } ∷ past)
accepted_step None r past at k unanswered step = tt
accepted_step (Some records) r past at k unanswered step = record {
  operations = operations_more records r
      ∙ (ap (λ (ops : List Op). ops ++ r.op ∷ []) step.operations ∙ sym (ap (λ (b : Bool). if b then logged_operations past else logged_operations past ++ r.op ∷ []) unanswered));
  replayed = ap (drop 1) step.replayed;
}

refused_step : (kept : Option (List LogOp)) (past : Past) (at : At) → IsInStep kept past → IsInStep kept (record { at = at; event = Refused NoPrimary } ∷ past)
refused_step None past at step = tt
refused_step (Some records) past at step = record { operations = step.operations; replayed = step.replayed }

-- ---- what the entry is

with_primary : (o : Option NodeNo) (e : Event) → is_some o ≡ true → by_refusal (when (is_none o) NoPrimary) e ≡ e
with_primary None e some = absurd (false≢true some)
with_primary (Some p) e some = refl

no_primary : (o : Option NodeNo) (e : Event) → is_some o ≡ false → by_refusal (when (is_none o) NoPrimary) e ≡ Refused NoPrimary
no_primary None e none = refl
no_primary (Some p) e none = absurd (true≢false none)

writing_unpromoted : (op : Op) → is_promotion (writing_command op) ≡ false
writing_unpromoted (PutOp doc) = refl
writing_unpromoted (DeleteOp key) = refl
writing_unpromoted (DropOp word) = refl

writing_apart : (op : Op) → is_publish (writing_command op) ≡ false
writing_apart (PutOp doc) = refl
writing_apart (DeleteOp key) = refl
writing_apart (DropOp word) = refl

writing_unmerged : (op : Op) → is_merge (writing_command op) ≡ false
writing_unmerged (PutOp doc) = refl
writing_unmerged (DeleteOp key) = refl
writing_unmerged (DropOp word) = refl

module _ {D : Type 0} (cells : D → Cells) (plans : D → Option Plans) (old new : Run) (log later : Option (TransLog D)) (s : SiteRun) (op : Op) (at : At) (k : ℕ) (view : site_of old log ≡ s) (running : s.run.ended ≡ false) (was : SiteStands cells plans old log) where
  runs : old.ended ≡ false
  runs = runs_was old log s view running

  goes_on : Does (writing_command op) at old new → GoesByLine (is_some (records_of log)) (writing_command op) at old.log new.log
  goes_on does = line_goes (records_of log) (writing_command op) at old.log new.log (writing_unpromoted op) (was.in_step runs) does.goes

  faults_on : is_some (records_of later) ≡ is_some (records_of log) → Does (writing_command op) at old new → FaultsFit (is_some (records_of later)) new.log
  faults_on flag does =
      subst (λ (b : Bool). FaultsFit b new.log) (sym flag) (call_faults (is_some (records_of log)) (writing_command op) at old.log new.log was.faults (goes_on does))

  step_on : (kept : Option (List LogOp)) (e : Event) → IsNow old new (shown at e ∷ old.log) → IsInStep kept (record { at = at; event = e } ∷ printed old.log) → IsInStep kept (printed new.log)
  step_on kept e now step = subst (λ (l : Log). IsInStep kept (printed l)) (sym now.log) step

  past_was : (P : Past → Type 0) → P (printed s.run.log) → P (printed old.log)
  past_was P has = subst (λ (z : SiteRun). P (printed z.run.log)) (sym view) has

  -- no primary runs, so the line is refused and nothing is logged
  pub refused_stands : {X E : Type 0} (r : Result X E) → is_some (primary_of (printed old.log)) ≡ false
      → OnOk r (IsNow old new (shown at (by_refusal (without_primary (printed old.log)) (Accepted k op)) ∷ old.log)) → OnOk r (Does (writing_command op) at old new) → OnErr r (IsEnded old new)
      → SiteStands cells plans new log
  refused_stands (Ok x) none now does ends = record {
    faults = call_faults (is_some (records_of log)) (writing_command op) at old.log new.log was.faults (goes_on does);
    in_step = λ _. step_on (records_of log) (by_refusal (without_primary (printed old.log)) (Accepted k op)) now
        (subst (λ (e : Event). IsInStep (records_of log) (record { at = at; event = e } ∷ printed old.log)) (sym (no_primary (primary_of (printed old.log)) (Accepted k op) none))
        (refused_step (records_of log) (printed old.log) at (was.in_step runs)));
    stands = λ _. was.stands runs;
  }
  refused_stands (Err e) none now does ends = ended_stands cells plans old new log s view running was ends

  -- the log found no memory, and the cluster was ended for it
  pub unlogged_stands : is_some (records_of later) ≡ is_some (records_of log) → IsEnded old new → SiteStands cells plans new later
  unlogged_stands flag ended = record {
    faults = subst (λ (b : Bool). FaultsFit b new.log) (sym flag) (ended_stands cells plans old new log s view running was ended).faults;
    in_step = λ runs_on. absurd (true≢false (sym ended.ended ∙ runs_on));
    stands = λ runs_on. absurd (true≢false (sym ended.ended ∙ runs_on));
  }

  -- one runs, and the log has the operation before it is accepted
  pub accept_stands : {X E : Type 0} (r : Result X E) (entry : LogOp) → entry.op ≡ op → entries_of_line at (printed s.run.log) ≡ [] → is_some (primary_of (printed old.log)) ≡ true
      → OnOk r (IsNow old new (shown at (by_refusal (without_primary (printed old.log)) (Accepted k op)) ∷ old.log)) → OnOk r (Does (writing_command op) at old new) → OnErr r (IsEnded old new)
      → records_of later ≡ with_record entry (records_of log) → LogStands cells plans later → SiteStands cells plans new later
  accept_stands (Ok x) entry same unbegun some now does ends more stands = record {
    faults = faults_on (kept_flag entry (records_of later) (records_of log) more) does;
    in_step = λ _. step_on (records_of later) (by_refusal (without_primary (printed old.log)) (Accepted k op)) now
        (subst (λ (e : Event). IsInStep (records_of later) (record { at = at; event = e } ∷ printed old.log)) (ap (λ (o : Op). Accepted k o) same ∙ sym (with_primary (primary_of (printed old.log)) (Accepted k op) some))
        (subst (λ (kept : Option (List LogOp)). IsInStep kept (record { at = at; event = Accepted k entry.op } ∷ printed old.log)) (sym more)
        (accepted_step (records_of log) entry (printed old.log) at k (fresh at (printed old.log) (past_was (λ (past : Past). entries_of_line at past ≡ []) unbegun)).replied (was.in_step runs))));
    stands = λ _. stands;
  }
  accept_stands (Err e) entry same unbegun some now does ends more stands = unlogged_stands (kept_flag entry (records_of later) (records_of log) more) ends

  -- what the line is owed
  pub accept_does : {X E : Type 0} (r : Result X E) → is_some (records_of later) ≡ is_some (records_of log) → OnOk r (Does (writing_command op) at old new) → OnOk r (DoesAtSite (writing_command op) at s (site_of new later))
  accept_does (Ok x) flag does = subst (λ (z : SiteRun). DoesAtSite (writing_command op) at z (site_of new later)) view (record { running = does.running; nodes = does.nodes; logged = flag; goes = goes_on does; none = apart_none (writing_command op) at old.log new.log (writing_apart op) does.goes; first = apart_first (writing_command op) at old.log new.log (writing_unmerged op) does.goes })
  accept_does (Err e) flag does = tt

-- ---- what the log has behind it

module _ {D : Type 0} (old : Run) (log later : Option (TransLog D)) (s : SiteRun) (op : Op) (view : site_of old log ≡ s) where
  at_site : records_of later ≡ with_next op (printed old.log) (records_of log) → records_of later ≡ with_next op (printed s.run.log) s.kept
  at_site is = subst (λ (z : SiteRun). records_of later ≡ with_next op (printed z.run.log) z.kept) view is

  pub kept_same : {X E : Type 0} (r : Result X E) → is_some (primary_of (printed old.log)) ≡ false → later ≡ log → OnOk r (records_of later ≡ with_next op (printed s.run.log) s.kept)
  kept_same (Ok x) none same =
      at_site (ap records_of same ∙ sym (ap (λ (b : Bool). if b then with_record (next_record op (printed old.log)) (records_of log) else records_of log) none))
  kept_same (Err e) none same = tt

  pub kept_more : {X E : Type 0} (r : Result X E) (entry : LogOp) → entry.op ≡ op → is_some (primary_of (printed old.log)) ≡ true → entry.generation.0 ≡ generation_of (printed old.log)
      → (accepted_count (printed old.log) + 1 < 2 ^ 32 → entry.seq ≡ accepted_count (printed old.log) + 1) → records_of later ≡ with_record entry (records_of log)
      → accepted_count (printed s.run.log) + 1 < 2 ^ 32 → OnOk r (records_of later ≡ with_next op (printed s.run.log) s.kept)
  kept_more (Ok x) entry same some generation number more few =
      let next : LogOp = next_record op (printed old.log) in
      let seq : entry.seq ≡ accepted_count (printed old.log) + 1 = number (subst (λ (z : SiteRun). accepted_count (printed z.run.log) + 1 < 2 ^ 32) (sym view) few) in
      let made : entry ≡ next = λ i. record { generation = record { 0 = generation i }; seq = seq i; op = same i } in
      at_site (more ∙ (ap (λ (r : LogOp). with_record r (records_of log)) made ∙ sym (ap (λ (b : Bool). if b then with_record next (records_of log) else records_of log) some)))
  kept_more (Err e) entry same some generation number more few = tt
