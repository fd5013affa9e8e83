-- How far a line has come that copies or settles.
use Rattle.std.proofs.Common.{◌≡◌, ◌≢◌, ◌≤◌, ◌<◌, ◌&&◌, ◌||◌, ◌==◌, ℕ, List, Bool, true, false, true≢false, [], ◌∷◌, Some, None, Option, Ok, max, refl, ap, ◌∙◌, sym, subst, if◌then◌else◌, arith, length}
use Rattle.std.specs.Prelude.{not, nat_lt, IfSome, IsSomeAnd}
use Rattle.std.proofs.lemmas.Bool.{eqb-true, eq-eqb, ltb-false}
use Rattle.nrt_base.specs.declared.numbers.At.{At}
use Rattle.nrt_base.specs.declared.numbers.NodeNo.{NodeNo}
use Rattle.nrt_base.specs.declared.numbers.Version.{Version}
use Rattle.disk_model.specs.Disk.{Name}
use Rattle.history_rules.specs.declared.entry.Entry.{Entry}
use Rattle.history_rules.specs.declared.entry.Event.{Event}
use Rattle.history_rules.specs.declared.entry.Event.TheVariants.{Publishing, Copying, Switched, Settling, Opened, Asking, Committing, Fault}
use Rattle.history_rules.specs.Nodes.{Past, crashes, primary_of, primary_crashes, newest_version, version_of}
use Rattle.history_rules.specs.Lines.{same_at, is_start, start_entry, before_start, last_of_line, has_switched, highest_switched, NodeSurvives, SourceSurvives}
use Rattle.history_rules.specs.Points.{operations_of_generation}
use Rattle.history_rules.specs.Legal.{KeepsRule, IsLegalPast}
use Rattle.history_tables.specs.declared.lines.Start.TheVariants.{Searching as SearchStart}
use Rattle.history_tables.specs.Begins.{begin, begun_by, open_line}
use Rattle.history_tables.specs.declared.jobs.Job.{Job}
use Rattle.history_tables.specs.declared.jobs.JobRow.{JobRow}
use Rattle.history_book.specs.Jobs.{job_of, StartsJob, IsCancelled, IsOlder}
use Rattle.history_book.specs.Steps.{last_by, highest_by}
use Rattle.history_tables.proofs.RowLemmas.{same_at_is}
use Rattle.history_rules.specs.Rules.{StartedCopy, MayRefuseLine}
use Rattle.history_rules.specs.Started.{is_copy, is_lost}
use Rattle.history_rules.specs.declared.cause.Cause.{Cause}
use Rattle.history_rules.specs.declared.cause.Cause.TheVariants.{Lost, Cancelled, DiskFault}
use Rattle.history_rules.proofs.NodeLemmas.{version_low}
use Rattle.history_book.specs.Log.{Log, printed}
use Rattle.history_book.proofs.OpenLaws.{last_started}
use Rattle.history_book.proofs.ReignLaws.{start_kept, reigns_on}
use Rattle.script_serving.specs.declared.script.LineCommand.TheVariants.{Copy}
use Rattle.script_serving.specs.Refusals.{refusal}
use Rattle.cluster_nodes.specs.declared.tasks.CopyTask.{CopyTask}
use Rattle.cluster_nodes.specs.declared.tasks.FileTask.{FileTask}
use Rattle.copy_state.specs.declared.meta.FileMetaData.{FileMetaData}
use Rattle.copy_state.specs.Meta.{IsMetaOf}
use Rattle.copy_job.specs.declared.copying.Part.{Part}
use Rattle.link_model.specs.declared.fate.Fate.{Fate}
use Rattle.cluster_state.specs.DueFaults.{ArrivesBy, fate_cause}
use Rattle.cluster_state.specs.FilesOut.{file_out}
use Rattle.cluster_state.specs.GivesUp.{met_log}
use Rattle.cluster_state.specs.Run.{Run, files_at, IsNow}
use Rattle.std.proofs.lemmas.Bool.Decides.{nat_tests}
use Rattle.cluster_state.specs.Copies.{BeginsNoJob, BringsFile, IsCopying, JobRefused}
use Rattle.cluster_state.specs.declared.turn.Turn.{Turn}
use Rattle.cluster_state.specs.declared.turn.Turn.TheVariants.{Work, Done, Busy}
use Rattle.cluster_state.specs.Calls.{IsRefusedTurn}
use Rattle.cluster_state.specs.CopyCalls.{copying_log, CopyEnds, CopyAnswered, CopyStarts, CopyStartsWhen, IsOpenJob, Stops, JobGoesOn, JobSteps, JobTakes, PartArrives}
use Rattle.cluster_state.proofs.Rows.{legal_at}

-- what one more entry of the line leaves of a copy that is open, and has switched no node as high as its own
switched_out : (n m k : ℕ) → n ≡ m → max k m < n → ⊥
switched_out n m k same high = absurd (omega (arith, same, high))

copy_mine : (size : ℕ) (past : Past) (at : At) (e : Event) (n : NodeNo) (v : Version) → KeepsRule size past at e → (if is_start e && true then Some e else start_entry at past) ≡ Some (Copying n v)
    → begun_by e (length past) (length (operations_of_generation past)) (open_line at past) ≢ None → (if is_start e then 0 else highest_by e (highest_switched at past)) < n.0
    → (start_entry at past ≡ Some (Copying n v) → open_line at past ≢ None → highest_switched at past < n.0 → last_of_line at past ≡ Some (Copying n v))
    → last_by e (last_of_line at past) ≡ Some (Copying n v)
copy_mine size past at (Copying m w) n v keeps is line high was = is
copy_mine size past at (Switched m w) n v keeps is line high was =
    absurd (switched_out n.0 m.0 (highest_switched at past) (subst (λ (o : Option Event). StartedCopy past (before_start at past) m.0 w.0 o) is keeps.started).0 high)
copy_mine size past at (Fault m k) n v keeps is line high was = was is line high
copy_mine size past at Publishing n v keeps is line high was = absurd (cc)
copy_mine size past at (Settling w) n v keeps is line high was = absurd (cc)
copy_mine size past at (Asking m t w) n v keeps is line high was = absurd (cc)
copy_mine size past at (Committing m w) n v keeps is line high was = absurd (cc)
copy_mine size past at (Opened m t w) n v keeps is line high was = opens (t.0 == 0) is line
  where
    opens : (z : Bool) → (if z && true then Some (Opened m t w) else start_entry at past) ≡ Some (Copying n v)
        → begin (if z then Some (SearchStart m w) else None) (length past) (length (operations_of_generation past)) ≢ None → Some (Opened m t w) ≡ Some (Copying n v)
    opens true is line = is
    opens false is line = absurd (line refl)
copy_mine size past at e n v keeps is line high was = absurd (line refl)

copy_step : (size : ℕ) (past : Past) (e : Entry) (at : At) (n : NodeNo) (v : Version) (s : Bool) → same_at e.at at ≡ s → KeepsRule size past e.at e.event
    → (if is_start e.event && s then Some e.event else start_entry at past) ≡ Some (Copying n v)
    → (if s then begun_by e.event (length past) (length (operations_of_generation past)) (open_line at past) else open_line at past) ≢ None
    → (if s then (if is_start e.event then 0 else highest_by e.event (highest_switched at past)) else highest_switched at past) < n.0
    → (start_entry at past ≡ Some (Copying n v) → open_line at past ≢ None → highest_switched at past < n.0 → last_of_line at past ≡ Some (Copying n v))
    → (if s then last_by e.event (last_of_line at past) else last_of_line at past) ≡ Some (Copying n v)
copy_step size past e at n v true here keeps is line high was =
    copy_mine size past at e.event n v (subst (λ (a : At). KeepsRule size past a e.event) (same_at_is e.at at here) keeps) is line high was
copy_step size past e at n v false apart keeps is line high was = was (unstarted (is_start e.event) is) line high
  where
    unstarted : (b : Bool) → (if b && false then Some e.event else start_entry at past) ≡ Some (Copying n v) → start_entry at past ≡ Some (Copying n v)
    unstarted true is = is
    unstarted false is = is

-- a copy that is open, and has switched no node as high as its own, has added no entry but its start
pub copy_newest : (size : ℕ) (past : Past) (at : At) (n : NodeNo) (v : Version) → IsLegalPast size past → start_entry at past ≡ Some (Copying n v) → open_line at past ≢ None → highest_switched at past < n.0
    → last_of_line at past ≡ Some (Copying n v)
copy_newest size [] at n v legal is line high = absurd (cc)
copy_newest size (e ∷ past) at n v legal is line high =
    copy_step size past e at n v (same_at e.at at) refl legal.0 is line high (copy_newest size past at n v legal.1)

-- a line that has started has a newest entry
last_mine : (e : Event) (last : Option Event) → (is_start e ≡ false → last ≢ None) → last_by e last ≢ None
last_mine (Fault m k) last was is = was refl is
last_mine e last was is = absurd (cc)

last_step : (e : Entry) (past : Past) (at : At) (b : Event) (s : Bool) → (if is_start e.event && s then Some e.event else start_entry at past) ≡ Some b → (start_entry at past ≡ Some b → last_of_line at past ≢ None)
    → (if s then last_by e.event (last_of_line at past) else last_of_line at past) ≢ None
last_step e past at b true is was = last_mine e.event (last_of_line at past) (λ other. was (unstarted (is_start e.event) other is))
  where
    unstarted : (z : Bool) → z ≡ false → (if z && true then Some e.event else start_entry at past) ≡ Some b → start_entry at past ≡ Some b
    unstarted true other is = absurd (true≢false other)
    unstarted false other is = is
last_step e past at b false is was = was (unstarted (is_start e.event) is)
  where
    unstarted : (z : Bool) → (if z && false then Some e.event else start_entry at past) ≡ Some b → start_entry at past ≡ Some b
    unstarted true is = is
    unstarted false is = is

pub started_newest : (past : Past) (at : At) (b : Event) → start_entry at past ≡ Some b → last_of_line at past ≢ None
started_newest [] at b is = absurd (cc)
started_newest (e ∷ past) at b is = last_step e past at b (same_at e.at at) is (started_newest past at b)

-- ---- a job for the newest version

-- a job that is not for the newest version is for an older one
pub older_by : (o : Option Job) (v : ℕ) → IfSome o (λ job. job.version.0 ≤ v) → (IsSomeAnd o (λ job. job.version.0 ≡ v) → ⊥) → IsOlder v o
older_by None v low other = tt
older_by (Some job) v low other = apart_below job.version.0 v low other
  where
    apart_below : (a b : ℕ) → a ≤ b → (a ≡ b → ⊥) → a < b
    apart_below a b low other = omega (arith, low, other)

pub newer_by : (o : Option Job) (v : ℕ) → IsSomeAnd o (λ job. job.version.0 ≡ v) → IsOlder v o → ⊥
newer_by None v is older = is
newer_by (Some job) v is older = omega (arith, is, older)

-- ---- where a line stands

or_none : (x y : Bool) → y ≡ false → x ≡ (x || y)
or_none true y none = refl
or_none false y none = sym none

-- a line of a job whose source has not crashed is lost where it is a copy and its node has crashed
pub lost_by : (past start : Past) (n v : ℕ) (begun : Event) (copies : Bool) → copies ≡ is_copy begun → StartsJob start n v (Some begun) → (primary_crashes past == primary_crashes start) ≡ true
    → (if copies then not (crashes n past == crashes n start) else false) ≡ is_lost past start begun
lost_by past start n v (Copying m w) copies is starts source =
    let here : not (crashes n past == crashes n start) ≡ not (crashes m.0 past == crashes m.0 start) = ap (λ (k : ℕ). not (crashes k past == crashes k start)) (sym starts.0) in
    ap (λ (b : Bool). if b then not (crashes n past == crashes n start) else false) is
    ∙ (here ∙ or_none (not (crashes m.0 past == crashes m.0 start)) (not (primary_crashes past == primary_crashes start)) (ap not source))
lost_by past start n v (Settling w) copies is starts source =
    ap (λ (b : Bool). if b then not (crashes n past == crashes n start) else false) is ∙ sym (ap not source)
lost_by past start n v begun copies is starts source = absurd starts

pub lost_here : (at : At) (past : Past) (n v : ℕ) (begun : Event) (copies node source : Bool) → start_entry at past ≡ Some begun → copies ≡ true → copies ≡ is_copy begun
    → StartsJob (before_start at past) n v (start_entry at past) → source ≡ true → source ≡ (primary_crashes past == primary_crashes (before_start at past)) → node ≡ (crashes n past == crashes n (before_start at past))
    → not node ≡ is_lost past (before_start at past) begun
lost_here at past n v begun copies node source start here is starts yes' source_is node_is =
    ap not node_is ∙ (ap (λ (b : Bool). if b then not (crashes n past == crashes n (before_start at past)) else false) (sym here)
    ∙ lost_by past (before_start at past) n v begun copies is (subst (StartsJob (before_start at past) n v) start starts) (sym source_is ∙ yes'))

pub lost_there : (at : At) (past : Past) (n v : ℕ) (begun : Event) (copies source : Bool) → start_entry at past ≡ Some begun → copies ≡ false → copies ≡ is_copy begun
    → StartsJob (before_start at past) n v (start_entry at past) → source ≡ true → source ≡ (primary_crashes past == primary_crashes (before_start at past))
    → copies ≡ is_lost past (before_start at past) begun
lost_there at past n v begun copies source start apart is starts yes' source_is =
    apart ∙ (ap (λ (b : Bool). if b then not (crashes n past == crashes n (before_start at past)) else false) (sym apart)
    ∙ lost_by past (before_start at past) n v begun copies is (subst (StartsJob (before_start at past) n v) start starts) (sym source_is ∙ yes'))

-- ---- why a line of a job is refused

pub unswitched_job : (size : ℕ) (past : Past) (at : At) (n v : ℕ) (begun : Event) → IsLegalPast size past → StartsJob (before_start at past) n v (Some begun) → start_entry at past ≡ Some begun
    → open_line at past ≢ None → highest_switched at past < n → (is_copy begun && has_switched at past) ≡ false
unswitched_job size past at n v (Copying m w) legal starts is line high =
    (last_started at past (Copying m w) refl (copy_newest size past at m w legal is line (subst (λ (k : ℕ). highest_switched at past < k) (sym starts.0) high))).unswitched
unswitched_job size past at n v (Settling w) legal starts is line high = refl
unswitched_job size past at n v begun legal starts is line high = absurd starts

-- a test of a line that is right whatever the line has started as
abbrev Says : Past → At → Bool → Type 0
Says past at b = (begun : Event) → start_entry at past ≡ Some begun → b ≡ is_lost past (before_start at past) begun

pub lost_job : (size : ℕ) (past : Past) (at : At) (n v : ℕ) (b : Bool) (o : Option Event) → start_entry at past ≡ o → IsLegalPast size past → StartsJob (before_start at past) n v o → open_line at past ≢ None
    → highest_switched at past < n → Says past at b → b ≡ true → MayRefuseLine size past at o Lost
lost_job size past at n v b None is legal starts line high says lost = absurd starts
lost_job size past at n v b (Some begun) is legal starts line high says lost = record {
  lost = sym lost ∙ says begun is;
  met = λ never. absurd (true≢false never);
  unswitched = unswitched_job size past at n v begun legal starts is line high;
}

alive_source : (past start : Past) (n v : ℕ) (begun : Event) → StartsJob start n v (Some begun) → false ≡ is_lost past start begun → primary_crashes past ≡ primary_crashes start
alive_source past start n v (Copying m w) starts alive =
    eqb-true (primary_crashes past) (primary_crashes start) (both (not (crashes m.0 past == crashes m.0 start)) (primary_crashes past == primary_crashes start) alive)
  where
    both : (x y : Bool) → false ≡ (x || not y) → y ≡ true
    both true y none = absurd (true≢false (sym none))
    both false true none = refl
    both false false none = absurd (true≢false (sym none))
alive_source past start n v (Settling w) starts alive = eqb-true (primary_crashes past) (primary_crashes start) (one (primary_crashes past == primary_crashes start) alive)
  where
    one : (y : Bool) → false ≡ not y → y ≡ true
    one true none = refl
    one false none = absurd (true≢false (sym none))
alive_source past start n v begun starts alive = absurd starts

pub job_source : (past : Past) (at : At) (n v : ℕ) (b : Bool) (o : Option Event) → start_entry at past ≡ o → StartsJob (before_start at past) n v o → Says past at b → b ≡ false → SourceSurvives past at
job_source past at n v b None is starts says alive = absurd starts
job_source past at n v b (Some begun) is starts says alive = record { source = alive_source past (before_start at past) n v begun starts (sym alive ∙ says begun is) }

pub job_node : (past : Past) (at : At) (n : ℕ) (r : Bool) → r ≡ true → r ≡ (crashes n past == crashes n (before_start at past)) → NodeSurvives past at n
job_node past at n r alive is = record { node = eqb-true (crashes n past) (crashes n (before_start at past)) (sym is ∙ alive) }

pub cancelled_job : (size : ℕ) (past : Past) (at : At) (n v : ℕ) (b r : Bool) (w : Version) (o : Option Event) → start_entry at past ≡ o → IsLegalPast size past → StartsJob (before_start at past) n v o
    → open_line at past ≢ None → highest_switched at past < n → Says past at b → b ≡ false → r ≡ true → r ≡ (crashes n past == crashes n (before_start at past))
    → (NodeSurvives past at n → SourceSurvives past at → IsCancelled size past at w o) → MayRefuseLine size past at o (Cancelled w)
cancelled_job size past at n v b r w None is legal starts line high says alive node node_is later = absurd starts
cancelled_job size past at n v b r w (Some begun) is legal starts line high says alive node node_is later = record {
  lost = sym alive ∙ says begun is;
  met = λ other. later (job_node past at n r node node_is) (job_source past at n v b (Some begun) is starts says alive);
  unswitched = unswitched_job size past at n v begun legal starts is line high;
}

-- ---- copies and settles

pub reached_by : (size : ℕ) (past : Past) (n a b : ℕ) → IsLegalPast size past → a ≡ version_of n past → b ≡ newest_version past → nat_lt a b ≡ false → version_of n past ≡ newest_version past
reached_by size past n a b legal version newest other =
    let low : version_of n past ≤ newest_version past = version_low size past n legal in
    let high : b ≤ a = ltb-false a b other in
    omega (arith, low, high, version, newest)

pub refused_starts : (at : At) (n : NodeNo) (cause : Cause) (old new : Run) (turn : Turn CopyTask) → refusal (Copy n) at.lane.0 (printed old.log) ≡ Some cause → IsRefusedTurn at cause old new turn → CopyStarts at n old new turn
refused_starts at n cause old new (Work task) is refused = absurd refused
refused_starts at n cause old new Done is refused = subst (λ (o : Option Cause). CopyAnswered at n o old new) (sym is) refused
refused_starts at n cause old new Busy is refused = absurd refused

pub refused_when : (at : At) (n : NodeNo) (cause : Cause) (old new : Run) (turn : Turn CopyTask) → refusal (Copy n) at.lane.0 (printed old.log) ≡ Some cause → IsRefusedTurn at cause old new turn → CopyStartsWhen at n old.log turn
refused_when at n cause old new (Work task) is refused = absurd refused
refused_when at n cause old new Done is refused = λ behind. absurd (none_some (sym behind.unrefused ∙ is))
  where
    none_some : ◌≡◌ {A = Option Cause} None (Some cause) → ⊥
    none_some same = absurd (cc)
refused_when at n cause old new Busy is refused = absurd refused

-- a copy whose source failed
pub failed_starts : (at : At) (n : NodeNo) (old new : Run) → refusal (Copy n) at.lane.0 (printed old.log) ≡ None → version_of n.0 (printed old.log) < newest_version (printed old.log)
    → BeginsNoJob at n old new (copying_log at n old new) → CopyStarts at n old new Done
failed_starts at n old new free behind none =
    subst (λ (o : Option Cause). CopyAnswered at n o old new) (sym free)
    (subst (λ (b : Bool). CopyEnds b at n old new) (sym (apart (version_of n.0 (printed old.log)) (newest_version (printed old.log)) behind)) none)
  where
    apart : (a b : ℕ) → a < b → (a == b) ≡ false
    apart a b less = grind (arith, nat_tests, less)

pub settle_source : (size m : ℕ) (at : At) (log l k : Log) (v : Version) (r : Bool) (o : Option NodeNo) → m ≡ size → l ≡ log → k ≡ log → IsLegalPast m (printed l) → start_entry at (printed log) ≡ Some (Settling v)
    → r ≡ true → r ≡ (primary_crashes (printed k) == primary_crashes (before_start at (printed k))) → o ≡ primary_of (printed log) → o ≢ None
settle_source size m at log l k v r o nodes same like legal start alive source is none =
    let past = printed log in
    let whole = legal_at size m log l nodes same legal in
    let runs = (start_kept size at past (Settling v) whole start).source in
    let here : (primary_crashes past == primary_crashes (before_start at past)) ≡ true =
    subst (λ (x : Log). (primary_crashes (printed x) == primary_crashes (before_start at (printed x))) ≡ true) like (sym source ∙ alive) in
    runs (sym (reigns_on size at past whole runs (eqb-true (primary_crashes past) (primary_crashes (before_start at past)) here)).primary ∙ (sym is ∙ none))

-- a job that runs is not lost
pub unlost : (past start : Past) (n v : ℕ) (begun : Event) → StartsJob start n v (Some begun) → crashes n past ≡ crashes n start → primary_crashes past ≡ primary_crashes start → is_lost past start begun ≡ false
unlost past start n v (Copying m w) starts node source =
    none (not (crashes m.0 past == crashes m.0 start)) (not (primary_crashes past == primary_crashes start))
    (ap not (eq-eqb (crashes m.0 past) (crashes m.0 start) (subst (λ (k : ℕ). crashes k past ≡ crashes k start) (sym starts.0) node))) (ap not (eq-eqb (primary_crashes past) (primary_crashes start) source))
  where
    none : (x y : Bool) → x ≡ false → y ≡ false → (x || y) ≡ false
    none true y e f = absurd (true≢false e)
    none false y e f = f
unlost past start n v (Settling w) starts node source = ap not (eq-eqb (primary_crashes past) (primary_crashes start) source)
unlost past start n v begun starts node source = absurd starts

job_unlost : (past : Past) (at : At) (n v : ℕ) (b : Bool) (o : Option Event) → start_entry at past ≡ o → StartsJob (before_start at past) n v o → Says past at b → NodeSurvives past at n → SourceSurvives past at → b ≡ false
job_unlost past at n v b None is starts says node source = absurd starts
job_unlost past at n v b (Some begun) is starts says node source = says begun is ∙ unlost past (before_start at past) n v begun starts node.node source.source

pub lost_rests : (past : Past) (at : At) (n v : ℕ) (b : Bool) → StartsJob (before_start at past) n v (start_entry at past) → Says past at b → b ≡ true → NodeSurvives past at n → SourceSurvives past at → ⊥
lost_rests past at n v b starts says lost node source = true≢false (sym lost ∙ job_unlost past at n v b (start_entry at past) refl starts says node source)

pub crashed_rests : (past : Past) (at : At) (n : ℕ) (r : Bool) → r ≡ false → r ≡ (crashes n past == crashes n (before_start at past)) → NodeSurvives past at n → ⊥
crashed_rests past at n r crashed is node = true≢false (sym (eq-eqb (crashes n past) (crashes n (before_start at past)) node.node) ∙ (sym is ∙ crashed))

-- ---- the job of a line that copies

-- the job that the line copies by
pub record IsJobAt (at : At) (log : Log) (task : CopyTask) (row : JobRow) : Type 0 where
  pub at_is : row.job.at ≡ at
  pub node : row.job.node ≡ task.node
  pub number : row.job.number ≡ task.job
  pub copies : IsOpenJob log row

row_found : (at : At) (log : Log) (task : CopyTask) (row : JobRow) (copying : IsCopying at log task) → copying.row ≡ row → IsJobAt at log task row
row_found at log task row copying same = subst (IsJobAt at log task) same (record {
  at_is = copying.at_is;
  node = copying.node;
  number = copying.number;
  copies = record {
    last = subst (λ (a : At). job_of a.lane.0 log ≡ Some copying.row) (sym copying.at_is) copying.last;
    unended = copying.unended;
    is_open = subst (λ (a : At). open_line a (printed log) ≢ None) (sym copying.at_is) copying.is_open;
    ordered = subst (λ (x : At × NodeNo). highest_switched x.0 (printed log) < x.1.0) (λ i. (sym copying.at_is i, sym copying.node i)) copying.ordered;
  };
})

same_row : (x y : JobRow) (o : Option JobRow) → o ≡ Some x → o ≡ Some y → x ≡ y
same_row x y o first second = let same : ◌≡◌ {A = Option JobRow} (Some x) (Some y) = sym first ∙ second in cc

pub copying_in : (at : At) (task : CopyTask) (s r : Run) → s ≡ r → IsCopying at r.log task → IsCopying at s.log task
copying_in at task s r is copying = subst (λ (x : Run). IsCopying at x.log task) (sym is) copying

pub job_found : (at : At) (s r : Run) (l : Log) (task : CopyTask) (o : Option JobRow) (row : JobRow) → s ≡ r → l ≡ s.log → IsCopying at r.log task → o ≡ job_of at.lane.0 l → o ≡ Some row → IsJobAt at s.log task row
job_found at s r l task o row is same copying told found =
    let here = copying_in at task s r is copying in
    row_found at s.log task row here (same_row here.row row o (told ∙ (ap (job_of at.lane.0) same ∙ here.last)) found)

pub job_missing : (at : At) (s r : Run) (l : Log) (task : CopyTask) (o : Option JobRow) → s ≡ r → l ≡ s.log → IsCopying at r.log task → o ≡ job_of at.lane.0 l → o ≢ None
job_missing at s r l task o is same copying told none =
    let here = copying_in at task s r is copying in
    let clash : ◌≡◌ {A = Option JobRow} (Some here.row) None = sym (told ∙ (ap (job_of at.lane.0) same ∙ here.last)) ∙ none in absurd (cc)

-- ---- a job that runs

module _ (row : JobRow) (old mid new : Run) (same : mid ≡ old) where
  -- it goes on
  pub runs_goes : (turn : Turn FileTask) → JobGoesOn row.job mid new turn → JobGoesOn row.job old new turn
  runs_goes turn goes = subst (λ (x : Run). JobGoesOn row.job x new turn) same goes

  pub runs_steps : (o : Option Log) (b : Bool) (turn : Turn FileTask) → b ≡ false → Stops o row old mid b → JobGoesOn row.job mid new turn → JobSteps o row.job old new turn
  runs_steps (Some log) b turn going stops goes = absurd (true≢false (sym stops.0 ∙ going))
  runs_steps None b turn going stops goes = subst (λ (x : Run). JobGoesOn row.job x new turn) same goes

  -- it takes a file
  pub runs_takes : (file : FileTask) (turn : Turn (Unit {0})) → JobTakes row.job file mid new turn → JobTakes row.job file old new turn
  runs_takes file turn takes = subst (λ (x : Run). JobTakes row.job file x new turn) same takes

  pub runs_arrives : (file : FileTask) (o : Option Log) (b : Bool) (turn : Turn (Unit {0})) → b ≡ false → Stops o row old mid b → JobTakes row.job file mid new turn → PartArrives row.job file o old new turn
  runs_arrives file (Some log) b turn going stops takes = absurd (true≢false (sym stops.0 ∙ going))
  runs_arrives file None b turn going stops takes = runs_takes file turn takes

-- a part that came is that of the file which is out, with its metadata
pub part_out : (row : JobRow) (old mid : Run) (file : FileTask) (part : Part) → mid ≡ old → ArrivesBy file (Ok part) → file_out row.job.at row.job.node.0 row.job.number file.name old.log ≡ Some file.source
    → file_out row.job.at row.job.node.0 row.job.number part.name mid.log ≡ Some part.bytes
part_out row old mid file part same arrives out = (λ i. file_out row.job.at row.job.node.0 row.job.number (arrives.1.name_is i) (same i).log) ∙ (out ∙ ap (λ (x : List ℕ). Some x) (sym arrives.1.bytes_are))

pub part_meta : (file : FileTask) (part : Part) → ArrivesBy file (Ok part) → IsMetaOf file.source file.meta → IsMetaOf part.bytes part.meta
part_meta file part arrives is = subst (λ (z : List ℕ × FileMetaData). IsMetaOf z.0 z.1) (λ i. (sym arrives.1.bytes_are i, sym arrives.1.meta_is i)) is

-- it is taken, or the disk of its node failed
pub part_taken : (row : JobRow) (old new : Run) (file : FileTask) (part : Part) → ArrivesBy file (Ok part) → IsNow old new (met_log row.job.at old new) → BringsFile part.name (files_at row.job.node.0 old) (files_at row.job.node.0 new)
    → JobTakes row.job file old new (Work tt)
part_taken row old new file part arrives now brings =
    (arrives.0, now, subst (λ (q : Name). BringsFile q (files_at row.job.node.0 old) (files_at row.job.node.0 new)) arrives.1.name_is brings)

pub part_fails : (row : JobRow) (old new : Run) (file : FileTask) (part : Part) → ArrivesBy file (Ok part) → JobRefused row.job DiskFault old new → JobTakes row.job file old new Done
part_fails row old new file part arrives refused = subst (λ (f : Fate). JobRefused row.job (fate_cause f file.name) old new) (sym arrives.0) refused
