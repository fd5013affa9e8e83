-- What an entry does to the plans for the files of nodes, and that such a plan is one of the history.
use Rattle.std.proofs.Common.{◌≡◌, ◌≢◌, ◌<◌, ◌+◌, ◌++◌, ◌==◌, ℕ, zero, suc, Bool, true, false, ◌&&◌, List, [], ◌∷◌, length, get_or, refl, ap, ◌∙◌, sym, subst, if◌then◌else◌, arith}
use Rattle.nrt_base.specs.declared.numbers.At.{At}
use Rattle.history_rules.specs.declared.cause.FaultKind.{FaultKind}
use Rattle.history_rules.specs.declared.cause.FaultKind.TheVariants.{Link, Damage, Disk, Stop}
use Rattle.history_rules.specs.declared.cause.FaultPlan.{FaultPlan}
use Rattle.history_rules.specs.declared.cause.FaultPlan.TheVariants.{Link as LinkPlan, Damage as DamagePlan, Disk as DiskPlan, Stop as StopPlan}
use Rattle.history_rules.specs.declared.entry.Event.{Event}
use Rattle.history_rules.specs.declared.entry.Event.TheVariants.{Planned, Crashed, Fault}
use Rattle.history_rules.specs.Nodes.{Past}
use Rattle.history_rules.specs.Faults.{is_planned, kind_of, same_kind}
use Rattle.history_book.specs.declared.inner.Inner.{Inner}
use Rattle.history_book.specs.declared.inner.Inner.TheVariants.{FileOut}
use Rattle.history_book.specs.declared.inner.Mark.TheVariants.{Shown, TaskFault, Kept}
use Rattle.history_book.specs.Log.{Log, printed, kept, mark_for}
use Rattle.merge_tasks.specs.declared.fates.FilePlans.{FilePlans}
use Rattle.merge_tasks.specs.Fates.{PlansShow, file_plans, file_plans_by, file_plans_inside, no_file_plans, one_less, replanned, used_up}

-- ---- rows of a table

-- one row more that has no plan
pub none_more : (rows new : List FilePlans) (x : FilePlans) → new ≡ rows ++ x ∷ [] → x ≡ no_file_plans → ((n : ℕ) → get_or rows n no_file_plans ≡ no_file_plans) → (n : ℕ) → get_or new n no_file_plans ≡ no_file_plans
none_more rows new x is empty none n = ap (λ (l : List FilePlans). get_or l n no_file_plans) (is ∙ ap (λ (p : FilePlans). rows ++ p ∷ []) empty) ∙ last rows none n
  where
    last : (l : List FilePlans) → ((k : ℕ) → get_or l k no_file_plans ≡ no_file_plans) → (k : ℕ) → get_or (l ++ no_file_plans ∷ []) k no_file_plans ≡ no_file_plans
    last [] was zero = refl
    last [] was (suc k) = refl
    last (p ∷ l) was zero = was 0
    last (p ∷ l) was (suc k) = last l (λ m. was (suc m)) k

-- ---- what a table shows

pub plans_shown : (task : Bool) (size : ℕ) (log : Log) (rows new : List FilePlans) (at : At) (e : Event) → length new ≡ length rows
    → ((m : ℕ) → m < length rows → get_or new m no_file_plans ≡ file_plans_by m e (get_or rows m no_file_plans))
    → PlansShow size log rows → PlansShow size (mark_for task (record { at = at; event = e }) ∷ log) new
plans_shown task size log rows new at e count step s = record {
  count = count ∙ s.count;
  each = λ n low. step n (let c = s.count in omega arith) ∙ (ap (λ (p : FilePlans). file_plans_by n e p) (s.each n low) ∙ both task n);
}
  where
    both : (b : Bool) (n : ℕ) → file_plans_by n e (file_plans n log) ≡ file_plans n (mark_for b (record { at = at; event = e }) ∷ log)
    both true n = refl
    both false n = refl

pub plans_kept : (size : ℕ) (log : Log) (rows new : List FilePlans) (i : Inner) → length new ≡ length rows
    → ((m : ℕ) → m < length rows → get_or new m no_file_plans ≡ file_plans_inside m i (get_or rows m no_file_plans))
    → PlansShow size log rows → PlansShow size (kept i ∷ log) new
plans_kept size log rows new i count step s = record {
  count = count ∙ s.count;
  each = λ n low. step n (let c = s.count in omega arith) ∙ ap (λ (p : FilePlans). file_plans_inside n i p) (s.each n low);
}

-- it shows it of a list that is the same
pub plans_at : {size now_size : ℕ} {log now : Log} (rows : List FilePlans) → now ≡ log → now_size ≡ size → PlansShow size log rows → PlansShow now_size now rows
plans_at {size} {now_size} {log} {now} rows same_log same_size s = subst (λ (z : ℕ × Log). PlansShow z.0 z.1 rows) (λ i. (sym same_size i, sym same_log i)) s

-- ---- a plan that stands is one of the history

-- how many files are to come up to the one that such a plan speaks of
abbrev left : FaultKind → FilePlans → ℕ
left Link p = p.link
left Damage p = p.damage
left kind p = 0

by_plan : (plan : FaultPlan) (kind : FaultKind) (p : FilePlans) (old : Bool) → (left kind p ≢ 0 → old ≡ true) → left kind (replanned plan p) ≢ 0 → (if same_kind (kind_of plan) kind then true else old) ≡ true
by_plan (LinkPlan k) Link p old was some = refl
by_plan (LinkPlan k) Damage p old was some = was some
by_plan (DamagePlan k byte) Link p old was some = was some
by_plan (DamagePlan k byte) Damage p old was some = refl
by_plan (DiskPlan k) Link p old was some = was some
by_plan (DiskPlan k) Damage p old was some = was some
by_plan (StopPlan k) Link p old was some = was some
by_plan (StopPlan k) Damage p old was some = was some
by_plan plan Disk p old was some = absurd (some refl)
by_plan plan Stop p old was some = absurd (some refl)

by_fault : (met kind : FaultKind) (p : FilePlans) (old : Bool) → (left kind p ≢ 0 → old ≡ true) → left kind (used_up met p) ≢ 0 → (if same_kind met kind then same_kind Stop kind && old else old) ≡ true
by_fault Link Link p old was some = absurd (some refl)
by_fault Link Damage p old was some = was some
by_fault Damage Link p old was some = was some
by_fault Damage Damage p old was some = absurd (some refl)
by_fault Disk Link p old was some = was some
by_fault Disk Damage p old was some = was some
by_fault Stop Link p old was some = was some
by_fault Stop Damage p old was some = was some
by_fault met Disk p old was some = absurd (some refl)
by_fault met Stop p old was some = absurd (some refl)

none_left : (kind : FaultKind) → left kind no_file_plans ≡ 0
none_left Link = refl
none_left Damage = refl
none_left Disk = refl
none_left Stop = refl

less_left : (kind : FaultKind) (p : FilePlans) → left kind (one_less p) ≢ 0 → left kind p ≢ 0
less_left Link p some = λ none. some (omega (arith, none))
less_left Damage p some = λ none. some (omega (arith, none))
less_left Disk p some = some
less_left Stop p some = some

by_entry : (n : ℕ) (kind : FaultKind) (at : At) (e : Event) (past : Past) (p : FilePlans) → (left kind p ≢ 0 → is_planned n kind past ≡ true)
    → left kind (file_plans_by n e p) ≢ 0 → is_planned n kind (record { at = at; event = e } ∷ past) ≡ true
by_entry n kind at (Planned m plan) past p was some = by (m.0 == n) some
  where
    by : (b : Bool) → left kind (if b then replanned plan p else p) ≢ 0 → (if b && same_kind (kind_of plan) kind then true else is_planned n kind past) ≡ true
    by true some' = by_plan plan kind p (is_planned n kind past) was some'
    by false some' = was some'
by_entry n kind at (Crashed m) past p was some = by (m.0 == n) some
  where
    by : (b : Bool) → left kind (if b then no_file_plans else p) ≢ 0 → (if b then false else is_planned n kind past) ≡ true
    by true some' = absurd (some' (none_left kind))
    by false some' = was some'
by_entry n kind at (Fault m met) past p was some = by (m.0 == n) some
  where
    by : (b : Bool) → left kind (if b then used_up met p else p) ≢ 0 → (if b && same_kind met kind then same_kind Stop kind && is_planned n kind past else is_planned n kind past) ≡ true
    by true some' = by_fault met kind p (is_planned n kind past) was some'
    by false some' = was some'
by_entry n kind at e past p was some = was some

by_inside : (n : ℕ) (kind : FaultKind) (i : Inner) (p : FilePlans) → left kind (file_plans_inside n i p) ≢ 0 → left kind p ≢ 0
by_inside n kind (FileOut line m job name source fate by) p some = test (m.0 == n) some
  where
    test : (b : Bool) → left kind (if b then one_less p else p) ≢ 0 → left kind p ≢ 0
    test true some' = less_left kind p some'
    test false some' = some'
by_inside n kind i p some = some

still_planned : (n : ℕ) (kind : FaultKind) (log : Log) → left kind (file_plans n log) ≢ 0 → is_planned n kind (printed log) ≡ true
still_planned n kind [] some = absurd (some (none_left kind))
still_planned n kind (Shown e ∷ log) some = by_entry n kind e.at e.event (printed log) (file_plans n log) (λ was. still_planned n kind log was) some
still_planned n kind (TaskFault e ∷ log) some = by_entry n kind e.at e.event (printed log) (file_plans n log) (λ was. still_planned n kind log was) some
still_planned n kind (Kept i ∷ log) some = still_planned n kind log (by_inside n kind i (file_plans n log) some)

pub link_planned : (n : ℕ) (log : Log) → (file_plans n log).link ≢ 0 → is_planned n Link (printed log) ≡ true
link_planned n log some = still_planned n Link log some

pub damage_planned : (n : ℕ) (log : Log) → (file_plans n log).damage ≢ 0 → is_planned n Damage (printed log) ≡ true
damage_planned n log some = still_planned n Damage log some
