-- What an entry does to the tasks of merges.
use Rattle.std.proofs.Common.{◌≡◌, ◌≢◌, ◌≤◌, ◌<◌, ◌+◌, ◌*◌, ◌++◌, ◌==◌, ◌&&◌, ◌||◌, ℕ, Bool, true, false, true≢false, List, [], ◌∷◌, Some, None, Option, length, refl, ap, ◌∙◌, sym, subst, arith, if◌then◌else◌}
use Rattle.std.specs.Prelude.{not}
use Rattle.std.specs.List.{All, list_any}
use Rattle.std.specs.Option.{option_map}
use Rattle.std.proofs.lemmas.Bool.{or_parts, or_from, or_right, or_left, eq-eqb}
use Rattle.std.proofs.lemmas.Bool.Decides.{nat_tests}
use Rattle.std.proofs.lemmas.List.Elements.{All-nil, All-weaker, All-push}
use Rattle.nrt_base.specs.declared.numbers.At.{At}
use Rattle.nrt_base.specs.declared.numbers.LineNo.{LineNo}
use Rattle.nrt_base.specs.declared.numbers.NodeNo.{NodeNo}
use Rattle.nrt_base.specs.declared.numbers.SegNo.{SegNo}
use Rattle.seg_merge.specs.Given.{Shown}
use Rattle.history_rules.specs.declared.cause.FaultKind.{FaultKind}
use Rattle.history_rules.specs.declared.entry.Entry.{Entry}
use Rattle.history_rules.specs.declared.entry.Event.{Event}
use Rattle.history_rules.specs.declared.entry.Event.TheVariants.{Crashed, Merging, Drained, Fault}
use Rattle.history_rules.specs.Nodes.{Past, is_at, primary_of}
use Rattle.history_rules.specs.Points.{names_drawn}
use Rattle.nrt_base.specs.SegNumbers.{segments_of_generation}
use Rattle.history_rules.specs.Lines.{same_at, entries_of_line}
use Rattle.history_rules.specs.Tasks.{merge_count, drained_count}
use Rattle.history_tables.proofs.RowLemmas.{by_test, same_at_self, same_at_is}
use Rattle.history_book.specs.Log.{Log, printed, shown, kept, mark_for}
use Rattle.history_book.specs.declared.inner.Inner.{Inner}
use Rattle.history_book.specs.declared.inner.Inner.TheVariants.{MergeOut, MergeEnd, TaskEnd}
use Rattle.history_book.specs.declared.inner.Mark.TheVariants.{Shown as ShownMark, TaskFault as FaultMark, Kept as KeptMark}
use Rattle.history_book.specs.declared.inner.Step.{Step}
use Rattle.merge_tasks.specs.Merging.{merge_by, merge_on, ends_reign}
use Rattle.merge_tasks.specs.declared.tasks.TaskKind.{TaskKind}
use Rattle.merge_tasks.specs.declared.tasks.TaskKind.TheVariants.{Merge, PreCopy, Cut}
use Rattle.merge_tasks.specs.declared.tasks.Posted.{Posted}
use Rattle.merge_tasks.specs.declared.tasks.OpenMerge.{OpenMerge}
use Rattle.merge_tasks.specs.TaskLog.{or_first, inputs_by, inputs_out, merge_task, ends_task, ended_count, is_drained, have_drained, starts_merge, has_started, StartWithNames, leaves_merges, leaves_tasks}
use Rattle.history_book.specs.Told.{ends_task_by, counted_by, counted_for}
use Rattle.merge_tasks.specs.Board.{Board, open_merge, with_spread, without_merge, posted_merge, done_under, without_count, due_of, due_all, IsToldKind, IsToldTask, TasksShow}
use Rattle.merge_tasks.proofs.BoardRows.{line_told, open_end, open_without, due_end}
use Rattle.merge_tasks.proofs.Counts.{other_counts}

-- ---- tasks that are told stay told

pub first_stays : {A : Type 0} (older mine : Option A) (x : A) → older ≡ Some x → or_first older mine ≡ Some x
first_stays None mine x is = absurd (cc)
first_stays (Some y) None x is = is
first_stays (Some y) (Some z) x is = is

told_more : (a b : Log) → ((seg : ℕ) (inputs : List Shown) → inputs_out seg a ≡ Some inputs → inputs_out seg b ≡ Some inputs) → (p : Posted) → IsToldTask a p → IsToldTask b p
told_more a b more p told = by p.kind told
  where
    by : (k : TaskKind) → IsToldKind a p.seg k → IsToldKind b p.seg k
    by (Merge task) told = (more p.seg.0 task.inputs told.0, told.1)
    by (PreCopy n job) told = told
    by Cut told = told

pub told_all : (a b : Log) → ((seg : ℕ) (inputs : List Shown) → inputs_out seg a ≡ Some inputs → inputs_out seg b ≡ Some inputs) → (ps : List Posted) → All (IsToldTask a) ps → All (IsToldTask b) ps
told_all a b more ps told = All-weaker (IsToldTask a) (IsToldTask b) (told_more a b more) ps told

-- ---- printed entries

merge_left : (seg : ℕ) (x : At) (e : Event) (p : Option NodeNo) (old : Option At) → leaves_merges e p ≡ true → merge_by seg x e p old ≡ old
merge_left seg x (Merging s) p old leaves = absurd (true≢false (sym leaves))
merge_left seg x (Drained done most) p old leaves = refl
merge_left seg x (Crashed m) p old leaves = by (is_at p m.0) leaves
  where
    by : (b : Bool) → not b ≡ true → (if b then None else old) ≡ old
    by true e = absurd (true≢false (sym e))
    by false e = refl
merge_left seg x e p old leaves = refl

count_left : (x : At) (e : Event) (past : Past) (p : Option NodeNo) → leaves_merges e p ≡ true → merge_count (record { at = x; event = e } ∷ past) ≡ merge_count past
count_left x (Merging s) past p leaves = absurd (true≢false (sym leaves))
count_left x e past p leaves = refl

drained_left : (x : At) (e : Event) (past : Past) (p : Option NodeNo) → leaves_merges e p ≡ true → drained_count (record { at = x; event = e } ∷ past) ≡ drained_count past
drained_left x (Drained done most) past p leaves = absurd (true≢false (sym leaves))
drained_left x e past p leaves = refl

low_left : (x : At) (e : Event) (past : Past) (p : Option NodeNo) → leaves_merges e p ≡ true → StartWithNames past → StartWithNames (record { at = x; event = e } ∷ past)
low_left x (Merging s) past p leaves low = absurd (true≢false (sym leaves))
low_left x e past p leaves low = (tt, low)

-- most printed entries leave tasks as they are
pub tasks_still : (size : ℕ) (log : Log) (b : Board) (x : At) (e : Event) → leaves_merges e (primary_of (printed log)) ≡ true → TasksShow size log b → TasksShow size (shown x e ∷ log) b
tasks_still size log b x e leaves s = record {
  lines = λ seg. s.lines seg ∙ ap (λ (o : Option At). option_map (λ (at : At). at.line) o) (sym (merge_left seg x e (primary_of (printed log)) (merge_on seg log) leaves));
  posted = told_all log (shown x e ∷ log) (λ seg inputs is. is) b.posted s.posted;
  noted = λ seg some. or_right (starts_merge seg e) (has_started seg (printed log)) (s.noted seg some);
  low = low_left x e (printed log) (primary_of (printed log)) leaves s.low;
  paid = let paid = s.paid in subst (λ (k : ℕ). ended_count log + due_all size b.rows ≤ (size + 1) * k) (sym (count_left x e (printed log) (primary_of (printed log)) leaves)) paid;
  drains = λ lines none.
      let low = s.drains lines (or_parts (is_drained e && lines x) (have_drained lines (printed log)) none).1 in
      let same = drained_left x e (printed log) (primary_of (printed log)) leaves in
      omega (arith, low, same);
  counts = λ at none. s.counts at (or_parts (is_drained e && same_at x at) (have_drained (λ b. same_at b at) (printed log)) none).1;
}

-- so does a fault of a merge's task
pub tasks_faulted : (size : ℕ) (log : Log) (b : Board) (x : At) (n : NodeNo) (kind : FaultKind) → TasksShow size log b → TasksShow size (mark_for true (record { at = x; event = Fault n kind }) ∷ log) b
tasks_faulted size log b x n kind s = record {
  lines = s.lines;
  posted = told_all log (mark_for true (record { at = x; event = Fault n kind }) ∷ log) (λ seg inputs is. is) b.posted s.posted;
  noted = s.noted;
  low = (tt, s.low);
  paid = s.paid;
  drains = s.drains;
  counts = s.counts;
}

-- ---- entries of inner work

-- and an entry of inner work that hands out no merge and ends none, and ends no task
pub tasks_kept : (size : ℕ) (log : Log) (b : Board) (i : Inner) → leaves_tasks i ≡ true → TasksShow size log b → TasksShow size (kept i ∷ log) b
tasks_kept size log b (MergeOut line seg inputs sizes) leaves s = absurd (true≢false (sym leaves))
tasks_kept size log b (MergeEnd seg cut) leaves s = absurd (true≢false (sym leaves))
tasks_kept size log b (TaskEnd line seg by step counts) leaves s = absurd (true≢false (sym leaves))
tasks_kept size log b i leaves s = record {
  lines = s.lines;
  posted = told_all log (kept i ∷ log) (λ seg inputs is. is) b.posted s.posted;
  noted = s.noted;
  low = s.low;
  paid = let paid = s.paid in omega (arith, paid);
  drains = λ lines none. let low = s.drains lines none in omega (arith, low);
  counts = λ at none. (let is = s.counts at none in omega (arith, is));
}

-- the inputs of a merge that was started are handed out
pub tasks_noted : (size : ℕ) (log : Log) (b : Board) (line : LineNo) (seg : SegNo) (inputs : List Shown) (sizes : List (Option ℕ)) → has_started seg.0 (printed log) ≡ true → TasksShow size log b → TasksShow size (kept (MergeOut line seg inputs sizes) ∷ log) b
tasks_noted size log b line seg inputs sizes started s = record {
  lines = s.lines;
  posted = told_all log (kept (MergeOut line seg inputs sizes) ∷ log) (λ n x is. first_stays (inputs_out n log) (inputs_by n (MergeOut line seg inputs sizes)) x is) b.posted s.posted;
  noted = λ n some. by n (seg.0 == n) refl some;
  low = s.low;
  paid = let paid = s.paid in omega (arith, paid);
  drains = λ lines none. let low = s.drains lines none in omega (arith, low);
  counts = λ at none. (let is = s.counts at none in omega (arith, is));
}
  where
    by : (n : ℕ) (t : Bool) → (seg.0 == n) ≡ t → or_first (inputs_out n log) (if t then Some inputs else None) ≢ None → has_started n (printed log) ≡ true
    by n true here some = let same : seg.0 ≡ n = grind (arith, nat_tests, here) in subst (λ (k : ℕ). has_started k (printed log) ≡ true) same started
    by n false apart some = s.noted n some

-- the board as it is now shows the same, where each merge has its line, tasks that are posted are told, and no more may still come
pub tasks_on : (size : ℕ) (log : Log) (b new : Board) → ((seg : ℕ) → line_told (open_merge seg new.rows) ≡ line_told (open_merge seg b.rows)) → All (IsToldTask log) new.posted → due_all size new.rows ≤ due_all size b.rows → new.counts ≡ b.counts
    → TasksShow size log b → TasksShow size log new
tasks_on size log b new lines told less counts s = record {
  lines = λ seg. lines seg ∙ s.lines seg;
  posted = told;
  noted = s.noted;
  low = s.low;
  paid = let paid = s.paid in omega (arith, paid, less);
  drains = s.drains;
  counts = λ at none. ap (done_under at) counts ∙ s.counts at none;
}

pub ends_most : (lines : At → Bool) (line : LineNo) (seg : SegNo) (taker : Option At) (step : Step) (counts : Bool) → ends_task_by lines (TaskEnd line seg taker step counts) ≤ ends_task (TaskEnd line seg taker step counts)
ends_most lines line seg None step true = omega arith
ends_most lines line seg None step false = omega arith
ends_most lines line seg (Some at) step false = omega arith
ends_most lines line seg (Some at) step true = elim (lines at) as (λ b. (if b then 1 else 0) ≤ 1) [ true ↦ omega arith | false ↦ omega arith ]

-- a task has ended, and one less may still come where it counts
pub tasks_ended : (size : ℕ) (log : Log) (b new : Board) (line : LineNo) (seg : SegNo) (taker : Option At) (step : Step) (counts : Bool)
    → ((n : ℕ) → line_told (open_merge n new.rows) ≡ line_told (open_merge n b.rows)) → All (IsToldTask log) new.posted → ends_task (TaskEnd line seg taker step counts) + due_all size new.rows ≤ due_all size b.rows
    → ((x : At) → done_under x new.counts ≡ done_under x b.counts + ends_task_by (λ y. same_at y x) (TaskEnd line seg taker step counts))
    → TasksShow size log b → TasksShow size (kept (TaskEnd line seg taker step counts) ∷ log) new
tasks_ended size log b new line seg taker step counts lines told less done s = record {
  lines = λ n. lines n ∙ s.lines n;
  posted = told_all log (kept (TaskEnd line seg taker step counts) ∷ log) (λ n inputs is. is) new.posted told;
  noted = s.noted;
  low = s.low;
  paid = let paid = s.paid in omega (arith, paid, less);
  drains = λ lines none. let low = s.drains lines none in let most = ends_most lines line seg taker step counts in omega (arith, low, most);
  counts = λ at none. let was = s.counts at none in let more = done at in omega (arith, was, more);
}

-- ---- merges

-- a merge starts under a number that was not drawn before, its inputs are handed out, and the task to build its segment is posted
pub tasks_begun : (size : ℕ) (log : Log) (b new : Board) (x : At) (seg : SegNo) (inputs : List Shown) (sizes : List (Option ℕ)) → open_merge seg.0 b.rows ≡ None → inputs_out seg.0 log ≡ None → names_drawn (printed log) < segments_of_generation
    → new.rows ≡ b.rows ++ record { seg = seg; line = x.line; spread = None } ∷ [] → new.posted ≡ b.posted ++ posted_merge seg x.line (merge_task seg inputs) ∷ [] → new.counts ≡ b.counts
    → TasksShow size log b → TasksShow size (kept (MergeOut x.line seg inputs sizes) ∷ shown x (Merging seg) ∷ log) new
tasks_begun size log b new x seg inputs sizes fresh unnoted low rows posted counts s =
    let begun : TasksShow size (shown x (Merging seg) ∷ log) (record { posted = b.posted; rows = new.rows; counts = b.counts }) = record {
      lines = λ n. ap (λ (l : List OpenMerge). line_told (open_merge n l)) rows ∙ (ap line_told (open_end b.rows row n fresh) ∙ by n (seg.0 == n));
      posted = told_all log (shown x (Merging seg) ∷ log) (λ n i is. is) b.posted s.posted;
      noted = λ n some. or_right (seg.0 == n) (has_started n (printed log)) (s.noted n some);
      low = (low, s.low);
      paid = paid;
      drains = s.drains;
      counts = s.counts;
    } in
    let handed : TasksShow size now (record { posted = b.posted; rows = new.rows; counts = b.counts }) = tasks_noted size (shown x (Merging seg) ∷ log) (record { posted = b.posted; rows = new.rows; counts = b.counts }) x.line seg inputs sizes
    (or_left (seg.0 == seg.0) (has_started seg.0 (printed log)) (eq-eqb seg.0 seg.0 refl)) begun in
    tasks_on size now (record { posted = b.posted; rows = new.rows; counts = b.counts }) new (λ n. refl)
    (subst (λ (l : List Posted). All (IsToldTask now) l) (sym posted) (All-push (IsToldTask now) b.posted (posted_merge seg x.line (merge_task seg inputs)) handed.posted (out, refl)))
    (omega arith) counts handed
  where
    now : Log
    now = kept (MergeOut x.line seg inputs sizes) ∷ shown x (Merging seg) ∷ log

    row : OpenMerge
    row = record { seg = seg; line = x.line; spread = None }

    out : inputs_out seg.0 now ≡ Some inputs
    out = ap (λ (t : Bool). or_first (inputs_out seg.0 log) (if t then Some inputs else None)) (eq-eqb seg.0 seg.0 refl) ∙ ap (λ (o : Option (List Shown)). or_first o (Some inputs)) unnoted

    by : (n : ℕ) (t : Bool) → line_told (if t then Some row else open_merge n b.rows) ≡ option_map (λ (at : At). at.line) (if t then Some x else merge_on n log)
    by n true = refl
    by n false = s.lines n

    paid : ended_count log + due_all size new.rows ≤ (size + 1) * (merge_count (printed log) + 1)
    paid = let old = s.paid in let due : due_all size new.rows ≡ due_all size b.rows + (size + 1) = ap (due_all size) rows ∙ due_end size b.rows row in omega (arith, old, due)

-- a merge ends
pub tasks_closed : (size : ℕ) (log : Log) (b new : Board) (seg : SegNo) (cut : Bool) → new.rows ≡ without_merge seg.0 b.rows → new.posted ≡ b.posted → new.counts ≡ b.counts → due_all size new.rows ≤ due_all size b.rows
    → TasksShow size log b → TasksShow size (kept (MergeEnd seg cut) ∷ log) new
tasks_closed size log b new seg cut rows posted counts less s = record {
  lines = λ n. ap (λ (l : List OpenMerge). line_told (open_merge n l)) rows ∙ (ap line_told (open_without b.rows seg.0 n) ∙ by n (seg.0 == n));
  posted = subst (λ (l : List Posted). All (IsToldTask (kept (MergeEnd seg cut) ∷ log)) l) (sym posted) (told_all log (kept (MergeEnd seg cut) ∷ log) (λ n inputs is. is) b.posted s.posted);
  noted = s.noted;
  low = s.low;
  paid = let paid = s.paid in omega (arith, paid, less);
  drains = λ lines none. let low = s.drains lines none in omega (arith, low);
  counts = λ at none. (let is = s.counts at none in let same : done_under at new.counts ≡ done_under at b.counts = ap (done_under at) counts in omega (arith, is, same));
}
  where
    by : (n : ℕ) (t : Bool) → line_told (if t then None else open_merge n b.rows) ≡ option_map (λ (at : At). at.line) (if t then None else merge_on n log)
    by n true = refl
    by n false = s.lines n

-- the primary crashes: its merges have ended, and their tasks are gone
pub tasks_fallen : (size : ℕ) (log : Log) (b new : Board) (x : At) (m : NodeNo) → is_at (primary_of (printed log)) m.0 ≡ true → new.rows ≡ [] → new.posted ≡ [] → new.counts ≡ b.counts → TasksShow size log b → TasksShow size (shown x (Crashed m) ∷ log) new
tasks_fallen size log b new x m falls rows posted counts s = record {
  lines = λ n. ap (λ (l : List OpenMerge). line_told (open_merge n l)) rows ∙ ap (λ (t : Bool). option_map (λ (at : At). at.line) (if t then None else merge_on n log)) (sym falls);
  posted = subst (λ (l : List Posted). All (IsToldTask (shown x (Crashed m) ∷ log)) l) (sym posted) (All-nil (IsToldTask (shown x (Crashed m) ∷ log)));
  noted = s.noted;
  low = (tt, s.low);
  paid = let paid = s.paid in let none : due_all size new.rows ≡ 0 = ap (due_all size) rows in omega (arith, paid, none);
  drains = s.drains;
  counts = λ at none. ap (done_under at) counts ∙ s.counts at none;
}

-- ---- drains

-- a line of which nothing stands there has not drained
pub undrained : (at : At) (past : Past) → entries_of_line at past ≡ [] → have_drained (λ b. same_at b at) past ≡ false
undrained at [] fresh = refl
undrained at (e ∷ past) fresh =
    by_test (same_at e.at at) (λ t. (if t then e ∷ entries_of_line at past else entries_of_line at past) ≡ [] → ((is_drained e.event && t) || have_drained (λ b. same_at b at) past) ≡ false)
    (λ here none. absurd (cc))
    (λ apart none. or_from (is_drained e.event && false) (have_drained (λ b. same_at b at) past) (elim (is_drained e.event) as (λ t. (t && false) ≡ false) [ true ↦ refl | false ↦ refl ]) (undrained at past none))
    fresh

-- what a drain may say that it did
pub may_drain_most : (size : ℕ) (log : Log) (b : Board) (at : At) → entries_of_line at (printed log) ≡ [] → TasksShow size log b → drained_count (printed log) + counted_for at log ≤ (size + 1) * merge_count (printed log)
may_drain_most size log b at fresh s = let low = s.drains (λ x. same_at x at) (undrained at (printed log) fresh) in let paid = s.paid in omega (arith, low, paid)

one_of : (t u : Bool) → (t ≡ true → u ≡ true → ⊥) → (if t || u then 1 else 0) ≡ (if t then 1 else 0) + (if u then 1 else 0)
one_of true true apart = absurd (apart refl refl)
one_of true false apart = refl
one_of false true apart = refl
one_of false false apart = refl

module _ (at : At) (lines : At → Bool) (other : lines at ≡ false) where
  ends_apart : (i : Inner) → ends_task_by (λ x. lines x || same_at x at) i ≡ ends_task_by lines i + ends_task_by (λ x. same_at x at) i
  ends_apart (TaskEnd line seg (Some x) step true) = one_of (lines x) (same_at x at) (λ mine here. true≢false (sym mine ∙ (ap lines (same_at_is x at here) ∙ other)))
  ends_apart i = refl

  counted_apart : (log : Log) → counted_by (λ x. lines x || same_at x at) log ≡ counted_by lines log + counted_for at log
  counted_apart [] = refl
  counted_apart (KeptMark i ∷ log) = let rest = counted_apart log in let mine = ends_apart i in omega (arith, rest, mine)
  counted_apart (ShownMark e ∷ log) = counted_apart log
  counted_apart (FaultMark e ∷ log) = counted_apart log

  drained_apart : (past : Past) → have_drained lines past ≡ false → have_drained (λ x. same_at x at) past ≡ false → have_drained (λ x. lines x || same_at x at) past ≡ false
  drained_apart [] a b = refl
  drained_apart (e ∷ past) a b =
      let first = or_parts (is_drained e.event && lines e.at) (have_drained lines past) a in
      let second = or_parts (is_drained e.event && same_at e.at at) (have_drained (λ x. same_at x at) past) b in
      or_from (is_drained e.event && (lines e.at || same_at e.at at)) (have_drained (λ x. lines x || same_at x at) past) (neither (is_drained e.event) (lines e.at) (same_at e.at at) first.0 second.0) (drained_apart past first.1 second.1)
    where
      neither : (d t u : Bool) → (d && t) ≡ false → (d && u) ≡ false → (d && (t || u)) ≡ false
      neither true true u a b = absurd (true≢false a)
      neither true false u a b = b
      neither false t u a b = refl

-- a drain has its reply
pub tasks_drained : (size : ℕ) (log : Log) (b new : Board) (x : At) (done most : ℕ) → entries_of_line x (printed log) ≡ [] → done ≡ counted_for x log → new.rows ≡ b.rows → new.posted ≡ b.posted → new.counts ≡ without_count x b.counts
    → TasksShow size log b → TasksShow size (shown x (Drained done most) ∷ log) new
tasks_drained size log b new x done most fresh is rows posted counts s = record {
  lines = λ n. ap (λ (l : List OpenMerge). line_told (open_merge n l)) rows ∙ s.lines n;
  posted = subst (λ (l : List Posted). All (IsToldTask (shown x (Drained done most) ∷ log)) l) (sym posted) (told_all log (shown x (Drained done most) ∷ log) (λ n inputs same. same) b.posted s.posted);
  noted = s.noted;
  low = (tt, s.low);
  paid = let paid = s.paid in let due : due_all size new.rows ≡ due_all size b.rows = ap (due_all size) rows in omega (arith, paid, due);
  drains = λ lines none.
      let parts = or_parts (lines x) (have_drained lines (printed log)) none in
      let low = s.drains (λ y. lines y || same_at y x) (drained_apart x lines parts.0 (printed log) parts.1 (undrained x (printed log) fresh)) in
      let split = counted_apart x lines parts.0 log in
      omega (arith, low, split, is);
  counts = λ at none.
      let parts = or_parts (same_at x at) (have_drained (λ b. same_at b at) (printed log)) none in
      ap (done_under at) counts ∙ (other_counts b.counts x at parts.0 ∙ s.counts at parts.1);
}
