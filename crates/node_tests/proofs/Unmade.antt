-- What is seen of merges in flight.
use Rattle.std.proofs.Common.{◌≡◌, ◌==◌, ℕ, Bool, true, false, if◌then◌else◌, List, [], ◌∷◌, ◌++◌, length, Option, Some, None, is_some, refl, sym, ap, subst, ◌∙◌, arith, All, true≢false, slice_get}
use Rattle.std.specs.List.{remove}
use Rattle.std.specs.Option.{IsSomeAnd, IsSome}
use Rattle.std.proofs.lemmas.Bool.{eq-eqb}
use Rattle.std.proofs.lemmas.List.{map-append}
use Rattle.std.proofs.lemmas.List.Elements.{All-append, All-cons, All-head, All-nil, All-tail}
use Rattle.nrt_base.specs.declared.numbers.SegNo.{SegNo}
use Rattle.nrt_base.specs.declared.numbers.Version.{Version}
use Rattle.disk_model.specs.Disk.{Name}
use Rattle.seg_merge.specs.declared.task.MergeTask.{MergeTask}
use Rattle.seg_merge.specs.declared.task.Merged.{Merged}
use Rattle.seg_merge.specs.Merging.{IsMergedOf}
use Rattle.index_primary.specs.declared.parts.PrimaryParts.{PrimaryParts}
use Rattle.index_primary.specs.declared.states.Merging.{Merging}
use Rattle.index_primary.specs.Written.{names_of}
use Rattle.index_primary.specs.Merges.{merge_of, merges_with, merges_without}
use Rattle.index_primary.specs.StartCalls.{IsFitTask, StartsMerge}
use Rattle.index_primary.specs.MergeCalls.{IsMadeFor, IsReadied}
use Rattle.index_primary.specs.CutOverCalls.{IsFilledMerge}
use Rattle.node_tests.specs.declared.seen.Seen.{Seen}
use Rattle.node_tests.specs.Seeing.{IsSeen, tasks_of, unmade_tasks, given_tasks}

-- ---- lists of merges
none_made : (o : Option Merged) → is_some o ≡ false → o ≡ None
none_made None e = refl
none_made (Some merged) e = absurd (true≢false e)

pub not_ready : (o : Option MergeTask) (b : Bool) → b ≡ is_some o → b ≡ false → o ≡ None
not_ready None b is e = refl
not_ready (Some task) b is e = absurd (true≢false (sym is ∙ e))

-- the first merge and those behind it, where the first one's files are written or not
pub record StartsWith (b : Bool) (ms : List Merging) (task : MergeTask) (behind : List (MergeTask × Bool)) : Type 0 where
  pub m : Merging
  pub rest : List Merging
  pub is : ms ≡ m ∷ rest
  pub task_is : m.task ≡ task
  pub made : is_some m.merged ≡ b
  pub others : tasks_of rest ≡ behind

starts_with : (b : Bool) (ms : List Merging) (task : MergeTask) (behind : List (MergeTask × Bool)) → tasks_of ms ≡ (task, b) ∷ behind → StartsWith b ms task behind
starts_with b [] task behind same = absurd (omega (arith, ap (λ (l : List (MergeTask × Bool)). length l) same))
starts_with b (m ∷ ms) task behind same =
    let head : ◌≡◌ {A = MergeTask × Bool} (m.task, is_some m.merged) (task, b) = cc in
    let tail : tasks_of ms ≡ behind = cc in
    record { m = m; rest = ms; is = refl; task_is = ap (λ (p : MergeTask × Bool). p.0) head; made = ap (λ (p : MergeTask × Bool). p.1) head; others = tail }

first_unmade : (tasks : List MergeTask) (task : MergeTask) → Some task ≡ slice_get tasks 0 → unmade_tasks tasks ≡ (task, false) ∷ unmade_tasks (remove tasks 0)
first_unmade [] task first = absurd (true≢false (ap (λ (o : Option MergeTask). is_some o) first))
first_unmade (t ∷ ts) task first =
    let e : task ≡ t = cc in
    ap (λ (x : MergeTask). (x, false) ∷ unmade_tasks ts) (sym e)

-- the first one is fit to be merged, and so are the others
pub fit_split : (tasks : List MergeTask) (task : MergeTask) → All IsFitTask tasks → Some task ≡ slice_get tasks 0 → IsFitTask task × All IsFitTask (remove tasks 0)
fit_split [] task all first = absurd (true≢false (ap (λ (o : Option MergeTask). is_some o) first))
fit_split (t ∷ ts) task all first = let e : t ≡ task = cc in (subst IsFitTask e (All-head IsFitTask t ts all), All-tail IsFitTask t ts all)

given_behind : (ready : Option MergeTask) (tasks : List MergeTask) (task : MergeTask) → given_tasks ready tasks ++ (task, false) ∷ [] ≡ given_tasks ready (tasks ++ task ∷ [])
given_behind None tasks task = sym (map-append (λ (t : MergeTask). (t, false)) tasks (task ∷ []))
given_behind (Some r) tasks task = ap (λ (l : List (MergeTask × Bool)). (r, true) ∷ l) (sym (map-append (λ (t : MergeTask). (t, false)) tasks (task ∷ [])))

-- ---- the merge of the first number
module _ (m : Merging) (rest : List Merging) (n : ℕ) (number : m.task.seg.0 ≡ n) where
  at_first : merge_of n (m ∷ rest) ≡ Some m
  at_first = by (m.task.seg.0 == n) (eq-eqb m.task.seg.0 n number)
    where
      by : (b : Bool) → b ≡ true → (if b then Some m else merge_of n rest) ≡ Some m
      by true e = refl
      by false e = absurd (true≢false (sym e))

  without_first : merges_without n (m ∷ rest) ≡ rest
  without_first = by (m.task.seg.0 == n) (eq-eqb m.task.seg.0 n number)
    where
      by : (b : Bool) → b ≡ true → (if b then rest else m ∷ merges_without n rest) ≡ rest
      by true e = refl
      by false e = absurd (true≢false (sym e))

with_first : (m : Merging) (rest : List Merging) (merged : Merged) (names : List Name) → m.task.seg.0 ≡ merged.files.seg.0
    → merges_with merged names (m ∷ rest) ≡ record m { merged = Some merged; names = names } ∷ rest
with_first m rest merged names number = by (m.task.seg.0 == merged.files.seg.0) (eq-eqb m.task.seg.0 merged.files.seg.0 number)
  where
    by : (b : Bool) → b ≡ true → (if b then record m { merged = Some merged; names = names } ∷ rest else m ∷ merges_with merged names rest) ≡ record m { merged = Some merged; names = names } ∷ rest
    by true e = refl
    by false e = absurd (true≢false (sym e))

-- ---- what is seen of a primary
module _ {D : Type 0} (old new : PrimaryParts D) (seen : Seen) (is : IsSeen old seen) where
  pub seen_started : (factor : ℕ) (task : MergeTask) (given : List MergeTask) → StartsMerge factor old task new → IsFitTask task → given ≡ seen.merges ++ task ∷ [] → IsSeen new (record seen { merges = given })
  seen_started factor task given starts fit pushed = record {
    accepted = ap (λ (p : PrimaryParts D). p.accepted) starts.next ∙ is.accepted;
    version = ap (λ (p : PrimaryParts D). p.infos.version.0) starts.next ∙ is.version;
    publish = ap (λ (p : PrimaryParts D). p.publish) starts.next ∙ is.publish;
    merges = ap (λ (p : PrimaryParts D). tasks_of p.merges) starts.next
        ∙ map-append (λ (m : Merging). (m.task, is_some m.merged)) old.merges (starts.merging ∷ [])
        ∙ ap (λ (l : List (MergeTask × Bool)). l ++ (starts.merging.task, is_some starts.merging.merged) ∷ []) is.merges
        ∙ ap (λ (t : MergeTask). given_tasks seen.ready seen.merges ++ (t, is_some starts.merging.merged) ∷ []) starts.task_is
        ∙ ap (λ (o : Option Merged). given_tasks seen.ready seen.merges ++ (task, is_some o) ∷ []) starts.unmade
        ∙ given_behind seen.ready seen.merges task
        ∙ ap (λ (l : List MergeTask). given_tasks seen.ready l) (sym pushed);
    fit = subst (λ (l : List MergeTask). All IsFitTask l) (sym pushed) (All-append IsFitTask seen.merges (task ∷ []) is.fit (All-cons IsFitTask task [] fit (All-nil IsFitTask)));
  }

  -- the first merge, where none is made
  pub first_at : (task : MergeTask) → seen.ready ≡ None → Some task ≡ slice_get seen.merges 0 → StartsWith false old.merges task (unmade_tasks (remove seen.merges 0))
  first_at task none first = starts_with false old.merges task (unmade_tasks (remove seen.merges 0))
      (is.merges ∙ ap (λ (o : Option MergeTask). given_tasks o seen.merges) none ∙ first_unmade seen.merges task first)

  pub made_for : (task : MergeTask) (merged : Merged) → seen.ready ≡ None → Some task ≡ slice_get seen.merges 0 → IsMergedOf task merged → IsMadeFor old merged
  made_for task merged none first of =
      let at = first_at task none first in
      let number : at.m.task.seg.0 ≡ merged.files.seg.0 = ap (λ (t : MergeTask). t.seg.0) at.task_is ∙ ap (λ (seg : SegNo). seg.0) (sym of.number) in
      let found : merge_of merged.files.seg.0 old.merges ≡ Some at.m = ap (λ (ms : List Merging). merge_of merged.files.seg.0 ms) at.is ∙ at_first at.m at.rest merged.files.seg.0 number in
      subst (λ (o : Option Merging). IsSomeAnd o (λ m. (m.merged ≡ None) × IsMergedOf m.task merged)) (sym found)
      (none_made at.m.merged at.made, subst (λ (t : MergeTask). IsMergedOf t merged) (sym at.task_is) of)

  -- the merge whose files are written
  pub ready_at : (task : MergeTask) → seen.ready ≡ Some task → StartsWith true old.merges task (unmade_tasks seen.merges)
  ready_at task ready = starts_with true old.merges task (unmade_tasks seen.merges) (is.merges ∙ ap (λ (o : Option MergeTask). given_tasks o seen.merges) ready)

  pub filled_at : (task : MergeTask) → seen.ready ≡ Some task → IsFilledMerge old task.seg
  filled_at task ready =
      let at = ready_at task ready in
      let number : at.m.task.seg.0 ≡ task.seg.0 = ap (λ (t : MergeTask). t.seg.0) at.task_is in
      let found : merge_of task.seg.0 old.merges ≡ Some at.m = ap (λ (ms : List Merging). merge_of task.seg.0 ms) at.is ∙ at_first at.m at.rest task.seg.0 number in
      subst (λ (o : Option Merging). IsSomeAnd o (λ m. IsSome m.merged)) (sym found) at.made

  -- what the merges are once the first one's files are written
  pub tasks_readied : (task : MergeTask) (merged : Merged) → seen.ready ≡ None → Some task ≡ slice_get seen.merges 0 → IsMergedOf task merged → IsReadied merged old new
      → tasks_of new.merges ≡ given_tasks (Some task) (remove seen.merges 0)
  tasks_readied task merged none first of readied =
      let at = first_at task none first in
      let names : List Name = readied.m.names ++ names_of merged.files.files in
      let number : at.m.task.seg.0 ≡ merged.files.seg.0 = ap (λ (t : MergeTask). t.seg.0) at.task_is ∙ ap (λ (seg : SegNo). seg.0) (sym of.number) in
      ap (λ (ms : List Merging). tasks_of ms) readied.merges
      ∙ ap (λ (ms : List Merging). tasks_of (merges_with merged names ms)) at.is
      ∙ ap (λ (ms : List Merging). tasks_of ms) (with_first at.m at.rest merged names number)
      ∙ ap (λ (t : MergeTask). (t, true) ∷ tasks_of at.rest) at.task_is
      ∙ ap (λ (l : List (MergeTask × Bool)). (task, true) ∷ l) at.others

  -- and once it has ended
  pub tasks_ended : (task : MergeTask) (n : ℕ) → seen.ready ≡ None → Some task ≡ slice_get seen.merges 0 → task.seg.0 ≡ n → new.merges ≡ merges_without n old.merges
      → tasks_of new.merges ≡ given_tasks None (remove seen.merges 0)
  tasks_ended task n none first is_n gone =
      let at = first_at task none first in
      ap (λ (ms : List Merging). tasks_of ms) (gone ∙ ap (λ (ms : List Merging). merges_without n ms) at.is ∙ without_first at.m at.rest n (ap (λ (t : MergeTask). t.seg.0) at.task_is ∙ is_n)) ∙ at.others

  pub tasks_cut : (task : MergeTask) → seen.ready ≡ Some task → new.merges ≡ merges_without task.seg.0 old.merges → tasks_of new.merges ≡ given_tasks None seen.merges
  tasks_cut task ready gone =
      let at = ready_at task ready in
      ap (λ (ms : List Merging). tasks_of ms) (gone ∙ ap (λ (ms : List Merging). merges_without task.seg.0 ms) at.is ∙ without_first at.m at.rest task.seg.0 (ap (λ (t : MergeTask). t.seg.0) at.task_is)) ∙ at.others

  -- what is seen once the files of the first merge are written
  pub seen_readied : (task : MergeTask) (merged : Merged) (rest : List MergeTask) → seen.ready ≡ None → Some task ≡ slice_get seen.merges 0 → rest ≡ remove seen.merges 0 → IsMergedOf task merged
      → new ≡ record old { dir = new.dir; files = new.files; states = new.states; merges = new.merges } → IsReadied merged old new
      → IsSeen new (record seen { ready = Some task; merges = rest })
  seen_readied task merged rest none first rest_is of e readied = record {
    accepted = ap (λ (p : PrimaryParts D). p.accepted) e ∙ is.accepted;
    version = ap (λ (p : PrimaryParts D). p.infos.version.0) e ∙ is.version;
    publish = ap (λ (p : PrimaryParts D). p.publish) e ∙ is.publish;
    merges = tasks_readied task merged none first of readied ∙ ap (λ (l : List MergeTask). given_tasks (Some task) l) (sym rest_is);
    fit = subst (λ (l : List MergeTask). All IsFitTask l) (sym rest_is) (fit_split seen.merges task is.fit first).1;
  }

  -- and once it has ended
  pub seen_ended : (task : MergeTask) (merged : Merged) (rest : List MergeTask) → seen.ready ≡ None → Some task ≡ slice_get seen.merges 0 → rest ≡ remove seen.merges 0 → IsMergedOf task merged
      → new ≡ record old { dir = new.dir; files = new.files; states = new.states; merges = new.merges } → new.merges ≡ merges_without merged.files.seg.0 old.merges → IsSeen new (record seen { merges = rest })
  seen_ended task merged rest none first rest_is of e gone = record {
    accepted = ap (λ (p : PrimaryParts D). p.accepted) e ∙ is.accepted;
    version = ap (λ (p : PrimaryParts D). p.infos.version.0) e ∙ is.version;
    publish = ap (λ (p : PrimaryParts D). p.publish) e ∙ is.publish;
    merges = tasks_ended task merged.files.seg.0 none first (ap (λ (seg : SegNo). seg.0) (sym of.number)) gone ∙ ap (λ (l : List MergeTask). given_tasks None l) (sym rest_is) ∙ ap (λ (o : Option MergeTask). given_tasks o rest) (sym none);
    fit = subst (λ (l : List MergeTask). All IsFitTask l) (sym rest_is) (fit_split seen.merges task is.fit first).1;
  }

  -- once the one whose files are written was cut over, or has ended
  pub seen_cut : (task : MergeTask) (left : Option MergeTask) → seen.ready ≡ Some task → left ≡ None → new.infos.version ≡ old.infos.version
      → new ≡ record old { dir = new.dir; files = new.files; infos = new.infos; segs = new.segs; names = new.names; merges = new.merges; has_cut_over = new.has_cut_over; completed = new.completed }
      → new.merges ≡ merges_without task.seg.0 old.merges → IsSeen new (record seen { ready = left })
  seen_cut task left ready none same e gone = record {
    accepted = ap (λ (p : PrimaryParts D). p.accepted) e ∙ is.accepted;
    version = ap (λ (v : Version). v.0) same ∙ is.version;
    publish = ap (λ (p : PrimaryParts D). p.publish) e ∙ is.publish;
    merges = tasks_cut task ready gone ∙ ap (λ (o : Option MergeTask). given_tasks o seen.merges) (sym none);
    fit = is.fit;
  }
