-- What callers are told where a copy of a merged segment was sent to a replica, and to one after the other.
use Rattle.std.proofs.Common.{◌≡◌, ◌⊎◌, inl, inr, ◌<◌, ◌==◌, ◌||◌, ◌&&◌, ◌++◌, ◌∷◌, [], ℕ, suc, Bool, true, false, true≢false, not, List, map, Some, None, Option, Vec, Global, is_some, nat_lt, refl, ap, ◌∙◌, sym, subst, arith, if◌then◌else◌}
use Rattle.std.specs.List.{AllByRecursion}
use Rattle.std.proofs.lemmas.Bool.{ne_eqb, eq-eqb, or_parts}
use Rattle.std.proofs.lemmas.List.{map-append}
use Rattle.nrt_base.specs.declared.numbers.At.{At}
use Rattle.nrt_base.specs.declared.numbers.Gen.{Gen}
use Rattle.nrt_base.specs.declared.numbers.LineNo.{LineNo}
use Rattle.nrt_base.specs.declared.numbers.SegNo.{SegNo}
use Rattle.disk_model.specs.Disk.{Name, Content, Cells}
use Rattle.disk_model.specs.Faults.{Plans}
use Rattle.copy_state.specs.declared.state.CopyState.{CopyState}
use Rattle.replica_node.specs.declared.job.PointJob.{PointJob}
use Rattle.replica_node.specs.declared.merges.MergeCopies.{MergeCopies}
use Rattle.replica_node.specs.declared.parts.ReplicaParts.{ReplicaParts}
use Rattle.replica_node.specs.Merges.{copies_seen, no_copies}
use Rattle.replica_node.specs.Jobs.{merge_job_on, running_point, job_seen}
use Rattle.history_rules.specs.Nodes.{generation_of}
use Rattle.history_tables.specs.declared.jobs.Job.{Job}
use Rattle.history_book.specs.Jobs.{job_at}
use Rattle.history_book.specs.Log.{Log, printed}
use Rattle.history_book.specs.declared.inner.Step.TheVariants.{Merge as MergeStep}
use Rattle.merge_tasks.specs.declared.tasks.OpenMerge.{OpenMerge}
use Rattle.merge_tasks.specs.declared.tasks.Sent.{Sent}
use Rattle.merge_tasks.specs.declared.tasks.Spread.{Spread}
use Rattle.merge_tasks.specs.Board.{Board, open_merge, spread_at, with_spread, without_merge, is_unwritten}
use Rattle.merge_tasks.proofs.BoardRows.{open_with}
use Rattle.cluster_nodes.specs.declared.held.HeldTicket.{HeldTicket}
use Rattle.cluster_nodes.specs.declared.nodes.Node.TheVariants.{Replica}
use Rattle.cluster_nodes.specs.declared.nodes.NodePlace.{NodePlace}
use Rattle.cluster_nodes.specs.Places.{place_of}
use Rattle.cluster_nodes.specs.JobPlaces.{MovesOne}
use Rattle.node_merges.specs.MergeChanges.{SendsMerged}
use Rattle.cluster_state.specs.Files.{JobShows}
use Rattle.cluster_state.specs.CallsLeft.{stage_calls, place_calls, with_own, calls_in}
use Rattle.cluster_state.specs.JobsIn.{job_files, place_files, jobs_in}
use Rattle.cluster_state.specs.MergedCopies.{told_copy, place_copies, copies_in}
use Rattle.cluster_state.specs.Sizes.{sizes_in}
use Rattle.cluster_state.specs.Run.{JobFiles, MergedCopy, Rest, Run, no_files, files_at, merged_at}
use Rattle.cluster_state.proofs.FileFrames.{other_place}
use Rattle.cluster_state.proofs.JobsLeft.{files_are}
use Rattle.cluster_state.proofs.KeptOthers.{told_apart, told_one, merged_are}
use Rattle.cluster_state.proofs.RestKept.{place_sizes, map_same}
use Rattle.cluster_merges.specs.MergePaths.{WritesMerge, GivesUp, EndsBuild}
use Rattle.cluster_merges.specs.MergesKept.{KeepsBuilt, KeepsBuiltBy, TellsAll, TellsBuilt}
use Rattle.cluster_merges.specs.SentTold.{goes_to, copies_left, files_left, TellsSent, KeepsButSent, TellsSends}
use Rattle.cluster_merges.proofs.KeptMerges.{sizes_same, but_sizes, none_open}

-- ---- lists

-- a node that is none of those to which copies were sent, the last of them among them
not_sent : (sent : List Sent) (one : Sent) (m : ℕ) → goes_to m (sent ++ one ∷ []) ≡ false → (goes_to m sent ≡ false) × ((one.node.0 == m) ≡ false)
not_sent [] one m none = (refl, (or_parts (one.node.0 == m) false none).0)
not_sent (s ∷ sent) one m none = by (s.node.0 == m) (not_sent sent one m) none
  where
    by : (b : Bool) → (goes_to m (sent ++ one ∷ []) ≡ false → (goes_to m sent ≡ false) × ((one.node.0 == m) ≡ false)) → (b || goes_to m (sent ++ one ∷ [])) ≡ false
        → ((b || goes_to m sent) ≡ false) × ((one.node.0 == m) ≡ false)
    by true more none = absurd (true≢false none)
    by false more none = more none

-- all of them, and one more
all_more : {X : Type 0} (P : X → Type 0) (xs : List X) (x : X) → AllByRecursion P xs → P x → AllByRecursion P (xs ++ x ∷ [])
all_more P [] x all is = (is, tt)
all_more P (y ∷ xs) x all is = (all.0, all_more P xs x all.1 is)

all_both : {X : Type 0} (P Q R : X → Type 0) (xs : List X) → ((x : X) → P x → Q x → R x) → AllByRecursion P xs → AllByRecursion Q xs → AllByRecursion R xs
all_both P Q R [] each ps qs = tt
all_both P Q R (x ∷ xs) each ps qs = (each x ps.0 qs.0, all_both P Q R xs each ps.1 qs.1)

-- ---- those that are below a number

pub below_more : (sent : List Sent) (one : Sent) (n k : ℕ) → AllByRecursion (λ s. s.node.0 < n) sent → one.node.0 ≡ n → n < k → AllByRecursion (λ s. s.node.0 < k) (sent ++ one ∷ [])
below_more sent one n k all is less =
    all_more (λ (s : Sent). s.node.0 < k) sent one (all_both (λ (s : Sent). s.node.0 < n) (λ (s : Sent). s.node.0 < n) (λ (s : Sent). s.node.0 < k) sent (λ s low again. omega (arith, low, less)) all all) (omega (arith, is, less))

-- ---- one replica

-- the copies that a generation left
left_told : (seen generation : ℕ) (m : MergeCopies) → map told_copy (copies_seen seen generation m).running ≡ copies_left seen generation (map told_copy m.running)
left_told seen generation m = by (nat_lt seen generation)
  where
    by : (b : Bool) → map told_copy (if b then no_copies else m).running ≡ (if b then [] else map told_copy m.running)
    by true = refl
    by false = refl

seen_told : (seen : ℕ) (p : Option PointJob) → (job_files seen p).seen ≡ seen
seen_told seen None = refl
seen_told seen (Some j) = refl

-- the files of the job that it left
left_files : (source : Name → Content) (log : Log) (n : ℕ) (o : Option Job) (p : Option PointJob) (seen generation : ℕ) → JobShows source log n o p → job_files generation (job_seen seen generation p) ≡ files_left (is_some o) generation (job_files seen p)
left_files source log n o p seen generation shows =
    by (nat_lt seen generation) o p shows
    ∙ ap (λ (k : ℕ). if nat_lt k generation && not (is_some o) then record no_files { seen = generation } else record (job_files seen p) { seen = generation }) (sym (seen_told seen p))
  where
    by : (b : Bool) (job : Option Job) (q : Option PointJob) → JobShows source log n job q
        → job_files generation (if b then running_point q else q) ≡ (if b && not (is_some job) then record no_files { seen = generation } else record (job_files seen q) { seen = generation })
    by b (Some job) None shows = absurd shows
    by true None None shows = refl
    by true None (Some j) shows = ap (λ (t : Bool). job_files generation (if t then None else Some j)) shows.stopped
    by true (Some job) (Some j) shows = ap (λ (t : Bool). job_files generation (if t then None else Some j)) shows.runs
    by false None None shows = refl
    by false None (Some j) shows = refl
    by false (Some job) (Some j) shows = refl

module _ {D : Type 0} where
  one_told : (cells : D → Cells) (source : Name → Content) (log : Log) (state : CopyState) (s : Sent) (r t : ReplicaParts D) → SendsMerged cells state s.job r t → state.primary_gen.0 ≡ generation_of (printed log) → JobShows source log s.node.0 (job_at s.node.0 log) r.job
      → TellsSent log state s (job_files r.seen.0 r.job) (job_files t.seen.0 t.job) (map told_copy r.copies.running) (map told_copy t.copies.running)
  one_told cells source log state s r t w generation shows = record {
    misses = elim (merge_job_on s.job state w.holdings).missing [ [] ↦ false | q ∷ qs ↦ true ];
    copies_are = ap (λ (m : MergeCopies). map told_copy m.running) w.copies
        ∙ (map-append told_copy (copies_seen r.seen.0 state.primary_gen.0 r.copies).running (merge_job_on s.job state w.holdings ∷ [])
        ∙ (ap (λ (l : List MergedCopy). l ++ told_copy (merge_job_on s.job state w.holdings) ∷ []) (left_told r.seen.0 state.primary_gen.0 r.copies)
        ∙ λ i. copies_left ((sym (seen_told r.seen.0 r.job)) i) (generation i) (map told_copy r.copies.running) ++ told_copy (merge_job_on s.job state w.holdings) ∷ []));
    files_are = (λ i. job_files ((ap (λ (g : Gen). g.0) w.seen ∙ generation) i) ((w.job ∙ ap (λ (k : ℕ). job_seen r.seen.0 k r.job) generation) i))
        ∙ left_files source log s.node.0 (job_at s.node.0 log) r.job r.seen.0 (generation_of (printed log)) shows;
  }

  -- ---- one replica after the other

  pub none_told : (log : Log) (state : CopyState) (places : List (Option (NodePlace D))) → TellsSends log state [] places places
  none_told log state places = record { count = refl; calls = λ m. refl; sizes = refl; each = tt; files = λ m none. refl; copies = λ m none. refl }

  -- where the same was told of all places before
  pub told_before : (log : Log) (state : CopyState) (sent : List Sent) (a b c : List (Option (NodePlace D))) → TellsAll a b → TellsSends log state sent b c → TellsSends log state sent a c
  told_before log state sent a b c first second = record {
    count = second.count ∙ first.both.count;
    calls = λ m. second.calls m ∙ first.both.calls m;
    sizes = second.sizes ∙ first.sizes;
    each = all_both P P Q sent
        (λ s is again. subst (λ (z : JobFiles × List MergedCopy). TellsSent log state s z.0 (place_files (place_of c s.node.0)) z.1 (place_copies (place_of c s.node.0))) (λ i. (first.both.files s.node.0 i, first.copies s.node.0 i)) is)
        second.each second.each;
    files = λ m none. second.files m none ∙ first.both.files m;
    copies = λ m none. second.copies m none ∙ first.copies m;
  }
    where
      P : Sent → Type 0
      P s = TellsSent log state s (place_files (place_of b s.node.0)) (place_files (place_of c s.node.0)) (place_copies (place_of b s.node.0)) (place_copies (place_of c s.node.0))

      Q : Sent → Type 0
      Q s = TellsSent log state s (place_files (place_of a s.node.0)) (place_files (place_of c s.node.0)) (place_copies (place_of a s.node.0)) (place_copies (place_of c s.node.0))

  module _ (cells : D → Cells) (source : Name → Content) (log : Log) (state : CopyState) (sent : List Sent) (one : Sent) (old p new : List (Option (NodePlace D))) (n : ℕ) (r t : ReplicaParts D) (held : Vec HeldTicket Global)
      (moves : MovesOne n (record { node = Replica t; held = held }) p new) (there : place_of p n ≡ Some (record { node = Replica r; held = held })) (w : SendsMerged cells state one.job r t) (here : one.node.0 ≡ n)
      (same : place_of p n ≡ place_of old n) (below : AllByRecursion (λ s. s.node.0 < n) sent) (shows : JobShows source log n (job_at n log) r.job) (generation : state.primary_gen.0 ≡ generation_of (printed log)) (was : TellsSends log state sent old p) where
    abbrev x : NodePlace D
    x = record { node = Replica t; held = held }

    abbrev y : NodePlace D
    y = record { node = Replica r; held = held }

    abbrev To : List (Option (NodePlace D)) → Sent → Type 0
    To now s = TellsSent log state s (place_files (place_of old s.node.0)) (place_files (place_of now s.node.0)) (place_copies (place_of old s.node.0)) (place_copies (place_of now s.node.0))

    at_old : place_of old one.node.0 ≡ Some y
    at_old = ap (place_of old) here ∙ (sym same ∙ there)

    at_new : place_of new one.node.0 ≡ Some x
    at_new = ap (place_of new) here ∙ (moves.there n ∙ ap (λ (b : Bool). if b then Some x else place_of p n) (eq-eqb n n refl))

    mine : To new one
    mine = subst (λ (z : Option (NodePlace D) × Option (NodePlace D)). TellsSent log state one (place_files z.0) (place_files z.1) (place_copies z.0) (place_copies z.1)) (λ i. ((sym at_old) i, (sym at_new) i))
        (one_told cells source log state one r t w generation (subst (λ (k : ℕ). JobShows source log k (job_at k log) r.job) (sym here) shows))

    stays : (s : Sent) → To p s → s.node.0 < n → To new s
    stays s is low = subst (λ (o : Option (NodePlace D)). TellsSent log state s (place_files (place_of old s.node.0)) (place_files o) (place_copies (place_of old s.node.0)) (place_copies o))
        (sym (other_place n x p new s.node.0 moves (ne_eqb n s.node.0 (λ e. absurd (omega (arith, low, e)))))) is

    apart : (m : ℕ) → goes_to m (sent ++ one ∷ []) ≡ false → (n == m) ≡ false
    apart m none = subst (λ (k : ℕ). (k == m) ≡ false) here (not_sent sent one m none).1

    -- one more
    pub told_next : TellsSends log state (sent ++ one ∷ []) old new
    told_next = record {
      count = moves.count ∙ was.count;
      calls = λ m. told_one place_calls n x y p new there moves (ap (λ (z : ReplicaParts D). stage_calls z.commits.stage) w.others) m ∙ was.calls m;
      sizes = sizes_same p new moves.count (told_one place_sizes n x y p new there moves refl) ∙ was.sizes;
      each = all_more (To new) sent one (all_both (To p) (λ s. s.node.0 < n) (To new) sent stays was.each below) mine;
      files = λ m none. told_apart place_files n x p new moves m (apart m none) ∙ was.files m (not_sent sent one m none).0;
      copies = λ m none. told_apart place_copies n x p new moves m (apart m none) ∙ was.copies m (not_sent sent one m none).0;
    }

-- ---- in the terms of a call

module _ {D : Type 0} {named names : List (List Name)} (r now : Run) (carries : List Bool) (cut later : Bool) (board after : Board) (plans next : List Plans) (old new : List (Option (NodePlace D)))
    (was : record { calls_left = calls_in carries old; cut = cut; sizes = sizes_in old; jobs = jobs_in old; copies = copies_in old; tasks = board; plans = plans; names = named } ≡ r.rest)
    (is : record { calls_left = calls_in carries new; cut = later; sizes = sizes_in new; jobs = jobs_in new; copies = copies_in new; tasks = after; plans = next; names = names } ≡ now.rest) (same : later ≡ cut) (log : Log) (log_is : log ≡ r.log) where
  files_were : (n : ℕ) → place_files (place_of old n) ≡ files_at n r
  files_were n = sym (files_are n r old (sym (ap (λ (x : Rest). x.jobs) was)))

  files_now : (n : ℕ) → place_files (place_of new n) ≡ files_at n now
  files_now n = sym (files_are n now new (sym (ap (λ (x : Rest). x.jobs) is)))

  copies_were : (n : ℕ) → place_copies (place_of old n) ≡ merged_at n r
  copies_were n = sym (merged_are n r old (sym (ap (λ (x : Rest). x.copies) was)))

  copies_now : (n : ℕ) → place_copies (place_of new n) ≡ merged_at n now
  copies_now n = sym (merged_are n now new (sym (ap (λ (x : Rest). x.copies) is)))

  but_sent : (spread : Spread) → TellsSends log spread.state spread.left old new → KeepsButSent spread r now
  but_sent spread t = record {
    rest =
        let calls : calls_in carries new ≡ calls_in carries old = ap (with_own carries) (map_same place_calls old new t.count (λ k. t.calls (suc k))) in
        let sizes = t.sizes in
        sym is
        ∙ ((λ i. record { calls_left = calls i; cut = same i; sizes = sizes i; jobs = jobs_in new; copies = copies_in new; tasks = after; plans = next; names = names })
        ∙ (λ i. record (was i) { jobs = (is i).jobs; copies = (is i).copies; tasks = (is i).tasks; plans = (is i).plans; names = (is i).names }));
    each = all_both P P Q spread.left (λ s told again. seen s told) t.each t.each;
    files = λ m none. sym (files_now m) ∙ (t.files m none ∙ files_were m);
    copies = λ m none. sym (copies_now m) ∙ (t.copies m none ∙ copies_were m);
  }
    where
      P : Sent → Type 0
      P s = TellsSent log spread.state s (place_files (place_of old s.node.0)) (place_files (place_of new s.node.0)) (place_copies (place_of old s.node.0)) (place_copies (place_of new s.node.0))

      Q : Sent → Type 0
      Q s = TellsSent r.log spread.state s (files_at s.node.0 r) (files_at s.node.0 now) (merged_at s.node.0 r) (merged_at s.node.0 now)

      seen : (s : Sent) → P s → Q s
      seen s told = subst (λ (z : Log × (JobFiles × (JobFiles × (List MergedCopy × List MergedCopy)))). TellsSent z.0 spread.state s z.1.0 z.1.1.0 z.1.1.1.0 z.1.1.1.1)
          (λ i. (log_is i, (files_were s.node.0 i, (files_now s.node.0 i, (copies_were s.node.0 i, copies_now s.node.0 i))))) told

  -- by what has become of a merge whose segment was built, which has another row now, or none
  built_by : (now.rest.tasks.rows ≡ r.rest.tasks.rows → ⊥) → (o : Option Spread) → TellsBuilt log o old new → KeepsBuiltBy true o r now
  built_by other None t = but_sizes r now carries cut later board after plans next old new was is same (λ rows. absurd (other rows)) t
  built_by other (Some spread) t = but_sent spread t

  pub built_kept : (seg : SegNo) → is_unwritten (open_merge seg.0 r.rest.tasks.rows) ≡ true → (now.rest.tasks.rows ≡ r.rest.tasks.rows → ⊥) → TellsBuilt log (spread_at (open_merge seg.0 after.rows)) old new → KeepsBuilt seg r now
  built_kept seg unwritten other t = subst (λ (b : Bool). KeepsBuiltBy b (spread_at (open_merge seg.0 now.rest.tasks.rows)) r now) (sym unwritten)
      (built_by other (spread_at (open_merge seg.0 now.rest.tasks.rows)) (subst (λ (x : Rest). TellsBuilt log (spread_at (open_merge seg.0 x.tasks.rows)) old new) is t))

-- a merge whose segment was built has another row now, or none
pub built_rows : (line : LineNo) (seg : SegNo) (by : Option At) (old new : Run) → is_unwritten (open_merge seg.0 old.rest.tasks.rows) ≡ true → EndsBuild line seg by old new true → new.rest.tasks.rows ≡ old.rest.tasks.rows → ⊥
built_rows line seg by old new unwritten ends same = cases ends
  where
    rows : List OpenMerge
    rows = old.rest.tasks.rows

    closed : new.rest.tasks.rows ≡ without_merge seg.0 rows → ⊥
    closed gone = true≢false (sym unwritten ∙ ap is_unwritten (ap (open_merge seg.0) (sym same ∙ gone) ∙ none_open rows seg.0))

    is_again : (o : Option OpenMerge) → open_merge seg.0 rows ≡ o → is_unwritten o ≡ true → (s : Spread) → new.rest.tasks.rows ≡ with_spread seg.0 (Some s) rows → ⊥
    is_again None e none s is = true≢false (sym none)
    is_again (Some row) e none s is =
        let now : open_merge seg.0 rows ≡ Some (record row { spread = Some s }) = ap (open_merge seg.0) (sym same ∙ is) ∙ (open_with rows seg.0 (Some s) row e seg.0 ∙ ap (λ (b : Bool). if b then Some (record row { spread = Some s }) else open_merge seg.0 rows) (eq-eqb seg.0 seg.0 refl)) in
        true≢false (sym unwritten ∙ ap is_unwritten now)

    cases : WritesMerge line seg by old new ⊎ GivesUp line seg by MergeStep old new → ⊥
    cases (inl w) = is_again (open_merge seg.0 rows) refl unwritten (record { state = w.state; left = w.sent; all = true }) w.writes.rows_are
    cases (inr g) = closed g.merge.ends.rows_are
