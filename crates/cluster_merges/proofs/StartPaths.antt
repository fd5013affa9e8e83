-- A merge that starts, and one that does not, in the terms of the call.
use Rattle.std.proofs.Common.{◌≡◌, ◌≢◌, ◌≤◌, ◌<◌, ◌==◌, ◌++◌, ℕ, Bool, true, false, List, [], ◌∷◌, take, drop, map, Some, None, Option, Ok, Err, Result, refl, ap, ◌∙◌, sym, subst, arith}
use Rattle.std.specs.Prelude.{IfSome, IfOk}
use Rattle.std.proofs.lemmas.Bool.{eq-eqb}
use Rattle.std.proofs.lemmas.List.{length-map}
use Rattle.std.proofs.lemmas.Slice.Zip.{AllZip-long}
use Rattle.nrt_base.specs.SegNumbers.{segment_number, segments_of_generation}
use Rattle.nrt_base.specs.declared.numbers.At.{At}
use Rattle.nrt_base.specs.declared.numbers.NodeNo.{NodeNo}
use Rattle.nrt_base.specs.declared.numbers.SegNo.{SegNo}
use Rattle.disk_model.specs.Disk.{Name, Cells, reads_of}
use Rattle.seg_reader.specs.Stands.{IsSegmentIn}
use Rattle.seg_reader.specs.Shown.{Shown}
use Rattle.seg_merge.specs.declared.task.MergeTask.{MergeTask}
use Rattle.merge_choice.specs.Choice.{IsClass, IsFirstRange, HasNoRange}
use Rattle.script_serving.specs.Refusals.{put_publishes}
use Rattle.segment_steps.specs.Starting.{size_by}
use Rattle.history_rules.specs.declared.cause.Cause.{Cause}
use Rattle.history_rules.specs.declared.cause.Cause.TheVariants.{Nothing, NamesSpent}
use Rattle.history_rules.specs.declared.entry.Event.TheVariants.{Merging as MergingEvent}
use Rattle.history_rules.specs.Nodes.{IsNode, is_at, primary_of}
use Rattle.history_rules.specs.Points.{names_drawn}
use Rattle.history_rules.specs.Rules.{MayStartMerge}
use Rattle.history_rules.specs.Legal.{IsLegalPast}
use Rattle.history_book.specs.Log.{Log, printed, shown, kept}
use Rattle.history_book.specs.declared.inner.Inner.TheVariants.{MergeOut}
use Rattle.history_book.specs.Chosen.{input_sizes, TakesFirst}
use Rattle.history_book.specs.Laws.{IsFresh}
use Rattle.history_book.specs.Turns.{AreInTurn}
use Rattle.merge_tasks.specs.Merging.{Sheet, next_name}
use Rattle.index_primary.specs.declared.parts.PrimaryParts.{PrimaryParts}
use Rattle.index_primary.specs.declared.parts.PublishFault.{PublishFault}
use Rattle.index_primary.specs.declared.parts.PublishFault.TheVariants.{NamesSpent as Spent, TooManySegments}
use Rattle.index_primary.specs.Cut.{infos_drawn}
use Rattle.index_primary.specs.Held.{drawn_to}
use Rattle.index_primary.specs.Merges.{merge_inputs}
use Rattle.index_primary.specs.Primary.{loose_of}
use Rattle.index_primary.specs.StartCalls.{IsFitTask, merge_sizes, StartsMerge, AnswersMerge}
use Rattle.merge_tasks.specs.TaskLog.{merge_task}
use Rattle.merge_tasks.specs.Board.{Board, posted_merge}
use Rattle.cluster_nodes.specs.declared.nodes.Node.TheVariants.{Primary}
use Rattle.cluster_nodes.specs.declared.nodes.NodePlace.{NodePlace}
use Rattle.cluster_nodes.specs.Places.{place_of}
use Rattle.cluster_nodes.specs.KeptFiles.{KeepsNodeFiles}
use Rattle.cluster_nodes.proofs.TicketNodes.{node_alone}
use Rattle.disk_model.specs.Faults.{Plans}
use Rattle.cluster_state.specs.Run.{JobFiles, MergedCopy, Run}
use Rattle.cluster_state.specs.Sizes.{sizes_in}
use Rattle.cluster_state.specs.State.{PlaceShows, PrimaryShows}
use Rattle.cluster_state.proofs.Frames.{some_at, now_is}
use Rattle.cluster_state.proofs.SizesTold.{sizes_at}
use Rattle.cluster_state.proofs.FileFrames.{files_one, files_is}
use Rattle.cluster_state.proofs.JobMoves.{shows_put}
use Rattle.cluster_state.proofs.JobFrames.{job_stays}
use Rattle.cluster_state.proofs.Disks.{commits_alone}
use Rattle.cluster_state.proofs.Drawn.{grows_none}
use Rattle.cluster_state.proofs.Naming.{holds_same}
use Rattle.cluster_state.proofs.MergingStill.{primary_keeps, one_keeps, stand_same}
use Rattle.node_merges.specs.MergeChanges.{AsksMerge}
use Rattle.node_merges.specs.MergePlaces.{MovesPrimary, AreSizesAt}
use Rattle.cluster_merges.specs.MergePaths.{BeginsMerge, StartsMergeFor}
use Rattle.cluster_merges.specs.MergeSizes.{without_range}
use Rattle.cluster_merges.specs.Running.{AllShown}
use Rattle.cluster_merges.proofs.BegunShows.{HasStarted, begun_shows, begun_files}
use Rattle.cluster_merges.proofs.BegunStands.{begun_stands}
use Rattle.cluster_merges.proofs.FirstSizes.{range_sizes}
use Rattle.cluster_merges.proofs.InsideSteps.{all_is}
use Rattle.cluster_merges.proofs.SizesEnded.{started_sizes, sizes_moved}
use Rattle.cluster_merges.proofs.TaskPaths.{as_before}

-- ---- the call

module _ {D : Type 0} (cells : D → Cells) (r : Run) (old new : List (Option (NodePlace D))) (b0 b1 : Sheet) (board : Board) (at : At) (p : NodeNo) (factor : ℕ) (result : Result (Option MergeTask) PublishFault) {ended cut : Bool} {calls : List ℕ} {copies : List (List MergedCopy)} {jobs : List JobFiles} {plans : List Plans} {named : List (List Name)}
    (view : record { ended = ended; nodes = b0.nodes; log = b0.log; rest = record { calls_left = calls; cut = cut; sizes = sizes_in old; jobs = jobs; copies = copies; tasks = board; plans = plans; names = named } } ≡ r) (running : r.ended ≡ false) (all : ended ≡ false → AllShown cells b0 board old)
    (e1 : b1.log ≡ b0.log) (n1 : b1.nodes ≡ b0.nodes) (c1 : b1.cut ≡ b0.cut) (legal : IsLegalPast b0.nodes (printed b0.log)) (turns : AreInTurn (printed b0.log)) (fresh : IsFresh at (printed b0.log)) (node : IsNode r.nodes p.0) (primary : primary_of (printed r.log) ≡ Some p)
    (asked : MovesPrimary (λ q s. AsksMerge cells factor q s result) p.0 old new) where
  was : AllShown cells b0 board old
  was = all (ap (λ (x : Run). x.ended) view ∙ running)

  abbrev q : PrimaryParts D
  q = asked.at.parts

  abbrev s : PrimaryParts D
  s = asked.primary

  node0 : IsNode b0.nodes p.0
  node0 = subst (λ (k : ℕ). IsNode k p.0) (sym (ap (λ (x : Run). x.nodes) view)) node

  primary0 : primary_of (printed b0.log) ≡ Some p
  primary0 = ap (λ (x : Run). primary_of (printed x.log)) view ∙ primary

  here : is_at (primary_of (printed b0.log)) p.0 ≡ true
  here = ap (λ (o : Option NodeNo). is_at o p.0) primary0 ∙ eq-eqb p.0 p.0 refl

  others : (m : ℕ) → (p.0 == m) ≡ false → is_at (primary_of (printed b0.log)) m ≡ false
  others m apart = ap (λ (o : Option NodeNo). is_at o m) primary0 ∙ apart

  place : PlaceShows cells b0.log p.0 (record { node = Primary q; held = asked.at.held })
  place = some_at (PlaceShows cells b0.log p.0) (place_of old p.0) (record { node = Primary q; held = asked.at.held }) asked.at.there (was.0.each p.0 node0)

  shows : PrimaryShows cells b0.log p.0 q
  shows = place.node_shows

  sizes : r.rest.sizes ≡ merge_sizes q
  sizes = sym (ap (λ (x : Run). x.rest.sizes) view) ∙ sizes_at cells b0.log b0.nodes p.0 old q asked.at.held node0 asked.at.there others was.0

  -- ---- no merge starts: all is as it was

  module _ (same : s ≡ q) where
    pub unasked_all : AllShown cells b1 board new
    unasked_all = (
      now_is cells b0.log b1.log b0.nodes b1.nodes new e1 n1
          (shows_put cells b0.nodes b0.log old new p.0 (record { node = Primary s; held = asked.at.held }) asked.moves (subst (λ (z : PrimaryParts D). PlaceShows cells b0.log p.0 (record { node = Primary z; held = asked.at.held })) (sym same) place) was.0),
      files_is cells b0.log b1.log b0.nodes b1.nodes new e1 n1
          (files_one cells b0.nodes b0.log b0.log old new p.0 (record { node = Primary s; held = asked.at.held }) (record { node = Primary q; held = asked.at.held }) (grows_none (printed b0.log)) (λ name bytes out. out)
          (holds_same cells (printed b0.log) (Primary q) (Primary s) (ap (λ (z : PrimaryParts D). z.searchers.tickets) same) (ap (λ (z : PrimaryParts D). loose_of z) same))
          (λ m other. job_stays b0.log m) (λ m. commits_alone (printed b0.log) m) asked.moves node0 asked.at.there
          (subst (λ (z : PrimaryParts D). KeepsNodeFiles cells (Primary q) (Primary z)) (sym same) (node_alone cells (Primary q))) was.0 was.1),
      stand_same board old new b0 b1 e1 n1 c1
          (one_keeps b0.nodes board b0.log b0.cut old new p.0 (record { node = Primary s; held = asked.at.held }) (record { node = Primary q; held = asked.at.held }) asked.moves node0 asked.at.there refl
          (λ jobs count low. primary_keeps jobs count q s (ap (λ (z : PrimaryParts D). z.merges) same) (ap (λ (z : PrimaryParts D). z.has_cut_over) same) (ap (λ (z : PrimaryParts D). z.states) same) low) was.2) was.2,
    )

  -- what was answered
  answered : (x : Result (Option MergeTask) PublishFault) → result ≡ x → AnswersMerge factor q s x
  answered x is = subst (λ (y : Result (Option MergeTask) PublishFault). AnswersMerge factor q s y) is asked.step.answers

  refused : (fault why : PublishFault) → result ≡ Err fault → fault ≡ why → AnswersMerge factor q s (Err why)
  refused fault why is same = subst (λ (f : PublishFault). AnswersMerge factor q s (Err f)) same (answered (Err fault) is)

  pub not_many : (fault : PublishFault) → result ≡ Err fault → fault ≢ TooManySegments
  not_many fault is many = refused fault TooManySegments is many

  pub none_all : result ≡ Ok None → AllShown cells b1 board new
  none_all is = unasked_all (answered (Ok None) is).1

  pub spent_all : (fault : PublishFault) → result ≡ Err fault → fault ≡ Spent → AllShown cells b1 board new
  spent_all fault is spent = unasked_all (refused fault Spent is spent).2

  no_range : HasNoRange factor (merge_sizes q) → HasNoRange factor r.rest.sizes
  no_range none = subst (λ (l : List (Option ℕ)). HasNoRange factor l) (sym sizes) none

  some_range : ((from : ℕ) × IsFirstRange factor (merge_sizes q) from) → (from : ℕ) × IsFirstRange factor r.rest.sizes from
  some_range is = (is.0, subst (λ (l : List (Option ℕ)). IsFirstRange factor l is.0) (sym sizes) is.1)

  all_drawn : q.infos.counter ≡ segments_of_generation → names_drawn (printed r.log) ≡ segments_of_generation
  all_drawn full = sym (ap (λ (x : Run). names_drawn (printed x.log)) view) ∙ (sym shows.writer.counter ∙ full)

  pub none_starts : result ≡ Ok None → {calls1 : List ℕ} {cut1 : Bool} {sizes1 : List (Option ℕ)} {copies1 : List (List MergedCopy)} {jobs1 : List JobFiles} {plans1 : List Plans} {named1 : List (List Name)}
      → StartsMergeFor at factor r (record { ended = false; nodes = b1.nodes; log = b1.log; rest = record { calls_left = calls1; cut = cut1; sizes = sizes1; jobs = jobs1; copies = copies1; tasks = board; plans = plans1; names = named1 } }) (Some Nothing)
  none_starts is {calls1} {cut1} {sizes1} = (as_before r b0 b1 board view e1 n1 board calls1 cut1 sizes1 refl refl, no_range (answered (Ok None) is).0)

  pub spent_starts : (fault : PublishFault) (cause : Cause) → result ≡ Err fault → fault ≡ Spent → cause ≡ NamesSpent → (calls1 : List ℕ) (cut1 : Bool) (sizes1 : List (Option ℕ)) (copies1 : List (List MergedCopy)) (jobs1 : List JobFiles) (plans1 : List Plans) (named1 : List (List Name))
      → StartsMergeFor at factor r (record { ended = false; nodes = b1.nodes; log = b1.log; rest = record { calls_left = calls1; cut = cut1; sizes = sizes1; jobs = jobs1; copies = copies1; tasks = board; plans = plans1; names = named1 } }) (Some cause)
  spent_starts fault cause is spent named calls1 cut1 sizes1 copies1 jobs1 plans1 named1 =
      let all = refused fault Spent is spent in
      subst (λ (c : Cause). StartsMergeFor at factor r (record { ended = false; nodes = b1.nodes; log = b1.log; rest = record { calls_left = calls1; cut = cut1; sizes = sizes1; jobs = jobs1; copies = copies1; tasks = board; plans = plans1; names = named1 } }) (Some c)) (sym named)
      (as_before r b0 b1 board view e1 n1 board calls1 cut1 sizes1 refl refl, some_range all.0, all_drawn all.1)

  -- ---- a merge starts

  module _ (task : MergeTask) (is : result ≡ Ok (Some task)) where
    starts : StartsMerge factor q task s
    starts = subst (λ (x : Result (Option MergeTask) PublishFault). AnswersMerge factor q s x) is asked.step.answers

    fit : IsFitTask task
    fit = subst (λ (x : Result (Option MergeTask) PublishFault). IfOk x (λ o. IfSome o IsFitTask)) is asked.step.fit

    started : HasStarted q s
    started = starts.next ∙ λ i. record q { files = s.files; infos = infos_drawn true q.infos; merges = sym (ap (λ (z : PrimaryParts D). z.merges) starts.next) i }

    merges : s.merges ≡ q.merges ++ starts.merging ∷ []
    merges = ap (λ (z : PrimaryParts D). z.merges) starts.next

    drawn : task.seg.0 ≡ drawn_to q.infos
    drawn = ap (λ (k : SegNo). k.0) starts.start.number

    next : task.seg.0 ≡ next_name (printed b0.log)
    next = drawn ∙ λ i. segment_number (shows.writer.generation i) (shows.writer.counter i)

    names : names_drawn (printed b0.log) < segments_of_generation
    names = let more = starts.more in let counter = shows.writer.counter in omega (arith, more, counter)

    of : task ≡ merge_task task.seg task.inputs
    of = λ i. record { seg = task.seg; inputs = task.inputs; live = (starts.start.live_are ∙ ap (λ (l : List Shown). map (λ x. x.live) l) (sym starts.start.segs_are)) i }

    few : factor ≤ put_publishes (printed b0.log)
    few = let within = starts.start.first.is.within in let puts = shows.writer.few in let count = length-map q.infos.segs (size_by (merge_inputs q.merges)) in omega (arith, within, puts, count)

    taken : take factor (drop starts.start.from (merge_sizes q)) ≡ input_sizes task.inputs
    taken =
        let range = starts.start.first.is in
        let within = range.within in
        let rows = length-map q.infos.segs (size_by (merge_inputs q.merges)) in
        range_sizes (reads_of (cells q.dir)) (merge_inputs q.merges) (λ size. IsClass factor size range.class) starts.start.from factor q.infos.segs q.segs shows.whole.writer.stands.each (omega (arith, within, rows)) range.each
        ∙ ap input_sizes (sym starts.start.segs_are)

    -- the merge takes the first range by the sizes that callers are told
    takes : TakesFirst factor r.rest.sizes task.inputs
    takes = record {
      from = starts.start.from;
      first = subst (λ (l : List (Option ℕ)). IsFirstRange factor l starts.start.from) (sym sizes) starts.start.first;
      taken = ap (λ (l : List (Option ℕ)). take factor (drop starts.start.from l)) sizes ∙ taken;
    }

    pub merging_rule : MayStartMerge (printed b0.log) at task.seg
    merging_rule = record { running = λ none. some_none (sym primary0 ∙ none); next = next; unspent = names; spared = fresh.spared }
      where
        some_none : Some p ≡ None → ⊥
        some_none e = absurd (cc)

    module _ (b2 b3 : Sheet) (inputs : List Shown) (listed : List (Option ℕ)) (after : Board) (shared : inputs ≡ task.inputs) (sized : AreSizesAt (place_of old p.0) listed) (e2 : b2.log ≡ shown at (MergingEvent task.seg) ∷ b1.log) (n2 : b2.nodes ≡ b1.nodes) (c2 : b2.cut ≡ b1.cut)
        (e3 : b3.log ≡ kept (MergeOut at.line task.seg inputs listed) ∷ b2.log) (n3 : b3.nodes ≡ b2.nodes) (c3 : b3.cut ≡ b2.cut)
        (rows : after.rows ≡ board.rows ++ record { seg = task.seg; line = at.line; spread = None } ∷ []) (posted : after.posted ≡ board.posted ++ posted_merge task.seg at.line task ∷ []) (counts : after.counts ≡ board.counts) where
      listed_is : listed ≡ merge_sizes q
      listed_is = subst (λ (o : Option (NodePlace D)). AreSizesAt o listed) asked.at.there sized

      abbrev now : Log
      now = kept (MergeOut at.line task.seg task.inputs (merge_sizes q)) ∷ shown at (MergingEvent task.seg) ∷ b0.log

      log_now : b3.log ≡ now
      log_now = e3 ∙ λ i. kept (MergeOut at.line task.seg (shared i) (listed_is i)) ∷ (e2 ∙ ap (λ (l : Log). shown at (MergingEvent task.seg) ∷ l) e1) i

      told : after.posted ≡ board.posted ++ posted_merge task.seg at.line (merge_task task.seg task.inputs) ∷ []
      told = posted ∙ ap (λ (t : MergeTask). board.posted ++ posted_merge task.seg at.line t ∷ []) of

      abbrev sheet : Sheet
      sheet = record b0 { log = now }

      pub started_all : AllShown cells b3 after new
      started_all = all_is cells sheet b3 after new log_now (n3 ∙ (n2 ∙ n1)) (c3 ∙ (c2 ∙ c1)) (
        begun_shows cells b0.nodes b0.log at task.seg legal turns merging_rule fresh p.0 q s started asked.step.whole asked.at.held old new asked.moves node0 asked.at.there was.0 at.line task.inputs (merge_sizes q) others,
        begun_files cells b0.nodes b0.log at task.seg legal turns merging_rule fresh p.0 q s started asked.step.whole asked.at.held old new asked.moves node0 asked.at.there was.0 at.line task.inputs (merge_sizes q) starts.merging merges
            (ap (λ (t : MergeTask). t.seg.0) starts.task_is ∙ drawn) names asked.step.stays asked.step.no_new asked.step.drawn others was.1,
        begun_stands cells b0.nodes b0.log b0.cut board after at task.seg task (merge_sizes q) starts.merging p.0 q s asked.at.held old new legal names next of starts.task_is starts.unmade fit started merges
            asked.moves node0 asked.at.there was.0 here others rows told counts was.2,
      )

      -- the inputs have no size any more
      held_sizes : sizes_in new ≡ without_range starts.start.from factor r.rest.sizes
      held_sizes =
          (sizes_moved cells b0 b3 old new p was.0 started_all.0 node0 (n3 ∙ (n2 ∙ n1)) primary0 (ap (λ (l : Log). primary_of (printed l)) log_now ∙ primary0) asked).1
          ∙ (started_sizes cells factor q s task starts asked.step.whole (sym (AllZip-long (IsSegmentIn (reads_of (cells q.dir))) q.infos.segs q.segs shows.whole.writer.stands.each))
          ∙ ap (λ (l : List (Option ℕ)). without_range starts.start.from factor l) (sym sizes))

      pub begins_merge : {calls1 : List ℕ} {cut1 : Bool} {copies1 : List (List MergedCopy)} {jobs1 : List JobFiles} {plans1 : List Plans} {named1 : List (List Name)} → BeginsMerge at factor r (record { ended = false; nodes = b3.nodes; log = b3.log; rest = record { calls_left = calls1; cut = cut1; sizes = sizes_in new; jobs = jobs1; copies = copies1; tasks = after; plans = plans1; names = named1 } })
      unfolding takes starts
      begins_merge = record {
        seg = task.seg;
        inputs = task.inputs;
        named = subst (λ (x : Run). task.seg.0 ≡ next_name (printed x.log)) view next;
        takes = takes;
        unspent = subst (λ (x : Run). names_drawn (printed x.log) < segments_of_generation) view names;
        few = subst (λ (x : Run). factor ≤ put_publishes (printed x.log)) view few;
        held = held_sizes;
        begins = record {
          is = record { running = refl; nodes = n3 ∙ (n2 ∙ (n1 ∙ ap (λ (x : Run). x.nodes) view)); log = log_now ∙ (ap (λ (l : List (Option ℕ)). kept (MergeOut at.line task.seg task.inputs l) ∷ shown at (MergingEvent task.seg) ∷ b0.log) (sym sizes) ∙ ap (λ (x : Run). kept (MergeOut at.line task.seg task.inputs r.rest.sizes) ∷ shown at (MergingEvent task.seg) ∷ x.log) view) };
          rows_are = rows ∙ ap (λ (x : Run). x.rest.tasks.rows ++ record { seg = task.seg; line = at.line; spread = None } ∷ []) view;
          posted_are = told ∙ ap (λ (x : Run). x.rest.tasks.posted ++ posted_merge task.seg at.line (merge_task task.seg task.inputs) ∷ []) view;
        };
      }
