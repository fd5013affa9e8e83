-- A merge that starts: what is true of merges once its inputs are handed out and its task is posted.
use Rattle.std.proofs.Common.{◌≡◌, ◌<◌, ◌≤◌, ◌+◌, ◌==◌, ◌++◌, ◌||◌, ℕ, Bool, true, false, true≢false, List, [], ◌∷◌, Some, None, Option, Vec, Global, refl, ap, ◌∙◌, sym, subst, arith, if◌then◌else◌}
use Rattle.std.specs.Prelude.{IsSomeAnd}
use Rattle.std.specs.List.{All}
use Rattle.std.proofs.lemmas.Bool.{eq-eqb, eqb-true, ltb-true}
use Rattle.std.proofs.lemmas.List.Elements.{All-push}
use Rattle.nrt_base.specs.SegNumbers.{segment_place, segment_generation, segments_of_generation}
use Rattle.nrt_base.specs.declared.numbers.At.{At}
use Rattle.nrt_base.specs.declared.numbers.NodeNo.{NodeNo}
use Rattle.nrt_base.specs.declared.numbers.SegNo.{SegNo}
use Rattle.disk_model.specs.Disk.{Cells}
use Rattle.seg_reader.specs.Shown.{Shown}
use Rattle.seg_merge.specs.declared.task.MergeTask.{MergeTask}
use Rattle.seg_merge.specs.declared.task.Merged.{Merged}
use Rattle.copy_job.specs.Jobs.{Job}
use Rattle.history_rules.specs.declared.entry.Event.{Event}
use Rattle.history_rules.specs.declared.entry.Event.TheVariants.{Merging as MergingEvent}
use Rattle.history_rules.specs.Nodes.{Past, IsNode, is_at, primary_of, generation_of}
use Rattle.history_rules.specs.Points.{names_drawn, names_drawn_in, is_drawn}
use Rattle.history_rules.specs.Legal.{KeepsRule, IsLegalPast}
use Rattle.history_tables.proofs.RowLemmas.{by_test}
use Rattle.history_book.specs.Log.{Log, printed, shown, kept}
use Rattle.history_book.specs.declared.inner.Inner.TheVariants.{MergeOut}
use Rattle.merge_tasks.specs.Merging.{next_name}
use Rattle.index_primary.specs.declared.parts.PrimaryParts.{PrimaryParts}
use Rattle.index_primary.specs.declared.states.Merging.{Merging}
use Rattle.index_primary.specs.declared.states.Out.{Out}
use Rattle.index_primary.specs.Merges.{merge_of}
use Rattle.index_primary.specs.StartCalls.{IsFitTask}
use Rattle.merge_tasks.specs.declared.tasks.OpenMerge.{OpenMerge}
use Rattle.merge_tasks.specs.declared.tasks.Posted.{Posted}
use Rattle.merge_tasks.specs.declared.tasks.Spread.{Spread}
use Rattle.merge_tasks.specs.TaskLog.{or_first, inputs_by, inputs_out, merge_task, starts_merge, has_started, StartWithNames}
use Rattle.merge_tasks.specs.Board.{Board, open_merge, spread_at, is_sent_in, posted_merge, TasksShow}
use Rattle.merge_tasks.proofs.BoardRows.{open_end}
use Rattle.merge_tasks.proofs.TaskFrames.{first_stays, tasks_begun}
use Rattle.cluster_nodes.specs.declared.held.HeldTicket.{HeldTicket}
use Rattle.cluster_nodes.specs.declared.nodes.Node.{Node}
use Rattle.cluster_nodes.specs.declared.nodes.Node.TheVariants.{Primary, Replica, Down}
use Rattle.cluster_nodes.specs.declared.nodes.NodePlace.{NodePlace}
use Rattle.cluster_nodes.specs.Places.{place_of}
use Rattle.cluster_nodes.specs.Outs.{one_like, states_like, jobs_like}
use Rattle.cluster_nodes.specs.JobPlaces.{MovesOne}
use Rattle.cluster_nodes.proofs.OutCounts.{jobs_same}
use Rattle.cluster_state.specs.State.{NodeShows, PlaceShows, Shows}
use Rattle.cluster_state.specs.Merging.{AreWrittenAlike, IsMergeOfRow, AreMergedAlike, spreads_like, AreSentCopies, IsFitKind, PrimaryMerges, NodeMerges, MergesStand}
use Rattle.cluster_state.proofs.Drawn.{grows_shown, present_drawn}
use Rattle.cluster_state.proofs.FileFrames.{some_both, one_each, wants_same}
use Rattle.cluster_state.proofs.Frames.{some_at}
use Rattle.cluster_state.proofs.MergingStill.{InputsStay, alike_more}
use Rattle.cluster_merges.proofs.StandSteps.{merge_numbered, alike_begun, sent_still, spreads_end}
use Rattle.cluster_merges.proofs.BegunShows.{starting, merge_drawn, HasStarted}

-- ---- a segment into which a merge was started is drawn, and the next one is not

started_drawn : (size seg : ℕ) (past : Past) → IsLegalPast size past → StartWithNames past → has_started seg past ≡ true → is_drawn seg past ≡ true
started_drawn size seg [] legal low is = absurd (true≢false (sym is))
started_drawn size seg (e ∷ past) legal low is = by e.at e.event (started_drawn size seg past legal.1 low.1) legal.0 low is
  where
    before : (at : At) (x : Event) → (has_started seg past ≡ true → is_drawn seg past ≡ true) → KeepsRule size past at x → has_started seg past ≡ true → is_drawn seg (record { at = at; event = x } ∷ past) ≡ true
    before at x older rule was = (grows_shown size past at x legal.1 rule).drawn seg (older was)

    by : (at : At) (x : Event) → (has_started seg past ≡ true → is_drawn seg past ≡ true) → KeepsRule size past at x → StartWithNames (record { at = at; event = x } ∷ past) → (starts_merge seg x || has_started seg past) ≡ true
        → is_drawn seg (record { at = at; event = x } ∷ past) ≡ true
    by at (MergingEvent s) older rule names is =
        by_test (s.0 == seg) (λ b. (s.0 == seg) ≡ b → (b || has_started seg past) ≡ true → is_drawn seg (starting at s ∷ past) ≡ true)
        (λ here e got. subst (λ (k : ℕ). is_drawn k (starting at s ∷ past) ≡ true) (sym rule.next ∙ eqb-true s.0 seg e) (merge_drawn past at s names.0))
        (λ apart e got. before at (MergingEvent s) older rule got)
        refl is
    by at x older rule names is = before at x older rule is

next_undrawn : (past : Past) → names_drawn past < segments_of_generation → is_drawn (next_name past) past ≡ true → ⊥
next_undrawn past low is =
    let place : segment_place (next_name past) ≡ names_drawn past = omega (arith, low) in
    let made : segment_generation (next_name past) ≡ generation_of past = omega (arith, low) in
    let few = present_drawn (segment_generation (next_name past)) past (sym made) in
    let above = ltb-true (segment_place (next_name past)) (names_drawn_in (segment_generation (next_name past)) past) is in
    omega (arith, place, few, above)

-- so nothing was handed out of a merge into the next segment
pub next_unnoted : (size : ℕ) (log : Log) (board : Board) → IsLegalPast size (printed log) → names_drawn (printed log) < segments_of_generation → TasksShow size log board → inputs_out (next_name (printed log)) log ≡ None
next_unnoted size log board legal names tasks = by (inputs_out (next_name (printed log)) log) refl
  where
    by : (o : Option (List Shown)) → inputs_out (next_name (printed log)) log ≡ o → inputs_out (next_name (printed log)) log ≡ None
    by None is = is
    by (Some inputs) is = absurd (next_undrawn (printed log) names (started_drawn size (next_name (printed log)) (printed log) legal tasks.low (tasks.noted (next_name (printed log)) (λ none. absurd (some_none (sym is ∙ none))))))
      where
        some_none : Some inputs ≡ None → ⊥
        some_none e = absurd (cc)

-- and no merge into it is in flight
pub next_open : (log : Log) (ms : List Merging) (rows : List OpenMerge) (seg : ℕ) → inputs_out seg log ≡ None → AreMergedAlike log (merge_of seg ms) (open_merge seg rows) → open_merge seg rows ≡ None
next_open log ms rows seg unnoted alike = by (open_merge seg rows) (merge_of seg ms) refl refl alike
  where
    by : (row : Option OpenMerge) (m : Option Merging) → open_merge seg rows ≡ row → merge_of seg ms ≡ m → AreMergedAlike log m row → open_merge seg rows ≡ None
    by None m is found alike = is
    by (Some row) None is found alike = absurd alike
    by (Some row) (Some m) is found alike = absurd (clash (sym alike.inputs ∙ (ap (λ (k : ℕ). inputs_out k log) (merge_numbered ms seg m found) ∙ unnoted)))
      where
        clash : Some m.task.inputs ≡ None → ⊥
        clash e = absurd (cc)

-- ---- nodes beside the board with one merge more

-- copies that run are sent still
sent_beside : (rows : List OpenMerge) (row : OpenMerge) (n : ℕ) (running : List Job) → open_merge row.seg.0 rows ≡ None → AreSentCopies rows n running → AreSentCopies (rows ++ row ∷ []) n running
sent_beside rows row n running fresh sent = sent_still rows (rows ++ row ∷ []) n running keeps sent
  where
    keeps : (seg k : ℕ) (s : Spread) → spread_at (open_merge seg rows) ≡ Some s → is_sent_in n k s.left ≡ true → IsSomeAnd (spread_at (open_merge seg (rows ++ row ∷ []))) (λ t. (is_sent_in n k t.left ≡ true) × (t.state ≡ s.state))
    keeps seg k s there is =
        subst (λ (o : Option OpenMerge). IsSomeAnd (spread_at o) (λ t. (is_sent_in n k t.left ≡ true) × (t.state ≡ s.state))) (sym (open_end rows row seg fresh))
        (by_test (row.seg.0 == seg) (λ b. (row.seg.0 == seg) ≡ b → IsSomeAnd (spread_at (if b then Some row else open_merge seg rows)) (λ t. (is_sent_in n k t.left ≡ true) × (t.state ≡ s.state)))
        (λ here e. absurd (clash (sym (ap spread_at (ap (λ (q : ℕ). open_merge q rows) (sym (eqb-true row.seg.0 seg e)) ∙ fresh)) ∙ there)))
        (λ apart e. subst (λ (o : Option Spread). IsSomeAnd o (λ t. (is_sent_in n k t.left ≡ true) × (t.state ≡ s.state))) (sym there) (is, refl))
        refl)
      where
        clash : ◌≡◌ {A = Option Spread} None (Some s) → ⊥
        clash e = absurd (cc)

module _ {D : Type 0} (cells : D → Cells) (size : ℕ) (log : Log) (cut : Bool) (board new_board : Board) (at : At) (seg : SegNo) (task : MergeTask) (listed : List (Option ℕ)) (m : Merging) (n : ℕ) (p q : PrimaryParts D) (held : Vec HeldTicket Global) (old new : List (Option (NodePlace D)))
    (legal : IsLegalPast size (printed log)) (names : names_drawn (printed log) < segments_of_generation) (next : seg.0 ≡ next_name (printed log)) (of : task ≡ merge_task seg task.inputs) (task_is : m.task ≡ task) (unmade : m.merged ≡ None)
    (fit : IsFitTask task) (is : HasStarted p q) (merges : q.merges ≡ p.merges ++ m ∷ [])
    (moves : MovesOne n (record { node = Primary q; held = held }) old new) (node : IsNode size n) (there : place_of old n ≡ Some (record { node = Primary p; held = held })) (shows : Shows cells log size old)
    (primary : is_at (primary_of (printed log)) n ≡ true) (others : (k : ℕ) → (n == k) ≡ false → is_at (primary_of (printed log)) k ≡ false)
    (rows : new_board.rows ≡ board.rows ++ record { seg = seg; line = at.line; spread = None } ∷ []) (posted : new_board.posted ≡ board.posted ++ posted_merge seg at.line (merge_task seg task.inputs) ∷ []) (counts : new_board.counts ≡ board.counts)
    (was : MergesStand log cut size board old) where
  abbrev row : OpenMerge
  row = record { seg = seg; line = at.line; spread = None }

  abbrev now : Log
  now = kept (MergeOut at.line seg task.inputs listed) ∷ shown at (MergingEvent seg) ∷ log

  unnoted : inputs_out seg.0 log ≡ None
  unnoted = ap (λ (k : ℕ). inputs_out k log) next ∙ next_unnoted size log board legal names was.tasks

  mine : PrimaryMerges log cut (λ s. jobs_like old s size) board.rows p
  mine = some_at (λ (z : NodePlace D). NodeMerges log cut (λ s. jobs_like old s size) board.rows n z.node) (place_of old n) (record { node = Primary p; held = held }) there (was.each n node)

  fresh : open_merge seg.0 board.rows ≡ None
  fresh = next_open log p.merges board.rows seg.0 unnoted (mine.merges seg.0)

  -- what was handed out before stays
  stays : InputsStay log now
  stays k inputs there = first_stays (inputs_out k log) (inputs_by k (MergeOut at.line seg task.inputs listed)) inputs there

  out : inputs_out seg.0 now ≡ Some task.inputs
  out = ap (λ (t : Bool). or_first (inputs_out seg.0 log) (if t then Some task.inputs else None)) (eq-eqb seg.0 seg.0 refl) ∙ ap (λ (o : Option (List Shown)). or_first o (Some task.inputs)) unnoted

  number : m.task.seg ≡ seg
  number = ap (λ (t : MergeTask). t.seg) task_is ∙ ap (λ (t : MergeTask). t.seg) of

  is_row : IsMergeOfRow now m row
  is_row = record {
    inputs = ap (λ (k : SegNo). inputs_out k.0 now) number ∙ (out ∙ ap (λ (t : MergeTask). Some t.inputs) (sym task_is));
    task = task_is ∙ (of ∙ λ i. merge_task (number' i) (inputs' i));
    written = subst (λ (o : Option Merged). AreWrittenAlike o None) (sym unmade) tt;
  }
    where
      number' : seg ≡ m.task.seg
      number' = sym number

      inputs' : task.inputs ≡ m.task.inputs
      inputs' = ap (λ (t : MergeTask). t.inputs) (sym task_is)

  low : (s : Out) → jobs_like new s size ≡ jobs_like old s size
  low s = jobs_same old new s size (λ k within. wants_same n (record { node = Primary q; held = held }) (record { node = Primary p; held = held }) old new moves there refl k)

  begun_primary : PrimaryMerges now cut (λ s. jobs_like new s size) new_board.rows q
  begun_primary = subst (λ (l : List OpenMerge). PrimaryMerges now cut (λ s. jobs_like new s size) l q) (sym rows) (record {
    cut_over = ap (λ (z : PrimaryParts D). z.has_cut_over) is ∙ mine.cut_over;
    merges = λ k. subst (λ (ms : List Merging). AreMergedAlike now (merge_of k ms) (open_merge k (board.rows ++ row ∷ []))) (sym merges)
        (alike_begun now p.merges board.rows m row (ap (λ (x : SegNo). x.0) (sym number)) is_row fresh (λ j. alike_more log now stays (merge_of j p.merges) (open_merge j board.rows) (mine.merges j)) k);
    outs = λ s.
        let was' : jobs_like old s size + spreads_like s board.rows ≤ states_like s p.states = mine.outs s in
        let more : spreads_like s (board.rows ++ row ∷ []) ≡ spreads_like s board.rows + one_like s None = spreads_end s board.rows row in
        let states : states_like s q.states ≡ states_like s p.states = ap (λ (z : PrimaryParts D). states_like s z.states) is in
        let jobs = low s in
        omega (arith, was', more, states, jobs);
  })

  beside : (k : ℕ) (z : Node D) → is_at (primary_of (printed log)) k ≡ false → NodeShows cells log k z → NodeMerges log cut (λ s. jobs_like old s size) board.rows k z → NodeMerges now cut (λ s. jobs_like new s size) (board.rows ++ row ∷ []) k z
  beside k (Primary x) away showing stand = absurd (true≢false (sym showing.primary ∙ away))
  beside k (Replica r) away showing stand = sent_beside board.rows row k r.copies.running fresh stand
  beside k (Down d) away showing stand = tt

  -- THE THIRD PART of what is true of a cluster
  pub begun_stands : MergesStand now cut size new_board new
  begun_stands = record {
    tasks = tasks_begun size log board new_board at seg task.inputs listed fresh unnoted names rows posted counts was.tasks;
    fit = subst (λ (l : List Posted). All (λ p. IsFitKind p.kind) l) (sym posted) (All-push (λ (z : Posted). IsFitKind z.kind) board.posted (posted_merge seg at.line (merge_task seg task.inputs)) was.fit (subst IsFitTask of fit));
    each = one_each {P = λ k z. PlaceShows cells log k z × NodeMerges log cut (λ s. jobs_like old s size) board.rows k z.node} {Q = λ k z. NodeMerges now cut (λ s. jobs_like new s size) new_board.rows k z.node} size n (record { node = Primary q; held = held }) old new moves
        (λ k within. some_both (place_of old k) (shows.each k within) (was.each k within) (λ z a b. (a, b)))
        (λ k z within apart both. subst (λ (l : List OpenMerge). NodeMerges now cut (λ s. jobs_like new s size) l k z.node) (sym rows) (beside k z.node (others k apart) both.0.node_shows both.1))
        begun_primary;
    vacant = λ none. absurd (at_none (primary_of (printed log)) primary none);
  }
    where
      at_none : (o : Option NodeNo) → is_at o n ≡ true → o ≡ None → ⊥
      at_none None here none = absurd (true≢false (sym here))
      at_none (Some x) here none = absurd (cc)
