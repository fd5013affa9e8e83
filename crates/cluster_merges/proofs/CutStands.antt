-- A merge that is cut over: what the primary shows, and what is true of merges.
use Rattle.std.proofs.Common.{◌≡◌, ◌≤◌, ◌<◌, ◌+◌, ◌*◌, ◌==◌, ℕ, zero, suc, Bool, true, false, true≢false, List, [], ◌∷◌, map, length, Some, None, Option, Vec, Global, refl, ap, ◌∙◌, sym, subst, arith, if◌then◌else◌}
use Rattle.std.specs.Prelude.{IsSomeAnd}
use Rattle.std.specs.List.{All, AllByRecursion, zip}
use Rattle.std.proofs.Math.Nat.{min-le_left}
use Rattle.std.proofs.lemmas.Bool.{eqb-true}
use Rattle.std.proofs.lemmas.List.{length-map}
use Rattle.std.proofs.lemmas.Slice.Zip.{length-zip}
use Rattle.nrt_base.specs.declared.numbers.At.{At}
use Rattle.nrt_base.specs.declared.numbers.LineNo.{LineNo}
use Rattle.nrt_base.specs.declared.numbers.SegNo.{SegNo}
use Rattle.disk_model.specs.Disk.{Cells}
use Rattle.copy_state.specs.declared.state.CopyState.{CopyState}
use Rattle.copy_job.specs.Jobs.{Job}
use Rattle.seg_reader.specs.Shown.{Shown}
use Rattle.segment_infos.specs.declared.infos.Infos.{Infos}
use Rattle.searcher_switch.specs.declared.open.Open.{Open}
use Rattle.searcher_switch.specs.declared.open.SearchPoint.{SearchPoint}
use Rattle.segment_steps.specs.Next.{Turn, stays, staying}
use Rattle.segment_steps.specs.CutOver.{Part, inputs_in, in_place, lives_of, part_after, merged_turn, merged_turns}
use Rattle.segment_steps.proofs.CutNumbers.{few_in_place}
use Rattle.history_rules.specs.Nodes.{version_of}
use Rattle.history_rules.specs.Lines.{publish_in_flight}
use Rattle.history_rules.specs.Tasks.{merge_count}
use Rattle.history_book.specs.Log.{Log, printed, kept}
use Rattle.history_book.specs.declared.inner.Inner.TheVariants.{MergeEnd, TaskEnd}
use Rattle.history_book.specs.declared.inner.Step.{Step}
use Rattle.index_primary.specs.declared.parts.PrimaryParts.{PrimaryParts}
use Rattle.index_primary.specs.declared.states.Merging.{Merging}
use Rattle.index_primary.specs.declared.states.Out.{Out}
use Rattle.index_primary.specs.Merges.{merge_of, merges_without, AreOtherMerges, AreApartMerges}
use Rattle.index_primary.specs.States.{out_of, is_out, states_without}
use Rattle.index_primary.proofs.MergeLists.{number_of, others_at}
use Rattle.merge_tasks.specs.declared.tasks.OpenMerge.{OpenMerge}
use Rattle.merge_tasks.specs.declared.tasks.Posted.{Posted}
use Rattle.merge_tasks.specs.declared.tasks.Sent.{Sent}
use Rattle.merge_tasks.specs.declared.tasks.Spread.{Spread}
use Rattle.merge_tasks.specs.TaskLog.{ended_count}
use Rattle.merge_tasks.specs.Board.{Board, open_merge, spread_at, sent_left, without_merge, is_sent_in, done_under, counts_one, due_all, IsToldTask, TasksShow}
use Rattle.merge_tasks.proofs.BoardRows.{open_without, due_closed}
use Rattle.merge_tasks.proofs.TaskFrames.{told_all, ends_most, tasks_closed}
use Rattle.cluster_nodes.specs.declared.held.HeldTicket.{HeldTicket}
use Rattle.cluster_nodes.specs.declared.nodes.Node.TheVariants.{Primary}
use Rattle.cluster_nodes.specs.Outs.{one_like, states_like}
use Rattle.cluster_nodes.proofs.OutCounts.{states_back}
use Rattle.cluster_state.specs.State.{IsPointAt, FlightShows, HoldsTickets, WritesAt, PrimaryShows, PlaceShows}
use Rattle.cluster_state.specs.Merging.{AreMergedAlike, AreSentCopies, out_at, PrimaryMerges}
use Rattle.history_tables.proofs.RowLemmas.{by_test}
use Rattle.node_merges.specs.MergeChanges.{CutsMerge}
use Rattle.cluster_merges.proofs.StandSteps.{alike_closed, sent_still, spreads_without}
use Rattle.cluster_merges.proofs.CopyRows.{counts_ends}

-- ---- no more segments are there

turn_or_none : (g : ℕ) (t : Turn) → length (staying g [] (t ∷ [])) ≤ 1
turn_or_none g t = elim (stays g [] t) as (λ b. length (if b then t ∷ [] else []) ≤ 1) [ true ↦ omega arith | false ↦ omega arith ]

-- ---- a merge is in flight, so one was started

some_started : (size ended due count : ℕ) → ended + due ≤ (size + 1) * count → 1 ≤ due → 0 < count
some_started size ended due zero paid some = absurd (let none : (size + 1) * 0 ≡ 0 = grind arith in omega (arith, paid, some, none))
some_started size ended due (suc count) paid some = omega arith

pub merge_started : (size : ℕ) (log : Log) (board : Board) (seg : ℕ) (row : OpenMerge) → open_merge seg board.rows ≡ Some row → TasksShow size log board → 0 < merge_count (printed log)
merge_started size log board seg row there tasks =
    let due = due_closed size board.rows seg row there in
    some_started size (ended_count log) (due_all size board.rows) (merge_count (printed log)) tasks.paid (omega (arith, due))

-- ---- the primary

module _ {D : Type 0} (cells : D → Cells) (log : Log) (n : ℕ) (seg : SegNo) (state : CopyState) (p q : PrimaryParts D) (cuts : CutsMerge cells seg state p q) (started : 0 < merge_count (printed log)) (calm : publish_in_flight (printed log) ≡ None) where
  cut_few : length q.infos.segs ≤ length p.infos.segs
  cut_few =
      let parts : List Part = zip p.infos.segs p.segs in
      let turns : List Turn = merged_turns p.infos.generation.0 cuts.cut.merged cuts.cut.shown (lives_of (inputs_in cuts.cut.m.inputs parts)) in
      let new : List Part = map (part_after p.infos.generation.0) turns in
      let segs : length q.infos.segs ≡ length cuts.cut.made.records = ap (λ (i : Infos). length i.segs) cuts.cut.infos in
      let records : length cuts.cut.made.records ≡ length (map (λ (x : Part). x.0) (in_place cuts.cut.m.inputs new parts)) = ap length cuts.cut.cut.records_are in
      let mapped : length (map (λ (x : Part). x.0) (in_place cuts.cut.m.inputs new parts)) ≡ length (in_place cuts.cut.m.inputs new parts) = length-map (in_place cuts.cut.m.inputs new parts) (λ (x : Part). x.0) in
      let one : length new ≡ length turns = length-map turns (part_after p.infos.generation.0) in
      let few : length turns ≤ 1 = turn_or_none p.infos.generation.0 (merged_turn cuts.cut.merged cuts.cut.shown (lives_of (inputs_in cuts.cut.m.inputs parts))) in
      let placed = few_in_place cuts.cut.m.inputs new parts (omega (arith, one, few)) in
      let zipped : length parts ≤ length p.infos.segs = subst (λ (k : ℕ). k ≤ length p.infos.segs) (sym (length-zip p.infos.segs p.segs)) (min-le_left (length p.infos.segs) (length p.segs)) in
      omega (arith, segs, records, mapped, placed, zipped)

  cut_writer : WritesAt (printed log) p.infos p.segs → WritesAt (printed log) q.infos q.segs
  cut_writer was = record {
    documents = cuts.documents _ was.documents;
    generation = ap (λ (i : Infos). i.generation.0) cuts.cut.infos ∙ was.generation;
    version = ap (λ (i : Infos). i.version.0) cuts.cut.infos ∙ was.version;
    counter = ap (λ (i : Infos). i.counter) cuts.cut.infos ∙ was.counter;
    few = let less = cut_few in let was' = was.few in omega (arith, less, was');
    live = λ none. absurd (omega (arith, none, started));
  }

  cut_primary : PrimaryShows cells log n p → PrimaryShows cells log n q
  cut_primary was = record {
    running = was.running;
    primary = was.primary;
    whole = cuts.whole;
    point = subst (λ (o : SearchPoint Shown). IsPointAt (printed log) (version_of n (printed log)) o) (sym (ap (λ (z : PrimaryParts D). z.searchers.point) cuts.others)) was.point;
    writer = cut_writer was.writer;
    waiting = ap (λ (z : PrimaryParts D). z.waiting) cuts.others ∙ was.waiting;
    accepted = ap (λ (z : PrimaryParts D). z.accepted) cuts.others ∙ was.accepted;
    uncut = λ none. absurd (omega (arith, none, started));
    calm = λ none. absurd (omega (arith, none, started));
    flight = subst (λ (o : Option At). FlightShows log o q.publish q.segs) (sym calm) (ap (λ (z : PrimaryParts D). z.publish) cuts.others ∙ subst (λ (o : Option At). FlightShows log o p.publish p.segs) calm was.flight);
  }

  pub cut_place : (held : Vec HeldTicket Global) → PlaceShows cells log n (record { node = Primary p; held = held }) → PlaceShows cells log n (record { node = Primary q; held = held })
  cut_place held was = record {
    node_shows = cut_primary was.node_shows;
    tickets = subst (λ (ts : List (Open Shown)). HoldsTickets (printed log) n ts held.items) (sym (ap (λ (z : PrimaryParts D). z.searchers.tickets) cuts.others)) was.tickets;
  }

-- ---- merges

none_numbered : (m : Merging) (n : ℕ) (ms : List Merging) → m.task.seg.0 ≡ n → AllByRecursion (λ x. AreOtherMerges x m) ms → merge_of n ms ≡ None
none_numbered m n [] number all = refl
none_numbered m n (x ∷ ms) number all =
    by_test (x.task.seg.0 == n) (λ b. (x.task.seg.0 == n) ≡ b → (if b then Some x else merge_of n ms) ≡ None)
    (λ here e. absurd (all.0.number (eqb-true x.task.seg.0 n e ∙ sym number)))
    (λ apart e. none_numbered m n ms number all.1)
    refl

-- without the one of a number none of it is left
pub none_left : (n : ℕ) (ms : List Merging) (m : Merging) → AreApartMerges ms → merge_of n ms ≡ Some m → merge_of n (merges_without n ms) ≡ None
none_left n ms m apart found = none_numbered m n (merges_without n ms) (number_of n ms m found) (others_at n ms m apart found)

-- the primary's merges beside the rows without the merge that was cut over, whose copy state was given back
pub cut_merges : {D : Type 0} (log : Log) (was now : Bool) (jobs count : Out → ℕ) (rows : List OpenMerge) (seg : SegNo) (row : OpenMerge) (s : Spread) (p q : PrimaryParts D) (m : Merging) → open_merge seg.0 rows ≡ Some row → row.spread ≡ Some s
    → merge_of seg.0 p.merges ≡ Some m → AreApartMerges p.merges → is_out (out_of s.state) p.states ≡ true → q.merges ≡ merges_without seg.0 p.merges → q.states ≡ states_without (out_of s.state) p.states → q.has_cut_over ≡ now
    → ((o : Out) → count o ≤ jobs o) → PrimaryMerges log was jobs rows p → PrimaryMerges log now count (without_merge seg.0 rows) q
cut_merges log was now jobs count rows seg row s p q m there some found apart out merges states cut low stand = record {
  cut_over = cut;
  merges = λ k. subst (λ (ms : List Merging). AreMergedAlike log (merge_of k ms) (open_merge k (without_merge seg.0 rows))) (sym merges) (alike_closed log p.merges rows seg.0 (none_left seg.0 p.merges m apart found) stand.merges k);
  outs = λ o.
      let less = spreads_without o rows seg.0 row there in
      let one : one_like o (out_at row.spread) ≡ one_like o (Some (out_of s.state)) = ap (λ (x : Option Spread). one_like o (out_at x)) some in
      let back = states_back o (out_of s.state) p.states out in
      let now' : states_like o q.states ≡ states_like o (states_without (out_of s.state) p.states) = ap (states_like o) states in
      let were = stand.outs o in
      let fewer = low o in
      omega (arith, less, one, back, now', were, fewer);
}

-- ---- tasks

-- the merge has ended and, behind it, a task of it, which counts: there is one merge less for which tasks may come
pub tasks_gone : (size : ℕ) (log : Log) (b new : Board) (line : LineNo) (seg : SegNo) (taker : Option At) (step : Step) (cut : Bool) (row : OpenMerge) → open_merge seg.0 b.rows ≡ Some row → new.rows ≡ without_merge seg.0 b.rows → new.posted ≡ b.posted
    → ((x : At) → done_under x new.counts ≡ done_under x b.counts + counts_one x taker) → TasksShow size log b → TasksShow size (kept (TaskEnd line seg taker step true) ∷ kept (MergeEnd seg cut) ∷ log) new
tasks_gone size log b new line seg taker step cut row there rows posted done s =
    let less = due_closed size b.rows seg.0 row there in
    let due : due_all size new.rows ≡ due_all size (without_merge seg.0 b.rows) = ap (due_all size) rows in
    let closed : TasksShow size (kept (MergeEnd seg cut) ∷ log) (record { posted = b.posted; rows = new.rows; counts = b.counts }) =
    tasks_closed size log b (record { posted = b.posted; rows = new.rows; counts = b.counts }) seg cut rows refl refl (omega (arith, less, due)) s in
    record {
      lines = closed.lines;
      posted = subst (λ (l : List Posted). All (IsToldTask now) l) (sym posted) (told_all log now (λ n inputs is. is) b.posted s.posted);
      noted = s.noted;
      low = s.low;
      paid = let paid = s.paid in omega (arith, paid, less, due);
      drains = λ lines none. let low = s.drains lines none in let most = ends_most lines line seg taker step true in omega (arith, low, most);
      counts = λ at none. (let was = s.counts at none in let more = done at in let one = counts_ends at line seg taker step in omega (arith, was, more, one));
    }
  where
    now : Log
    now = kept (TaskEnd line seg taker step true) ∷ kept (MergeEnd seg cut) ∷ log

-- ---- copies

-- copies that run were sent by other merges, where all of this one have ended
pub sent_without : (rows : List OpenMerge) (seg n : ℕ) (running : List Job) → sent_left (spread_at (open_merge seg rows)) ≡ [] → AreSentCopies rows n running → AreSentCopies (without_merge seg rows) n running
sent_without rows seg n running ended sent = sent_still rows (without_merge seg rows) n running keeps sent
  where
    none_sent : (t : Spread) (k : ℕ) → spread_at (open_merge seg rows) ≡ Some t → is_sent_in n k t.left ≡ true → ⊥
    none_sent t k here sent_one = true≢false (sym sent_one ∙ ap (λ (l : List Sent). is_sent_in n k l) (ap sent_left (sym here) ∙ ended))

    keeps : (other k : ℕ) (t : Spread) → spread_at (open_merge other rows) ≡ Some t → is_sent_in n k t.left ≡ true → IsSomeAnd (spread_at (open_merge other (without_merge seg rows))) (λ u. (is_sent_in n k u.left ≡ true) × (u.state ≡ t.state))
    keeps other k t here is =
        subst (λ (o : Option OpenMerge). IsSomeAnd (spread_at o) (λ u. (is_sent_in n k u.left ≡ true) × (u.state ≡ t.state))) (sym (open_without rows seg other))
        (by_test (seg == other) (λ b. (seg == other) ≡ b → IsSomeAnd (spread_at (if b then None else open_merge other rows)) (λ u. (is_sent_in n k u.left ≡ true) × (u.state ≡ t.state)))
        (λ same e. absurd (none_sent t k (ap (λ (j : ℕ). spread_at (open_merge j rows)) (eqb-true seg other e) ∙ here) is))
        (λ apart e. subst (λ (o : Option Spread). IsSomeAnd o (λ u. (is_sent_in n k u.left ≡ true) × (u.state ≡ t.state))) (sym here) (is, refl))
        refl)
