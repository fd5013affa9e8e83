-- What each path of the primary leaves, from what its calls say.
use Rattle.std.proofs.Common.{◌≡◌, ◌≢◌, ◌≤◌, ◌<◌, ◌+◌, ◌-◌, ◌^◌, ◌==◌, ◌↔◌, ◌⊎◌, ⊎_elim, inl, inr, ℕ, Bool, true, false, true≢false, if◌then◌else◌, List, [], ◌∷◌, ◌++◌, Some, None, Option, Ok, Err, Result, Vec, Global, length, refl, ap, ◌∙◌, sym, subst, arith}
use Rattle.std.specs.Prelude.{IsSomeAnd, IfSome, IsSome, IsTrue, OnErr}
use Rattle.std.proofs.lemmas.Bool.{eqb-true}
use Rattle.nrt_base.specs.SegNumbers.{segments_of_generation}
use Rattle.nrt_base.specs.declared.numbers.At.{At}
use Rattle.nrt_base.specs.declared.numbers.Gen.{Gen}
use Rattle.nrt_base.specs.declared.numbers.NodeNo.{NodeNo}
use Rattle.nrt_base.specs.declared.numbers.SegNo.{SegNo}
use Rattle.nrt_base.specs.declared.numbers.Version.{Version}
use Rattle.documents.specs.declared.operation.Op.{Op}
use Rattle.disk_model.specs.Disk.{Cells, reads_of}
use Rattle.seg_reader.specs.Shown.{Shown}
use Rattle.history_rules.specs.declared.entry.Event.TheVariants.{Accepted, Publishing, Published}
use Rattle.history_rules.specs.Nodes.{IsNode, primary_of, newest_version, generation_of, accepted_count}
use Rattle.history_rules.specs.Lines.{same_at, start_entry, is_answered, publish_in_flight, is_free_for}
use Rattle.history_rules.specs.Faults.{has_met_fault}
use Rattle.history_rules.specs.Points.{operations_of_generation, cut_of, cut_has_put, names_drawn, merges_started, idle_publishes}
use Rattle.history_rules.specs.Legal.{KeepsRule, IsLegalPast}
use Rattle.script_serving.specs.Refusals.{may_be_full}
use Rattle.history_tables.proofs.RowLemmas.{by_test, same_at_self}
use Rattle.history_book.specs.Log.{Log, printed, shown, kept}
use Rattle.merge_tasks.specs.Merging.{Sheet}
use Rattle.history_book.specs.declared.inner.Inner.TheVariants.{FlushOut}
use Rattle.history_book.specs.Laws.{IsFresh, Flying}
use Rattle.history_book.specs.Turns.{AreInTurn}
use Rattle.segment_infos.specs.declared.infos.Infos.{Infos}
use Rattle.index_primary.specs.declared.parts.PrimaryParts.{PrimaryParts}
use Rattle.index_primary.specs.Primary.{IsPrimary}
use Rattle.index_primary.specs.Calls.{IsTaskOf, after_start, IsPublished}
use Rattle.index_primary.specs.Work.{IsWorkOf, AreOfCut}
use Rattle.index_primary.specs.Cut.{infos_drawn, noted, has_put, IsIdle, AreSpent, AreTooMany}
use Rattle.index_primary.proofs.Callers.{task_seg, task_sound}
use Rattle.segment_steps.specs.declared.flushing.FlushTask.{FlushTask}
use Rattle.segment_steps.specs.declared.flushing.FlushWork.{FlushWork}
use Rattle.cluster_nodes.specs.declared.held.HeldTicket.{HeldTicket}
use Rattle.cluster_nodes.specs.declared.nodes.Node.TheVariants.{Primary}
use Rattle.cluster_nodes.specs.declared.nodes.NodePlace.{NodePlace}
use Rattle.cluster_state.specs.Lookups.{Handed, or_older, flush_out}
use Rattle.merge_tasks.specs.Board.{Board}
use Rattle.cluster_nodes.specs.Outs.{jobs_like}
use Rattle.cluster_nodes.specs.Places.{place_of, HasPrimary}
use Rattle.cluster_state.specs.Run.{Rest, Run, IsNow}
use Rattle.cluster_state.specs.State.{PrimaryShows, PlaceShows, Shows}
use Rattle.cluster_state.specs.Merging.{NodeMerges, MergesStand}
use Rattle.cluster_state.specs.Writes.{IsFull, HandsFlush, IsFlushed}
use Rattle.cluster_state.specs.Sizes.{sizes_in}
use Rattle.cluster_state.proofs.SizesTold.{sizes_count}
use Rattle.cluster_state.proofs.Ledgers.{asked_of}
use Rattle.cluster_state.proofs.Frames.{PutsBack, some_at, was, now_is, place_at, moved_at, moved_out}
use Rattle.cluster_documents.proofs.Written.{accepted_place, started_place, published_place}
use Rattle.cluster_documents.proofs.Filling.{as_many, is_full}
use Rattle.cluster_documents.proofs.Primaries.{others_apart, primary_there, has_primary, numbered, unpublished, is_work}
use Rattle.cluster_state.proofs.Turning.{log_is, nodes_is, past_has}

-- ---- what a call answered

pub ok_at : {T E : Type 0} (r : Result T E) (x y : T) → r ≡ Ok x → x ≡ y → r ≡ Ok y
ok_at r x y is same = subst (λ (z : _). r ≡ Ok z) same is

pub err_at : {T E : Type 0} (r : Result T E) (x y : E) → r ≡ Err x → x ≡ y → r ≡ Err y
err_at r x y is same = subst (λ (z : _). r ≡ Err z) same is

pub on_err : {T E P : Type 0} (r : Result T E) (e : E) → r ≡ Err e → OnErr r P → P
on_err {T} {E} {P} r e is holds = subst (λ (q : Result T E). OnErr q P) is holds

-- a number that is drawn leaves the records
pub drawn_segs : (is_there : Bool) (infos : Infos) → (infos_drawn is_there infos).segs ≡ infos.segs
drawn_segs true infos = refl
drawn_segs false infos = refl

-- ---- rules

pub may_accept : (r : Run) (ended : Bool) (b : Sheet) (at : At) (p : NodeNo) (seq : ℕ) (op : Op) → {left : Rest} → record { ended = ended; nodes = b.nodes; log = b.log; rest = left } ≡ r
    → (has_met_fault at (printed r.log) ≡ false) ⊎ (is_answered at (printed r.log) ≡ true) → primary_of (printed r.log) ≡ Some p → seq ≡ accepted_count (printed b.log) + 1 → KeepsRule r.nodes (printed r.log) at (Accepted seq op)
may_accept r ended b at p seq op view spared primary next = record {
  running = λ none. some_none (sym primary ∙ none);
  next = past_has (λ q. seq ≡ accepted_count q + 1) r ended b view next;
  spared = spared;
}
  where
    some_none : Some p ≡ None → ⊥
    some_none is = absurd (cc)

-- a publish has an operation or a cut-over to publish, as the ledger says
pub may_start : {left : Rest} (r : Run) (ended : Bool) (b : Sheet) (at : At) (p : NodeNo) (found : Bool) → record { ended = ended; nodes = b.nodes; log = b.log; rest = left } ≡ r
    → IsFresh at (printed b.log) → primary_of (printed r.log) ≡ Some p → publish_in_flight (printed r.log) ≡ None → found ≡ left.cut → (found ≡ true → idle_publishes (printed b.log) < merges_started (printed b.log))
    → (0 < length (cut_of (printed r.log))) ⊎ (r.rest.cut ≡ true) → KeepsRule r.nodes (printed r.log) at Publishing
may_start r ended b at p found view fresh primary free is owed some = record {
  running = λ none. some_none (sym primary ∙ none);
  alone = ap (λ (o : Option At). is_free_for at o) free;
  spared = (past_has (IsFresh at) r ended b view fresh).spared;
  some = ⊎_elim (λ ops. inl ops)
      (λ cut. inr (subst (λ (x : Run). idle_publishes (printed x.log) < merges_started (printed x.log)) view (owed (is ∙ (ap (λ (x : Run). x.rest.cut) view ∙ cut))))) some;
}
  where
    some_none : Some p ≡ None → ⊥
    some_none is = absurd (cc)

-- what the ledger is asked for
pub asked_some : {r : Run} {ended : Bool} {nodes : ℕ} {left : Rest} {a log : Log} {cut : Bool} → record { ended = ended; nodes = nodes; log = log; rest = left } ≡ r → a ≡ log → cut ≡ left.cut
    → (0 < length (cut_of (printed r.log))) ⊎ (r.rest.cut ≡ true) → (0 < length (cut_of (printed a))) ⊎ (cut ≡ true)
asked_some view same is some =
    ⊎_elim (λ ops. inl (asked_of (λ (l : Log). 0 < length (cut_of (printed l))) view same ops)) (λ cut. inr (is ∙ (ap (λ (x : Run). x.rest.cut) view ∙ cut))) some

-- the end of a publish kept its rule, as the ledger says
pub published_rule : (r : Run) (ended : Bool) (b0 b1 : Sheet) (at : At) (g : Gen) (v : Version) → {left : Rest} → record { ended = ended; nodes = b0.nodes; log = b0.log; rest = left } ≡ r
    → b1.log ≡ b0.log → b1.nodes ≡ b0.nodes → KeepsRule b1.nodes (printed b1.log) at (Published g v) → KeepsRule r.nodes (printed r.log) at (Published g v)
published_rule r ended b0 b1 at g v view e1 n1 rule =
    subst (λ (x : ℕ × Log). KeepsRule x.0 (printed x.1) at (Published g v)) (λ i. ((n1 ∙ nodes_is r ended b0 view) i, (e1 ∙ log_is r ended b0 view) i)) rule

-- a publish has ended
pub ends_now : (r : Run) {now : Rest} (ended : Bool) (b0 b1 b2 : Sheet) (at : At) (g : Gen) (v : Version) → {left : Rest} → record { ended = ended; nodes = b0.nodes; log = b0.log; rest = left } ≡ r
    → b1.log ≡ b0.log → b1.nodes ≡ b0.nodes → b2.log ≡ shown at (Published g v) ∷ b1.log → b2.nodes ≡ b1.nodes → g.0 ≡ generation_of (printed b0.log) → v.0 ≡ newest_version (printed b0.log) + 1
    → IsNow r (record { ended = false; nodes = b2.nodes; log = b2.log; rest = now }) (shown at (Published (record { 0 = generation_of (printed r.log) }) (record { 0 = newest_version (printed r.log) + 1 })) ∷ r.log)
ends_now r ended b0 b1 b2 at g v view e1 n1 e2 n2 present next =
    let gen : g.0 ≡ generation_of (printed r.log) = past_has (λ p. g.0 ≡ generation_of p) r ended b0 view present in
    let version : v.0 ≡ newest_version (printed r.log) + 1 = past_has (λ p. v.0 ≡ newest_version p + 1) r ended b0 view next in
    record {
      running = refl;
      nodes = n2 ∙ (n1 ∙ nodes_is r ended b0 view);
      log = e2 ∙ λ i. shown at (Published (record { 0 = gen i }) (record { 0 = version i })) ∷ (e1 ∙ log_is r ended b0 view) i;
    }

module _ {D : Type 0} (cells : D → Cells) where
  -- ---- the primary, taken out of its place

  module _ (r : Run) (ended : Bool) (b : Sheet) (places : List (Option (NodePlace D))) (n : NodeNo) (x : NodePlace D)
      {left : Rest} (view : record { ended = ended; nodes = b.nodes; log = b.log; rest = left } ≡ r) (running : r.ended ≡ false) (shows : ended ≡ false → Shows cells b.log b.nodes places)
      (node : IsNode r.nodes n.0) (there : place_of places n.0 ≡ Some x) where
    pub primary_stands : primary_of (printed r.log) ≡ Some n → HasPrimary (Some x)
    primary_stands primary = has_primary cells r.log n.0 x (primary_there (primary_of (printed r.log)) n primary) (place_at cells r ended b.nodes n.0 b.log places x view running shows node there)

    module _ (p : PrimaryParts D) (held : Vec HeldTicket Global) (is : x ≡ record { node = Primary p; held = held }) where
      primary_at : PrimaryShows cells r.log n.0 p
      primary_at = (subst (PlaceShows cells r.log n.0) is (place_at cells r ended b.nodes n.0 b.log places x view running shows node there)).node_shows

      -- the next operation has a number
      pub next_numbered : (seq : ℕ) → length (operations_of_generation (printed b.log)) ≤ accepted_count (printed b.log) → seq ≡ accepted_count (printed b.log) + 1 → seq < 2 ^ 32 → p.accepted + 1 < 2 ^ 32
      next_numbered seq counted next few =
          numbered cells r.log n.0 p (past_has (λ q. length (operations_of_generation q) ≤ accepted_count q) r ended b view counted)
          (subst (λ (k : ℕ). k < 2 ^ 32) (past_has (λ q. seq ≡ accepted_count q + 1) r ended b view next) few) primary_at

      -- no publish is in flight
      pub none_flies : publish_in_flight (printed r.log) ≡ None → p.publish ≡ None
      none_flies free = unpublished cells r.log n.0 p free primary_at

      -- operations wait, or it was cut over
      pub not_idle : (board : Board) → left.cut ≡ b.cut → MergesStand b.log b.cut b.nodes board places → (0 < length (cut_of (printed r.log))) ⊎ (r.rest.cut ≡ true) → IsIdle p.waiting p.has_cut_over → ⊥
      not_idle board cut_is stand some idle =
          ⊎_elim (λ ops. let same : length p.waiting ≡ length (cut_of (printed r.log)) = ap length primary_at.waiting in let none = idle.0 in absurd (omega (arith, ops, same, none)))
          (λ cut. true≢false (sym (sym cut_is ∙ (ap (λ (x : Run). x.rest.cut) view ∙ cut)) ∙ (sym over ∙ idle.1))) some
        where
          over : p.has_cut_over ≡ b.cut
          over = (some_at (λ z. NodeMerges b.log b.cut (λ s. jobs_like places s b.nodes) board.rows n.0 z.node) (place_of places n.0) (record { node = Primary p; held = held }) (there ∙ ap Some is)
              (stand.each n.0 (subst (λ (k : ℕ). IsNode k n.0) (sym (nodes_is r ended b view)) node))).cut_over

      -- a name is there where one is needed
      pub not_spent : (cut_has_put (printed r.log) ≡ true → names_drawn (printed r.log) ≢ segments_of_generation) → AreSpent p.waiting p.infos → ⊥
      not_spent names spent = names (sym (ap (λ (ops : List Op). has_put ops) primary_at.waiting) ∙ spent.0) (sym primary_at.writer.counter ∙ spent.1)

      -- there may be as many segments as there may be
      pub is_full_at : AreTooMany p.waiting p.infos p.segs → (cut_has_put (printed r.log) ≡ true) × (may_be_full (printed r.log) ≡ true)
      is_full_at many = (
        sym (ap (λ (ops : List Op). has_put ops) primary_at.waiting) ∙ many.0,
        is_full (printed r.log) (reads_of (cells p.dir)) p.infos.segs p.segs primary_at.whole.writer.stands.each primary_at.writer.live primary_at.writer.few primary_at.writer.documents many.2,
      )

      -- a size is told for each of its segments
      told_sizes : left.sizes ≡ sizes_in places → primary_of (printed r.log) ≡ Some n → length r.rest.sizes ≡ length p.segs
      told_sizes told primary =
          ap length (sym (ap (λ (z : Run). z.rest.sizes) view) ∙ told)
          ∙ (sizes_count cells r.log r.nodes n.0 places p held node (there ∙ ap Some is) (λ m apart. others_apart (primary_of (printed r.log)) n m primary apart) (was cells r ended b.nodes b.log places view running shows)
          ∙ sym (as_many (reads_of (cells p.dir)) p.infos.segs p.segs primary_at.whole.writer.stands.each))

      -- which are as many as there may be
      pub told_full : left.sizes ≡ sizes_in places → primary_of (printed r.log) ≡ Some n → AreTooMany p.waiting p.infos p.segs → IsFull r
      told_full told primary many =
          let count = told_sizes told primary in
          let most : 256 ≤ length p.segs = many.2 in
          let all : 256 ≤ length r.rest.sizes = omega (arith, count, most) in all

      -- or a publish that draws a number has room for its segment
      pub told_few : (q : PrimaryParts D) (task : FlushTask) → left.sizes ≡ sizes_in places → primary_of (printed r.log) ≡ Some n → IsTaskOf p task → q ≡ after_start p (Some task) → IsPrimary cells q
          → cut_has_put (printed r.log) ≡ true → length r.rest.sizes < 256
      told_few q task told primary t next whole put =
          let count = told_sizes told primary in
          let seg : IsSome task.seg = (subst (λ (ops : List Op). IsSome task.seg ↔ IsTrue (has_put ops)) (t.ops ∙ primary_at.waiting) (task_seg p task t)).1 put in
          let few : length p.segs < 256 = (subst (IsPrimary cells) next whole).few seg in
          omega (arith, count, few)

      -- the work is that of the publish in flight
      pub work_at : (at : At) (work : FlushWork) → IsLegalPast b.nodes (printed b.log) → AreInTurn (printed b.log) → publish_in_flight (printed r.log) ≡ Some at → IsFlushed at r.log work → IsWorkOf p work
      work_at at work legal turns flight flushed =
          is_work cells r.nodes r.log at n.0 p work (past_has (IsLegalPast r.nodes) r ended b view (subst (λ (k : ℕ). IsLegalPast k (printed b.log)) (nodes_is r ended b view) legal)) (past_has AreInTurn r ended b view turns) flight flushed primary_at

      -- the next version is one above the newest
      pub next_is : (v : Version) → v.0 ≡ p.infos.version.0 + 1 → v.0 ≡ newest_version (printed b.log) + 1
      next_is v is = is ∙ ap (λ (k : ℕ). k + 1) (primary_at.writer.version ∙ ap (λ (l : Log). newest_version (printed l)) (sym (log_is r ended b view)))

      -- and fits
      pub next_fits : (newest : ℕ) → newest ≡ newest_version (printed b.log) → newest < 2 ^ 63 - 1 → p.infos.version.0 + 1 < 2 ^ 63
      next_fits newest is below = let same = past_has (λ q. newest ≡ newest_version q) r ended b view is in let version = primary_at.writer.version in omega (arith, same, version, below)

      -- what is handed out stands in the log
      pub hands_out : {now : Rest} (b1 b2 b3 : Sheet) (at : At) (task : FlushTask) (segs : List Shown) → b1.log ≡ b.log → b1.nodes ≡ b.nodes → b2.log ≡ shown at Publishing ∷ b1.log → b2.nodes ≡ b1.nodes
          → b3.log ≡ kept (FlushOut at task.seg segs) ∷ b2.log → b3.nodes ≡ b2.nodes → IsFresh at (printed b.log) → segs ≡ task.segs → IsTaskOf p task
          → (cut_has_put (printed r.log) ≡ true → length r.rest.sizes < 256)
          → HandsFlush at r (record { ended = false; nodes = b3.nodes; log = b3.log; rest = now }) task
      hands_out b1 b2 b3 at task segs e1 n1 e2 n2 e3 n3 fresh same t few = record {
        now = record { running = refl; nodes = n3 ∙ (n2 ∙ (n1 ∙ nodes_is r ended b view)); log = log };
        out = ap (flush_out at) log ∙ (ap (λ (o : Option Handed). or_older o (if same_at at at then Some mine else None)) none ∙ ap (λ (c : Bool). if c then Some mine else None) (same_at_self at));
        ops = t.ops ∙ primary_at.waiting;
        seg = subst (λ (ops : List Op). IsSome task.seg ↔ IsTrue (has_put ops)) (t.ops ∙ primary_at.waiting) (task_seg p task t);
        sound = task_sound cells p task primary_at.whole t;
        few = few;
      }
        where
          mine : Handed
          mine = record { seg = task.seg; segs = task.segs }

          log : b3.log ≡ kept (FlushOut at task.seg task.segs) ∷ shown at Publishing ∷ r.log
          log = e3 ∙ λ i. kept (FlushOut at task.seg (same i)) ∷ (e2 ∙ ap (λ (l : Log). shown at Publishing ∷ l) (e1 ∙ log_is r ended b view)) i

          none : flush_out at r.log ≡ None
          none = (was cells r ended b.nodes b.log places view running shows).handed at (past_has (IsFresh at) r ended b view fresh).begun

  -- a place that was taken out and put back as it was
  pub back_path : (r : Run) (ended : Bool) (b0 b1 : Sheet) (old mid new : List (Option (NodePlace D))) (n : ℕ) (x : NodePlace D) (p q : PrimaryParts D) (held : Vec HeldTicket Global)
      → {left : Rest} → record { ended = ended; nodes = b0.nodes; log = b0.log; rest = left } ≡ r → r.ended ≡ false → (ended ≡ false → Shows cells b0.log b0.nodes old)
      → b1.log ≡ b0.log → b1.nodes ≡ b0.nodes → PutsBack cells old mid new n (record { node = Primary q; held = held }) → place_of old n ≡ Some x → x ≡ record { node = Primary p; held = held } → q ≡ p
      → Shows cells b1.log b1.nodes new
  back_path r ended b0 b1 old mid new n x p q held view running shows e1 n1 put there is same =
      let s = was cells r ended b0.nodes b0.log old view running shows in
      now_is cells r.log b1.log r.nodes b1.nodes new (e1 ∙ log_is r ended b0 view) (n1 ∙ nodes_is r ended b0 view) (record {
        some = s.some;
        count = put.again ∙ (put.count ∙ s.count);
        each = λ m node. subst (λ (o : Option (NodePlace D)). IsSomeAnd o (PlaceShows cells r.log m)) (sym (place_same m)) (s.each m node);
        handed = s.handed;
      })
    where
      back : ◌≡◌ {A = Option (NodePlace D)} (Some (record { node = Primary q; held = held })) (place_of old n)
      back = ap (λ (z : PrimaryParts D). Some (record { node = Primary z; held = held })) same ∙ (ap (λ (z : NodePlace D). Some z) (sym is) ∙ sym there)

      place_same : (m : ℕ) → place_of new m ≡ place_of old m
      place_same m =
          by_test (n == m) (λ b. (n == m) ≡ b → place_of new m ≡ place_of old m)
          (λ here q'. (put.there m ∙ ap (λ (b : Bool). if b then Some (record { node = Primary q; held = held }) else place_of mid m) here) ∙ (back ∙ ap (place_of old) (eqb-true n m here)))
          (λ apart q'. (put.there m ∙ ap (λ (b : Bool). if b then Some (record { node = Primary q; held = held }) else place_of mid m) apart) ∙ (put.taken m ∙ ap (λ (b : Bool). if b then None else place_of old m) apart))
          refl

  -- the task that was answered, of a primary that was asked for one
  pub asked_task : (p q : PrimaryParts D) (o : Option FlushTask) (task : FlushTask) → o ≡ Some task → IfSome o (IsTaskOf p) → q ≡ after_start p o → IsTaskOf p task × (q ≡ after_start p (Some task))
  asked_task p q o task is t next = subst (λ (o' : Option FlushTask). IfSome o' (IsTaskOf p) → q ≡ after_start p o' → IsTaskOf p task × (q ≡ after_start p (Some task))) (sym is) (λ t next. (t, next)) t next

  -- ---- what each path leaves

  pub accept_path : (r : Run) (ended : Bool) (b0 b1 b2 : Sheet) (old mid new : List (Option (NodePlace D))) (at : At) (n : NodeNo) (seq : ℕ) (op copy : Op) (x : NodePlace D) (p q : PrimaryParts D) (held : Vec HeldTicket Global)
      → {left : Rest} → record { ended = ended; nodes = b0.nodes; log = b0.log; rest = left } ≡ r → r.ended ≡ false → (ended ≡ false → Shows cells b0.log b0.nodes old)
      → b1.log ≡ b0.log → b1.nodes ≡ b0.nodes → b2.log ≡ shown at (Accepted seq op) ∷ b1.log → b2.nodes ≡ b1.nodes → IsLegalPast b1.nodes (printed b1.log) → AreInTurn (printed b1.log)
      → start_entry at (printed r.log) ≡ None → KeepsRule r.nodes (printed r.log) at (Accepted seq op) → IsNode r.nodes n.0 → primary_of (printed r.log) ≡ Some n
      → PutsBack cells old mid new n.0 (record { node = Primary q; held = held }) → place_of old n.0 ≡ Some x → x ≡ record { node = Primary p; held = held }
      → copy ≡ op → q ≡ record p { waiting = p.waiting ++ copy ∷ []; accepted = p.accepted + 1 } → IsPrimary cells q → Shows cells b2.log b2.nodes new
  accept_path r ended b0 b1 b2 old mid new at n seq op copy x p q held view running shows e1 n1 e2 n2 legal turns begun keeps node primary put there is same next whole =
      let line : start_entry at (printed r.log) ≢ Some Publishing = λ is. none_some (sym begun ∙ is) in
      moved_at cells r ended b0 b1 b2 old mid new at (Accepted seq op) n.0 (record { node = Primary q; held = held }) x view running shows e1 n1 e2 n2 legal turns keeps
      (λ m apart here. line) (λ m apart. others_apart (primary_of (printed r.log)) n m primary apart) (λ m apart. refl) put node there
      (λ all order was. accepted_place cells r.nodes r.log at seq op n.0 p q held all order keeps line
      (subst (λ (o : Op). q ≡ record p { waiting = p.waiting ++ o ∷ []; accepted = p.accepted + 1 }) same next) whole (subst (PlaceShows cells r.log n.0) is was))
    where
      none_some : None ≡ Some Publishing → ⊥
      none_some is = absurd (cc)

  pub start_path : (r : Run) (ended : Bool) (b0 b1 b2 b3 : Sheet) (old mid new : List (Option (NodePlace D))) (at : At) (n : NodeNo) (seg : Option SegNo) (segs : List Shown) (x : NodePlace D) (p q : PrimaryParts D) (held : Vec HeldTicket Global)
      → {left : Rest} → record { ended = ended; nodes = b0.nodes; log = b0.log; rest = left } ≡ r → r.ended ≡ false → (ended ≡ false → Shows cells b0.log b0.nodes old)
      → b1.log ≡ b0.log → b1.nodes ≡ b0.nodes → b2.log ≡ shown at Publishing ∷ b1.log → b2.nodes ≡ b1.nodes → IsLegalPast b1.nodes (printed b1.log) → AreInTurn (printed b1.log)
      → b3.log ≡ kept (FlushOut at seg segs) ∷ b2.log → b3.nodes ≡ b2.nodes
      → IsFresh at (printed b0.log) → KeepsRule r.nodes (printed r.log) at Publishing → IsNode r.nodes n.0 → primary_of (printed r.log) ≡ Some n
      → PutsBack cells old mid new n.0 (record { node = Primary q; held = held }) → place_of old n.0 ≡ Some x → x ≡ record { node = Primary p; held = held }
      → segs ≡ p.segs → q ≡ record p { infos = infos_drawn (has_put p.waiting) p.infos; publish = noted seg p.waiting } → IsPrimary cells q → Shows cells b3.log b3.nodes new
  start_path r ended b0 b1 b2 b3 old mid new at n seg segs x p q held view running shows e1 n1 e2 n2 legal turns e3 n3 fresh keeps node primary put there is same next whole =
      moved_out cells r ended b0 b1 b2 b3 old mid new at seg segs n.0 (record { node = Primary q; held = held }) x view running shows e1 n1 e2 n2 legal turns e3 n3 keeps
      (past_has (IsFresh at) r ended b0 view fresh).begun (λ m apart. others_apart (primary_of (printed r.log)) n m primary apart) put node there
      (λ all order out was. started_place cells r.nodes r.log at seg segs n.0 p q held all keeps out same next whole (subst (PlaceShows cells r.log n.0) is was))

  pub end_path : (r : Run) (ended : Bool) (b0 b1 b2 : Sheet) (old mid new : List (Option (NodePlace D))) (at : At) (n : NodeNo) (g : Gen) (v : Version) (x : NodePlace D) (p q : PrimaryParts D) (work : FlushWork) (held : Vec HeldTicket Global)
      → {left : Rest} → record { ended = ended; nodes = b0.nodes; log = b0.log; rest = left } ≡ r → r.ended ≡ false → (ended ≡ false → Shows cells b0.log b0.nodes old)
      → b1.log ≡ b0.log → b1.nodes ≡ b0.nodes → b2.log ≡ shown at (Published g v) ∷ b1.log → b2.nodes ≡ b1.nodes → IsLegalPast b1.nodes (printed b1.log) → AreInTurn (printed b1.log)
      → KeepsRule r.nodes (printed r.log) at (Published g v) → publish_in_flight (printed r.log) ≡ Some at → IsNode r.nodes n.0 → primary_of (printed r.log) ≡ Some n
      → PutsBack cells old mid new n.0 (record { node = Primary q; held = held }) → place_of old n.0 ≡ Some x → x ≡ record { node = Primary p; held = held }
      → IsFlushed at r.log work → IsPublished p work q → AreOfCut p q → q.accepted ≡ p.accepted → q.merges ≡ p.merges → IsPrimary cells q → Shows cells b2.log b2.nodes new
  end_path r ended b0 b1 b2 old mid new at n g v x p q work held view running shows e1 n1 e2 n2 legal turns keeps flight node primary put there is flushed published of_cut accepted calm whole =
      moved_at cells r ended b0 b1 b2 old mid new at (Published g v) n.0 (record { node = Primary q; held = held }) x view running shows e1 n1 e2 n2 legal turns keeps
      (λ m apart here. absurd (true≢false (sym here ∙ others_apart (primary_of (printed r.log)) n m primary apart)))
      (λ m apart. others_apart (primary_of (printed r.log)) n m primary apart) (λ m apart. refl) put node there
      (λ all order was. published_place cells r.nodes r.log at g v n.0 p q work held all order keeps flight keeps.next flushed published of_cut accepted calm whole (subst (PlaceShows cells r.log n.0) is was))
