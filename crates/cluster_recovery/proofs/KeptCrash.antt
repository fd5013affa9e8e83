-- What callers are told beside the log where a node crashed.
use Rattle.std.proofs.Common.{◌≡◌, ◌==◌, ◌+◌, ℕ, zero, suc, Bool, true, false, true≢false, List, [], ◌∷◌, map, Some, None, Option, Vec, Global, slice_get, refl, ap, ◌∙◌, sym, subst, arith, if◌then◌else◌}
use Rattle.std.specs.Prelude.{IsSomeAnd}
use Rattle.std.proofs.lemmas.Bool.{eqb-true, eq-eqb}
use Rattle.std.proofs.lemmas.Option.{slice_get_within}
use Rattle.nrt_base.specs.declared.numbers.At.{At}
use Rattle.nrt_base.specs.declared.numbers.NodeNo.{NodeNo}
use Rattle.disk_model.specs.Disk.{Name, Cells}
use Rattle.disk_model.specs.Faults.{Plans}
use Rattle.copy_job.specs.Jobs.{Job}
use Rattle.history_rules.specs.declared.entry.Event.TheVariants.{Crashed}
use Rattle.history_rules.specs.Nodes.{IsNode, is_at, primary_of}
use Rattle.history_book.specs.Log.{Log, printed, shown}
use Rattle.index_primary.specs.declared.parts.PrimaryParts.{PrimaryParts}
use Rattle.index_primary.specs.declared.states.Out.{Out}
use Rattle.replica_node.specs.Merges.{copy_at}
use Rattle.merge_tasks.specs.declared.tasks.OpenMerge.{OpenMerge}
use Rattle.merge_tasks.specs.declared.tasks.Spread.{Spread}
use Rattle.merge_tasks.specs.Board.{Board}
use Rattle.cluster_nodes.specs.declared.held.HeldTicket.{HeldTicket}
use Rattle.cluster_nodes.specs.declared.nodes.Node.{Node}
use Rattle.cluster_nodes.specs.declared.nodes.Node.TheVariants.{Primary, Replica, Down}
use Rattle.cluster_nodes.specs.declared.nodes.NodePlace.{NodePlace}
use Rattle.cluster_nodes.specs.Ends.{TakesNodeBack, PlaceOutlives}
use Rattle.cluster_nodes.specs.Given.{merge_sizes}
use Rattle.cluster_nodes.specs.Outs.{want_at, jobs_like}
use Rattle.cluster_nodes.specs.Places.{Disk, place_of, unwrapped}
use Rattle.cluster_state.specs.CallsLeft.{stage_calls, book_calls, own_calls, has_own, place_calls, calls_in}
use Rattle.cluster_state.specs.JobsIn.{place_files, jobs_in}
use Rattle.cluster_state.specs.Keeping.{KeepsButNode}
use Rattle.cluster_state.specs.LifeCalls.{crashed_tasks}
use Rattle.cluster_state.specs.MergedCopies.{told_copy, place_copies, copies_in}
use Rattle.cluster_state.specs.Merging.{AreSentCopies, NodeMerges}
use Rattle.cluster_state.specs.Met.{ClusterStands}
use Rattle.cluster_state.specs.NamesIn.{place_names, names_in}
use Rattle.cluster_state.specs.PlansIn.{plans_in}
use Rattle.cluster_state.specs.Run.{Rest, Run, calls_at}
use Rattle.cluster_state.specs.Sizes.{sizes_in}
use Rattle.cluster_state.specs.State.{NodeShows, PlaceShows, Shows}
use Rattle.cluster_state.proofs.JobsLeft.{files_are}
use Rattle.cluster_state.proofs.KeptOthers.{merged_are}
use Rattle.cluster_state.proofs.NodeDirs.{names_are}
use Rattle.cluster_state.proofs.RestKept.{first_sizes, place_sizes, sizes_first, TellsSame}
use Rattle.cluster_recovery.specs.Crashes.{TellsNothingOf, PrimaryFell, KeepsOtherNames, CrashTells}
use Rattle.cluster_recovery.specs.Falls.{PlaceLoses, Falls}
use Rattle.cluster_recovery.proofs.CallsLeft.{calls_there}
use Rattle.cluster_recovery.proofs.FallenMerges.{same_disk, lost_jobs}
use Rattle.cluster_recovery.proofs.KeptLives.{OwnsSame, MovesNode, calls_others, node_kept}
use Rattle.cluster_recovery.proofs.Outliving.{disk_outlives, jobs_outlive}
use Rattle.cluster_recovery.proofs.DownFirst.{CrashesBefore}

-- the copies at a node where no merge is in flight: none
no_copies : (m : ℕ) (running : List Job) → AreSentCopies [] m running → running ≡ []
no_copies m [] sent = refl
no_copies m (c ∷ running) sent =
    let one = sent c.number c (ap (λ (b : Bool). if b then Some c else copy_at c.number running) (eq-eqb c.number c.number refl)) in
    let no : ◌≡◌ {A = Option Spread} None (Some one.spread) = one.row in absurd (cc)

-- no primary runs once it crashed
pub fallen_vacant : (primary : Option NodeNo) (at : At) (n : NodeNo) (log now : Log) → now ≡ shown at (Crashed n) ∷ log → primary ≡ primary_of (printed log) → is_at primary n.0 ≡ true → primary_of (printed now) ≡ None
fallen_vacant primary at n log now is reign here =
    ap (λ (l : Log). primary_of (printed l)) is ∙ ap (λ (t : Bool). if t then None else primary_of (printed log)) (ap (λ (o : Option NodeNo). is_at o n.0) (sym reign) ∙ here)

module _ {D : Type 0} (cells : D → Cells) where
  tells_itself : (o : Option (NodePlace D)) → TellsSame o o
  tells_itself o = record { calls = refl; sizes = refl; files = refl; copies = refl }

  -- the primary took a copy state back
  took_back : (state : Option Out) (x y : NodePlace D) → TakesNodeBack cells state x.node y.node → TellsSame (Some x) (Some y)
  took_back state x y = by x.node y.node x.held y.held
    where
      by : (a b : Node D) (held kept : Vec HeldTicket Global) → TakesNodeBack cells state a b → TellsSame (Some (record { node = a; held = held })) (Some (record { node = b; held = kept }))
      by (Primary p) (Primary q) held kept back = record {
        calls = ap (λ (z : PrimaryParts D). stage_calls z.commits.stage) back.alters.others;
        sizes = ap (λ (z : PrimaryParts D). Some (merge_sizes z)) back.alters.others;
        files = refl;
        copies = refl;
      }
      by a b held kept back = absurd back

  -- a node that is not the primary is as before, where a replica crashed
  outlived_same : (state : Option Out) (o w : Option (NodePlace D)) → PlaceOutlives cells false false state o w → w ≡ o
  outlived_same state None w is = is
  outlived_same state (Some x) None is = absurd is
  outlived_same state (Some x) (Some y) is = λ i. Some (record { node = is.node i; held = is.held i })

  -- the same is told of another node, where a replica crashed
  outlived : (this : Bool) (state : Option Out) (o w : Option (NodePlace D)) → PlaceOutlives cells false this state o w → TellsSame o w
  outlived this state None w is = subst (λ (z : Option (NodePlace D)). TellsSame None z) (sym is) (tells_itself None)
  outlived this state (Some x) None is = absurd is
  outlived true state (Some x) (Some y) is = took_back state x y is.node
  outlived false state (Some x) (Some y) is = subst (λ (z : NodePlace D). TellsSame (Some x) (Some z)) (λ i. record { node = sym is.node i; held = sym is.held i }) (tells_itself (Some x))

  pub replica_crashed : (primary : Option NodeNo) (n : ℕ) (old new : List (Option (NodePlace D))) → CrashesBefore cells primary n old new → is_at primary n ≡ false → place_sizes (place_of old n) ≡ None → MovesNode n old new
  replica_crashed primary n old new b away none = record { count = b.count; sizes = sizes; others = others }
    where
      others : (m : ℕ) → (n == m) ≡ false → TellsSame (place_of old m) (place_of new m)
      others m apart =
          outlived (is_at primary m) (want_at (place_of old n)) (place_of old m) (place_of new m)
          (subst (λ (t : Bool). PlaceOutlives cells t (is_at primary m) (want_at (place_of old n)) (place_of old m) (place_of new m)) away (b.others m apart))

      sizes : (m : ℕ) → place_sizes (place_of new m) ≡ place_sizes (place_of old m)
      sizes m = by (n == m) refl
        where
          by : (t : Bool) → (n == m) ≡ t → place_sizes (place_of new m) ≡ place_sizes (place_of old m)
          by true here = subst (λ (k : ℕ). place_sizes (place_of new k) ≡ place_sizes (place_of old k)) (eqb-true n m here) (ap place_sizes b.here ∙ sym none)
          by false apart = (others m apart).sizes

  -- ---- without a primary

  -- a node that is not the primary has no sizes
  pub other_sizes : (log : Log) (size n : ℕ) (places : List (Option (NodePlace D))) → Shows cells log size places → IsNode size n → is_at (primary_of (printed log)) n ≡ false → place_sizes (place_of places n) ≡ None
  other_sizes log size n places shows node other = by (place_of places n) (shows.each n node)
    where
      at : (y : Node D) (held : Vec HeldTicket Global) → NodeShows cells log n y → place_sizes (Some (record { node = y; held = held })) ≡ None
      at (Primary p) held shown = absurd (true≢false (sym shown.primary ∙ other))
      at (Replica r) held shown = refl
      at (Down d) held shown = refl

      by : (o : Option (NodePlace D)) → IsSomeAnd o (PlaceShows cells log n) → place_sizes o ≡ None
      by None none = absurd none
      by (Some z) shown = at z.node z.held shown.node_shows

  -- at a node no copy runs where no merge is in flight
  other_copies : (log : Log) (cut : Bool) (jobs : Out → ℕ) (m : ℕ) (o : Option (NodePlace D)) → IsSomeAnd o (λ z. NodeMerges log cut jobs [] m z.node) → place_copies o ≡ []
  other_copies log cut jobs m None none = absurd none
  other_copies log cut jobs m (Some z) stand = by z.node z.held stand
    where
      by : (y : Node D) (held : Vec HeldTicket Global) → NodeMerges log cut jobs [] m y → place_copies (Some (record { node = y; held = held })) ≡ []
      by (Primary p) held is = refl
      by (Replica r) held is = ap (map told_copy) (no_copies m r.copies.running is)
      by (Down d) held is = refl

  none_sized : (places : List (Option (NodePlace D))) → ((k : ℕ) → place_sizes (unwrapped (slice_get places k)) ≡ None) → first_sizes (map place_sizes places) ≡ []
  none_sized [] none = refl
  none_sized (o ∷ places) none = ap (λ (s : Option (List (Option ℕ))). first_sizes (s ∷ map place_sizes places)) (none zero) ∙ none_sized places (λ k. none (suc k))

  module _ (log : Log) (size : ℕ) (cut : Bool) (board : Board) (places : List (Option (NodePlace D))) (stand : ClusterStands cells size places cut board log) (none : primary_of (printed log) ≡ None) where
    -- what is nothing of each node, and of a place that is not there, is nothing of all
    of_each : {X : Type 0} (f : Option (NodePlace D) → X) (nothing : X) → f None ≡ nothing → ((m : ℕ) → IsNode size m → f (place_of places m) ≡ nothing) → (k : ℕ) → f (unwrapped (slice_get places k)) ≡ nothing
    of_each f nothing empty each k = by (slice_get places k) refl
      where
        by : (o : Option (Option (NodePlace D))) → slice_get places k ≡ o → f (unwrapped (slice_get places k)) ≡ nothing
        by None is = ap (λ (o : Option (Option (NodePlace D))). f (unwrapped o)) is ∙ empty
        by (Some x) is = let low = slice_get_within places k x is in let count = stand.0.count in each (suc k) (omega arith, omega (arith, low, count))

    vacant_sizes : sizes_in places ≡ []
    vacant_sizes = sizes_first places ∙ none_sized places (of_each place_sizes None refl (λ m node. other_sizes log size m places stand.0 node (ap (λ (o : Option NodeNo). is_at o m) none)))

    pub vacant_copies : (m : ℕ) → place_copies (place_of places m) ≡ []
    vacant_copies zero = refl
    vacant_copies (suc k) = of_each place_copies [] refl
        (λ m node. other_copies log cut (λ s. jobs_like places s size) m (place_of places m)
        (subst (λ (rows : List OpenMerge). IsSomeAnd (place_of places m) (λ z. NodeMerges log cut (λ s. jobs_like places s size) rows m z.node)) (stand.2.vacant none).1.1 (stand.2.each m node))) k

  -- ---- the calls of another node's commit

  calls_outlive : (crashed this : Bool) (state : Option Out) (o w : Option (NodePlace D)) → PlaceOutlives cells crashed this state o w → place_calls w ≡ place_calls o
  calls_outlive crashed this state None w is = ap place_calls is
  calls_outlive crashed this state (Some x) None is = absurd is
  calls_outlive crashed this state (Some x) (Some y) is = ap (λ (d : Disk D). book_calls d.book) (disk_outlives cells crashed this state x.node y.node is.node)

  lost_calls : (rows : List OpenMerge) (m : ℕ) (o w : Option (NodePlace D)) → PlaceLoses cells m rows o w → place_calls w ≡ place_calls o
  lost_calls rows m None w lost = ap place_calls lost
  lost_calls rows m (Some x) None lost = absurd lost
  lost_calls rows m (Some x) (Some y) lost = ap (λ (d : Disk D). book_calls d.book) (same_disk cells rows m x.node y.node lost.1)

  -- a node that is down loses nothing
  down_stays : (rows : List OpenMerge) (m : ℕ) (d : D) (held : Vec HeldTicket Global) (o : Option (NodePlace D)) → PlaceLoses cells m rows (Some (record { node = Down d; held = held })) o → o ≡ Some (record { node = Down d; held = held })
  down_stays rows m d held None none = absurd none
  down_stays rows m d held (Some y) is = λ i. Some (record { node = is.1 i; held = is.0 i })

-- ---- in the terms of a call

module _ {D : Type 0} (cells : D → Cells) (planned : D → Plans) (names : D → List Name) (r now : Run) (carries later : List Bool) (cut after : Bool) (board next : Board) (old mid new : List (Option (NodePlace D)))
    (was : record { calls_left = calls_in carries old; cut = cut; sizes = sizes_in old; jobs = jobs_in old; copies = copies_in old; tasks = board; plans = plans_in planned old; names = names_in names old } ≡ r.rest)
    (is : record { calls_left = calls_in later new; cut = after; sizes = sizes_in new; jobs = jobs_in new; copies = copies_in new; tasks = next; plans = plans_in planned new; names = names_in names new } ≡ now.rest)
    (primary : Option NodeNo) (n : ℕ) (b : CrashesBefore cells primary n old mid) (falls : is_at primary n ≡ true → Falls cells board next mid new) (stays : is_at primary n ≡ false → (next ≡ board) × (new ≡ mid))
    (owns : OwnsSame n carries later) where
  -- nothing is told of the node itself
  crash_bare : has_own n later ≡ false → TellsNothingOf n now
  crash_bare none = record {
    calls =
        let first : calls_at n now ≡ 0 + own_calls (has_own n later) = calls_there cells n now later new (record { node = Down b.dir; held = b.held }) (sym (ap (λ (x : Rest). x.calls_left) is)) here in
        let no_own : own_calls (has_own n later) ≡ 0 = ap own_calls none in
        omega (arith, first, no_own);
    files = files_are n now new (sym (ap (λ (x : Rest). x.jobs) is)) ∙ ap place_files here;
    copies = merged_are n now new (sym (ap (λ (x : Rest). x.copies) is)) ∙ ap place_copies here;
  }
    where
      kept : (t : Bool) → is_at primary n ≡ t → place_of new n ≡ Some (record { node = Down b.dir; held = b.held })
      kept true e = down_stays cells board.rows n b.dir b.held (place_of new n) (subst (λ (o : Option (NodePlace D)). PlaceLoses cells n board.rows o (place_of new n)) b.here ((falls e).lose.each n))
      kept false e = ap (λ (l : List (Option (NodePlace D))). place_of l n) (stays e).1 ∙ b.here

      here : place_of new n ≡ Some (record { node = Down b.dir; held = b.held })
      here = kept (is_at primary n) refl

  -- another than the primary crashed
  crash_apart : is_at primary n ≡ false → after ≡ cut → place_sizes (place_of old n) ≡ None → KeepsButNode n r now
  crash_apart away same none =
      let kept = stays away in
      node_kept planned names r now carries later cut after board old new was
      ((λ i. record { calls_left = calls_in later new; cut = after; sizes = sizes_in new; jobs = jobs_in new; copies = copies_in new; tasks = sym kept.0 i; plans = plans_in planned new; names = names_in names new }) ∙ is)
      same n (subst (MovesNode n old) (sym kept.1) (replica_crashed cells primary n old mid b away none)) owns

  -- the primary crashed
  crash_falls : is_at primary n ≡ true → after ≡ false → (log : Log) (size : ℕ) → ClusterStands cells size new after next log → primary_of (printed log) ≡ None → PrimaryFell n r now
  crash_falls here gone log size stand none =
      let fell = falls here in
      record {
        cut = sym (ap (λ (x : Rest). x.cut) is) ∙ gone;
        sizes = sym (ap (λ (x : Rest). x.sizes) is) ∙ vacant_sizes cells log size after next new stand none;
        tasks = sym (ap (λ (x : Rest). x.tasks) is) ∙ ((λ i. record { posted = fell.posted i; rows = fell.rows i; counts = fell.counts i }) ∙ ap (λ (x : Rest). crashed_tasks true x.tasks) was);
        copies = λ m. merged_are m now new (sym (ap (λ (x : Rest). x.copies) is)) ∙ vacant_copies cells log size after next new stand none m;
        calls = calls_others n r now carries later old new (sym (ap (λ (x : Rest). x.calls_left) was)) (sym (ap (λ (x : Rest). x.calls_left) is)) (fell.lose.count ∙ b.count)
            (λ m apart. lost_calls cells board.rows m (place_of mid m) (place_of new m) (fell.lose.each m) ∙ calls_outlive cells (is_at primary n) (is_at primary m) (want_at (place_of old n)) (place_of old m) (place_of mid m) (b.others m apart)) owns;
        files = λ m apart. files_are m now new (sym (ap (λ (x : Rest). x.jobs) is))
            ∙ (lost_jobs cells board.rows size log mid new fell.lose m
            ∙ (jobs_outlive cells (is_at primary n) (is_at primary m) (want_at (place_of old n)) (place_of old m) (place_of mid m) (b.others m apart)
            ∙ sym (files_are m r old (sym (ap (λ (x : Rest). x.jobs) was)))));
      }

  -- and the files of the others but the primary have the names that they had
  crash_names : is_at primary n ≡ false → primary ≡ primary_of (printed r.log) → KeepsOtherNames n r now
  crash_names away reign m other apart =
      let same = outlived_same cells (want_at (place_of old n)) (place_of old m) (place_of mid m)
      (subst (λ (t : Bool × Bool). PlaceOutlives cells t.0 t.1 (want_at (place_of old n)) (place_of old m) (place_of mid m)) (λ i. (away i, (ap (λ (o : Option NodeNo). is_at o m) reign ∙ other) i)) (b.others m apart)) in
      names_are names m now new (sym (ap (λ (x : Rest). x.names) is))
      ∙ (ap (place_names names) (ap (λ (l : List (Option (NodePlace D))). place_of l m) (stays away).1 ∙ same)
      ∙ sym (names_are names m r old (sym (ap (λ (x : Rest). x.names) was))))

  -- by which of them it was
  pub crash_told : primary ≡ primary_of (printed r.log) → after ≡ (if is_at primary n then false else cut) → (is_at primary n ≡ false → place_sizes (place_of old n) ≡ None)
      → (log : Log) (size : ℕ) → ClusterStands cells size new after next log → (is_at primary n ≡ true → primary_of (printed log) ≡ None) → has_own n later ≡ false → CrashTells true (is_at (primary_of (printed r.log)) n) n r now
  crash_told is_p cut_is sized log size stand vacant none = subst (λ (o : Option NodeNo). CrashTells true (is_at o n) n r now) is_p (by (is_at primary n) refl)
    where
      by : (t : Bool) → is_at primary n ≡ t → CrashTells true (is_at primary n) n r now
      by true e = subst (λ (t : Bool). CrashTells true t n r now) (sym e) (crash_falls e (cut_is ∙ ap (λ (t : Bool). if t then false else cut) e) log size stand (vacant e), crash_bare none)
      by false e = subst (λ (t : Bool). CrashTells true t n r now) (sym e) (crash_apart e (cut_is ∙ ap (λ (t : Bool). if t then false else cut) e) (sized e), crash_bare none, crash_names e is_p)
