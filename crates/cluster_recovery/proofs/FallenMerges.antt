-- What is true of a cluster whose nodes lost the copies of merged segments, and where the merges in flight ended.
use Rattle.std.proofs.Common.{◌≡◌, ◌∙◌, ◌==◌, ◌||◌, ℕ, Bool, true, false, true≢false, List, [], ◌∷◌, Some, None, Option, refl, ap, sym, subst, inl, if◌then◌else◌}
use Rattle.std.specs.Prelude.{IsSomeAnd, ◌≤◌, Contains}
use Rattle.std.specs.List.{All}
use Rattle.std.proofs.lemmas.List.Elements.{All-nil}
use Rattle.nrt_base.specs.declared.numbers.At.{At}
use Rattle.nrt_base.specs.declared.numbers.NodeNo.{NodeNo}
use Rattle.disk_model.specs.Disk.{Name, Content, Cells}
use Rattle.searcher_switch.proofs.Appearing.{only_none}
use Rattle.seg_reader.specs.Shown.{Shown}
use Rattle.searcher_switch.specs.declared.open.Open.{Open}
use Rattle.copy_job.specs.Jobs.{Job}
use Rattle.index_primary.specs.declared.states.Out.{Out}
use Rattle.replica_node.specs.declared.parts.ReplicaParts.{ReplicaParts}
use Rattle.replica_node.specs.Merges.{copy_at}
use Rattle.history_rules.specs.declared.entry.Event.TheVariants.{Crashed}
use Rattle.history_rules.specs.Nodes.{Past, IsNode, is_at, primary_of, generation_of, version_of}
use Rattle.history_rules.specs.Rules.{MayHaveName}
use Rattle.history_book.specs.Log.{Log, printed, shown}
use Rattle.history_book.specs.Jobs.{job_at}
use Rattle.merge_tasks.specs.declared.tasks.Posted.{Posted}
use Rattle.merge_tasks.specs.declared.tasks.Spread.{Spread}
use Rattle.merge_tasks.specs.declared.tasks.OpenMerge.{OpenMerge}
use Rattle.merge_tasks.specs.Board.{Board, open_merge, spread_at, is_sent_in, is_sent_to, TasksShow}
use Rattle.merge_tasks.proofs.TaskFrames.{tasks_fallen}
use Rattle.cluster_nodes.specs.declared.held.HeldTicket.{HeldTicket}
use Rattle.cluster_nodes.specs.declared.nodes.Node.{Node}
use Rattle.cluster_nodes.specs.declared.nodes.Node.TheVariants.{Primary, Replica, Down}
use Rattle.cluster_nodes.specs.declared.nodes.NodePlace.{NodePlace}
use Rattle.cluster_nodes.specs.Places.{Disk, place_of, disk_of, disk_at, tickets_of}
use Rattle.cluster_state.specs.JobsIn.{job_files, place_files}
use Rattle.cluster_nodes.specs.Outs.{want_of, want_at, jobs_like, states_like}
use Rattle.cluster_nodes.proofs.OutCounts.{jobs_same}
use Rattle.cluster_recovery.specs.Falls.{are_sent, NodeLoses, PlaceLoses, AllLose, Falls}
use Rattle.cluster_state.specs.State.{IsPointAt, HoldsTickets, NodeShows, PlaceShows, Shows}
use Rattle.cluster_state.specs.Names.{NamesShow}
use Rattle.cluster_state.specs.Files.{JobShows, NodeFiles, FilesShow}
use Rattle.cluster_state.specs.Disks.{IsPastPoint, DiskShows}
use Rattle.cluster_state.specs.Merging.{AreSentCopies, IsSentCopy, NodeMerges, IsFitKind, MergesStand}
use Rattle.cluster_state.proofs.Disks.{disk_same}
use Rattle.cluster_state.proofs.Drawn.{grows_none}
use Rattle.cluster_state.proofs.Naming.{names_step}
use Rattle.cluster_state.proofs.FileFrames.{some_both}

-- a copy that a merge in flight sent to the node is one of all of them
sent_among : (m k : ℕ) (seg : ℕ) (rows : List OpenMerge) (s : Spread) → spread_at (open_merge seg rows) ≡ Some s → is_sent_in m k s.left ≡ true → are_sent m k rows ≡ true
sent_among m k seg [] s row sent = let no : ◌≡◌ {A = Option Spread} None (Some s) = row in absurd (cc)
sent_among m k seg (r ∷ rows) s row sent = by (r.seg.0 == seg) (λ rest. sent_among m k seg rows s rest sent) row
  where
    last : (b : Bool) → (b || true) ≡ true
    last true = refl
    last false = refl

    by : (b : Bool) → (spread_at (open_merge seg rows) ≡ Some s → are_sent m k rows ≡ true) → spread_at (if b then Some r else open_merge seg rows) ≡ Some s → (is_sent_to m k r.spread || are_sent m k rows) ≡ true
    by true more here = ap (λ (t : Bool). t || are_sent m k rows) (ap (is_sent_to m k) here ∙ sent)
    by false more rest = ap (λ (t : Bool). is_sent_to m k r.spread || t) (more rest) ∙ last (is_sent_to m k r.spread)

module _ {D : Type 0} where
  -- the copies that run at a node are those that these merges sent
  abbrev pub RunsSent : List OpenMerge → ℕ → Node D → Type 0
  RunsSent rows m (Primary p) = Unit {0}
  RunsSent rows m (Replica r) = AreSentCopies rows m r.copies.running
  RunsSent rows m (Down d) = Unit {0}

module _ {D : Type 0} (cells : D → Cells) (rows : List OpenMerge) where
  -- ---- one node

  same_tickets : (m : ℕ) (x y : Node D) → NodeLoses cells m rows x y → tickets_of y ≡ tickets_of x
  same_tickets m (Replica r) (Replica s) ends = ap (λ (z : ReplicaParts D). z.searchers.tickets) ends.loses.others
  same_tickets m (Replica r) (Primary q) ends = ap tickets_of ends
  same_tickets m (Replica r) (Down e) ends = ap tickets_of ends
  same_tickets m (Primary p) y ends = ap tickets_of ends
  same_tickets m (Down d) y ends = ap tickets_of ends

  same_want : (m : ℕ) (x y : NodePlace D) → NodeLoses cells m rows x.node y.node → want_at (Some y) ≡ want_at (Some x)
  same_want m x y = by x.node y.node
    where
      want : Node D → Option Out
      want z = elim z [ Primary p ↦ None | Replica r ↦ want_of r.job | Down d ↦ None ]

      by : (u v : Node D) → NodeLoses cells m rows u v → want v ≡ want u
      by (Replica r) (Replica s) ends = ap (λ (z : ReplicaParts D). want_of z.job) ends.loses.others
      by (Replica r) (Primary q) ends = ap want ends
      by (Replica r) (Down e) ends = ap want ends
      by (Primary p) v ends = ap want ends
      by (Down d) v ends = ap want ends

  pub same_disk : (m : ℕ) (x y : Node D) → NodeLoses cells m rows x y → disk_of y ≡ disk_of x
  same_disk m (Replica r) (Replica s) ends = disk_same r.commits s.commits (ap (λ (z : ReplicaParts D). z.commits) ends.loses.others)
  same_disk m (Replica r) (Primary q) ends = ap disk_of ends
  same_disk m (Replica r) (Down e) ends = ap disk_of ends
  same_disk m (Primary p) y ends = ap disk_of ends
  same_disk m (Down d) y ends = ap disk_of ends

  lost_shows : (log : Log) (m : ℕ) (x y : Node D) → NodeLoses cells m rows x y → NodeShows cells log m x → NodeShows cells log m y
  lost_shows log m (Replica r) (Replica s) ends is = record {
    running = is.running;
    other = is.other;
    whole = ends.loses.whole;
    standing = ends.loses.standing is.standing;
    point = subst (λ (z : ReplicaParts D). IsPointAt (printed log) (version_of m (printed log)) z.searchers.point) (sym ends.loses.others) is.point;
    seen = subst (λ (z : ReplicaParts D). z.seen.0 ≤ generation_of (printed log)) (sym ends.loses.others) is.seen;
  }
  lost_shows log m (Replica r) (Primary q) ends is = subst (λ (z : Node D). NodeShows cells log m z) (sym ends) is
  lost_shows log m (Replica r) (Down e) ends is = subst (λ (z : Node D). NodeShows cells log m z) (sym ends) is
  lost_shows log m (Primary p) y ends is = subst (λ (z : Node D). NodeShows cells log m z) (sym ends) is
  lost_shows log m (Down d) y ends is = subst (λ (z : Node D). NodeShows cells log m z) (sym ends) is

  lost_names : (past : Past) (m : ℕ) (x y : Node D) → NodeLoses cells m rows x y → NamesShow cells past x → NamesShow cells past y
  lost_names past m (Replica r) (Replica s) ends is = names_step past past (cells r.dir) (cells s.dir) r.searchers.tickets s.searchers.tickets [] [] (grows_none past)
      (record {
        appears = only_none (MayHaveName past) (cells r.dir) (cells s.dir) ends.loses.appears;
        tickets = λ o held. inl (subst (λ (ts : List (Open Shown)). Contains ts o) (ap (λ (z : ReplicaParts D). z.searchers.tickets) ends.loses.others) held);
        loose = λ seg held. inl held;
      }) is
  lost_names past m (Replica r) (Primary q) ends is = subst (λ (z : Node D). NamesShow cells past z) (sym ends) is
  lost_names past m (Replica r) (Down e) ends is = subst (λ (z : Node D). NamesShow cells past z) (sym ends) is
  lost_names past m (Primary p) y ends is = subst (λ (z : Node D). NamesShow cells past z) (sym ends) is
  lost_names past m (Down d) y ends is = subst (λ (z : Node D). NamesShow cells past z) (sym ends) is

  lost_files : (source : Name → Content) (log : Log) (jobs : Out → ℕ) (m : ℕ) (x y : Node D) → NodeLoses cells m rows x y → NodeFiles source cells log jobs m x → NodeFiles source cells log jobs m y
  lost_files source log jobs m (Replica r) (Replica s) ends is = record {
    sourced = ends.loses.sourced source is.sourced;
    job = subst (λ (z : ReplicaParts D). JobShows source log m (job_at m log) z.job) (sym ends.loses.others) is.job;
    point = subst (λ (z : ReplicaParts D). IsPastPoint source (printed log) z.infos) (sym ends.loses.others) is.point;
    flight = is.flight;
  }
  lost_files source log jobs m (Replica r) (Primary q) ends is = subst (λ (z : Node D). NodeFiles source cells log jobs m z) (sym ends) is
  lost_files source log jobs m (Replica r) (Down e) ends is = subst (λ (z : Node D). NodeFiles source cells log jobs m z) (sym ends) is
  lost_files source log jobs m (Primary p) y ends is = subst (λ (z : Node D). NodeFiles source cells log jobs m z) (sym ends) is
  lost_files source log jobs m (Down d) y ends is = subst (λ (z : Node D). NodeFiles source cells log jobs m z) (sym ends) is

  -- ---- all nodes

  module _ (size : ℕ) (log : Log) (old new : List (Option (NodePlace D))) (lose : AllLose cells rows old new) where
    lose_each : {P Q : ℕ → NodePlace D → Type 0} → ((m : ℕ) → IsNode size m → IsSomeAnd (place_of old m) (P m)) → ((m : ℕ) (x y : NodePlace D) → y.held ≡ x.held → NodeLoses cells m rows x.node y.node → P m x → Q m y)
        → (m : ℕ) → IsNode size m → IsSomeAnd (place_of new m) (Q m)
    lose_each {P = P} {Q = Q} was step m node = by (place_of old m) (place_of new m) (lose.each m) (was m node)
      where
        by : (o k : Option (NodePlace D)) → PlaceLoses cells m rows o k → IsSomeAnd o (P m) → IsSomeAnd k (Q m)
        by None k lost none = absurd none
        by (Some x) None lost is = absurd lost
        by (Some x) (Some y) lost is = step m x y lost.0 lost.1 is

    pub lost_all : Shows cells log size old → Shows cells log size new
    lost_all shows = record {
      some = shows.some;
      count = lose.count ∙ shows.count;
      each = lose_each {P = PlaceShows cells log} {Q = PlaceShows cells log} shows.each (λ m x y held lost is. record {
        node_shows = lost_shows log m x.node y.node lost is.node_shows;
        tickets = subst (λ (z : List (Open Shown) × List HeldTicket). HoldsTickets (printed log) m z.0 z.1) (λ i. (sym (same_tickets m x.node y.node lost) i, (sym held i).items)) is.tickets;
      });
      handed = shows.handed;
    }

    wants : (m : ℕ) → want_at (place_of new m) ≡ want_at (place_of old m)
    wants m = by (place_of old m) (place_of new m) (lose.each m)
      where
        by : (o k : Option (NodePlace D)) → PlaceLoses cells m rows o k → want_at k ≡ want_at o
        by None k lost = ap want_at lost
        by (Some x) None lost = absurd lost
        by (Some x) (Some y) lost = same_want m x y lost.1

    -- what jobs lack and have is as before
    pub lost_jobs : (m : ℕ) → place_files (place_of new m) ≡ place_files (place_of old m)
    lost_jobs m = by (place_of old m) (place_of new m) (lose.each m)
      where
        here : (x y : NodePlace D) → (u v : Node D) → NodeLoses cells m rows u v → place_files (Some (record { node = v; held = y.held })) ≡ place_files (Some (record { node = u; held = x.held }))
        here x y (Replica r) (Replica s) ends = ap (λ (z : ReplicaParts D). job_files z.seen.0 z.job) ends.loses.others
        here x y (Replica r) (Primary q) ends = ap (λ (z : Node D). place_files (Some (record { node = z; held = y.held }))) ends
        here x y (Replica r) (Down e) ends = ap (λ (z : Node D). place_files (Some (record { node = z; held = y.held }))) ends
        here x y (Primary p) v ends = ap (λ (z : Node D). place_files (Some (record { node = z; held = y.held }))) ends
        here x y (Down d) v ends = ap (λ (z : Node D). place_files (Some (record { node = z; held = y.held }))) ends

        by : (o k : Option (NodePlace D)) → PlaceLoses cells m rows o k → place_files k ≡ place_files o
        by None k lost = ap place_files lost
        by (Some x) None lost = absurd lost
        by (Some x) (Some y) lost = here x y x.node y.node lost.1

    disks : (m : ℕ) → disk_at (place_of new m) ≡ disk_at (place_of old m)
    disks m = by (place_of old m) (place_of new m) (lose.each m)
      where
        by : (o k : Option (NodePlace D)) → PlaceLoses cells m rows o k → disk_at k ≡ disk_at o
        by None k lost = ap disk_at lost
        by (Some x) None lost = absurd lost
        by (Some x) (Some y) lost = ap Some (same_disk m x.node y.node lost.1)

    pub lost_all_files : FilesShow cells log size old → FilesShow cells log size new
    lost_all_files files = record {
      source = files.source;
      drawn = files.drawn;
      names = lose_each {P = λ m z. NamesShow cells (printed log) z.node} {Q = λ m z. NamesShow cells (printed log) z.node} files.names (λ m x y held lost is. lost_names (printed log) m x.node y.node lost is);
      each = lose_each {P = λ m z. NodeFiles files.source cells log (λ s. jobs_like old s size) m z.node} {Q = λ m z. NodeFiles files.source cells log (λ s. jobs_like new s size) m z.node} files.each
          (λ m x y held lost is. counted m y.node (lost_files files.source log (λ s. jobs_like old s size) m x.node y.node lost is));
      disks = λ m node. subst (λ (o : Option (Disk D)). IsSomeAnd o (DiskShows files.source cells (printed log) m)) (sym (disks m)) (files.disks m node);
      carried = files.carried;
    }
      where
        same : (s : Out) → jobs_like new s size ≡ jobs_like old s size
        same s = jobs_same old new s size (λ m low. wants m)

        counted : (m : ℕ) (x : Node D) → NodeFiles files.source cells log (λ s. jobs_like old s size) m x → NodeFiles files.source cells log (λ s. jobs_like new s size) m x
        counted m (Primary p) is = record { held = is.held; unwritten = is.unwritten; point = is.point; generation = is.generation; outs = λ s. subst (λ (k : ℕ). k ≤ states_like s p.states) (sym (same s)) (is.outs s) }
        counted m (Replica r) is = is
        counted m (Down d) is = tt

-- ---- the merges of a primary that crashed

module _ {D : Type 0} (cells : D → Cells) (size : ℕ) (log : Log) (at : At) (n : NodeNo) (board now : Board) (old new : List (Option (NodePlace D))) where
  -- at a node nothing runs any more
  none_left : (m : ℕ) (x y : Node D) → is_at (primary_of (printed log)) n.0 ≡ true → NodeShows cells (shown at (Crashed n) ∷ log) m x → RunsSent board.rows m x → NodeLoses cells m board.rows x y
      → (cut : Bool) (jobs : Out → ℕ) → NodeMerges (shown at (Crashed n) ∷ log) cut jobs now.rows m y
  none_left m (Primary p) y here is sent lost cut jobs =
      absurd (true≢false (sym is.primary ∙ ap (λ (t : Bool). is_at (if t then None else primary_of (printed log)) m) here))
  none_left m (Down d) y here is sent lost cut jobs = subst (λ (z : Node D). NodeMerges (shown at (Crashed n) ∷ log) cut jobs now.rows m z) (sym lost) tt
  none_left m (Replica r) (Down e) here is sent lost cut jobs = tt
  none_left m (Replica r) (Primary q) here is sent lost cut jobs = absurd (unlike (sym lost))
    where
      IsReplica : Node D → Type 0
      IsReplica (Primary p) = ⊥
      IsReplica (Replica s) = Unit {0}
      IsReplica (Down d) = ⊥

      unlike : ◌≡◌ {A = Node D} (Replica r) (Primary q) → ⊥
      unlike e = subst IsReplica e tt
  none_left m (Replica r) (Replica s) here is sent lost cut jobs = λ k c runs. by k c runs (copy_at k r.copies.running) refl (lost.loses.runs k c runs)
    where
      none : (k : ℕ) (c : Job) → copy_at k s.copies.running ≡ Some c → IsSentCopy board.rows m k c → ⊥
      none k c runs row = let no : ◌≡◌ {A = Option Job} None (Some c) = sym (lost.gone k (sent_among m k row.seg board.rows row.spread row.row row.sent)) ∙ runs in absurd (cc)

      by : (k : ℕ) (c : Job) → copy_at k s.copies.running ≡ Some c → (o : Option Job) → copy_at k r.copies.running ≡ o → IsSomeAnd o (λ d. c.want ≡ d.want) → IsSentCopy now.rows m k c
      by k c runs None e was = absurd was
      by k c runs (Some d) e same = let was = sent k d e in absurd (none k c runs (record { seg = was.seg; spread = was.spread; row = was.row; sent = was.sent; want = same ∙ was.want }))

  pub fallen : is_at (primary_of (printed log)) n.0 ≡ true → Falls cells board now old new → TasksShow size log board → ((m : ℕ) → IsNode size m → IsSomeAnd (place_of old m) (PlaceShows cells (shown at (Crashed n) ∷ log) m))
      → ((m : ℕ) → IsNode size m → IsSomeAnd (place_of old m) (λ z. RunsSent board.rows m z.node)) → MergesStand (shown at (Crashed n) ∷ log) false size now new
  fallen here falls tasks shows sent = record {
    tasks = tasks_fallen size log board now at n here falls.rows falls.posted falls.counts tasks;
    fit = subst (λ (ps : List Posted). All (λ p. IsFitKind p.kind) ps) (sym falls.posted) (All-nil (λ (p : Posted). IsFitKind p.kind));
    each = lose_each cells board.rows size log old new falls.lose {P = λ m z. PlaceShows cells (shown at (Crashed n) ∷ log) m z × RunsSent board.rows m z.node} {Q = λ m z. NodeMerges (shown at (Crashed n) ∷ log) false (λ s. jobs_like new s size) now.rows m z.node}
        (λ m node. some_both (place_of old m) (shows m node) (sent m node) (λ z a b. (a, b)))
        (λ m x y held lost both. none_left m x.node y.node here both.0.node_shows both.1 lost false (λ s. jobs_like new s size));
    vacant = λ none. (refl, (falls.posted, falls.rows));
  }
