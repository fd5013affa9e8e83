-- What is true of a cluster stays true where the disk of a node, which may be down, has other plans; and what callers are told of them.
use Rattle.std.proofs.Common.{◌≡◌, ◌≤◌, ◌==◌, ℕ, Bool, true, false, List, map, Option, Some, None, Vec, Global, IsSomeAnd, refl, ap, ◌∙◌, sym, subst, arith, if◌then◌else◌}
use Rattle.std.proofs.lemmas.Bool.{eqb-true}
use Rattle.disk_model.specs.Disk.{Name, Content, Cells, reads_of}
use Rattle.disk_model.specs.Faults.{Plans}
use Rattle.replica_node.specs.Given.{FindsPoint, IsSettledOn}
use Rattle.searcher_switch.specs.declared.open.Open.{Open}
use Rattle.searcher_switch.specs.Node.{KeepsBytes}
use Rattle.seg_reader.specs.Shown.{Shown}
use Rattle.index_primary.specs.declared.parts.PrimaryParts.{PrimaryParts}
use Rattle.index_primary.specs.declared.states.Out.{Out}
use Rattle.index_primary.specs.Primary.{IsPrimary, loose_of}
use Rattle.replica_node.specs.declared.parts.ReplicaParts.{ReplicaParts}
use Rattle.replica_node.specs.Replica.{IsWholeReplica, AreStanding}
use Rattle.history_rules.specs.Nodes.{Past, IsNode}
use Rattle.history_book.specs.Log.{Log, printed}
use Rattle.merge_tasks.specs.Board.{Board}
use Rattle.cluster_nodes.specs.declared.held.HeldTicket.{HeldTicket}
use Rattle.cluster_nodes.specs.declared.nodes.Node.{Node}
use Rattle.cluster_nodes.specs.declared.nodes.Node.TheVariants.{Primary, Replica, Down}
use Rattle.cluster_nodes.specs.declared.nodes.NodePlace.{NodePlace}
use Rattle.cluster_nodes.specs.Given.{merge_sizes}
use Rattle.cluster_nodes.specs.JobPlaces.{MovesOne}
use Rattle.cluster_nodes.specs.KeptFiles.{KeepsNodeFiles}
use Rattle.cluster_nodes.specs.Outs.{jobs_like, want_at, want_of}
use Rattle.cluster_nodes.specs.Places.{Disk, dir_of, disk_at, disk_of, place_of, tickets_of}
use Rattle.cluster_nodes.specs.Replanned.{KeepsButDir}
use Rattle.cluster_state.specs.CallsLeft.{stage_calls}
use Rattle.cluster_state.specs.Disks.{DirShows, DiskShows, IsThereAs}
use Rattle.cluster_state.specs.Files.{FilesShow, NodeFiles}
use Rattle.cluster_state.specs.JobsIn.{job_files}
use Rattle.cluster_state.specs.MergedCopies.{told_copy}
use Rattle.cluster_state.specs.Merging.{KeepsMerges, MergesStand}
use Rattle.cluster_state.specs.Met.{ClusterStands}
use Rattle.cluster_state.specs.PlansIn.{place_plans, plans_in}
use Rattle.cluster_state.specs.Run.{Run}
use Rattle.cluster_state.specs.State.{HoldsTickets, NodeShows, PlaceShows, Shows}
use Rattle.cluster_state.proofs.Drawn.{grows_none}
use Rattle.cluster_nodes.proofs.OutCounts.{jobs_same}
use Rattle.cluster_state.proofs.FileFrames.{Both, both_of, names_one, node_files, node_kept, one_each, wants_same}
use Rattle.cluster_state.proofs.Frames.{some_at}
use Rattle.cluster_state.proofs.JobFrames.{job_stays}
use Rattle.cluster_state.proofs.JobMoves.{shows_put}
use Rattle.cluster_state.proofs.MetStands.{plans_are}
use Rattle.cluster_state.proofs.MergingStill.{one_keeps, primary_keeps, replica_keeps, stand_moved}
use Rattle.cluster_state.proofs.Naming.{NodeSteps, holds_same, kept_steps}
use Rattle.cluster_state.proofs.Points.{points_alone}
use Rattle.cluster_state.proofs.RestKept.{TellsSame}
use Rattle.cluster_recovery.specs.Planning.{ReplansDisk}

module _ {D : Type 0} (cells : D → Cells) where
  -- ---- one node

  -- what is so of each kind of node is so of a node
  by_kind : (P : Node D → Node D → Type 0) → ((p q : PrimaryParts D) → KeepsButDir cells (Primary p) (Primary q) → P (Primary p) (Primary q)) → ((r s : ReplicaParts D) → KeepsButDir cells (Replica r) (Replica s) → P (Replica r) (Replica s))
      → ((d e : D) → cells e ≡ cells d → P (Down d) (Down e)) → (x y : Node D) → KeepsButDir cells x y → P x y
  by_kind P primary replica down (Primary p) (Primary q) keeps = primary p q keeps
  by_kind P primary replica down (Replica r) (Replica s) keeps = replica r s keeps
  by_kind P primary replica down (Down d) (Down e) keeps = down d e keeps
  by_kind P primary replica down (Primary p) (Replica s) keeps = absurd keeps
  by_kind P primary replica down (Primary p) (Down e) keeps = absurd keeps
  by_kind P primary replica down (Replica r) (Primary q) keeps = absurd keeps
  by_kind P primary replica down (Replica r) (Down e) keeps = absurd keeps
  by_kind P primary replica down (Down d) (Primary q) keeps = absurd keeps
  by_kind P primary replica down (Down d) (Replica s) keeps = absurd keeps

  -- the files of a node that runs are as they were
  primary_files : (p q : PrimaryParts D) → KeepsButDir cells (Primary p) (Primary q) → KeepsNodeFiles cells (Primary p) (Primary q)
  primary_files p q keeps = subst (λ (z : PrimaryParts D). KeepsNodeFiles cells (Primary p) (Primary z)) (sym keeps.0) (
    record {
      stays = subst (λ (c : Cells). KeepsBytes p.files p.files (cells p.dir) c) (sym keeps.1) (record { held = λ name old new. refl });
      no_new = record { each = λ name is. is };
      drawn = record { each = λ name is. is };
      appears = record { each = λ name none. ap (λ (c : Cells). (c name).now) keeps.1 ∙ none };
      commits = refl;
      point = refl;
      generation = refl;
    },
    refl,
  )

  replica_files : (r s : ReplicaParts D) → KeepsButDir cells (Replica r) (Replica s) → KeepsNodeFiles cells (Replica r) (Replica s)
  replica_files r s keeps = record {
    sourced = keeps.4;
    appears = record { each = λ name none. ap (λ (c : Cells). (c name).now) keeps.1 ∙ none };
    commits = ap (λ (z : ReplicaParts D). z.commits) keeps.0;
    infos = ap (λ (z : ReplicaParts D). z.infos) keeps.0;
    job = ap (λ (z : ReplicaParts D). z.job) keeps.0;
    jobs = ap (λ (z : ReplicaParts D). z.jobs) keeps.0;
    copies = ap (λ (z : ReplicaParts D). z.copies) keeps.0;
    version = ap (λ (z : ReplicaParts D). z.searchers.point.version) keeps.0;
  }

  -- what it shows
  node_shown : (log : Log) (n : ℕ) (x y : Node D) → KeepsButDir cells x y → NodeShows cells log n x → NodeShows cells log n y
  node_shown log n = by_kind (λ x y. NodeShows cells log n x → NodeShows cells log n y)
      (λ p q keeps was. subst (λ (z : PrimaryParts D). NodeShows cells log n (Primary z)) (sym keeps.0) (record {
        running = was.running;
        primary = was.primary;
        whole = subst (λ (z : PrimaryParts D). IsPrimary cells z) keeps.0 keeps.2;
        point = was.point;
        writer = was.writer;
        waiting = was.waiting;
        accepted = was.accepted;
        uncut = was.uncut;
        calm = was.calm;
        flight = was.flight;
      }))
      (λ r s keeps was. subst (λ (z : ReplicaParts D). NodeShows cells log n (Replica z)) (sym keeps.0) (record {
        running = was.running;
        other = was.other;
        whole = subst (λ (z : ReplicaParts D). IsWholeReplica cells z) keeps.0 keeps.2;
        standing = subst (λ (z : ReplicaParts D). AreStanding cells z) keeps.0 (keeps.3 was.standing);
        point = was.point;
        seen = was.seen;
      }))
      (λ d e keeps was. was)

  tickets_same : (x y : Node D) → KeepsButDir cells x y → tickets_of y ≡ tickets_of x
  tickets_same = by_kind (λ x y. tickets_of y ≡ tickets_of x) (λ p q keeps. ap (λ (z : PrimaryParts D). z.searchers.tickets) keeps.0) (λ r s keeps. ap (λ (z : ReplicaParts D). z.searchers.tickets) keeps.0) (λ d e keeps. refl)

  -- its files
  node_filed : (source : Name → Content) (log : Log) (jobs count : Out → ℕ) (n : ℕ) → ((s : Out) → count s ≤ jobs s) → (x y : Node D) → KeepsButDir cells x y → NodeFiles source cells log jobs n x → NodeFiles source cells log count n y
  node_filed source log jobs count n fewer = by_kind (λ x y. NodeFiles source cells log jobs n x → NodeFiles source cells log count n y)
      (λ p q keeps was. node_kept cells source log log jobs count n (Primary p) (Primary q) (primary_files p q keeps) (points_alone (printed log)) (λ r is. job_stays log n) fewer was)
      (λ r s keeps was. node_kept cells source log log jobs count n (Replica r) (Replica s) (replica_files r s keeps) (points_alone (printed log)) (λ t is. job_stays log n) fewer was)
      (λ d e keeps was. tt)

  -- its names
  names_stepped : (now : Past) (x y : Node D) → KeepsButDir cells x y → NodeSteps cells now x y
  names_stepped now = by_kind (λ x y. NodeSteps cells now x y)
      (λ p q keeps. kept_steps cells now (Primary p) (Primary q) (primary_files p q keeps) (holds_same cells now (Primary p) (Primary q) (ap (λ (z : PrimaryParts D). z.searchers.tickets) keeps.0) (ap (λ (z : PrimaryParts D). loose_of z) keeps.0)))
      (λ r s keeps. kept_steps cells now (Replica r) (Replica s) (replica_files r s keeps) (holds_same cells now (Replica r) (Replica s) (ap (λ (z : ReplicaParts D). z.searchers.tickets) keeps.0) refl))
      (λ d e keeps. tt)

  -- its commits, or its directory where it is down
  disk_shown : (source : Name → Content) (past : Past) (n : ℕ) (x y : Node D) → KeepsButDir cells x y → DiskShows source cells past n (disk_of x) → DiskShows source cells past n (disk_of y)
  disk_shown source past n = by_kind (λ x y. DiskShows source cells past n (disk_of x) → DiskShows source cells past n (disk_of y))
      (λ p q keeps was. subst (λ (z : PrimaryParts D). DiskShows source cells past n (disk_of (Primary z))) (sym keeps.0) (record { book = was.book; dir = was.dir }))
      (λ r s keeps was. subst (λ (z : ReplicaParts D). DiskShows source cells past n (disk_of (Replica z))) (sym keeps.0) (record { book = was.book; dir = was.dir }))
      (λ d e keeps was. record { book = was.book; dir = down_shown d e keeps was.dir })
    where
      down_shown : (d e : D) → cells e ≡ cells d → DirShows source cells past n d → DirShows source cells past n e
      down_shown d e same s = record {
        settled = subst (λ (c : Cells). IsSettledOn c) (sym same) s.settled;
        number = s.number;
        infos = s.infos;
        finds = subst (λ (c : Cells). FindsPoint (reads_of c) s.number s.infos) (sym same) s.finds;
        point = s.point;
        sourced = λ name named. subst (λ (c : Cells). IsThereAs source (reads_of c) name) (sym same) (s.sourced name named);
        has = s.has;
      }

  -- its job, and its merges
  want_same : (held had : Vec HeldTicket Global) (x y : Node D) → KeepsButDir cells x y → want_at (Some (record { node = y; held = held })) ≡ want_at (Some (record { node = x; held = had }))
  want_same held had = by_kind (λ x y. want_at (Some (record { node = y; held = held })) ≡ want_at (Some (record { node = x; held = had }))) (λ p q keeps. refl) (λ r s keeps. ap (λ (z : ReplicaParts D). want_of z.job) keeps.0) (λ d e keeps. refl)

  merges_same : (jobs count : Out → ℕ) → ((s : Out) → count s ≤ jobs s) → (x y : Node D) → KeepsButDir cells x y → KeepsMerges jobs count x y
  merges_same jobs count low = by_kind (λ x y. KeepsMerges jobs count x y)
      (λ p q keeps. primary_keeps jobs count p q (ap (λ (z : PrimaryParts D). z.merges) keeps.0) (ap (λ (z : PrimaryParts D). z.has_cut_over) keeps.0) (ap (λ (z : PrimaryParts D). z.states) keeps.0) low)
      (λ r s keeps. replica_keeps jobs count r s (ap (λ (z : ReplicaParts D). z.copies.running) keeps.0))
      (λ d e keeps. tt)

  -- what callers are told of it
  pub node_told : (had held : Vec HeldTicket Global) (x y : Node D) → KeepsButDir cells x y → TellsSame (Some (record { node = x; held = had })) (Some (record { node = y; held = held }))
  node_told had held = by_kind (λ x y. TellsSame (Some (record { node = x; held = had })) (Some (record { node = y; held = held })))
      (λ p q keeps. record {
        calls = ap (λ (z : PrimaryParts D). stage_calls z.commits.stage) keeps.0;
        sizes = ap (λ (z : PrimaryParts D). Some (merge_sizes z)) keeps.0;
        files = refl;
        copies = refl;
      })
      (λ r s keeps. record {
        calls = ap (λ (z : ReplicaParts D). stage_calls z.commits.stage) keeps.0;
        sizes = refl;
        files = ap (λ (z : ReplicaParts D). job_files z.seen.0 z.job) keeps.0;
        copies = ap (λ (z : ReplicaParts D). map told_copy z.copies.running) keeps.0;
      })
      (λ d e keeps. record { calls = refl; sizes = refl; files = refl; copies = refl })

  -- ---- all nodes

  of_disk : (P : Disk D → Type 0) (o : Option (NodePlace D)) → IsSomeAnd (disk_at o) P → IsSomeAnd o (λ z. P (disk_of z.node))
  of_disk P None none = none
  of_disk P (Some z) is = is

  to_disk : (P : Disk D → Type 0) (o : Option (NodePlace D)) → IsSomeAnd o (λ z. P (disk_of z.node)) → IsSomeAnd (disk_at o) P
  to_disk P None none = none
  to_disk P (Some z) is = is

  module _ (size : ℕ) (log : Log) (old new : List (Option (NodePlace D))) (n : ℕ) (x y : NodePlace D) (moves : MovesOne n y old new) (node : IsNode size n) (there : place_of old n ≡ Some x) (held : y.held ≡ x.held) (keeps : KeepsButDir cells x.node y.node) where
    wants : want_at (Some y) ≡ want_at (Some x)
    wants = want_same y.held x.held x.node y.node keeps

    shows_replanned : Shows cells log size old → Shows cells log size new
    shows_replanned shows = shows_put cells size log old new n y moves (place (some_at (PlaceShows cells log n) (place_of old n) x there (shows.each n node))) shows
      where
        place : PlaceShows cells log n x → PlaceShows cells log n y
        place was = record {
          node_shows = node_shown log n x.node y.node keeps was.node_shows;
          tickets = subst (λ (z : List (Open Shown) × Vec HeldTicket Global). HoldsTickets (printed log) n z.0 z.1.items) (λ i. (sym (tickets_same x.node y.node keeps) i, sym held i)) was.tickets;
        }

    files_replanned : Shows cells log size old → FilesShow cells log size old → FilesShow cells log size new
    files_replanned shows files = record {
      source = files.source;
      drawn = files.drawn;
      names = names_one cells size (printed log) (printed log) old new n y x (grows_none (printed log)) moves node there (names_stepped (printed log) x.node y.node keeps) files.names;
      each = one_each {P = Both cells files.source log jobs} {Q = λ m z. NodeFiles files.source cells log count m z.node} size n y old new moves (both_of cells log size old shows files)
          (λ m z at apart both. node_files cells files.source log log jobs count m z.node (points_alone (printed log)) (λ r is. job_stays log m) fewer both.1)
          (node_filed files.source log jobs count n fewer x.node y.node keeps (some_at (Both cells files.source log jobs n) (place_of old n) x there (both_of cells log size old shows files n node)).1);
      disks = λ m at. to_disk (DiskShows files.source cells (printed log) m) (place_of new m)
          (one_each {P = disk_in} {Q = disk_in} size n y old new moves (λ k within. of_disk (DiskShows files.source cells (printed log) k) (place_of old k) (files.disks k within)) (λ k z within apart shows'. shows')
          (disk_shown files.source (printed log) n x.node y.node keeps (some_at (disk_in n) (place_of old n) x there (of_disk (DiskShows files.source cells (printed log) n) (place_of old n) (files.disks n node)))) m at);
      carried = files.carried;
    }
      where
        jobs : Out → ℕ
        jobs s = jobs_like old s size

        count : Out → ℕ
        count s = jobs_like new s size

        fewer : (s : Out) → count s ≤ jobs s
        fewer s = let same = jobs_same old new s size (λ k low. wants_same n y x old new moves there wants k) in omega (arith, same)

        disk_in : ℕ → NodePlace D → Type 0
        disk_in k z = DiskShows files.source cells (printed log) k (disk_of z.node)

    merges_replanned : (cut : Bool) (board : Board) → MergesStand log cut size board old → MergesStand log cut size board new
    merges_replanned cut board s = stand_moved log log cut size board old new (λ seg inputs is. is) s.tasks (λ none. none)
        (one_keeps size board log cut old new n y x moves node there wants (λ jobs count low. merges_same jobs count low x.node y.node keeps) s) s

    pub stands_replanned : (cut : Bool) (board : Board) → ClusterStands cells size old cut board log → ClusterStands cells size new cut board log
    stands_replanned cut board was = (shows_replanned was.0, files_replanned was.0 was.1, merges_replanned cut board was.2)

-- ---- what callers are told

module _ {D : Type 0} (planned : D → Plans) where
  -- the disk of one node has other plans
  pub plans_made : (n : ℕ) (made : Plans → Plans) (a b : Run) (old new : List (Option (NodePlace D))) (x y : NodePlace D) → a.rest.plans ≡ plans_in planned old → b.rest.plans ≡ plans_in planned new → MovesOne n y old new → place_of old n ≡ Some x
      → planned (dir_of y.node) ≡ made (planned (dir_of x.node)) → ReplansDisk n made a b
  plans_made n made a b old new x y was now moves there plans m = plans_are planned m b new now ∙ (by (n == m) refl ∙ ap (λ (p : Plans). if n == m then made p else p) (sym (plans_are planned m a old was)))
    where
      by : (t : Bool) → (n == m) ≡ t → place_plans planned (place_of new m) ≡ (if n == m then made (place_plans planned (place_of old m)) else place_plans planned (place_of old m))
      by true here =
          ap (place_plans planned) (moves.there m ∙ ap (λ (t : Bool). if t then Some y else place_of old m) here)
          ∙ (plans ∙ (ap (λ (o : Option (NodePlace D)). made (place_plans planned o)) (sym there ∙ ap (place_of old) (eqb-true n m here))
          ∙ sym (ap (λ (t : Bool). if t then made (place_plans planned (place_of old m)) else place_plans planned (place_of old m)) here)))
      by false apart =
          ap (place_plans planned) (moves.there m ∙ ap (λ (t : Bool). if t then Some y else place_of old m) apart)
          ∙ sym (ap (λ (t : Bool). if t then made (place_plans planned (place_of old m)) else place_plans planned (place_of old m)) apart)
